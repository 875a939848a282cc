-- A performed entry leaves a tile's board as it is: the names that it adds give the tile no work, and its members' parcels set nothing.
use Rattle.std.proofs.Common.{◌≡◌, ℕ, ◌+◌, ◌<◌, ◌≤◌, true, List, [], ◌∷◌, ◌++◌, fold, inl, inr, refl, sym, ap, ◌∙◌, subst, arith, pos}
use Rattle.std.specs.Prelude.{is_some, ◌≢◌}
use Rattle.std.proofs.lemmas.Bool.{cases_Bool}
use Rattle.std.proofs.lemmas.List.Sums.{fold-append}
use native.Mathlib.Decide.{ℕ_discrete}
use mathlib.Core.Logic.{dite}
use Rattle.rc_base.specs.Drawing.Serial.{Canvas, painted, blank_canvas, blank_textures, textures_step, textures_after}
use Rattle.rc_base.specs.Drawing.Texel.{SharedTexels}
use Rattle.rc_base.specs.Orders.Journal.{SyncState, start, is_member, stop}
use Rattle.rc_base.specs.Orders.Order.{names_in, entry_at, entries_of, performed}
use Rattle.rc_base.specs.Orders.Sync.{client_count, sync_lists_of}
use Rattle.rc_base.specs.declared.scene.Scene.{Scene}
use Rattle.rc_base.specs.declared.sync.Entry.{Entry}
use Rattle.rc_base.specs.declared.sync.Name.{Name}
use Rattle.rc_base.specs.declared.window.Layout.{Layout}
use Rattle.rc_base.specs.declared.window.Pixel.{Pixel}
use Rattle.order_model.specs.Board.{Board, IsKeptOf, IsBoardOf}
use Rattle.order_model.specs.Log.{Job, jobs_after, logged}
use Rattle.order_model.specs.Log.Job.{Wait}
use Rattle.order_model.specs.Sent.{jobs_of}
use Rattle.order_model.specs.Standing.{Progress, cursor_of}
use Rattle.order_model.specs.declared.record.LogEntry.{LogEntry}
use Rattle.order_model.specs.declared.record.LogEntry.TheVariants.{Performed}
use Rattle.order_model.proofs.AddedNames.{spread_is}
use Rattle.order_model.proofs.LogsLeaveJobs.{jobs_left}
use Rattle.order_model.proofs.OrdersBySteps.{behind, spread}
use Rattle.order_model.proofs.RecordedOrdersArePermitted.{some_at, none_at}
use Rattle.order_model.proofs.StepsArePermitted.{member_place}
use Rattle.tile_model.proofs.BoardsGoOn.{kept_same}
use Rattle.tile_model.proofs.EntriesComeDue.{IsDue, plus_one, plus_none}
use Rattle.tile_model.proofs.IdleNamesChangeNothing.{BoxesHold, IsIdle, paint, idle_paint, idle_textures, Stays, stays_spread}
use Rattle.tile_model.proofs.JobsAreLeftBehindNames.{IsLeft, next_wait}
use Rattle.tile_model.proofs.ParcelsAreJobs.{job_parcel}

-- the names that a log has added
abbrev pub names_of : Scene → List Entry → List LogEntry → List Name
names_of scene js log = logged (sync_lists_of scene) (start (sync_lists_of scene)) js log []

-- the jobs that it left of each client
abbrev pub jobs_now : Scene → Layout → ℕ → List Entry → List LogEntry → ℕ → List Job
jobs_now scene l tile js log = jobs_after (λ client. jobs_of scene l client tile) (entries_of (sync_lists_of scene) js) log

-- the next entry of a scene's journal is due at a tile
abbrev pub IsDueAt : Scene → Layout → ℕ → (SyncState → List Entry → (ℕ → List Job) → List Name → Type 0) → List Entry → Progress → Entry → Type 0
IsDueAt scene l tile P js p e = IsDue (sync_lists_of scene) P js (λ client. jobs_of scene l client tile) p e

-- what changes nothing at the names before members' operations, and at these, stays
performed_stays : {S : Type 0} (f : S → Name → S) (scene : Scene) (s : SyncState) (e : Entry) (names : List Name) (c : S)
    → ((d : ℕ) → is_member (client_count (sync_lists_of scene)) e d ≡ true → Stays f d (names_in d names) (stop (sync_lists_of scene) s d + 1))
    → fold f c (performed (sync_lists_of scene) s e names) ≡ fold f c names
performed_stays f scene s e names c still =
    let syncs = sync_lists_of scene in
    let n = client_count syncs in
    let cursor = λ (k : ℕ). names_in k names in
    ap (fold f c) (spread_is (is_member n e) (behind syncs s) cursor n names (λ k. refl))
    ∙ fold-append f c names (spread (is_member n e) (behind syncs s) cursor n) ∙ stays_spread f (is_member n e) (behind syncs s) cursor n (fold f c names) still

-- the names of a member up to its operation give no work
member_idle : (scene : Scene) (l : Layout) (tile : ℕ) (P : SyncState → List Entry → (ℕ → List Job) → List Name → Type 0) (js : List Entry) (p : Progress) (e : Entry) (due : IsDueAt scene l tile P js p e)
    → IsLeft scene l tile (names_of scene js p.log) (jobs_now scene l tile js p.log)
    → (d : ℕ) → is_member (client_count (sync_lists_of scene)) e d ≡ true → (k : ℕ) → names_in d (names_of scene js p.log) ≤ k → k < stop (sync_lists_of scene) due.state d + 1
    → IsIdle scene l tile (record { client = d; place = k })
member_idle scene l tile P js p e due left d t k low high =
    let syncs = sync_lists_of scene in
    let place = stop syncs due.state d in
    let w = next_wait scene l tile (names_of scene js p.log) (jobs_now scene l tile js p.log) d place left (due.members d place (member_place syncs due.state e due.lawful d t)) in
    dite (ℕ_discrete k place)
    (λ (same : k ≡ place). subst (λ j. IsIdle scene l tile (record { client = d; place = j })) (sym same) w.1)
    (λ (ne : k ≢ place). w.0.idle k low (omega arith))

pub board_performs : BoxesHold → (scene : Scene) (l : Layout) (tile : ℕ) (P : SyncState → List Entry → (ℕ → List Job) → List Name → Type 0) (js : List Entry) (p : Progress) (b : Board) (e : Entry)
    → IsDueAt scene l tile P js p e → IsLeft scene l tile (names_of scene js p.log) (jobs_now scene l tile js p.log)
    → IsBoardOf scene l tile (cursor_of (entries_of (sync_lists_of scene) js) p.log) (names_of scene js p.log) b
    → IsBoardOf scene l tile (cursor_of (entries_of (sync_lists_of scene) js) (p.log ++ Performed ∷ [])) (names_of scene js (p.log ++ Performed ∷ [])) b
board_performs box scene l tile P js p b e due left board =
    let syncs = sync_lists_of scene in
    let ms = entries_of syncs js in
    let names = names_of scene js p.log in
    let n = client_count syncs in
    let idle = member_idle scene l tile P js p e due left in
    let textures : textures_after scene (names_of scene js (p.log ++ Performed ∷ [])) ≡ textures_after scene names
    = ap (textures_after scene) due.adds
    ∙ performed_stays (textures_step scene) scene due.state e names (blank_textures scene) (λ d t k low high s. idle_textures scene l tile (record { client = d; place = k }) s (idle d t k low high)) in
    record {
      kept = λ c. elim (cases_Bool (is_member n e c)) [
        | inl t ↦
            let place = stop syncs due.state c in
            let next = due.members c place (member_place syncs due.state e due.lawful c t) in
            let w = job_parcel scene l c tile (cursor_of ms p.log c) (Wait place) (next.0, sym (jobs_left (λ client. jobs_of scene l client tile) ms p.log c) ∙ next.1) in
            let step : cursor_of ms p.log c + 1 ≡ cursor_of ms (p.log ++ Performed ∷ []) c =
            let e1 = due.moves c ∙ plus_one (is_some ((entry_at syncs due.state e).at c)) (cursor_of ms p.log c) (some_at syncs due.state e due.lawful c t) in omega arith in
            subst (λ k. IsKeptOf scene l c tile k (b.kept c)) step (kept_same scene l c tile (cursor_of ms p.log c) (b.kept c) w.0 w.1 w.2 (w.3 place refl) (board.kept c))
        | inr f ↦
            let step = due.moves c ∙ plus_none (is_some ((entry_at syncs due.state e).at c)) (cursor_of ms p.log c) (none_at syncs due.state e c f) in
            subst (λ k. IsKeptOf scene l c tile k (b.kept c)) (sym step) (board.kept c)
      ];
      shared = λ name. board.shared name ∙ ap (λ (s : SharedTexels). s name) (sym textures);
      pixel = λ x y has.
          let same : painted scene (λ n. true) (pos x) (pos y) (names_of scene js (p.log ++ Performed ∷ [])) ≡ painted scene (λ n. true) (pos x) (pos y) names
          = ap (painted scene (λ n. true) (pos x) (pos y)) due.adds
          ∙ performed_stays (paint scene (λ n. true) x y) scene due.state e names (blank_canvas scene)
          (λ d t k low high c. idle_paint box scene l tile (λ n. true) (record { client = d; place = k }) x y c (idle d t k low high) has) in
          board.pixel x y has ∙ ap (λ (c : Canvas SharedTexels Pixel). c.pixel) (sym same);
    }

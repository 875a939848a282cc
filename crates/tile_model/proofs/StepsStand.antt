-- A tile that stands for a scene and a journal stands for them after every item that is awaited and theirs, where its board is what the item makes of it.
use Rattle.std.proofs.Common.{◌≡◌, ℕ, ◌+◌, ◌&&◌, not, Bool, true, false, List, [], ◌∷◌, ◌++◌, drop, Some, slice_get, inl, inr, refl, sym, ap, ◌∙◌, subst, arith, true≢false}
use Rattle.std.proofs.lemmas.Bool.{cases_Bool}
use mathlib.Core.Path.{fun_ext}
use Rattle.rc_base.specs.Orders.Journal.{SyncState, start, IsLegal}
use Rattle.rc_base.specs.Orders.Order.{entries_of, added}
use Rattle.rc_base.specs.Orders.Sync.{sync_lists_of}
use Rattle.rc_base.specs.Cluster.Parcels.{parcels_of}
use Rattle.rc_base.specs.declared.scene.Scene.{Scene}
use Rattle.rc_base.specs.declared.state.Act.{Act}
use Rattle.rc_base.specs.declared.state.Act.TheVariants as act
use Rattle.rc_base.specs.declared.state.Parcel.{Parcel}
use Rattle.rc_base.specs.declared.sync.Entry.{Entry}
use Rattle.rc_base.specs.declared.sync.Name.{Name}
use Rattle.rc_base.specs.declared.window.Layout.{Layout}
use Rattle.order_model.specs.Board.{Board, IsBoardOf, StandsFor}
use Rattle.order_model.specs.Log.{Job, IsNext}
use Rattle.order_model.specs.Log.Job.{Work}
use Rattle.order_model.specs.Sent.{job_by, jobs_of}
use Rattle.order_model.specs.Standing.{Progress, cursor_of, is_asked}
use Rattle.order_model.specs.declared.record.LogEntry.{LogEntry}
use Rattle.order_model.specs.declared.record.LogEntry.TheVariants.{Took, Performed}
use Rattle.order_model.proofs.LogsLeaveJobs.{jobs_left}
use Rattle.order_model.proofs.SceneJobsAreSent.{scene_jobs_are_sent}
use Rattle.scene_lemmas.proofs.Numbered.{with_here}
use Rattle.plain_lemmas.proofs.Numbers.{at_one}
use Rattle.tile_model.specs.Boards.{IsCarriedOut, IsDrawn}
use Rattle.tile_model.specs.Givable.{is_givable}
use Rattle.tile_model.specs.Items.{Item, with_at, after_act, after_item, IsAwaited, IsItemOf}
use Rattle.tile_model.specs.Items.Item.{Nothing, Due, Granted, NoMore, Sent}
use Rattle.tile_model.specs.Acts.{is_work}
use Rattle.tile_model.specs.Scenes.{IsInRange}
use Rattle.tile_model.proofs.BoardsGoOn.{board_works}
use Rattle.tile_model.proofs.EntriesComeDue.{HasReached, reached_on, is_due}
use Rattle.tile_model.proofs.EntriesLeaveBoards.{names_of, jobs_now, board_performs}
use Rattle.tile_model.proofs.IdleNamesChangeNothing.{BoxesHold}
use Rattle.tile_model.proofs.ItemsKeepProgress.{IsOnItsWay, not_closed, the_job, item_comes}
use Rattle.tile_model.proofs.JobsAreLeftBehindNames.{IsLeft, left_first, left_on}
use Rattle.tile_model.proofs.LazyStateDrawsAlike.{lazy_draws}
use Rattle.tile_model.proofs.LogsGoOn.{GoesOn, logged_took, comes_to}
use Rattle.tile_model.proofs.ParcelsAreJobs.{parcel_at}
use Rattle.tile_model.proofs.ProgressGoesOn.{with_other, moved_here, moved_other}

-- the jobs that a tile's log leaves are those behind the names that it added
left_now : (scene : Scene) (l : Layout) (tile : ℕ) (js : List Entry) (p : Progress) → IsLegal (sync_lists_of scene) js → IsOnItsWay scene l tile js p
    → IsLeft scene l tile (names_of scene js p.log) (jobs_now scene l tile js p.log)
left_now scene l tile js p legal h =
    (comes_to (sync_lists_of scene) (λ s es jobs order. IsLeft scene l tile order jobs) (left_on scene l tile) js (λ client. jobs_of scene l client tile) p.log legal h.replays (left_first scene l tile)).holds

-- ---- what a parcel adds to the log

held_log : (p : Progress) (c : ℕ) (a : Act) (place : ℕ) → p.held c ≡ true → (after_act p c a place).log ≡ p.log
held_log p c (act.Draw b) place t = rw t refl
held_log p c (act.Clear m) place t = rw t refl
held_log p c (act.Shared s) place t = rw t refl
held_log p c (act.Sync op) place t = rw t refl
held_log p c act.End place t = refl

idle_log : (p : Progress) (c : ℕ) (a : Act) (place : ℕ) → is_work a ≡ false → (after_act p c a place).log ≡ p.log
idle_log p c (act.Draw b) place f = absurd (true≢false f)
idle_log p c (act.Clear m) place f = absurd (true≢false f)
idle_log p c (act.Shared s) place f = absurd (true≢false f)
idle_log p c (act.Sync op) place f = elim (cases_Bool (p.held c)) [ inl t ↦ rw t refl | inr g ↦ rw g refl ]
idle_log p c act.End place f = refl

work_log : (p : Progress) (c : ℕ) (a : Act) (place : ℕ) → is_work a ≡ true → p.held c ≡ false → (after_act p c a place).log ≡ p.log ++ Took c place ∷ []
work_log p c (act.Draw b) place t f = rw f refl
work_log p c (act.Clear m) place t f = rw f refl
work_log p c (act.Shared s) place t f = rw f refl
work_log p c (act.Sync op) place t f = absurd (true≢false (sym t))
work_log p c act.End place t f = absurd (true≢false (sym t))

work_job : (a : Act) (place : ℕ) → is_work a ≡ true → job_by a place ≡ Work place ∷ []
work_job (act.Draw b) place t = refl
work_job (act.Clear m) place t = refl
work_job (act.Shared s) place t = refl
work_job (act.Sync op) place t = absurd (true≢false (sym t))
work_job act.End place t = absurd (true≢false (sym t))

-- ---- the board

-- it is right for what a log has carried out and added
abbrev IsRight : Scene → Layout → ℕ → List Entry → List LogEntry → Board → Type 0
IsRight scene l tile js log b = IsBoardOf scene l tile (cursor_of (entries_of (sync_lists_of scene) js) log) (names_of scene js log) b

work_stands : BoxesHold → (scene : Scene) (l : Layout) (tile : ℕ) (js : List Entry) (p : Progress) (b d : Board) (c : ℕ) (parcel : Parcel) → IsInRange scene → IsLegal (sync_lists_of scene) js
    → StandsFor scene l tile js p b → is_asked p c ≡ true → slice_get (parcels_of scene l c tile) (p.taken c) ≡ Some parcel → is_work parcel.act ≡ true → p.held c ≡ false
    → IsCarriedOut scene.decl l c tile parcel b d → IsRight scene l tile js (p.log ++ Took c parcel.place ∷ []) d
work_stands box scene l tile js p b d c parcel range legal h asked is work unheld done =
    let syncs = sync_lists_of scene in
    let ms = entries_of syncs js in
    let jobs : ℕ → List Job = λ client. jobs_of scene l client tile in
    let count = p.taken c in
    let log = p.log ++ Took c parcel.place ∷ [] in
    let at : cursor_of ms p.log c ≡ count = (h.progress.clients c).unheld unheld (not_closed p c asked) in
    let job : IsNext (drop count (jobs c)) (Work parcel.place) =
    the_job (jobs c) count (Work parcel.place) parcel.act parcel.place (work_job parcel.act parcel.place work) (parcel_at scene l c tile count parcel is) in
    let left : jobs_now scene l tile js p.log c ≡ drop count (jobs c) = jobs_left jobs ms p.log c ∙ ap (λ k. drop k (jobs c)) at in
    let board = board_works box scene l c tile count (cursor_of ms p.log) (names_of scene js p.log) (jobs_now scene l tile js p.log) parcel b d at is (job.0, left ∙ job.1)
    (left_now scene l tile js p legal h.progress) h.board done (lazy_draws scene l c tile count parcel (d.kept c) range is work) in
    let moved : with_at (cursor_of ms p.log) c (count + 1) ≡ cursor_of ms log = fun_ext (at_one (λ k. with_at (cursor_of ms p.log) c (count + 1) k ≡ cursor_of ms log k) c
    (with_here (cursor_of ms p.log) c (count + 1) ∙ sym (let m = moved_here ms p.log c parcel.place in let e : cursor_of ms log c ≡ count + 1 = omega arith in e))
    (λ k f. with_other (cursor_of ms p.log) c (count + 1) k f ∙ sym (moved_other ms p.log c parcel.place k f))) in
    let names : added c (parcel.place + 1) (names_of scene js p.log) ≡ names_of scene js log = sym (logged_took syncs (start syncs) js p.log c parcel.place []) in
    subst (λ ns. IsBoardOf scene l tile (cursor_of ms log) ns d) names (subst (λ k. IsBoardOf scene l tile k (added c (parcel.place + 1) (names_of scene js p.log)) d) moved board)

board_same : (scene : Scene) (l : Layout) (tile : ℕ) (js : List Entry) (log new : List LogEntry) (b d : Board) → new ≡ log → d ≡ b → IsRight scene l tile js log b → IsRight scene l tile js new d
board_same scene l tile js log new b d e f h = subst (λ k. IsRight scene l tile js k d) (sym e) (subst (IsRight scene l tile js log) (sym f) h)

-- for a tile both the operations and the jobs that are left are known along its log
abbrev AtTile : Scene → Layout → ℕ → SyncState → List Entry → (ℕ → List Job) → List Name → Type 0
AtTile scene l tile s es jobs order = HasReached (sync_lists_of scene) s es jobs order × IsLeft scene l tile order jobs

at_tile_on : (scene : Scene) (l : Layout) (tile : ℕ) → GoesOn (sync_lists_of scene) (AtTile scene l tile)
at_tile_on scene l tile =
    let r = reached_on (sync_lists_of scene) in
    let k = left_on scene l tile in
    record {
      took = λ s es jobs order c place none h next. (r.took s es jobs order c place none h.0 next, k.took s es jobs order c place none h.1 next);
      done = λ s es jobs order e none h lawful members. (r.done s es jobs order e none h.0 lawful members, k.done s es jobs order e none h.1 lawful members);
    }

-- the parcels of a scene are such as it can give
abbrev pub AreGivable : Scene → Type 0
AreGivable scene = (l : Layout) (client tile count : ℕ) (parcel : Parcel) → slice_get (parcels_of scene l client tile) count ≡ Some parcel → is_givable scene.decl parcel ≡ true

and_false : (a b c : Bool) → a ≡ false → ((a && b) && c) ≡ false
and_false true b c f = absurd (true≢false f)
and_false false b c f = refl

held_false : (a b c : Bool) → b ≡ true → ((a && not b) && c) ≡ false
held_false true true c t = refl
held_false false true c t = refl
held_false a false c t = absurd (true≢false (sym t))

all_true : (a b c : Bool) → a ≡ true → b ≡ false → c ≡ true → ((a && not b) && c) ≡ true
all_true true false true t f g = refl
all_true false b c t f g = absurd (true≢false (sym t))
all_true true true c t f g = absurd (true≢false f)
all_true true false false t f g = absurd (true≢false (sym g))

board_after : BoxesHold → (scene : Scene) (l : Layout) (tile : ℕ) (js : List Entry) (item : Item) (p : Progress) (b d : Board) → IsInRange scene → AreGivable scene → IsLegal (sync_lists_of scene) js
    → StandsFor scene l tile js p b → IsAwaited p item → IsItemOf scene l tile js p item → IsDrawn scene.decl l tile p item b d → IsRight scene l tile js (after_item p item).log d
board_after box scene l tile js Nothing p b d range givable legal h a i drawn = board_same scene l tile js p.log p.log b d refl drawn h.board
board_after box scene l tile js (Granted e) p b d range givable legal h a i drawn = board_same scene l tile js p.log p.log b d refl drawn h.board
board_after box scene l tile js NoMore p b d range givable legal h a i drawn = board_same scene l tile js p.log p.log b d refl drawn h.board
board_after box scene l tile js (Due e) p b d range givable legal h a i drawn =
    let syncs = sync_lists_of scene in
    let sent = scene_jobs_are_sent scene l tile in
    let first : AtTile scene l tile (start syncs) [] (λ client. jobs_of scene l client tile) [] = ((λ c. 0, record { rising = sent.rising; all = sent.all }), left_first scene l tile) in
    let due = is_due syncs (AtTile scene l tile) (at_tile_on scene l tile) (λ s es jobs order k. k.0) js (λ client. jobs_of scene l client tile) p e first legal h.progress a in
    subst (IsRight scene l tile js (p.log ++ Performed ∷ [])) (sym drawn) (board_performs box scene l tile (AtTile scene l tile) js p b e due due.holds.1 h.board)
board_after box scene l tile js (Sent c parcel) p b d range givable legal h a i drawn =
    let new = (after_act p c parcel.act parcel.place).log in
    elim (cases_Bool (p.held c)) [
      | inl t ↦ board_same scene l tile js p.log new b d (held_log p c parcel.act parcel.place t) (drawn.1 (held_false (is_work parcel.act) (p.held c) _ t)) h.board
      | inr f ↦ elim (cases_Bool (is_work parcel.act)) [
        | inl w ↦
            subst (λ k. IsRight scene l tile js k d) (sym (work_log p c parcel.act parcel.place w f))
            (work_stands box scene l tile js p b d c parcel range legal h a.1 i w f
            (drawn.0 (all_true (is_work parcel.act) (p.held c) (is_givable scene.decl parcel) w f (givable l c tile (p.taken c) parcel i))))
        | inr n ↦ board_same scene l tile js p.log new b d (idle_log p c parcel.act parcel.place n) (drawn.1 (and_false (is_work parcel.act) _ _ n)) h.board
      ]
    ]

pub stands_after : BoxesHold → (scene : Scene) (l : Layout) (tile : ℕ) (js : List Entry) (item : Item) (p : Progress) (b d : Board) → IsInRange scene → AreGivable scene → IsLegal (sync_lists_of scene) js
    → StandsFor scene l tile js p b → IsAwaited p item → IsItemOf scene l tile js p item → IsDrawn scene.decl l tile p item b d → StandsFor scene l tile js (after_item p item) d
stands_after box scene l tile js item p b d range givable legal h a i drawn = record {
  progress = item_comes scene l tile js item p legal h.progress a i;
  board = board_after box scene l tile js item p b d range givable legal h a i drawn;
}

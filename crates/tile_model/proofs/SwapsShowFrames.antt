-- What a tile's board has when it performs a Swap is the frame of that number, in every order that its log comes to.
use Rattle.std.proofs.Common.{◌≡◌, ℕ, ◌+◌, ◌-◌, ◌<◌, ◌≤◌, true, List, [], ◌∷◌, ◌++◌, take, sym, ap, ◌∙◌, subst, arith, lt-ltb, append_assoc, pos}
use Rattle.std.proofs.lemmas.List.{take-append-le}
use Rattle.rc_base.specs.Lists.{IsIn}
use Rattle.rc_base.specs.Drawing.Serial.{accepted_swaps, frame_pixel}
use Rattle.rc_base.specs.Orders.Journal.{start, is_member, IsLegal, stop, reach_of}
use Rattle.rc_base.specs.Orders.Order.{names_in, performed}
use Rattle.rc_base.specs.Orders.Sync.{client_count, sync_lists_of}
use Rattle.rc_base.specs.Cluster.Tiles.{tile_pixels}
use Rattle.rc_base.specs.declared.scene.Scene.{Scene}
use Rattle.rc_base.specs.declared.sync.Entry.{Entry}
use Rattle.rc_base.specs.declared.sync.Entry.TheVariants as entry
use Rattle.rc_base.specs.declared.sync.Name.{Name}
use Rattle.rc_base.specs.declared.window.Layout.{Layout}
use Rattle.order_model.specs.Board.{Board, StandsFor}
use Rattle.order_model.specs.Log.{Replays, recorded_order}
use Rattle.order_model.specs.Report.{frame_count}
use Rattle.order_model.specs.Sent.{jobs_of}
use Rattle.order_model.specs.Standing.{Progress, performed_in}
use Rattle.order_model.specs.declared.record.LogEntry.{LogEntry}
use Rattle.order_model.specs.declared.record.LogEntry.TheVariants.{Performed}
use Rattle.tile_model.specs.Items.{IsAwaited, shown_frames}
use Rattle.tile_model.specs.Items.Item.{Due}
use Rattle.tile_model.proofs.EntriesComeDue.{is_due}
use Rattle.tile_model.proofs.EntriesLeaveBoards.{IsDueAt, names_of, jobs_now, board_performs}
use Rattle.tile_model.proofs.FramesStay.{IsShown, IsFurther, further_then, further_all, further_log, frame_is_painted, shown_names, frame_stays}
use Rattle.tile_model.proofs.IdleNamesChangeNothing.{BoxesHold}
use Rattle.tile_model.proofs.LogsGoOn.{comes_to}
use Rattle.tile_model.proofs.LogsCountSwaps.{AreCounted, IsAlong, IsMemberDone, HasSwapped, along_on, along_first, all_counted, member_swaps, member_done, swaps_rise}

-- the Swaps that a tile performed are those of the journal's front
frames_are : (scene : Scene) (l : Layout) (tile : ℕ) (js : List Entry) (p : Progress) (b : Board) → StandsFor scene l tile js p b → frame_count (take (performed_in p.log) js) ≡ shown_frames p
frames_are scene l tile js p b h =
    ap (λ es. frame_count (take (performed_in p.log) es)) h.progress.learnt.1
    ∙ ap frame_count (take-append-le (performed_in p.log) p.learnt h.progress.learnt.0 h.progress.performed)

-- where the Swap finds its clients
record AtSwap (scene : Scene) (l : Layout) (tile : ℕ) (js : List Entry) (p : Progress) : Type 0 where
  pub due : IsDueAt scene l tile (IsAlong scene l tile) js p entry.Swap
  pub counted : AreCounted (client_count (sync_lists_of scene)) (performed (sync_lists_of scene) due.state entry.Swap (names_of scene js p.log))
  pub done : (c : ℕ) → c < client_count (sync_lists_of scene) → IsMemberDone scene due.state entry.Swap (names_of scene js p.log) c (shown_frames p)

at_swap : (scene : Scene) (l : Layout) (tile : ℕ) (js : List Entry) (p : Progress) (b : Board) → IsLegal (sync_lists_of scene) js → StandsFor scene l tile js p b → IsAwaited p (Due entry.Swap)
    → AtSwap scene l tile js p
at_swap scene l tile js p b legal h a =
    let syncs = sync_lists_of scene in
    let n = client_count syncs in
    let names = names_of scene js p.log in
    let due = is_due syncs (IsAlong scene l tile) (along_on scene l tile) (λ s es jobs order k. k.reached) js (λ client. jobs_of scene l client tile) p entry.Swap (along_first scene l tile) legal h.progress a in
    let swapped : HasSwapped scene due.state names (shown_frames p) = subst (HasSwapped scene due.state names) (frames_are scene l tile js p b h) due.holds.swapped in
    record {
      due = due;
      counted = all_counted n (is_member n entry.Swap) (λ c. stop syncs due.state c + 1) n names (omega arith) due.holds.counted;
      done = λ c low. member_done scene l tile due.state names (jobs_now scene l tile js p.log) entry.Swap (shown_frames p) due.holds.left due.none due.lawful due.members swapped c low (lt-ltb c n low);
    }

-- a later name stands behind so many Swaps
enough_swaps : (scene : Scene) (l : Layout) (tile : ℕ) (js : List Entry) (p : Progress) → AtSwap scene l tile js p → (c place : ℕ) → c < client_count (sync_lists_of scene)
    → names_in c (names_of scene js (p.log ++ Performed ∷ [])) ≤ place → shown_frames p + 1 ≤ accepted_swaps scene c (place + 1)
enough_swaps scene l tile js p t c place low behind =
    let m = t.done c low in
    let last = stop (sync_lists_of scene) t.due.state c in
    let number : names_in c (names_of scene js (p.log ++ Performed ∷ [])) ≡ last + 1 = ap (names_in c) t.due.adds ∙ m.number in
    let swaps : accepted_swaps scene c (last + 1) ≡ shown_frames p + 1 = member_swaps scene c last (shown_frames p) entry.Swap m.effect m.before in
    let rise = swaps_rise scene c (last + 1) (place + 1 - (last + 1)) in
    let e : last + 1 + (place + 1 - (last + 1)) ≡ place + 1 = omega arith in
    omega (arith, rise, ap (accepted_swaps scene c) e, swaps)

-- in the order of the names that the log has added by then
swap_shows : BoxesHold → (scene : Scene) (l : Layout) (tile : ℕ) (js : List Entry) (p : Progress) (b : Board) → StandsFor scene l tile js p b → AtSwap scene l tile js p
    → (x y : ℕ) → tile_pixels l tile x y ≡ true → b.pixel (pos x) (pos y) ≡ frame_pixel scene (names_of scene js (p.log ++ Performed ∷ [])) (shown_frames p + 1) (pos x) (pos y)
swap_shows box scene l tile js p b h t x y has =
    let syncs = sync_lists_of scene in
    let n = client_count syncs in
    let k = shown_frames p + 1 in
    let board = board_performs box scene l tile (IsAlong scene l tile) js p b entry.Swap t.due t.due.holds.left h.board in
    let shown = shown_names scene n k (performed syncs t.due.state entry.Swap (names_of scene js p.log)) t.counted
    (λ c low. (stop syncs t.due.state c, (t.done c low).number, ap (λ j. j + 1) (t.done c low).before, (t.done c low).effect)) in
    board.pixel x y has
    ∙ sym (frame_is_painted scene k x y (names_of scene js (p.log ++ Performed ∷ [])) (subst (λ ns. (m : Name) → IsIn m ns → IsShown scene k m) (sym t.due.adds) shown))

-- the names of the clients that exist, all along a log that goes on
all_of_clients : (scene : Scene) (l : Layout) (tile : ℕ) (js : List Entry) (log : List LogEntry) → IsLegal (sync_lists_of scene) js
    → Replays (sync_lists_of scene) js (λ client. jobs_of scene l client tile) log → AreCounted (client_count (sync_lists_of scene)) (names_of scene js log)
all_of_clients scene l tile js log legal r =
    (comes_to (sync_lists_of scene) (IsAlong scene l tile) (along_on scene l tile) js (λ client. jobs_of scene l client tile) log legal r (along_first scene l tile)).holds.counted

goes_on : (scene : Scene) (js : List Entry) (p : Progress) (more : List LogEntry) → IsFurther (names_of scene js (p.log ++ Performed ∷ [])) (names_of scene js (p.log ++ Performed ∷ more))
goes_on scene js p more =
    subst (λ lines. IsFurther (names_of scene js (p.log ++ Performed ∷ [])) (names_of scene js lines)) (append_assoc p.log (Performed ∷ []) more)
    (further_log (sync_lists_of scene) (start (sync_lists_of scene)) js (p.log ++ Performed ∷ []) more [])

-- of the names that the log adds as it goes on
pub added_shows : BoxesHold → (scene : Scene) (l : Layout) (tile : ℕ) (js : List Entry) (p : Progress) (b : Board) (more : List LogEntry) → IsLegal (sync_lists_of scene) js
    → StandsFor scene l tile js p b → IsAwaited p (Due entry.Swap) → Replays (sync_lists_of scene) js (λ client. jobs_of scene l client tile) (p.log ++ Performed ∷ more)
    → (x y : ℕ) → tile_pixels l tile x y ≡ true → b.pixel (pos x) (pos y) ≡ frame_pixel scene (names_of scene js (p.log ++ Performed ∷ more)) (shown_frames p + 1) (pos x) (pos y)
added_shows box scene l tile js p b more legal h a r x y has =
    let n = client_count (sync_lists_of scene) in
    let t = at_swap scene l tile js p b legal h a in
    let counted = all_of_clients scene l tile js (p.log ++ Performed ∷ more) legal r in
    swap_shows box scene l tile js p b h t x y has
    ∙ sym (frame_stays scene n (shown_frames p + 1) x y (names_of scene js (p.log ++ Performed ∷ [])) (names_of scene js (p.log ++ Performed ∷ more)) (goes_on scene js p more)
    (λ m i. (counted m i).0) (enough_swaps scene l tile js p t))

-- and of the whole order that it records
pub recorded_shows : BoxesHold → (scene : Scene) (l : Layout) (tile : ℕ) (js : List Entry) (p : Progress) (b : Board) (more : List LogEntry) → IsLegal (sync_lists_of scene) js
    → StandsFor scene l tile js p b → IsAwaited p (Due entry.Swap) → Replays (sync_lists_of scene) js (λ client. jobs_of scene l client tile) (p.log ++ Performed ∷ more)
    → (x y : ℕ) → tile_pixels l tile x y ≡ true
    → b.pixel (pos x) (pos y) ≡ frame_pixel scene (recorded_order (sync_lists_of scene) js (p.log ++ Performed ∷ more)) (shown_frames p + 1) (pos x) (pos y)
recorded_shows box scene l tile js p b more legal h a r x y has =
    let syncs = sync_lists_of scene in
    let n = client_count syncs in
    let t = at_swap scene l tile js p b legal h a in
    let here = names_of scene js (p.log ++ Performed ∷ []) in
    let whole = names_of scene js (p.log ++ Performed ∷ more) in
    let order = recorded_order syncs js (p.log ++ Performed ∷ more) in
    let further : IsFurther here order = further_then here whole order (goes_on scene js p more) (further_all (λ c. true) (reach_of syncs js) n whole) in
    let counted : AreCounted n order = all_counted n (λ c. true) (reach_of syncs js) n whole (omega arith) (all_of_clients scene l tile js (p.log ++ Performed ∷ more) legal r) in
    swap_shows box scene l tile js p b h t x y has
    ∙ sym (frame_stays scene n (shown_frames p + 1) x y here order further (λ m i. (counted m i).0) (enough_swaps scene l tile js p t))

-- Names that are added later change nothing of a frame whose Swap a log has performed.
use Rattle.std.proofs.Common.{◌≡◌, ℕ, ◌+◌, ◌-◌, ◌<◌, ◌≤◌, ◌==◌, true, List, [], ◌∷◌, ◌++◌, ap, arith}
use Rattle.std.specs.Prelude.{is_some}
use Rattle.rc_base.specs.Drawing.Serial.{accepted_swaps}
use Rattle.rc_base.specs.Orders.Journal.{start, reach_of}
use Rattle.rc_base.specs.Orders.Order.{PlacedEntry, entries_of, names_in}
use Rattle.rc_base.specs.Orders.Sync.{client_count, sync_lists_of}
use Rattle.order_model.specs.Log.{Job, Replays, ReplaysFrom, without, recorded_order}
use Rattle.order_model.specs.Sent.{jobs_of}
use Rattle.order_model.specs.declared.record.LogEntry.{LogEntry}
use Rattle.order_model.specs.declared.record.LogEntry.TheVariants.{Took, Performed}
use Rattle.tile_model.specs.Laws.{SwappedFramesStay}
use Rattle.tile_model.proofs.EntriesLeaveBoards.{names_of}
use Rattle.tile_model.proofs.FramesStay.{IsFurther, further_then, further_all, further_log, frame_stays}
use Rattle.tile_model.proofs.LogsGoOn.{comes_to}
use Rattle.tile_model.proofs.LogsCountSwaps.{AreCounted, IsAlong, along_on, along_first, all_counted, swaps_rise}

-- a front of a log replays where the log does
replays_first : (log more : List LogEntry) (jobs : ℕ → List Job) (ms : List PlacedEntry) → ReplaysFrom jobs ms (log ++ more) → ReplaysFrom jobs ms log
replays_first [] more jobs ms r = tt
replays_first (Took client place ∷ log) more jobs ms r = (r.0, replays_first log more (without (λ c. c == client) jobs) ms r.1)
replays_first (Performed ∷ log) more jobs [] r = r
replays_first (Performed ∷ log) more jobs (m ∷ ms) r = (r.0, replays_first log more (without (λ c. is_some (m.at c)) jobs) ms r.1)

pub swapped_frames_stay : SwappedFramesStay
swapped_frames_stay scene l tile js log more k x y legal r le =
    let syncs = sync_lists_of scene in
    let n = client_count syncs in
    let here = names_of scene js log in
    let whole = names_of scene js (log ++ more) in
    let order = recorded_order syncs js (log ++ more) in
    let first : Replays syncs js (λ client. jobs_of scene l client tile) log = replays_first log more (λ client. jobs_of scene l client tile) (entries_of syncs js) r in
    let now = comes_to syncs (IsAlong scene l tile) (along_on scene l tile) js (λ client. jobs_of scene l client tile) log legal first (along_first scene l tile) in
    let then = comes_to syncs (IsAlong scene l tile) (along_on scene l tile) js (λ client. jobs_of scene l client tile) (log ++ more) legal r (along_first scene l tile) in
    let swapped = now.holds.swapped.count in
    let goes_on : IsFurther here whole = further_log syncs (start syncs) js log more [] in
    let further : IsFurther here order = further_then here whole order goes_on (further_all (λ c. true) (reach_of syncs js) n whole) in
    let counted : AreCounted n whole = then.holds.counted in
    let all : AreCounted n order = all_counted n (λ c. true) (reach_of syncs js) n whole (omega arith) counted in
    -- a later name stands behind so many Swaps
    let enough : (c place : ℕ) → c < n → names_in c here ≤ place → k ≤ accepted_swaps scene c (place + 1) = λ c place low behind.
    let rise = swaps_rise scene c (names_in c here) (place + 1 - names_in c here) in
    let e : names_in c here + (place + 1 - names_in c here) ≡ place + 1 = omega (arith, behind) in
    let same = ap (accepted_swaps scene c) e in
    let count = swapped c low in
    omega (arith, rise, same, count, le) in (
      frame_stays scene n k x y here whole goes_on (λ m i. (counted m i).0) enough,
      frame_stays scene n k x y here order further (λ m i. (all m i).0) enough,
    )

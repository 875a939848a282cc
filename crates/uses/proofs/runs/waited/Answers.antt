use Rattle.std.proofs.Common.{◌≡◌, ℕ, ◌+◌, ◌<◌, ◌≤◌, ◌⊎◌, true, false, Bool, not, List, [], ◌∷◌, Option, Some, None, inl, inr, min, cond, ap, sym, subst, arith, Result, Ok, Err}
use Rattle.std.specs.Prelude.{IfOk, count_by}
use Rattle.std.proofs.lemmas.List.Sums.{sum_by-cons}
use Rattle.rc_base.specs.Outside.Causes.{last_count, Rose}
use Rattle.rc_base.specs.declared.cluster.TilePart.{TilePart}
use Rattle.rc_base.specs.declared.out_of_memory.OutOfMemory.{OutOfMemory}
use Rattle.rc_base.specs.declared.scene.Scene.{Scene}
use Rattle.rc_base.specs.declared.window.Layout.{Layout}
use Rattle.tile_queues.specs.Ends.{fulls_of}
use Rattle.tile_queues.specs.declared.ends.LaneIn.{LaneIn}
use Rattle.cluster_run.specs.Steps.{IsPut, IsTileTurn, TileTurn}
use Rattle.cluster_run.specs.Steps.TileTurn.{StepsCore, HandsOver, DrawsBlock}
use Rattle.cluster_run.specs.Turns.{AreWorkerTurns}
use Rattle.cluster_run.specs.Workers.{IsRunOfWorkers}
use Rattle.cluster_run.specs.declared.run.Run.{Run}
use Rattle.cluster_run.specs.declared.workers.TileWorker.{TileWorker}
use Rattle.uses.specs.Runs.{leaves_waiting, CountsWaits}
use Rattle.uses.proofs.runs.waited.Goals as goal

-- a count goes on to another one where a part is left waiting or not
abbrev Counts : Bool → ℕ → ℕ → Type 0
Counts true before after = Rose before after
Counts false before after = after ≡ before

risen : (most before next after more : ℕ) → (before < next) ⊎ ((before ≡ most) × (next ≡ most)) → min (next + more) most ≤ after → min (before + (1 + more)) most ≤ after
risen most before next after more (inl less) rest = omega arith
risen most before next after more (inr ends) rest = omega (arith, ends.0, ends.1)

one_more : (waits : Bool) (before next after more : ℕ) → Counts waits before next → min (next + more) last_count ≤ after
    → min (before + (cond waits 1 0 + more)) last_count ≤ after
one_more true before next after more rose rest = risen last_count before next after more rose rest
one_more false before next after more same rest = omega arith

module _ {R : Type 0} where
  put : (part : Option TilePart) (sent : Bool) (before after : LaneIn TilePart R) (held : Option TilePart) → IsPut part sent before after held
      → Counts (not sent) (fulls_of before) (fulls_of after)
  put None true before after held is = ap fulls_of is.1
  put None false before after held is = absurd (let no = is.0 in cc)
  put (Some part) true before after held is = is.0.counted
  put (Some part) false before after held is = is.0.cause

  turned : (turn : TileTurn) (before after : TileWorker R) → IsTileTurn before turn after → Counts (leaves_waiting turn) (fulls_of before.parts) (fulls_of after.parts)
  turned (StepsCore deed offered sent) before after is = put offered sent before.parts after.parts after.held is.done.parts
  turned (HandsOver part sent) before after is = put (Some part) sent before.parts after.parts after.held is.done.parts
  turned DrawsBlock before after is = ap fulls_of is.done.parts

  counted : (turns : List TileTurn) (first last : TileWorker R) → AreWorkerTurns IsTileTurn first turns last
      → min (fulls_of first.parts + count_by leaves_waiting turns) last_count ≤ fulls_of last.parts
  counted [] first last are = let same = ap (λ (w : TileWorker R). fulls_of w.parts) are in omega arith
  counted (turn ∷ turns) first last are =
      let more = count_by leaves_waiting turns in
      let rest = one_more (leaves_waiting turn) (fulls_of first.parts) (fulls_of are.0.parts) (fulls_of last.parts) more (turned turn first are.0 are.1) (counted turns are.0 last are.2) in
      subst (λ (n : ℕ). min (fulls_of first.parts + n) last_count ≤ fulls_of last.parts) (sym (sum_by-cons (λ (t : TileTurn). cond (leaves_waiting t) 1 0) turn turns)) rest

told : (R : Type 0) (r : Result Run OutOfMemory) (scene : Scene) (l : Layout) (depth : ℕ)
    → IfOk r (λ (run : Run). IsRunOfWorkers R scene l depth run.kept run.tallies run.waiting run.faults)
    → IfOk r (λ (run : Run). CountsWaits R scene l depth run.kept run.tallies run.waiting run.faults)
told R (Ok run) scene l depth is = record { run = is; counted = λ t w task low. let by = is.turned.tile t w task low in counted by.turns _ _ by.are }
told R (Err e) scene l depth is = tt

pub returns : goal.returns
returns g c = told _ c.run_threads.result _ _ _ c.run_threads.ensures.workers

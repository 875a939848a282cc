-- Lists of tasks, one after another.
use Rattle.std.proofs.Common.{◌≡◌, ◌<◌, ℕ, true, List, length, get_or, ◌∙◌, arith, Result}
use Rattle.std.specs.declared.thread.PromisedHandle.{PromisedHandle}
use Rattle.rc_base.specs.Lists.{ArePaired}
use Rattle.rc_base.proofs.Paired.{some_item}
use Rattle.worker_crew.specs.Tasks.{IsTask, HasEnded, GoOn, AreStarted, StartedGoOn}
use Rattle.worker_crew.specs.declared.task.Task.{Task}
use Rattle.worker_crew.specs.declared.task.Kept.{Kept}

module _ {W : Type 0} (leads : W → W → Type 0) (over : W → Type 0) where
  -- started, joined, and then stepped to their ends
  pub all_ended : {S : Type 0} (R : W → S → Type 0) (ws : List W) (ss : List S) (ts us : List (Task W)) → ArePaired (λ i w s. R w s) ws ss
      → ArePaired (λ i s t. (w : W) → R w s → IsTask leads over w t) ss ts → GoOn leads over ts us
      → ((i : ℕ) (d : Task W) → i < length us → (get_or us i d).ended ≡ true) → ArePaired (λ i w t. HasEnded leads over w t) ws us
  all_ended R ws ss ts us began joins goes ends = record {
    count = goes.count ∙ joins.count ∙ began.count;
    at = λ i w u low.
        let a = began.count in
        let b = joins.count in
        let e = goes.count in
        let s_low : i < length ss = omega arith in
        let t_low : i < length ts = omega arith in
        let s = some_item ss i s_low in
        let t = goes.at i u t_low _ (joins.at i s u s_low _ (began.at i w s low)) in
        record { led = t.led; over_is = t.ends (ends i u (omega arith)) };
  }

  -- started, and then stepped where they came back
  pub still_started : (ws : List W) (ss ts : List (Result (PromisedHandle (Task W) (Kept W)) (Task W))) → AreStarted leads over ws ss
      → StartedGoOn leads over ss ts → AreStarted leads over ws ts
  still_started ws ss ts began goes = record {
    count = goes.count ∙ began.count;
    at = λ i w t low. let a = began.count in goes.at i t (omega arith) _ (began.at i w t low);
  }

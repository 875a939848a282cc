use Rattle.std.proofs.Common.{◌≡◌, ◌<◌, ℕ}
use Rattle.worker_crew.specs.Owing.{given_to}
use Rattle.worker_crew.proofs.waking.Waking.settle.Given as goal

abbrev pub invariant-loop-place : goal.invariant-loop-place
invariant-loop-place l = (place : ℕ) → place < l.place → given_to l.self.owed.given place ≡ 0

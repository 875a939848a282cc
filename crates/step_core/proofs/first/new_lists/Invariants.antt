use Rattle.std.proofs.Common.{◌≡◌, ℕ, ◌<◌, [], length}
use Rattle.std.specs.Prelude.{slice_index_or, Vec}
use Rattle.std.specs.Global.{Global}
use Rattle.rc_base.specs.declared.cluster.TilePart.{TilePart}
use Rattle.step_core.proofs.first.new_lists.Given as goal

abbrev pub invariant-loop : goal.invariant-loop
invariant-loop l = record {
  count : length l.lists.items ≡ l.counter;
  empty : (i : ℕ) (d : Vec TilePart Global) → i < l.counter → (slice_index_or l.lists.items i d).items ≡ [];
}

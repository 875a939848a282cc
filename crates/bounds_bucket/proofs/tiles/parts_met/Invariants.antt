use Rattle.std.proofs.Common.{◌≡◌, ℕ, pos, ◌&&◌}
use Rattle.std.specs.Prelude.{nat_lt}
use Rattle.rc_base.specs.Orders.Journal.{has}
use Rattle.rc_base.specs.Cluster.Tiles.{boundary_of}
use Rattle.bounds_bucket.specs.Tiles.{part_meets}
use Rattle.bounds_bucket.proofs.tiles.parts_met.Given as goal

abbrev pub invariant-loop-part : goal.invariant-loop-part
invariant-loop-part l = record {
  first : l.first ≡ pos (boundary_of l.side l.parts l.part);
  met : (j : ℕ) → has l.met j ≡ (nat_lt j l.part && part_meets l.side l.parts l.range j);
}

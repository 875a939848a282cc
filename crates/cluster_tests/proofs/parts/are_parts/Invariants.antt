use Rattle.std.proofs.Common.{◌≡◌, ℕ, ◌<◌, Some}
use Rattle.std.specs.Prelude.{slice_get}
use Rattle.rc_base.specs.declared.cluster.TilePart.{TilePart}
use Rattle.assembler.proofs.Checked.{IsPart}
use Rattle.cluster_tests.proofs.parts.are_parts.Given as goal

abbrev pub invariant-loop-tile : goal.invariant-loop-tile
invariant-loop-tile l = (tile : ℕ) (p : TilePart) → tile < l.tile → slice_get l.parts tile ≡ Some p → IsPart l.layout tile p

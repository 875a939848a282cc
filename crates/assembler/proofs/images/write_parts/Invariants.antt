use Rattle.std.proofs.Common.{◌≡◌, ℕ, ◌<◌, Some, length, map}
use Rattle.rc_base.specs.declared.cluster.TilePart.{TilePart}
use Rattle.assembler.specs.Drawn.{IsDrawn}
use Rattle.assembler.specs.Places.{in_place}
use Rattle.assembler.proofs.images.write_parts.Given as goal

abbrev pub invariant-loop-tile : goal.invariant-loop-tile
invariant-loop-tile l = record {
  size : length l.rgb ≡ length l.fn.rgb;
  drawn : (k : ℕ) (p : TilePart) → k < l.tile → in_place (map (λ q. Some q) l.parts) k ≡ Some p → IsDrawn l.layout l.rgb k p;
}

use Rattle.std.proofs.Common.{◌≡◌, ℕ, ◌<◌, false, is_none}
use Rattle.assembler.specs.Places.{in_place}
use Rattle.assembler.proofs.found.has_gap.Given as goal

abbrev pub invariant-loop-tile : goal.invariant-loop-tile
invariant-loop-tile l = (k : ℕ) → k < l.tile → is_none (in_place l.places k) ≡ false

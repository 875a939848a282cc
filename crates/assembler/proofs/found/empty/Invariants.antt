use Rattle.std.proofs.Common.{◌≡◌, ℕ, ◌<◌, None, length}
use Rattle.assembler.specs.Places.{in_place}
use Rattle.assembler.proofs.found.empty.Given as goal

abbrev pub invariant-loop-tile : goal.invariant-loop-tile
invariant-loop-tile l = record {
  size : length l.places ≡ length l.fn.places;
  emptied : (k : ℕ) → k < l.tile → in_place l.places k ≡ None;
}

use Rattle.std.proofs.Common.{◌≡◌, ◌≤◌, None, replicate}
use Rattle.std.specs.Vec.{vec_len, vec_capacity}
use Rattle.assembler.proofs.frame_parts.empty_places.Given as goal

abbrev pub invariant-loop-tile : goal.invariant-loop-tile
invariant-loop-tile l = record {
  items : l.places.items ≡ replicate l.tile None;
  len : vec_len l.places ≡ l.tile;
  room : l.count ≤ vec_capacity l.places;
}

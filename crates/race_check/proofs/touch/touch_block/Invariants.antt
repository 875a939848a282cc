use Rattle.std.proofs.Common.{◌≡◌, ◌++◌, ℕ, List, length}
use Rattle.std.specs.List.{All, flat_map}
use Rattle.rc_base.specs.Drawing.Pieces.{kept_corners_of}
use Rattle.rc_base.specs.Drawing.Triangles.{triangles_in}
use Rattle.geometry.specs.Items.{AreBelow, rest_from}
use Rattle.geometry.specs.Listed.{listed}
use Rattle.raster.specs.Clips.{IsPartWhere, is_let_through}
use Rattle.race_check.specs.Touches.{IsTouch, triangles_have}
use Rattle.rc_base.specs.Cluster.Tiles.{window_rect}
use Rattle.race_check.proofs.touch.touch_block.Given as goal

abbrev pub invariant-cuts : goal.invariant-cuts
invariant-cuts l = record {
  state : l.cache.state.now ≡ l.state;
  vertices : listed l.cache.vertices ≡ l.fn.block.vertices;
  part : IsPartWhere (window_rect l.visit.width l.visit.height) l.part (is_let_through l.state);
  below : All (AreBelow (length l.fn.block.vertices)) (rest_from l.corners-iterator.block.now l.corners-iterator.given);
  size : length l.pixels.cells.items ≡ length l.fn.pixels.cells.items;
  front : List (List ℕ);
  all : triangles_in l.fn.block ≡ front ++ rest_from l.corners-iterator.block.now l.corners-iterator.given;
  touched : IsTouch (λ x y. triangles_have (flat_map (kept_corners_of l.state l.fn.block) front) l.part x y) l.visit l.fn.pixels.cells.items l.pixels.cells.items l.fn.seen l.seen;
}

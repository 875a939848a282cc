use Rattle.std.proofs.Common.{◌≡◌, ◌∙◌, ◌+◌, ◌*◌, ◌≤◌, List, length, slice_index, subst, sym, ap, refl, ℕ}
use Rattle.std.specs.Prelude.{fold, option_to_list}
use Rattle.std.specs.List.{flat_map}
use Rattle.rc_base.specs.Drawing.Kept.{kept_whole, vertex_at}
use Rattle.rc_base.specs.declared.state.Vertex.{Vertex}
use Rattle.rc_base.specs.declared.window.WindowVertex.{WindowVertex}
use Rattle.geometry.specs.Items.{AreBelow}
use Rattle.geometry.specs.Listed.{listed_block}
use Rattle.geometry.proofs.Triples.{rest_done, rest_whole}
use Rattle.rc_base.specs.Drawing.Pieces.{kept_corners_of}
use Rattle.rc_base.specs.Drawing.Triangles.{triangles_in}
use Rattle.geometry.proofs.PiecesKept.{whole_kept}
use Rattle.rc_base.specs.Drawing.PixelStep.{triangle_step}
use Rattle.draw_device.specs.Pixels.{pixel_at, pixels_of}
use Rattle.draw_device.specs.Shapes.{column_at, row_at, corners_step, IsStepped}
use Rattle.draw_device.specs.declared.grid.Extent.{Extent}
use Rattle.draw_device.proofs.BlockPixels.{draws_more, draws_done}
use Rattle.draw_device.proofs.grid.Grid.draw_whole.Goals as goal

pub draws-init : goal.draws-init
draws-init c =
    let block = listed_block c.args.block.now in
    let s = c.args.setup.now.state.now in
    let g = c.args.self.now.extent in
    record {
      extent = refl;
      state = c.with-cache.ensures.state;
      vertices = c.with-cache.ensures.vertices;
      rest = λ i j li lj. ap (λ (ts : List (List ℕ)). fold (triangle_step s c.args.setup.now.texture.now (column_at g i) (row_at g j))
          (pixel_at (pixels_of c.args.self.now.colors.items c.args.self.now.depths.items) (j * g.width + i)) (flat_map (kept_corners_of s block) ts)) (rest_whole block);
    }

pub draw_corners-requires-clause-corners : goal.draw_corners-requires-clause-corners
draw_corners-requires-clause-corners c =
    let v = c.draws.invariant in
    subst (λ (vs : List Vertex). AreBelow (length vs) c.corners-corners.result) (sym v.vertices) c.corners-corners.ensures.below

pub draws-preserved : goal.draws-preserved
draws-preserved c =
    let v = c.draws.invariant in
    let e = c.corners-corners.ensures.next in
    let s = c.args.setup.now.state.now in
    let p = c.args.setup.now.texture.now in
    let block = listed_block c.args.block.now in
    let g = c.args.self.now.extent in
    let t = c.corners-corners.result in
    let start = (pixels_of c.args.self.now.colors.items c.args.self.now.depths.items) in
    let old = (pixels_of c.draws.self.colors.items c.draws.self.depths.items) in
    let new = (pixels_of c.draw_corners.new.self.colors.items c.draw_corners.new.self.depths.items) in
    let drawn = subst (λ (g : Extent). IsStepped (corners_step s p block.vertices t) g old new) v.extent
    (subst (λ (vs : List Vertex). IsStepped (corners_step s p vs t) c.draws.self.extent old new) v.vertices c.draw_corners.ensures.drawn.drawn) in
    let whole : kept_corners_of s block t ≡ option_to_list (kept_whole s block.vertices t) =
    whole_kept s block.mode (vertex_at block.vertices (slice_index t 0)) (vertex_at block.vertices (slice_index t 1)) (vertex_at block.vertices (slice_index t 2)) c.requires.mode in
    record {
      extent = c.draw_corners.ensures.drawn.extent ∙ v.extent;
      state = c.draw_corners.ensures.cache.state ∙ v.state;
      vertices = c.draw_corners.ensures.cache.vertices ∙ v.vertices;
      rest = λ i j li lj.
          draws_more (triangle_step s p (column_at g i) (row_at g j)) (kept_corners_of s block) (pixel_at old (j * g.width + i)) (pixel_at new (j * g.width + i))
          (pixel_at start (j * g.width + i)) t _ _ (triangles_in block) e
          (drawn.each i j li lj ∙ ap (λ (us : List (List WindowVertex)). fold (triangle_step s p (column_at g i) (row_at g j)) (pixel_at old (j * g.width + i)) us) (sym whole))
          (v.rest i j li lj);
    }

pub returns : goal.returns
returns c =
    let v = c.draws.invariant in
    let s = c.args.setup.now.state.now in
    let g = c.args.self.now.extent in
    let block = listed_block c.args.block.now in
    let e = rest_done block c.draws.i (subst (λ (n : ℕ). n ≤ c.draws.i) c.triangle_count-count.ensures c.draws-test.false) in
    record {
      extent = v.extent;
      drawn = record {
        each = λ i j li lj. draws_done (triangle_step s c.args.setup.now.texture.now (column_at g i) (row_at g j)) (kept_corners_of s block) _ _ _ (triangles_in block) e (v.rest i j li lj);
      };
    }

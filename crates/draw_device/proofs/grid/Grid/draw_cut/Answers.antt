use Rattle.std.proofs.Common.{◌∙◌, ◌+◌, ◌*◌, ◌≤◌, List, subst, ap, refl, ℕ}
use Rattle.std.specs.Prelude.{fold}
use Rattle.std.specs.List.{flat_map}
use Rattle.geometry.specs.Listed.{listed_block}
use Rattle.geometry.proofs.Triples.{rest_done, rest_whole}
use Rattle.rc_base.specs.Drawing.Pieces.{kept_corners_of}
use Rattle.rc_base.specs.Drawing.Triangles.{triangles_in}
use Rattle.rc_base.specs.Drawing.PixelStep.{triangle_step}
use Rattle.draw_device.specs.Pixels.{pixel_at, pixels_of}
use Rattle.draw_device.specs.Shapes.{column_at, row_at, triangles_step, IsStepped}
use Rattle.draw_device.specs.declared.grid.Extent.{Extent}
use Rattle.draw_device.proofs.BlockPixels.{draws_more, draws_done}
use Rattle.draw_device.proofs.grid.Grid.draw_cut.Goals as goal

pub cuts-init : goal.cuts-init
cuts-init c =
    let block = listed_block c.args.block.now in
    let s = c.args.setup.now.state.now in
    let g = c.args.self.now.extent in
    record {
      extent = refl;
      state = c.with-cache.ensures.state;
      vertices = c.with-cache.ensures.vertices;
      rest = λ i j li lj. ap (λ (ts : List (List ℕ)). fold (triangle_step s c.args.setup.now.texture.now (column_at g i) (row_at g j))
          (pixel_at (pixels_of c.args.self.now.colors.items c.args.self.now.depths.items) (j * g.width + i)) (flat_map (kept_corners_of s block) ts)) (rest_whole block);
    }

pub cuts-preserved : goal.cuts-preserved
cuts-preserved c =
    let v = c.cuts.invariant in
    let e = c.corners-corners.ensures.next in
    let s = c.args.setup.now.state.now in
    let p = c.args.setup.now.texture.now in
    let block = listed_block c.args.block.now in
    let g = c.args.self.now.extent in
    let t = c.corners-corners.result in
    let start = (pixels_of c.args.self.now.colors.items c.args.self.now.depths.items) in
    let old = (pixels_of c.cuts.self.colors.items c.cuts.self.depths.items) in
    let new = (pixels_of c.draw_cut_corners.new.self.colors.items c.draw_cut_corners.new.self.depths.items) in
    let drawn = subst (λ (h : Extent). IsStepped (triangles_step s p (kept_corners_of s block t)) h old new) v.extent c.draw_cut_corners.ensures.drawn.drawn in
    record {
      extent = c.draw_cut_corners.ensures.drawn.extent ∙ v.extent;
      state = c.draw_cut_corners.ensures.cache.state;
      vertices = c.draw_cut_corners.ensures.cache.vertices;
      rest = λ i j li lj.
          draws_more (triangle_step s p (column_at g i) (row_at g j)) (kept_corners_of s block) (pixel_at old (j * g.width + i)) (pixel_at new (j * g.width + i))
          (pixel_at start (j * g.width + i)) t _ _ (triangles_in block) e
          (drawn.each i j li lj)
          (v.rest i j li lj);
    }

pub returns : goal.returns
returns c =
    let v = c.cuts.invariant in
    let s = c.args.setup.now.state.now in
    let g = c.args.self.now.extent in
    let block = listed_block c.args.block.now in
    let e = rest_done block c.cuts.i (subst (λ (n : ℕ). n ≤ c.cuts.i) c.triangle_count-count.ensures c.cuts-test.false) in
    record {
      extent = v.extent;
      drawn = record {
        each = λ i j li lj. draws_done (triangle_step s c.args.setup.now.texture.now (column_at g i) (row_at g j)) (kept_corners_of s block) _ _ _ (triangles_in block) e (v.rest i j li lj);
      };
    }

use Rattle.std.proofs.Common.{◌≡◌, ◌∙◌, ◌+◌, ◌*◌, List, Some, MatchOption, slice_index, subst, sym, ap}
use Rattle.std.specs.Prelude.{fold, option_to_list}
use Rattle.rc_base.specs.Drawing.Kept.{kept_whole, vertex_at}
use Rattle.rc_base.specs.Drawing.Pieces.{kept_corners_of}
use Rattle.rc_base.specs.Drawing.PixelStep.{triangle_step}
use Rattle.rc_base.specs.declared.state.State.{State}
use Rattle.rc_base.specs.declared.state.Vertex.{Vertex}
use Rattle.rc_base.specs.declared.window.WindowVertex.{WindowVertex}
use Rattle.rc_base.specs.declared.triangle.WindowTriangle.{WindowTriangle}
use Rattle.geometry.specs.Beside.{IsBesideIfKept}
use Rattle.geometry.specs.Listed.{listed_block}
use Rattle.geometry.specs.Placed.{AllStandInFront}
use Rattle.geometry.proofs.PiecesKept.{front_kept}
use Rattle.draw_device.specs.Pixels.{pixel_at, pixels_of}
use Rattle.draw_device.specs.Shapes.{column_at, row_at}
use Rattle.draw_device.proofs.grid.Grid.draw_cut_corners.Goals as goal

pub draw_near-requires-clause-near : goal.draw_near-requires-clause-near
draw_near-requires-clause-near c =
    let t = c.args.corners in
    let near = c.args.setup.now.near in
    let tri = c.in-Whole.tri in
    let vs = (listed_block c.args.block.now).vertices in
    let told = c.in-Whole.ensures.triangle.1 in
    subst (λ (q : State). MatchOption tri (IsBesideIfKept q vs t near) (λ (w : WindowTriangle). kept_whole q vs t ≡ Some w.v)) c.requires.cache.state
    (subst (λ (us : List Vertex). MatchOption tri (IsBesideIfKept c.args.cache.now.state.now us t near) (λ (w : WindowTriangle). kept_whole c.args.cache.now.state.now us t ≡ Some w.v))
    c.requires.cache.vertices told)

pub returns-in-Whole-clause-drawn : goal.returns-in-Whole-clause-drawn
returns-in-Whole-clause-drawn c =
    let s = c.args.setup.now.state.now in
    let p = c.args.setup.now.texture.now in
    let block = listed_block c.args.block.now in
    let vs = block.vertices in
    let t = c.args.corners in
    let g = c.args.self.now.extent in
    let old = pixels_of c.args.self.now.colors.items c.args.self.now.depths.items in
    let new = pixels_of c.draw_near.new.self.colors.items c.draw_near.new.self.depths.items in
    let front = subst (λ (q : State). AllStandInFront q vs t) c.requires.cache.state
    (subst (λ (us : List Vertex). AllStandInFront c.args.cache.now.state.now us t) c.requires.cache.vertices c.in-Whole.ensures.triangle.0) in
    let whole : kept_corners_of s block t ≡ option_to_list (kept_whole s vs t) =
    front_kept s block.mode (vertex_at vs (slice_index t 0)) (vertex_at vs (slice_index t 1)) (vertex_at vs (slice_index t 2)) front.0 front.1 front.2 in
    let drawn = c.draw_near.ensures.drawn in
    record {
      extent = c.draw_near.ensures.extent;
      drawn = record {
        each = λ i j hi hj. drawn.each i j hi hj
            ∙ ap (λ (us : List (List WindowVertex)). fold (triangle_step s p (column_at g i) (row_at g j)) (pixel_at old (j * g.width + i)) us) (sym whole);
      };
    }

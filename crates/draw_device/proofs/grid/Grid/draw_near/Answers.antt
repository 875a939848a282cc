use Rattle.std.proofs.Common.{◌≡◌, Some, refl, rules, subst}
use Rattle.rc_base.specs.Drawing.Kept.{kept_whole}
use Rattle.geometry.specs.Beside.{IsBesideIfKept}
use Rattle.geometry.specs.Listed.{listed}
use Rattle.raster.specs.Clips.{IsPartWhere, is_let_through}
use Rattle.draw_device.specs.Pixels.{pixels_of}
use Rattle.draw_device.specs.Shapes.{grid_rect}
use Rattle.draw_device.specs.declared.grid.Extent.{Extent}
use Rattle.draw_device.proofs.Beside.{beside_steps}
use Rattle.draw_device.proofs.BlockPixels.{kept_steps}
use Rattle.draw_device.proofs.grid.Grid.draw_near.Goals as goal

pub returns : goal.returns
returns c =
    let kept : kept_whole c.args.setup.now.state.now (listed c.args.vertices.now) c.args.corners ≡ Some c.in-Some.tri.v = search rules in
    record {
      extent = c.draw_triangle.ensures.extent;
      drawn = kept_steps c.args.setup.now.state.now c.args.setup.now.texture.now c.in-Some.tri.v (listed c.args.vertices.now) c.args.corners c.args.self.now.extent (pixels_of c.args.self.now.colors.items c.args.self.now.depths.items)
          (pixels_of c.draw_triangle.new.self.colors.items c.draw_triangle.new.self.depths.items) kept c.draw_triangle.ensures.drawn;
    }

pub returns-in_default : goal.returns-in_default
returns-in_default c =
    let b = c.args.setup.now in
    let s = b.state.now in
    let vs = listed c.args.vertices.now in
    let t = c.args.corners in
    let near = b.near in
    let beside : IsBesideIfKept s vs t near = search rules in
    record {
      extent = refl;
      drawn = beside_steps c.cover_lies_in_bounds.ensures s b.texture.now vs t c.args.self.now.extent b.part near (pixels_of c.args.self.now.colors.items c.args.self.now.depths.items)
          (subst (λ (g : Extent). IsPartWhere (grid_rect g) b.part (is_let_through b.state.now)) c.requires.grid b.within) b.beside beside;
    }

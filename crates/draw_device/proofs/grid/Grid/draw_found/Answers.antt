use Rattle.std.proofs.Common.{sym, subst}
use Rattle.std.specs.declared.option.Option.{Option}
use Rattle.rc_base.specs.declared.triangle.WindowTriangle.{WindowTriangle}
use Rattle.geometry.specs.Pieces.{found}
use Rattle.draw_device.specs.Pixels.{pixels_of}
use Rattle.draw_device.specs.Shapes.{triangles_step, IsStepped}
use Rattle.draw_device.proofs.BlockPixels.{one_step}
use Rattle.draw_device.proofs.grid.Grid.draw_found.Goals as goal

pub returns-in-Some : goal.returns-in-Some
returns-in-Some c =
    let old = pixels_of c.args.self.now.colors.items c.args.self.now.depths.items in
    let new = pixels_of c.draw_triangle.new.self.colors.items c.draw_triangle.new.self.depths.items in
    record {
      extent = c.draw_triangle.ensures.extent;
      drawn = subst (λ (o : Option WindowTriangle). IsStepped (triangles_step c.args.setup.now.state.now c.args.setup.now.texture.now (found o)) c.args.self.now.extent old new) (sym c.in-Some.is)
          (one_step c.args.setup.now.state.now c.args.setup.now.texture.now c.in-Some.t.v c.args.self.now.extent old new c.draw_triangle.ensures.drawn);
    }

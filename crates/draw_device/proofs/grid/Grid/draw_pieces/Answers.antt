use Rattle.std.proofs.Common.{◌∙◌, subst}
use Rattle.geometry.specs.Pieces.{found}
use Rattle.draw_device.specs.Pixels.{pixels_of}
use Rattle.draw_device.specs.Shapes.{triangles_step, IsStepped}
use Rattle.draw_device.specs.declared.grid.Extent.{Extent}
use Rattle.draw_device.proofs.BlockPixels.{both_steps}
use Rattle.draw_device.proofs.grid.Grid.draw_pieces.Goals as goal

pub returns : goal.returns
returns c =
    let s = c.args.setup.now.state.now in
    let p = c.args.setup.now.texture.now in
    let given = c.args.given.now in
    let old = pixels_of c.args.self.now.colors.items c.args.self.now.depths.items in
    let mid = pixels_of c.draw_found.new.self.colors.items c.draw_found.new.self.depths.items in
    let new = pixels_of c.draw_found-2.new.self.colors.items c.draw_found-2.new.self.depths.items in
    record {
      extent = c.draw_found-2.ensures.extent ∙ c.draw_found.ensures.extent;
      drawn = both_steps s p (found given.first) (found given.second) c.args.self.now.extent old mid new c.draw_found.ensures.drawn
          (subst (λ (h : Extent). IsStepped (triangles_step s p (found given.second)) h mid new) c.draw_found.ensures.extent c.draw_found-2.ensures.drawn);
    }

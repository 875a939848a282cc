use Rattle.std.proofs.Common.{refl, rules, subst}
use Rattle.raster.specs.Clips.{IsPartWhere, is_let_through}
use Rattle.raster.specs.Spans.{AreEmptyRows}
use Rattle.draw_device.specs.Pixels.{pixels_of}
use Rattle.draw_device.specs.Shapes.{grid_rect}
use Rattle.draw_device.specs.declared.grid.Extent.{Extent}
use Rattle.draw_device.proofs.ColumnsToPixels.{missed}
use Rattle.draw_device.proofs.grid.Grid.draw_triangle.Goals as goal

pub returns-in_default : goal.returns-in_default
returns-in_default c =
    let b = c.args.setup.now in
    let empty : AreEmptyRows c.args.tri.now.v b.part b.part.y0 b.part.y1 = search rules in
    record {
      extent = refl;
      drawn = missed b.state.now b.texture.now c.args.tri.now.v c.args.self.now.extent b.part
          (subst (λ (g : Extent). IsPartWhere (grid_rect g) b.part (is_let_through b.state.now)) c.requires.grid b.within) (pixels_of c.args.self.now.colors.items c.args.self.now.depths.items) empty;
    }

pub draw_settled-requires : goal.draw_settled-requires
draw_settled-requires c = record { grid = c.requires.grid; settled = (c.stores_colors-stores.ensures c.if-not-stores.false, search rules) }

pub draw_stored-requires : goal.draw_stored-requires
draw_stored-requires c = record { grid = c.requires.grid; stored = c.stores_colors-stores.ensures c.if-not-stores.false }

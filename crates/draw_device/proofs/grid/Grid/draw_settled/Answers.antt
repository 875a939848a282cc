use Rattle.std.proofs.Common.{refl, subst}
use Rattle.raster.specs.Clips.{IsPartWhere, is_let_through}
use Rattle.draw_device.specs.Shapes.{grid_rect}
use Rattle.draw_device.specs.declared.grid.Extent.{Extent}
use Rattle.draw_device.proofs.grid.Grid.draw_settled.Goals as goal

pub draw_painted-requires : goal.draw_painted-requires
draw_painted-requires c =
    let b = c.args.setup.now in
    record {
      painted = record { grid = refl; paint = c.requires.settled };
      within = subst (λ (g : Extent). IsPartWhere (grid_rect g) b.part (is_let_through b.state.now)) c.requires.grid b.within;
    }

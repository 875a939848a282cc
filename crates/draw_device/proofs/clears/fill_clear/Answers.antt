use Rattle.draw_device.specs.Shapes.{cleared_pixel}
use Rattle.draw_device.proofs.Runs.{run_filled}
use Rattle.draw_device.proofs.clears.fill_clear.Goals as goal

pub returns : goal.returns
returns c left row =
    let a = c.args in
    let s = a.setup.now in
    record {
      colors = c.clear_colors.ensures.size;
      depths = c.clear_depths.ensures.size;
      drawn = run_filled (cleared_pixel s.state.now s.mask) left row a.from a.to _ _ _ _ _ _ c.requires.row.alike c.clear_colors.ensures c.clear_depths.ensures
          (λ x y o. c.pixel-cleared.ensures.cleared c.requires.whole s.state.now s.mask o s.settled);
    }

use Rattle.std.proofs.Common.{refl}
use Rattle.draw_device.proofs.Runs.{smooth_run}
use Rattle.draw_device.proofs.rows.store_row.Goals as goal

pub step_colors-requires : goal.step_colors-requires
step_colors-requires c = record { room = c.requires.row.inside; covered = c.requires.row.covered; ramp = c.color_ramp.ensures c.args.setup.now.tri.now.v c.requires.plane }

pub returns : goal.returns
returns c =
    let a = c.args in
    let s = a.setup.now in
    record {
      colors = c.step_colors.ensures.size;
      depths = refl;
      drawn = smooth_run s.state.now s.texture.now s.tri.now.v a.run a.colors.now _ a.depths.now c.requires.stored c.requires.row.covered c.requires.row.alike c.step_colors.ensures;
    }

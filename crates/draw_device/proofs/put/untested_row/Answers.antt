use Rattle.std.proofs.Common.{◌∙◌, refl}
use Rattle.draw_device.specs.Pixels.{color_at}
use Rattle.draw_device.proofs.Runs.{run_written}
use Rattle.draw_device.proofs.put.untested_row.Goals as goal

pub returns : goal.returns
returns c =
    let s = c.args.setup.now in
    let h = c.requires.row.row in
    record {
      spare = c.write_row.ensures.size;
      drawn = record {
        colors = c.copy_colors.ensures.size;
        depths = refl;
        drawn = run_written s.state.now s.texture.now s.tri.now.v c.args.run c.as_slice.result.now c.args.colors.now _ c.args.depths.now c.requires.tests h.covered
            (λ k low high. (λ i. color_at (c.as_slice.ensures.value i) k) ∙ c.write_row.ensures.written k low high) h.alike c.copy_colors.ensures;
      };
    }

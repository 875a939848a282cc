use Rattle.std.proofs.Common.{◌∙◌, length, refl}
use Rattle.draw_device.specs.Pixels.{color_at, flag_at}
use Rattle.draw_device.proofs.Runs.{run_chosen}
use Rattle.draw_device.proofs.put.chosen_row.Goals as goal

pub returns : goal.returns
returns c =
    let s = c.args.setup.now in
    let h = c.requires.row.row in
    let t = c.requires.tests in
    record {
      spare = c.write_row.ensures.size ∙ (λ i. length (c.flag_row.ensures.colors i).items);
      drawn = record {
        colors = c.choose_colors.ensures.size;
        depths = refl;
        drawn = run_chosen s.state.now s.texture.now s.tri.now.v c.args.run c.as_slice.result.now c.args.colors.now _ c.as_slice-2.result.now c.args.depths.now t.ranged t.untested h.covered
            (λ k low high. (λ i. flag_at (c.as_slice-2.ensures.value i) k) ∙ (λ i. flag_at (c.write_row.ensures.flags i).items k) ∙ c.flag_row.ensures.flagged k low high)
            (λ k low high. (λ i. color_at (c.as_slice.ensures.value i) k) ∙ c.write_row.ensures.written k low high) h.alike c.choose_colors.ensures;
      };
    }

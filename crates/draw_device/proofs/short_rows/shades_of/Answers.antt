use Rattle.std.proofs.Common.{◌∙◌, ap, sym, Option}
use Rattle.rc_base.specs.Pictures.{Picture}
use Rattle.rc_base.specs.Drawing.PixelStep.{fragment_color}
use Rattle.draw_device.specs.Loops.{run_fragment}
use Rattle.draw_device.proofs.short_rows.shades_of.Goals as goal

pub returns-in-Flat : goal.returns-in-Flat
returns-in-Flat c =
    let s = c.args.setup.now in
    let h = rw c.in-Flat.is at c.requires.source in
    λ j low high.
    ap (λ (p : Option Picture). fragment_color s.state.now p (run_fragment s.tri.now.v c.args.run j)) h.0
    ∙ sym (h.1 _ _ (c.requires.covered j low high))

pub returns-in-Smooth : goal.returns-in-Smooth
returns-in-Smooth c =
    let h = rw c.in-Smooth.is at c.requires.source in
    (h.0, c.color_ramp.ensures c.args.setup.now.tri.now.v h.1)

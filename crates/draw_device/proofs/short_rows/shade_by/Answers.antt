use Rattle.std.proofs.Common.{◌∙◌, ap, sym, Option}
use Rattle.rc_base.specs.Pictures.{Picture}
use Rattle.rc_base.specs.Drawing.PixelStep.{fragment_color}
use Rattle.draw_device.specs.Loops.{run_fragment}
use Rattle.draw_device.proofs.short_rows.shade_by.Goals as goal

pub returns-in-One : goal.returns-in-One
returns-in-One c = sym ((rw c.in-One.is at c.requires.shades) c.args.x c.requires.low c.requires.high)

pub color_by-requires-clause-ramp : goal.color_by-requires-clause-ramp
color_by-requires-clause-ramp c = (rw c.in-Ramp.is at c.requires.shades).1

pub returns-in-Ramp : goal.returns-in-Ramp
returns-in-Ramp c =
    let s = c.args.setup.now in
    let h = rw c.in-Ramp.is at c.requires.shades in
    c.color_by.ensures ∙ sym (ap (λ (p : Option Picture). fragment_color s.state.now p (run_fragment s.tri.now.v c.args.run c.args.x)) h.0)

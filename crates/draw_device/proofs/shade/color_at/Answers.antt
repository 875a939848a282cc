use Rattle.std.proofs.Common.{◌∙◌, ap, sym, Option}
use Rattle.rc_base.specs.Pictures.{Picture}
use Rattle.rc_base.specs.Drawing.Fragment.{fragment_of}
use Rattle.rc_base.specs.Drawing.PixelStep.{fragment_color}
use Rattle.draw_device.proofs.shade.color_at.Goals as goal

pub returns-in-Some : goal.returns-in-Some
returns-in-Some c =
    let s = c.args.setup.now in
    let none = rw c.in-Some.is at c.requires.none in
    let flat = rw c.in-Some.is at c.requires.flat in
    flat c.args.x c.args.y c.requires.inside
    ∙ sym (ap (λ (p : Option Picture). fragment_color s.state.now p (fragment_of s.tri.now.v c.args.x c.args.y)) none)

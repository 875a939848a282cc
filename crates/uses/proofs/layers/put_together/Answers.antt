use Rattle.std.proofs.Common.{◌≡◌, Bool, ap, ◌∙◌, arith, le-ltb}
use Rattle.std.specs.Prelude.{if◌then◌else◌}
use Rattle.rc_base.specs.Drawing.Nearer.{nearer}
use Rattle.rc_base.specs.declared.window.Pixel.{Pixel}
use Rattle.uses.proofs.layers.put_together.Goals as goal

first_stays : (a b : Pixel) → a.depth ≡ b.depth → nearer a b ≡ a
first_stays a b even = ap (λ (t : Bool). if t then b else a) (le-ltb b.depth a.depth (omega (arith, even)))

pub returns : goal.returns
returns c k even = c.composite.ensures.pixels k ∙ first_stays _ _ even

use Rattle.rc_base.specs.Colors.{prod}
use Rattle.std.proofs.Common.{rules}
use Rattle.fragment_ops.proofs.Halves.{prod_byte}
use Rattle.fragment_ops.proofs.colors.modulate.Goals as goal

pub returns : goal.returns
returns c =
    let x = c.args.color in
    let t = c.args.texel in
    c.unpaired.ensures (prod x.r t.r) (prod x.g t.g) (prod x.b t.b) (prod x.a t.a) (prod_byte x.r t.r (search rules) (search rules)) (prod_byte x.g t.g (search rules) (search rules))
    c.products-red_blue.ensures c.products-green_alpha.ensures

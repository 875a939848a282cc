use Rattle.rc_base.specs.Colors.{prod}
use Rattle.std.proofs.Common.{rules}
use Rattle.fragment_ops.proofs.Halves.{prod_byte}
use Rattle.fragment_ops.proofs.colors.scale_color.Goals as goal

pub returns : goal.returns
returns c =
    let x = c.args.color in
    let by' = c.args.by in
    c.unpaired.ensures (prod x.r by') (prod x.g by') (prod x.b by') (prod x.a by') (prod_byte x.r by' (search rules) (search rules)) (prod_byte x.g by' (search rules) (search rules))
    c.scaled-red_blue.ensures c.scaled-green_alpha.ensures

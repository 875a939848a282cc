use Rattle.std.proofs.Common.{◌*◌, rules}
use Rattle.fragment_ops.proofs.Halves.{product_most, scaled_is}
use Rattle.fragment_ops.proofs.pairs.scaled.Goals as goal

pub returns : goal.returns
returns c =
    c.rounded.ensures (c.args.low * c.args.by) (c.args.high * c.args.by) (product_most c.args.low c.args.by (search rules) (search rules))
    (product_most c.args.high c.args.by (search rules) (search rules)) (rw (c.from.ensures, c.from-2.ensures, c.from-3.ensures) (scaled_is c.args.low c.args.high c.args.by))

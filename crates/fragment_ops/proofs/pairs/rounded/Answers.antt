use Rattle.std.proofs.Common.{◌≡◌, ◌+◌, ◌/◌, arith, ◌∙◌}
use Rattle.fragment_ops.specs.Pairs.{pair_of}
use Rattle.fragment_ops.proofs.Halves.{rounded_is}
use Rattle.fragment_ops.proofs.pairs.rounded.Goals as goal

pub returns : goal.returns
returns c low high l h e =
    let first : c.carry.result ≡ pair_of ((low + 128) / 256) ((high + 128) / 256) =
    c.carry.ensures.bytes (low + 128) (high + 128) (omega arith) (omega arith) (omega (arith, e)) in
    let second = c.carry-2.ensures.bytes ((low + 128) + (low + 128) / 256) ((high + 128) + (high + 128) / 256) (omega arith) (omega arith) (omega (arith, e, first)) in
    second ∙ (λ i. pair_of (rounded_is low l i) (rounded_is high h i))

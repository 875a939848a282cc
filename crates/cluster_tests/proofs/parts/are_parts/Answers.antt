use Rattle.std.proofs.Common.{◌*◌, ap₂, arith, ◌∙◌}
use Rattle.assembler.proofs.Checked.{one_more, below_length}
use Rattle.cluster_tests.proofs.parts.are_parts.Goals as goal

pub loop-tile-preserved : goal.loop-tile-preserved
loop-tile-preserved c =
    let yes = c.if-not-is_part.false in
    one_more c.args.layout.now c.args.parts.now c.loop-tile.tile c.index-parts-tile.result c.index-parts-tile.is
    (c.is_part.ensures.tile yes, c.is_part.ensures.frame yes, c.is_part.ensures.size yes) c.loop-tile.invariant

pub returns : goal.returns
returns c = λ yes. record {
  frame = 1;
  count = c.if-parts-from.false ∙ ap₂ (λ a b. a * b) c.from.ensures c.from-2.ensures;
  each = λ tile p is. c.loop-tile.invariant tile p (let k = below_length c.args.parts.now tile p is in omega (arith, k, c.loop-tile-test.false)) is;
}

use Rattle.std.proofs.Common.{◌≡◌, ◌∙◌, rules, length, sym}
use Rattle.geometry.proofs.Identity.{whole_four, wider}
use Rattle.geometry.proofs.vertex.product.Goals as goal

pub returns-then-is_identity-clause-value : goal.returns-then-is_identity-clause-value
returns-then-is_identity-clause-value c =
    let n : length c.args.v ≡ 4 = search rules in
    whole_four c.args.v n ∙ sym (c.requires.identity c.if-is_identity.true c.args.v)

pub returns-then-is_identity-clause-small : goal.returns-then-is_identity-clause-small
returns-then-is_identity-clause-small c n h = wider c.args.v n h

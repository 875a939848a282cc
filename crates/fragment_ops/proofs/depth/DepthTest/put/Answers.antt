use Rattle.std.proofs.Common.{◌∙◌, sym}
use Rattle.fragment_ops.specs.DepthTests.{pixel}
use Rattle.fragment_ops.proofs.Few.{passed_is, failed_is, tested_is}
use Rattle.fragment_ops.proofs.depth.DepthTest.put.Goals as goal

pub returns-then-passes-clause-value : goal.returns-then-passes-clause-value
returns-then-passes-clause-value c =
    let a = c.args in
    (λ i. pixel (c.write.ensures.color i) (c.write.ensures.depth i))
    ∙ passed_is a.self.now a.color a.depth (pixel a.stored_color.now a.stored_depth.now) (sym c.passes.ensures.test ∙ c.if-passes.true)

pub returns-then-passes-clause-stored : goal.returns-then-passes-clause-stored
returns-then-passes-clause-stored c s x p alpha w =
    let a = c.args in
    let old = pixel a.stored_color.now a.stored_depth.now in
    (λ i. pixel (c.write.ensures.color i) (c.write.ensures.depth i))
    ∙ passed_is a.self.now a.color a.depth old (sym c.passes.ensures.test ∙ c.if-passes.true)
    ∙ tested_is s a.self.now x a.color a.depth old p alpha w

pub returns-else-passes-clause-stored : goal.returns-else-passes-clause-stored
returns-else-passes-clause-stored c s x p alpha w =
    let a = c.args in
    let old = pixel a.stored_color.now a.stored_depth.now in
    failed_is a.self.now a.color a.depth old (sym c.passes.ensures.test ∙ c.if-passes.false)
    ∙ tested_is s a.self.now x a.color a.depth old p alpha w

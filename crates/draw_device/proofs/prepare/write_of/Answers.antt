use Rattle.std.proofs.Common.{◌∙◌, sym}
use Rattle.draw_device.proofs.prepare.write_of.Goals as goal

pub returns-then-writes_plainly : goal.returns-then-writes_plainly
returns-then-writes_plainly c color old = c.writes_plainly.ensures.written c.if-writes_plainly.true color old

pub returns-then-blends_over : goal.returns-then-blends_over
returns-then-blends_over c = sym c.blends_over.ensures ∙ c.if-blends_over.true

pub returns-then-blends_sum : goal.returns-then-blends_sum
returns-then-blends_sum c = sym c.blends_sum.ensures ∙ c.if-blends_sum.true

pub returns-then-not-state : goal.returns-then-not-state
returns-then-not-state c = c.if-not-state.true

pub returns-then-writes_channels : goal.returns-then-writes_channels
returns-then-writes_channels c =
    (record { on = c.if-not-state.false; first = c.factor_named-first.ensures.factor; second = c.factor_named-second.ensures.factor }, sym c.writes_channels.ensures ∙ c.if-writes_channels.true)

pub returns : goal.returns
returns c = record {
  on = c.if-not-state.false;
  first = c.factor_named-first.ensures.factor;
  second = c.factor_named-second.ensures.factor;
}

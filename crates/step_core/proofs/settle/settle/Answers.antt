use Rattle.std.proofs.Common.{arith, sym, subst}
use Rattle.rc_base.specs.declared.plain_lane.PlainLane.{PlainLane}
use Rattle.rc_base.specs.declared.state.Parcel.{Parcel}
use Rattle.step_core.specs.Settling.{CanSettleTo, IsSettledTo}
use Rattle.step_core.proofs.Settling.{settling_begins, can_settle_next, settling_goes_on, settling_ends}
use Rattle.step_core.proofs.settle.settle.Goals as goal

pub loop-client-init : goal.loop-client-init
loop-client-init c = settling_begins c.args.tile c.args.ports.now c.args.lanes.now

pub settle_to-requires : goal.settle_to-requires
settle_to-requires c =
    subst (λ (x : PlainLane Parcel). CanSettleTo c.loop-client.client c.args.tile c.loop-client.ports x) (sym c.index-lanes-client.is)
    (can_settle_next c.loop-client.client c.args.tile c.args.ports.now c.loop-client.ports c.args.lanes.now
    c.requires c.loop-client.invariant c.loop-client-test.true c.index-lanes-client.result)

pub loop-client-preserved : goal.loop-client-preserved
loop-client-preserved c =
    settling_goes_on c.loop-client.client c.args.tile c.args.ports.now c.loop-client.ports c.args.lanes.now c.settle_to.new.ports c.requires.count
    c.loop-client.invariant c.loop-client-test.true c.index-lanes-client.result
    (subst (λ (x : PlainLane Parcel). IsSettledTo c.loop-client.client c.args.tile c.loop-client.ports c.settle_to.new.ports x) c.index-lanes-client.is c.settle_to.ensures)

pub returns : goal.returns
returns c =
    let more = c.loop-client-test.false in
    settling_ends c.loop-client.client c.args.tile c.args.ports.now c.loop-client.ports c.args.lanes.now c.loop-client.invariant (omega (arith, more))

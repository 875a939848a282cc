use Rattle.std.proofs.Common.{List, sym, ap, subst}
use Rattle.std.specs.Vec.{with_items}
use Rattle.rc_base.specs.declared.plain_lane.PlainLane.{PlainLane}
use Rattle.rc_base.specs.declared.sync.Grant.{Grant}
use Rattle.rc_base.specs.declared.sync.Request.{Request}
use Rattle.step_core.proofs.ManagerMoves.{answer_in, manager_steps, IsCoreStep}
use Rattle.step_core.proofs.Lanes.{items_are}
use Rattle.step_core.proofs.Said.{told}
use Rattle.step_core.proofs.cluster.Cluster.step_manager.Goals as goal

pub returns-in-Ok-clause-turn : goal.returns-in-Ok-clause-turn
returns-in-Ok-clause-turn c scene l depth w v =
    let e = c.step.ensures in
    let at = c.args.self.now in
    let did = e.step.0 in
    let core : IsCoreStep at.manager c.step.new.self did c.deref_mut.result.now c.step.new.requests c.deref_mut-2.result.now c.step.new.grants =
    record {
      request_depths = e.request_lanes;
      grant_depths = e.grant_lanes;
      step = e.step.2;
      taken = e.step.3;
      empty = e.step.4;
      sent = e.step.5;
      full = e.step.6;
    } in
    let xs = with_items at.requests c.step.new.requests in
    let ys = with_items at.grants c.step.new.grants in
    let first : IsCoreStep at.manager c.step.new.self did at.requests.items c.step.new.requests at.grants.items c.step.new.grants =
    subst (λ (xs : List (PlainLane Request)). IsCoreStep at.manager c.step.new.self did xs c.step.new.requests at.grants.items c.step.new.grants)
    c.deref_mut.ensures.value
    (subst (λ (ys : List (PlainLane Grant)). IsCoreStep at.manager c.step.new.self did c.deref_mut.result.now c.step.new.requests ys
    c.step.new.grants) c.deref_mut-2.ensures.value core) in
    let whole =
    subst (λ (xs : List (PlainLane Request)). IsCoreStep at.manager c.step.new.self did at.requests.items xs at.grants.items ys.items)
    (sym (items_are at.requests c.step.new.requests first.request_depths.count))
    (subst (λ (ys : List (PlainLane Grant)). IsCoreStep at.manager c.step.new.self did at.requests.items c.step.new.requests at.grants.items ys)
    (sym (items_are at.grants c.step.new.grants first.grant_depths.count)) first) in
    let done = manager_steps scene l depth at w did c.step.new.self xs ys v whole c.step.result (sym e.step.1) in
    told scene l depth w at _ _ _ _ _ (sym v.clients.count) (ap answer_in c.in-Ok.is) done

pub returns-in-Err-clause-turn : goal.returns-in-Err-clause-turn
returns-in-Err-clause-turn c scene l depth w v =
    let e = c.step.ensures in
    let at = c.args.self.now in
    let did = e.step.0 in
    let core : IsCoreStep at.manager c.step.new.self did c.deref_mut.result.now c.step.new.requests c.deref_mut-2.result.now c.step.new.grants =
    record {
      request_depths = e.request_lanes;
      grant_depths = e.grant_lanes;
      step = e.step.2;
      taken = e.step.3;
      empty = e.step.4;
      sent = e.step.5;
      full = e.step.6;
    } in
    let xs = with_items at.requests c.step.new.requests in
    let ys = with_items at.grants c.step.new.grants in
    let first : IsCoreStep at.manager c.step.new.self did at.requests.items c.step.new.requests at.grants.items c.step.new.grants =
    subst (λ (xs : List (PlainLane Request)). IsCoreStep at.manager c.step.new.self did xs c.step.new.requests at.grants.items c.step.new.grants)
    c.deref_mut.ensures.value
    (subst (λ (ys : List (PlainLane Grant)). IsCoreStep at.manager c.step.new.self did c.deref_mut.result.now c.step.new.requests ys
    c.step.new.grants) c.deref_mut-2.ensures.value core) in
    let whole =
    subst (λ (xs : List (PlainLane Request)). IsCoreStep at.manager c.step.new.self did at.requests.items xs at.grants.items ys.items)
    (sym (items_are at.requests c.step.new.requests first.request_depths.count))
    (subst (λ (ys : List (PlainLane Grant)). IsCoreStep at.manager c.step.new.self did at.requests.items c.step.new.requests at.grants.items ys)
    (sym (items_are at.grants c.step.new.grants first.grant_depths.count)) first) in
    let done = manager_steps scene l depth at w did c.step.new.self xs ys v whole c.step.result (sym e.step.1) in
    told scene l depth w at _ _ _ _ _ (sym v.clients.count) (ap answer_in c.in-Err.is) done

use Rattle.std.proofs.Common.{rules}
use Rattle.rc_base.specs.Outside.Causes.{Rose}
use Rattle.sync_manager.proofs.ManagerSteps.{waiting_step}
use Rattle.sync_manager.proofs.FoundLanes.{passed}
use Rattle.sync_manager.proofs.manager.ManagerCore.receive.Goals as goal

pub returns-in-Some : goal.returns-in-Some
returns-in-Some g c = record {
  step = c.enter.ensures.step;
  requests = record {
    lanes = search rules;
    taken = search rules;
    empty = λ syncs d h.
        passed (λ a b. Rose (g.I.Inlet.empty_seen a) (g.I.Inlet.empty_seen b) × g.I.Inlet.bare b) c.args.requests.now c.take_in_rotation.new.lanes syncs c.args.self.now d h c.requires.lanes
        c.wanted-asks.result c.wanted-asks.ensures c.enter.result c.in-Some.client c.in-Some.request c.enter.ensures.taken c.in-Some.ensures.passed;
  };
  grants = search rules;
}

pub returns-in-None : goal.returns-in-None
returns-in-None g c = record {
  step = waiting_step c.args.self.now c.requires.task;
  requests = record { lanes = search rules; taken = search rules; empty = search rules };
  grants = search rules;
}

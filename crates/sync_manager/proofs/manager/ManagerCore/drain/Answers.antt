use Rattle.std.proofs.Common.{rules}
use Rattle.rc_base.specs.Outside.Causes.{Rose}
use Rattle.sync_manager.proofs.FoundLanes.{none_left}
use Rattle.sync_manager.proofs.manager.ManagerCore.drain.Goals as goal

pub returns-in-None : goal.returns-in-None
returns-in-None g c = record {
  step = search rules;
  requests = record {
    lanes = search rules;
    taken = search rules;
    empty = λ syncs d h.
        none_left (λ a b. Rose (g.I.Inlet.empty_seen a) (g.I.Inlet.empty_seen b) × g.I.Inlet.bare b) c.args.requests.now c.take_in_rotation.new.lanes syncs c.args.self.now d h c.requires.lanes
        c.rest.result c.rest.ensures.deed c.in-None.ensures.bare;
  };
  grants = search rules;
}

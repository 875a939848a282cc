use Rattle.std.proofs.Common.{sym, ◌∙◌, rules}
use Rattle.rc_base.specs.Outside.Causes.{Rose}
use Rattle.tile_server.proofs.FoundLanes.{unlistened}
use Rattle.tile_server.proofs.TakenLanes.{left_grants, left_lanes, left_unseen}
use Rattle.tile_server.proofs.tile_core.TileCore.act.Goals as goal

pub returns-in-Some : goal.returns-in-Some
returns-in-Some g c = record {
  step = c.perform.ensures.step;
  clients = record {
    lanes = search rules;
    taken = left_lanes g.I.Inlet.gave g.I.Inlet.same g.met.I.Inlet.same_here c.args.clients.now c.perform.result c.perform.ensures.clients;
    empty = λ p h.
        left_unseen (λ a b. Rose (g.I.Inlet.empty_seen a) (g.I.Inlet.empty_seen b) × g.I.Inlet.bare b) c.args.clients.now c.args.self.now c.perform.result p c.perform.ensures.clients;
  };
  grants = record {
    lane = search rules;
    heard = left_grants g.J.Inlet.gave g.J.Inlet.same g.met.J.Inlet.same_here c.args.grants.now c.perform.result c.perform.ensures.grants.none;
    unheard = λ p h found. absurd (c.perform.ensures.grants.nowhere _ p found);
  };
}

pub returns-else-listens : goal.returns-else-listens
returns-else-listens g c = record {
  step = c.take.ensures.step;
  clients = c.take.ensures.clients;
  grants = record {
    lane = search rules;
    heard = left_grants g.J.Inlet.gave g.J.Inlet.same g.met.J.Inlet.same_here c.args.grants.now c.take.result c.take.ensures.grants;
    unheard = λ p h found. absurd (unlistened c.args.self.now p c.take.result h (sym c.listens.ensures ∙ c.if-listens.false) found);
  };
}

use Rattle.std.proofs.Common.{rules}
use Rattle.rc_base.specs.Outside.Causes.{Rose}
use Rattle.tile_server.proofs.FoundLanes.{bare, passed}
use Rattle.tile_server.proofs.TakenLanes.{none_taken, taken_from}
use Rattle.tile_server.proofs.tile_core.TileCore.take.Goals as goal

pub returns-in-Some-clause-clients : goal.returns-in-Some-clause-clients
returns-in-Some-clause-clients g c = record {
  lanes = search rules;
  taken = taken_from g.I.Inlet.gave g.I.Inlet.same c.args.clients.now c.take_in_rotation.new.lanes c.in-Some.client c.in-Some.parcel c.receive-how.result c.in-Some.ensures.gave c.in-Some.ensures.others;
  empty = λ p h.
      passed (λ a b. Rose (g.I.Inlet.empty_seen a) (g.I.Inlet.empty_seen b) × g.I.Inlet.bare b) c.args.clients.now c.take_in_rotation.new.lanes c.args.self.now p h c.requires.lanes
      c.asked-asks.result c.asked-asks.ensures c.in-Some.client c.in-Some.parcel c.receive-how.result c.in-Some.ensures.passed;
}

pub returns-in-None-clause-clients : goal.returns-in-None-clause-clients
returns-in-None-clause-clients g c = record {
  lanes = search rules;
  taken = none_taken g.I.Inlet.gave g.I.Inlet.same c.args.clients.now c.take_in_rotation.new.lanes c.rest.result c.rest.ensures.deed c.in-None.ensures.none;
  empty = λ p h.
      bare (λ a b. Rose (g.I.Inlet.empty_seen a) (g.I.Inlet.empty_seen b) × g.I.Inlet.bare b) c.args.clients.now c.take_in_rotation.new.lanes c.args.self.now p h c.requires.lanes
      c.asked-asks.result c.asked-asks.ensures c.rest.result c.rest.ensures.deed c.in-None.ensures.bare;
}

use Rattle.tile_server.specs.Works.{AreNew}
use Rattle.tile_server.proofs.blank.new_clients.Given as goal

abbrev pub invariant-loop : goal.invariant-loop
invariant-loop l = AreNew l.state l.counter l.clients.items

use Rattle.std.proofs.Common.{map}
use Rattle.scene_file.proofs.CommandsCounted.{Progress}
use Rattle.scene_file.proofs.reading.read_spelled.Given as goal

abbrev pub invariant-loop : goal.invariant-loop
invariant-loop g l = Progress g.L.PacketList.set g.L.BeginsScene.letters g.L.PacketList.reader.shows l.bytes l.decl l.clients l.counter (map g.L.PacketList.kept l.streams) l.commands l.frames l.rest

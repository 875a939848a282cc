use Rattle.std.proofs.Common.{◌≡◌, ◌*◌, take, drop}
use Rattle.std.specs.List.{flat_map, range_with_len, AllByRecursion}
use Rattle.packet_bytes.specs.Texels.{HasType}
use Rattle.packet_bytes.proofs.EncodedSpells.{packet_of}
use Rattle.packet_bytes.proofs.writing.encode.Given as goal

abbrev pub invariant-loop : goal.invariant-loop
invariant-loop l = (l.bytes ≡ flat_map (packet_of l.commands) (range_with_len 0 l.counter)) × (l.rest ≡ drop (1024 * l.counter) l.commands) × AllByRecursion HasType (take (1024 * l.counter) l.commands)

use Rattle.std.proofs.Common.{◌≡◌, ◌++◌, take}
use Rattle.std.specs.List.{flat_map, AllByRecursion}
use Rattle.packet_bytes.specs.Texels.{HasType}
use Rattle.rc_base.specs.Formats.Spelling.{payload}
use Rattle.packet_bytes.proofs.writing.write_payloads.Given as goal

abbrev pub invariant-loop-command : goal.invariant-loop-command
invariant-loop-command l = (l.out ≡ l.fn.out ++ flat_map payload (take l.command-index l.commands)) × AllByRecursion HasType (take l.command-index l.commands)

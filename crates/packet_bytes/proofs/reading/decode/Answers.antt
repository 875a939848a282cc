use Rattle.std.proofs.Common.{Ok, Err, rules}
use Rattle.rc_base.specs.Formats.Spelling.{SpellsStreamOf, plain_set}
use Rattle.packet_bytes.specs.Packets.{plain_reader}
use Rattle.packet_bytes.specs.PlainLaws.{plain_agrees}
use Rattle.packet_bytes.proofs.OneSpelling.{only_these}
use Rattle.packet_bytes.proofs.reading.decode.Goals as goal

pub returns-in-Ok-clause-only : goal.returns-in-Ok-clause-only
returns-in-Ok-clause-only c =
    let found : SpellsStreamOf plain_set c.args.bytes.now c.in-Ok.field-0.commands = search rules in
    only_these plain_set plain_reader plain_agrees c.args.bytes.now (Ok c.in-Ok.field-0.commands) found tt

pub returns-in-Err-clause-only : goal.returns-in-Err-clause-only
returns-in-Err-clause-only c = only_these plain_set plain_reader plain_agrees c.args.bytes.now (Err c.in-Err.fault) tt c.in-Err.ensures.fails

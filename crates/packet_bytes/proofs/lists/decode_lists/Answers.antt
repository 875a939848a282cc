use Rattle.std.proofs.Common.{Ok, Err, rules}
use Rattle.rc_base.specs.Formats.Spelling.{SpellsStreamOf, list_set}
use Rattle.packet_bytes.specs.Lists.{list_reader}
use Rattle.packet_bytes.specs.ListLaws.{list_agrees}
use Rattle.packet_bytes.proofs.OneSpelling.{only_these}
use Rattle.packet_bytes.proofs.lists.decode_lists.Goals as goal

pub returns-in-Ok-clause-only : goal.returns-in-Ok-clause-only
returns-in-Ok-clause-only c =
    let found : SpellsStreamOf list_set c.args.bytes.now c.in-Ok.field-0.commands = search rules in
    only_these list_set list_reader list_agrees c.args.bytes.now (Ok c.in-Ok.field-0.commands) found tt

pub returns-in-Err-clause-only : goal.returns-in-Err-clause-only
returns-in-Err-clause-only c = only_these list_set list_reader list_agrees c.args.bytes.now (Err c.in-Err.fault) tt c.in-Err.ensures.fails

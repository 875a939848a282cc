use Rattle.rc_base.specs.Formats.Spelling.{plain_set, list_set}
use Rattle.packet_bytes.specs.Packets.{plain_reader}
use Rattle.packet_bytes.specs.PlainLaws.{plain_agrees}
use Rattle.packet_bytes.specs.Lists.{list_reader}
use Rattle.packet_bytes.specs.ListLaws.{list_agrees}
use Rattle.packet_bytes.proofs.OneSpelling.{one_spelling}
use Rattle.packet_bytes.proofs.laws.spells_one_list.Goals as goal

pub returns-clause-law : goal.returns-clause-law
returns-clause-law c = one_spelling plain_set plain_reader plain_agrees

pub returns-clause-lists : goal.returns-clause-lists
returns-clause-lists c = one_spelling list_set list_reader list_agrees

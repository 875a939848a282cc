use Rattle.rc_base.specs.Formats.Spelling.{plain_set, list_set}
use Rattle.packet_bytes.specs.Packets.{plain_reader}
use Rattle.packet_bytes.specs.PlainLaws.{plain_agrees}
use Rattle.packet_bytes.specs.Lists.{list_reader}
use Rattle.packet_bytes.specs.ListLaws.{list_agrees}
use Rattle.packet_bytes.proofs.OneSpelling.{fails_is_none}
use Rattle.packet_bytes.proofs.laws.faults_spell_nothing.Goals as goal

pub returns-clause-law : goal.returns-clause-law
returns-clause-law c = fails_is_none plain_set plain_reader plain_agrees

pub returns-clause-lists : goal.returns-clause-lists
returns-clause-lists c = fails_is_none list_set list_reader list_agrees

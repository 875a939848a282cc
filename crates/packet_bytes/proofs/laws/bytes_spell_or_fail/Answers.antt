use Rattle.rc_base.specs.Formats.Spelling.{plain_set, list_set}
use Rattle.packet_bytes.specs.Packets.{plain_reader}
use Rattle.packet_bytes.specs.PlainLaws.{plain_agrees}
use Rattle.packet_bytes.specs.Lists.{list_reader}
use Rattle.packet_bytes.specs.ListLaws.{list_agrees}
use Rattle.packet_bytes.proofs.SpelledOrFaulty.{spelled_or_faulty}
use Rattle.packet_bytes.proofs.laws.bytes_spell_or_fail.Goals as goal

pub returns-clause-law : goal.returns-clause-law
returns-clause-law c = spelled_or_faulty plain_set plain_reader plain_agrees

pub returns-clause-lists : goal.returns-clause-lists
returns-clause-lists c = spelled_or_faulty list_set list_reader list_agrees

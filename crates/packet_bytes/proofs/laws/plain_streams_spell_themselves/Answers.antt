use Rattle.packet_bytes.proofs.PlainStreams.{plain_spells}
use Rattle.packet_bytes.proofs.laws.plain_streams_spell_themselves.Goals as goal

pub returns : goal.returns
returns c = record { law = plain_spells }

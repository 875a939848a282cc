use Rattle.packet_bytes.proofs.EncodedSpells.{encoded_spells}
use Rattle.packet_bytes.proofs.laws.encoded_is_read.Goals as goal

pub returns : goal.returns
returns c = record { law = encoded_spells }

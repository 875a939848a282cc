use Rattle.packet_bytes.proofs.PayloadLength.{length_of_payload}
use Rattle.packet_bytes.proofs.laws.payload_length.Goals as goal

pub returns : goal.returns
returns c = record { law = length_of_payload }

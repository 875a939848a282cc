use Rattle.packet_bytes.proofs.ShortPayloads.{end_read}
use Rattle.packet_bytes.proofs.short_payload.read_end.Goals as goal

pub returns : goal.returns
returns c = end_read c.args.bytes.now

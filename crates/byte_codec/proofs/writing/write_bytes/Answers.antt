use Rattle.std.proofs.Common.{arith}
use Rattle.byte_codec.proofs.writing.write_bytes.Goals as goal

pub returns-clause-typed : goal.returns-clause-typed
returns-clause-typed c i = omega (arith, c.type_inv.bytes i)

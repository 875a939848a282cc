use Rattle.std.proofs.Common.{inl, inr, refl, slice_index}
use Rattle.parcel_bytes.proofs.SpeltBlocks.{draws, from_there, no_draw}
use Rattle.parcel_bytes.proofs.packed.block_in.Goals as goal

pub returns-then-bytes-lt4 : goal.returns-then-bytes-lt4
returns-then-bytes-lt4 c a is spelt = no_draw a c.args.bytes.now is spelt (inl c.if-bytes-lt4.true)

pub returns-then-bytes-ne0 : goal.returns-then-bytes-ne0
returns-then-bytes-ne0 c a is spelt = no_draw a c.args.bytes.now is spelt (inr c.if-bytes-ne0.true)

pub returns : goal.returns
returns c a is spelt = draws a c.args.bytes.now (slice_index c.args.bytes.now 1) _ is spelt c.if-bytes-ne0.false refl (from_there c.args.bytes.now 4)

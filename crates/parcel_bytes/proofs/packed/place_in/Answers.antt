use Rattle.std.proofs.Common.{◌∙◌, arith, refl}
use Rattle.parcel_bytes.proofs.Fronts.{place_within}
use Rattle.parcel_bytes.proofs.SpeltBlocks.{place_back}
use Rattle.parcel_bytes.proofs.packed.place_in.Goals as goal

pub returns-then-bytes-lt4 : goal.returns-then-bytes-lt4
returns-then-bytes-lt4 c p s =
    let long = place_within c.args.bytes.now _ p (record { spells = s; begins = refl }) in
    absurd (omega (arith, long, c.if-bytes-lt4.true))

pub returns : goal.returns
returns c p s = c.from_le_bytes.ensures ∙ place_back p c.args.bytes.now s

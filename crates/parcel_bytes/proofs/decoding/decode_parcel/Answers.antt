use Rattle.std.proofs.Common.{◌≡◌, ◌<◌, length, sym, subst, arith}
use Rattle.std.proofs.lemmas.Bool.Decides.{nat_tests}
use Rattle.rc_base.specs.Formats.Commands.{AreBytes}
use Rattle.parcel_bytes.specs.Faults.{HasTrailing}
use Rattle.parcel_bytes.proofs.ParcelsAreRead.{is_trailing, reading_fails}
use Rattle.parcel_bytes.proofs.OneParcel.{ends_here, only}
use Rattle.parcel_bytes.proofs.decoding.decode_parcel.Goals as goal

pub returns-then-is_empty-clause-found : goal.returns-then-is_empty-clause-found
returns-then-is_empty-clause-found c =
    let fits : AreBytes c.args.bytes.now = λ i. omega (arith, c.type_inv.bytes i) in
    let none : length c.in-Ok.rest.now ≡ 0 = grind (arith, nat_tests) in
    ends_here c.args.bytes.now c.in-Ok.parcel c.in-Ok.rest.now fits c.in-Ok.ensures none

pub returns-else-is_empty-clause-fails : goal.returns-else-is_empty-clause-fails
returns-else-is_empty-clause-fails c =
    let fits : AreBytes c.args.bytes.now = λ i. omega (arith, c.type_inv.bytes i) in
    let some : 0 < length c.in-Ok.rest.now = grind (arith, nat_tests) in
    subst (HasTrailing c.args.bytes.now) (sym c.saturating_sub.ensures) (is_trailing c.args.bytes.now c.in-Ok.parcel c.in-Ok.rest.now fits c.in-Ok.ensures some)

pub returns-in-Err-clause-fails : goal.returns-in-Err-clause-fails
returns-in-Err-clause-fails c =
    let fits : AreBytes c.args.bytes.now = λ i. omega (arith, c.type_inv.bytes i) in
    rw c.fault_at.ensures (reading_fails c.args.bytes.now c.in-Err.error fits c.in-Err.ensures)

pub returns-then-is_empty-clause-only : goal.returns-then-is_empty-clause-only
returns-then-is_empty-clause-only c = only c.args.bytes.now _ (returns-then-is_empty-clause-found c) tt

pub returns-else-is_empty-clause-only : goal.returns-else-is_empty-clause-only
returns-else-is_empty-clause-only c = only c.args.bytes.now _ tt (returns-else-is_empty-clause-fails c)

pub returns-in-Err-clause-only : goal.returns-in-Err-clause-only
returns-in-Err-clause-only c = only c.args.bytes.now _ tt (returns-in-Err-clause-fails c)

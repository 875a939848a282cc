use Rattle.std.proofs.Common.{◌≡◌, ◌∙◌, length, ap, subst, sym}
use Rattle.std.specs.Prelude.{IfOk}
use Rattle.rc_base.specs.declared.state.Parcel.{Parcel}
use Rattle.rc_base.specs.Cluster.Parcels.{is_end}
use Rattle.parcel_bytes.proofs.Fronts.{in_bytes}
use Rattle.parcel_bytes.proofs.ParcelsAreRead.{is_in}
use Rattle.parcel_bytes.proofs.packed.packed_in.Goals as goal

pub pack-requires-clause-written : goal.pack-requires-clause-written
pack-requires-clause-written c = in_bytes c.in_ok-written.written.bytes c.in_ok-written.written.act c.args.parcel.now c.in_ok-written.ensures

pub pack-requires-clause-sets : goal.pack-requires-clause-sets
pack-requires-clause-sets c =
    c.len.ensures ∙ ap (λ (q : Parcel). length q.sets) (sym (is_in c.in_ok-written.written.bytes c.args.parcel.now c.in_ok-written.ensures.spells))

pub pack-requires-clause-end : goal.pack-requires-clause-end
pack-requires-clause-end c =
    c.is_end.ensures ∙ ap (λ (q : Parcel). is_end q.act) (sym (is_in c.in_ok-written.written.bytes c.args.parcel.now c.in_ok-written.ensures.spells))

pub returns : goal.returns
returns c =
    subst (λ (q : Parcel). IfOk c.pack.result (λ (packed : Parcel). packed ≡ q)) (is_in c.in_ok-written.written.bytes c.args.parcel.now c.in_ok-written.ensures.spells)
    c.pack.ensures

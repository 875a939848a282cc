use Rattle.std.proofs.Common.{◌≡◌, List, subst}
use Rattle.std.specs.Prelude.{IfOk}
use Rattle.rc_base.specs.declared.state.ElementSet.{ElementSet}
use Rattle.rc_base.specs.declared.state.Parcel.{Parcel}
use Rattle.client_issue.specs.Sequence.{IsMade}
use Rattle.client_issue.proofs.give.repacked.Goals as goal

with_sets_of : (made p : Parcel) (sets : List ElementSet) → IsMade p.place p.act made → sets ≡ p.sets → record made { sets = sets } ≡ p
with_sets_of made p sets m e = λ i. record { place = m.place_is i; sets = e i; act = m.act_is i }

pub returns : goal.returns
returns c =
    subst (λ (q : Parcel). IfOk c.with_sets.result (λ (packed : Parcel). packed ≡ q)) (with_sets_of c.args.made c.args.parcel.now c.as_slice.result.now c.requires.made c.as_slice.ensures)
    c.with_sets.ensures

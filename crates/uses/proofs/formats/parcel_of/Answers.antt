use Rattle.std.proofs.Common.{◌≡◌, ℕ, List, ◌⊎◌, Result, Ok, Err, inl, inr, refl, ap, length}
use Rattle.std.specs.Prelude.{IfOk, IfErr}
use Rattle.rc_base.specs.declared.state.Parcel.{Parcel}
use Rattle.parcel_bytes.specs.Spelling.{SpellsParcel}
use Rattle.parcel_bytes.specs.Faults.{FailsAsParcel, FaultsSpellNoParcel, ParcelFaultsAreOne}
use Rattle.parcel_bytes.specs.declared.fault.ParcelFault.{ParcelFault}
use Rattle.parcel_bytes.specs.declared.fault.ParcelFault.TheVariants as faults
use Rattle.uses.proofs.formats.parcel_of.Goals as goal

abbrev IsRefused : Result Parcel ParcelFault → ℕ → Type 0
IsRefused r at = (r ≡ Err (faults.Trailing at)) ⊎ (r ≡ Err faults.OutOfMemory)

refused_for : (bytes : List ℕ) (fault : ParcelFault) (at : ℕ) → FailsAsParcel bytes (faults.Trailing at) → FailsAsParcel bytes fault → ParcelFaultsAreOne → IsRefused (Err fault) at
refused_for bytes (faults.Truncated place) at behind fails one = inl (ap Err (one bytes (faults.Truncated place) (faults.Trailing at) fails behind tt tt))
refused_for bytes (faults.UnknownTag place) at behind fails one = inl (ap Err (one bytes (faults.UnknownTag place) (faults.Trailing at) fails behind tt tt))
refused_for bytes (faults.Trailing place) at behind fails one = inl (ap Err (one bytes (faults.Trailing place) (faults.Trailing at) fails behind tt tt))
refused_for bytes faults.OutOfMemory at behind fails one = inr refl

refused : (bytes : List ℕ) (r : Result Parcel ParcelFault) (at : ℕ) → FailsAsParcel bytes (faults.Trailing at) → IfOk r (SpellsParcel bytes) → IfErr r (FailsAsParcel bytes)
    → ParcelFaultsAreOne → FaultsSpellNoParcel → IsRefused r at
refused bytes (Ok p) at behind found fails one nothing = absurd (nothing bytes (faults.Trailing at) p behind tt found)
refused bytes (Err fault) at behind found fails one nothing = refused_for bytes fault at behind fails one

pub returns : goal.returns
returns c front rest p parts some spells =
    refused c.args.bytes.now c.decode_parcel.result (length front)
    (record { front = front; rest = rest; parcel = p; spells = spells; parts = parts; some = some; place = refl })
    c.decode_parcel.ensures.found c.decode_parcel.ensures.fails c.parcel_faults_are_one.ensures.law c.faults_spell_no_parcel.ensures.law

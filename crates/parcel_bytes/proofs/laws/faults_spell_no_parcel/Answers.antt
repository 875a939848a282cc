use Rattle.parcel_bytes.proofs.OneParcel.{no_fault}
use Rattle.parcel_bytes.proofs.laws.faults_spell_no_parcel.Goals as goal

pub returns : goal.returns
returns c = record { law = no_fault }

use Rattle.parcel_bytes.proofs.OneParcel.{one_fault}
use Rattle.parcel_bytes.proofs.laws.parcel_faults_are_one.Goals as goal

pub returns : goal.returns
returns c = record { law = one_fault }

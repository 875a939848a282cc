use Rattle.parcel_bytes.proofs.OneParcel.{one_parcel}
use Rattle.parcel_bytes.proofs.laws.spells_one_parcel.Goals as goal

pub returns : goal.returns
returns c = record { law = one_parcel }

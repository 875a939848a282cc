use Rattle.parcel_bytes.proofs.OneParcel.{spelled_or_faulty}
use Rattle.parcel_bytes.proofs.laws.bytes_spell_a_parcel_or_fail.Goals as goal

pub returns : goal.returns
returns c = record { law = spelled_or_faulty }

use Rattle.std.proofs.Common.{◌∙◌}
use Rattle.parcel_bytes.proofs.Fronts.{act_is}
use Rattle.parcel_bytes.proofs.SpeltBlocks.{from_there}
use Rattle.parcel_bytes.proofs.packed.act_in.Goals as goal

pub returns : goal.returns
returns c p w = (w.spells.is_parcel.act, from_there c.args.bytes.now c.args.at ∙ act_is c.args.bytes.now c.args.at p w)

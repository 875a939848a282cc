use Rattle.parcel_bytes.proofs.Fronts.{begins_within}
use Rattle.parcel_bytes.proofs.packed.Packed.block.Goals as goal

pub act_in-requires : goal.act_in-requires
act_in-requires c = begins_within c.parts-at.result.0.now c.parts-at.result.1 c.args.self.now c.parts-at.ensures

pub returns : goal.returns
returns c =
    let w = c.act_in.ensures c.args.self.now c.parts-at.ensures in
    c.block_in.ensures c.args.self.now.act w.0 w.1

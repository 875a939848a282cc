use Rattle.parcel_bytes.proofs.packed.Packed.place.Goals as goal

pub returns : goal.returns
returns c = c.place_in.ensures c.args.self.now c.bytes.ensures

use Rattle.std.proofs.Common.{◌≡◌, length, refl}
use Rattle.parcel_bytes.proofs.VertexBytes.{four, four_then}
use Rattle.parcel_bytes.proofs.writing.joined.Goals as goal

pub returns : goal.returns
returns c =
    let lx : length c.args.x ≡ 4 = search in
    let ly : length c.args.y ≡ 4 = search in
    let lz : length c.args.z ≡ 4 = search in
    let lw : length c.args.w ≡ 4 = search in
    let ls : length c.args.s ≡ 4 = search in
    let lt : length c.args.t ≡ 4 = search in
    rw (four_then c.args.x _ 0 lx, four_then c.args.y _ 0 ly, four_then c.args.z _ 0 lz, four_then c.args.w _ 0 lw, four_then c.args.s _ 0 ls, ← four c.args.t 0 lt) refl

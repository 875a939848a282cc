use Rattle.std.proofs.Common.{◌<◌, length, arith}
use Rattle.std.proofs.lemmas.Bool.Decides.{nat_tests}
use Rattle.rc_base.specs.Formats.Commands.{AreBytes}
use Rattle.parcel_bytes.proofs.ShortVertices.{short_vertex}
use Rattle.parcel_bytes.proofs.reading.read_vertex.Goals as goal

pub returns-then-bytes-lt28 : goal.returns-then-bytes-lt28
returns-then-bytes-lt28 c =
    let fits : AreBytes c.args.bytes.now = λ i. omega (arith, c.type_inv.bytes i) in
    let lt : length c.args.bytes.now < 28 = grind (arith, nat_tests) in
    short_vertex c.args.bytes.now fits lt

use Rattle.std.proofs.Common.{w32, w64, to_z-of_z, FitsSigned}
use Rattle.raster.proofs.Clipping.{cut_is}
use Rattle.raster.proofs.clip.cut.Goals as goal

pub returns : goal.returns
returns c =
    let first : FitsSigned w32 c.max.result = record { sfits = c.max.type_inv } in
    let last : FitsSigned w32 c.cut_end.result = record { sfits = c.cut_end.type_inv } in
    let whole : FitsSigned w64 c.sum.result = record { sfits = c.sum.type_inv } in
    let from = to_z-of_z c.ranges.from in
    let to = to_z-of_z c.ranges.to in
    let low = to_z-of_z c.ranges.low in
    let size = to_z-of_z c.ranges.size in
    let limits = simp (from, to, to_z-of_z whole) at c.cut_end.ensures in
    let end = simp (c.sum.ensures, low, size) at limits in
    rw (to_z-of_z first, to_z-of_z last, c.max.ensures.value, from, low)
    (cut_is c.args.from c.args.to c.args.low c.args.size c.cut_end.result end.below end.exact)

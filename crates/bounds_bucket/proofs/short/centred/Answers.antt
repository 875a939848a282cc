use Rattle.std.proofs.Common.{to_z-of_z, FitsSigned, w64}
use Rattle.bounds_bucket.proofs.Centred.{centred_is}
use Rattle.bounds_bucket.proofs.short.centred.Goals as goal

pub returns : goal.returns
returns c =
    let lo = to_z-of_z c.ranges.least in
    let hi = to_z-of_z c.ranges.greatest in
    let first : FitsSigned w64 c.first_from.result = record { sfits = c.first_from.type_inv } in
    let end : FitsSigned w64 c.end_after.result = record { sfits = c.end_after.type_inv } in
    centred_is c.args.range c.cut_start.result c.cut_end.result (record { lo = c.args.least; hi = c.args.greatest }) c.first_from.result c.end_after.result
    (simp lo at c.first_from.ensures.above) (simp lo at c.first_from.ensures.below) (simp hi at c.end_after.ensures.below) (simp hi at c.end_after.ensures.above)
    (simp (to_z-of_z first) at c.cut_start.ensures) (simp (to_z-of_z end) at c.cut_end.ensures)

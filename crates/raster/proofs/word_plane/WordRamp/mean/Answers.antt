use Rattle.std.proofs.Common.{◌∙◌, ◌^◌, pos, neg_ℤ, ◌-◌, arith, to_z-of_z, FitsSigned, w32}
use Rattle.std.proofs.lemmas.Int.{ints}
use Rattle.rc_base.specs.Drawing.Cover.{triangle_area, corner}
use Rattle.rc_base.specs.Drawing.Fragment.{interpolated}
use Rattle.raster.specs.Planes.{sum_at}
use Rattle.raster.proofs.Average.{inside_weights, average_low, average_high}
use Rattle.raster.proofs.word_plane.WordRamp.mean.Goals as goal

pub returns : goal.returns
unfolding sum_at interpolated
returns c v x y f k r few some inside =
    let w = inside_weights v x y inside in
    let lo = average_low _ _ _ (f (corner v 0)) (f (corner v 1)) (f (corner v 2)) (triangle_area v) (neg_ℤ (pos (2 ^ 31))) w.first w.second w.third w.total some r.short.0.0 r.short.1.0 r.short.2.0 in
    let hi = average_high _ _ _ (f (corner v 0)) (f (corner v 1)) (f (corner v 2)) (triangle_area v) (pos (2 ^ 31 - 1)) w.first w.second w.third w.total some r.short.0.1 r.short.1.1 r.short.2.1 in
    let fit : FitsSigned w32 c.top.result = record { sfits = c.top.type_inv } in
    to_z-of_z fit ∙ c.top.ensures _ _ k r.at few some (omega (arith, ints, lo)) (omega (arith, ints, hi))

use Rattle.std.proofs.Common.{◌≡◌, ◌∙◌, pos, ◌+ℤ◌, ◌-ℤ◌, neg_ℤ, ◌^◌, ◌-◌, subst, sym, to_z-of_z, FitsSigned}
use mir.Syntax.{w128}
use Rattle.raster.specs.Planes.{sum_at, IsFromTo}
use Rattle.raster.proofs.WordQuotients.{word_quotient_same, short_of}
use Rattle.raster.proofs.Affine.{sum_is}
use Rattle.raster.proofs.word_plane.word_plane_by.Goals as goal

pub returns : goal.returns
returns c v x y f s corners =
    let a0 = c.args.a in
    let a1 = c.args.b in
    let a2 = c.args.c in
    let fh : FitsSigned w128 c.sum-here.result = record { sfits = c.sum-here.type_inv } in
    let fr : FitsSigned w128 c.sum-right.result = record { sfits = c.sum-right.type_inv } in
    let fa : FitsSigned w128 c.sum-above.result = record { sfits = c.sum-above.type_inv } in
    let fg : FitsSigned w128 c.gain.result = record { sfits = c.gain.type_inv } in
    let fu : FitsSigned w128 c.gain-2.result = record { sfits = c.gain-2.type_inv } in
    let eh = rw (to_z-of_z c.ranges.a, to_z-of_z c.ranges.b, to_z-of_z c.ranges.c) at c.sum-here.ensures.value in
    let er = rw (to_z-of_z c.ranges.a, to_z-of_z c.ranges.b, to_z-of_z c.ranges.c) at c.sum-right.ensures.value in
    let ea = rw (to_z-of_z c.ranges.a, to_z-of_z c.ranges.b, to_z-of_z c.ranges.c) at c.sum-above.ensures.value in
    let h : c.sum-here.result ≡ sum_at v x y f = eh ∙ sum_is v x y f c.args.s.now.here a0 a1 a2 s.here corners in
    let r : c.sum-right.result ≡ sum_at v (x +ℤ pos 1) y f = er ∙ sum_is v (x +ℤ pos 1) y f c.args.s.now.right a0 a1 a2 s.right corners in
    let u : c.sum-above.result ≡ sum_at v x (y +ℤ pos 1) f = ea ∙ sum_is v x (y +ℤ pos 1) f c.args.s.now.above a0 a1 a2 s.above corners in
    let g : c.gain.result ≡ c.sum-right.result -ℤ c.sum-here.result = rw (to_z-of_z fr, to_z-of_z fh) at c.gain.ensures in
    let k : c.gain-2.result ≡ c.sum-above.result -ℤ c.sum-here.result = rw (to_z-of_z fa, to_z-of_z fh) at c.gain-2.ensures in
    let short = IsFromTo (neg_ℤ (pos (2 ^ 31))) (pos (2 ^ 31 - 1)) in
    record {
      short = (subst short (sym corners.0) (short_of a0 c.ranges.a), subst short (sym corners.1) (short_of a1 c.ranges.b), subst short (sym corners.2) (short_of a2 c.ranges.c));
      at = word_quotient_same _ _ _ _ _ _ (to_z-of_z fh ∙ h) s.area c.word_quotient.ensures;
      across = word_quotient_same _ _ _ _ _ _ (to_z-of_z fg ∙ g ∙ (λ i. r i -ℤ h i)) s.area c.word_quotient-2.ensures;
      up = word_quotient_same _ _ _ _ _ _ (to_z-of_z fu ∙ k ∙ (λ i. u i -ℤ h i)) s.area c.word_quotient-3.ensures;
    }

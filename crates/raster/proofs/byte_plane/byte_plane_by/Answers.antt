use Rattle.std.proofs.Common.{◌≡◌, ◌∙◌, ℕ, ℤ, ◌<◌, pos, ◌+ℤ◌, ◌-ℤ◌, sym, subst, to_z, of_z, to_z-of_z, FitsSigned, w32}
use mir.Syntax.{w128}
use Rattle.raster.specs.Planes.{IsFromTo, sum_at}
use Rattle.raster.proofs.ByteQuotients.{byte_quotient_same, byte_of}
use Rattle.raster.proofs.Affine.{sum_is}
use Rattle.raster.proofs.byte_plane.byte_plane_by.Goals as goal

pub returns : goal.returns
returns c v x y f s corners =
    let a0 = pos c.args.a in
    let a1 = pos c.args.b in
    let a2 = pos c.args.c in
    let f0 : FitsSigned w32 c.from-a.result = record { sfits = c.from-a.type_inv } in
    let f1 : FitsSigned w32 c.from-b.result = record { sfits = c.from-b.type_inv } in
    let f2 : FitsSigned w32 c.from-c.result = record { sfits = c.from-c.type_inv } in
    let e0 : to_z w32 (of_z w32 c.from-a.result) ≡ pos c.args.a = to_z-of_z f0 ∙ c.from-a.ensures in
    let e1 : to_z w32 (of_z w32 c.from-b.result) ≡ pos c.args.b = to_z-of_z f1 ∙ c.from-b.ensures in
    let e2 : to_z w32 (of_z w32 c.from-c.result) ≡ pos c.args.c = to_z-of_z f2 ∙ c.from-c.ensures in
    let fh : FitsSigned w128 c.sum-here.result = record { sfits = c.sum-here.type_inv } in
    let fr : FitsSigned w128 c.sum-right.result = record { sfits = c.sum-right.type_inv } in
    let fa : FitsSigned w128 c.sum-above.result = record { sfits = c.sum-above.type_inv } in
    let fg : FitsSigned w128 c.gain.result = record { sfits = c.gain.type_inv } in
    let fu : FitsSigned w128 c.gain-2.result = record { sfits = c.gain-2.type_inv } in
    let eh = rw (e0, e1, e2) at c.sum-here.ensures.value in
    let er = rw (e0, e1, e2) at c.sum-right.ensures.value in
    let ea = rw (e0, e1, e2) at c.sum-above.ensures.value in
    let h : c.sum-here.result ≡ sum_at v x y f = eh ∙ sum_is v x y f c.args.s.now.here a0 a1 a2 s.here corners in
    let r : c.sum-right.result ≡ sum_at v (x +ℤ pos 1) y f = er ∙ sum_is v (x +ℤ pos 1) y f c.args.s.now.right a0 a1 a2 s.right corners in
    let u : c.sum-above.result ≡ sum_at v x (y +ℤ pos 1) f = ea ∙ sum_is v x (y +ℤ pos 1) f c.args.s.now.above a0 a1 a2 s.above corners in
    let g : c.gain.result ≡ c.sum-right.result -ℤ c.sum-here.result = rw (to_z-of_z fr, to_z-of_z fh) at c.gain.ensures in
    let k : c.gain-2.result ≡ c.sum-above.result -ℤ c.sum-here.result = rw (to_z-of_z fa, to_z-of_z fh) at c.gain-2.ensures in
    record {
      bytes = (byte (f _) _ corners.0 c.ranges.a.fits, byte (f _) _ corners.1 c.ranges.b.fits, byte (f _) _ corners.2 c.ranges.c.fits);
      at = byte_quotient_same _ _ _ _ _ _ (to_z-of_z fh ∙ h) s.area c.byte_quotient.ensures;
      across = byte_quotient_same _ _ _ _ _ _ (to_z-of_z fg ∙ g ∙ (λ i. r i -ℤ h i)) s.area c.byte_quotient-2.ensures;
      up = byte_quotient_same _ _ _ _ _ _ (to_z-of_z fu ∙ k ∙ (λ i. u i -ℤ h i)) s.area c.byte_quotient-3.ensures;
    }
  where
    byte : (z : ℤ) (n : ℕ) → z ≡ pos n → n < 256 → IsFromTo (pos 0) (pos 255) z
    byte z n e h = subst (IsFromTo (pos 0) (pos 255)) (sym e) (byte_of n h)

use Rattle.std.proofs.Common.{◌≡◌, ◌∙◌, ℤ, pos, ◌+ℤ◌, ◌*ℤ◌, ap, arith, w32, w64, to_z, of_z, to_z-of_z, FitsSigned}
use Rattle.std.specs.Prelude.{int_le, if◌then◌else◌}
use Rattle.std.proofs.lemmas.Int.{ints}
use Rattle.rc_base.specs.Numbers.{floor_quotient}
use Rattle.bounds_bucket.specs.Hulls.{interval_of}
use Rattle.bounds_bucket.proofs.ShortPlaces.{greatest_is}
use Rattle.bounds_bucket.proofs.short.greatest_place.Goals as goal

pub returns-clause-value : goal.returns-clause-value
returns-clause-value c =
    let x : to_z w32 (of_z w32 c.args.x.greatest) ≡ c.args.x.greatest = omega (arith, ints) in
    let low : to_z w32 (of_z w32 c.args.w.least) ≡ c.args.w.least = omega (arith, ints) in
    let high : to_z w32 (of_z w32 c.args.w.greatest) ≡ c.args.w.greatest = omega (arith, ints) in
    let size = to_z-of_z c.ranges.size in
    let origin = to_z-of_z c.ranges.origin in
    let moved : FitsSigned w64 c.moved.result = record { sfits = c.moved.type_inv } in
    let quotient : FitsSigned w64 c.by_sign.result = record { sfits = c.by_sign.type_inv } in
    let dividend : FitsSigned w64 c.dividend-n.result = record { sfits = c.dividend-n.type_inv } in
    let n : c.dividend-n.result ≡ (c.args.x.greatest +ℤ c.args.w.greatest) *ℤ c.args.size *ℤ pos 8 = simp (x, high, size) at c.dividend-n.ensures.value in
    let q : c.by_sign.result ≡ (if int_le (pos 0) c.dividend-n.result then floor_quotient c.dividend-n.result c.args.w.least else floor_quotient c.dividend-n.result c.args.w.greatest) =
    simp (to_z-of_z dividend, low, high) at c.by_sign.ensures.value in
    let m : c.moved.result ≡ pos 16 *ℤ c.args.origin +ℤ c.by_sign.result = simp (to_z-of_z quotient, origin) at c.moved.ensures.value in
    to_z-of_z moved ∙ m ∙ ap (λ (k : ℤ). pos 16 *ℤ c.args.origin +ℤ k) q
    ∙ ap (λ (k : ℤ). pos 16 *ℤ c.args.origin +ℤ (if int_le (pos 0) k then floor_quotient k c.args.w.least else floor_quotient k c.args.w.greatest)) n
    ∙ greatest_is c.args.origin c.args.size (interval_of c.args.x) (interval_of c.args.w) c.requires.above c.requires.w_ordered

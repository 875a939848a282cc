use Rattle.std.proofs.Common.{rules, ◌≡◌, ◌∙◌, ◌*ℤ◌, ◌^◌, ℤ, pos, ◌≤ℤ◌, int_le, true, refl, sym, arith, to_z, of_z, to_z-of_z, FitsSigned, w64}
use mir.Syntax.{w128}
use Rattle.std.proofs.lemmas.Int.{ints}
use Rattle.fixed_math.proofs.Signed.{product_within, mul_mono, fits_from_ends}
use Rattle.raster.proofs.quotients.is_precise.Goals as goal

pub returns : goal.returns
returns c =
    let f : FitsSigned w128 c.from.result = record { sfits = c.from.type_inv } in
    let g : FitsSigned w128 c.from-2.result = record { sfits = c.from-2.type_inv } in
    let a : to_z w128 (of_z w128 c.from.result) ≡ c.args.m = to_z-of_z f ∙ c.from.ensures ∙ to_z-of_z c.ranges.m in
    let area = c.args.s.now.area in
    let k : FitsSigned w64 area = search rules in
    let b : to_z w128 (of_z w128 c.from-2.result) ≡ area = to_z-of_z g ∙ c.from-2.ensures ∙ to_z-of_z k in
    let l = c.requires.0 in
    let m = c.requires.1 in
    let s = c.args.s.now.some in
    let t = c.args.s.now.small in
    let p = product_within c.args.m area (2 ^ 62) (2 ^ 43) (omega (arith, ints, l), m) (omega (arith, ints, s), t) in
    let h : FitsSigned w128 (c.args.m *ℤ area) = fits_from_ends w128 _ (let q = p.0 in omega (arith, ints, q)) (let q = p.1 in omega (arith, ints, q)) in
    rw (a, b, to_z-of_z h) refl

pub returns-then-m-le1099511627776 : goal.returns-then-m-le1099511627776
returns-then-m-le1099511627776 c =
    let l = c.requires.0 in
    let area = c.args.s.now.area in
    let k = mul_mono c.args.m area (pos (2 ^ 43)) l c.args.s.now.small in
    sym (small_product (c.args.m *ℤ area) (omega (arith, ints, k)))
  where
    small_product : (p : ℤ) → p ≤ℤ pos (2 ^ 83) → int_le p (pos (2 ^ 83)) ≡ true
    small_product p h = grind (arith, ints)

use Rattle.std.proofs.Common.{rules, ◌≡◌, ◌∙◌, ◌+◌, ◌-◌, ◌^◌, pos, ◌-ℤ◌, ◌*ℤ◌, neg_ℤ, int_le, true, refl, sym, subst, arith, to_z, of_z, w64, to_z-of_z, FitsSigned}
use mir.Syntax.{w128}
use Rattle.std.proofs.lemmas.Int.{ints}
use Rattle.plain_lemmas.proofs.Numbers.{from_int_le}
use Rattle.raster.specs.Reciprocal.{IsReciprocal}
use Rattle.raster.proofs.WordQuotients.{word_quotient_same, quotient_by_reciprocal_below, some_parts}
use Rattle.raster.proofs.quotients.quotient_below.Goals as goal

pub returns-then-not-is_precise : goal.returns-then-not-is_precise
returns-then-not-is_precise c =
    let f : FitsSigned w128 c.from.result = record { sfits = c.from.type_inv } in
    let g : FitsSigned w128 c.from-then-not-is_precise.result = record { sfits = c.from-then-not-is_precise.type_inv } in
    let a : FitsSigned w64 c.args.s.now.area = search rules in
    let l = c.requires.0 in
    let m = c.requires.1 in
    let n : to_z w64 (of_z w64 (pos 0 -ℤ (to_z w64 (of_z w64 c.args.m)))) ≡ neg_ℤ c.args.m = omega (arith, ints) in
    word_quotient_same _ _ _ _ _ _ (to_z-of_z f ∙ c.from.ensures ∙ n) (to_z-of_z g ∙ c.from-then-not-is_precise.ensures ∙ to_z-of_z a) c.wide_quotient.ensures

pub returns : goal.returns
returns c =
    let s = c.args.s.now in
    let l = c.requires.0 in
    let e = c.from-count.ensures in
    let n : c.args.m ≡ pos c.from-count.result = omega (arith, ints) in
    let p : int_le (c.args.m *ℤ s.area) (pos (2 ^ 83)) ≡ true = rw (to_z-of_z c.ranges.m) at (sym c.is_precise.ensures ∙ c.if-not-is_precise.false) in
    let k : s.reciprocal ≡ (s.reciprocal - 1) + 1 = some_parts s.area s.reciprocal s.some s.inverse in
    quotient_by_reciprocal_below c.args.m s.area c.from-count.result _ (s.reciprocal - 1) _ n (subst (λ r. IsReciprocal 96 s.area r) k s.inverse) (from_int_le _ _ p) refl refl

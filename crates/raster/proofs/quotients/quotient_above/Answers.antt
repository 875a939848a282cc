use Rattle.std.proofs.Common.{◌≡◌, ◌∙◌, ◌*ℤ◌, ◌^◌, pos, int_le, true, sym, arith, refl, to_z-of_z}
use Rattle.std.proofs.lemmas.Int.{ints}
use Rattle.plain_lemmas.proofs.Numbers.{from_int_le}
use Rattle.raster.proofs.WordQuotients.{quotient_by_reciprocal}
use Rattle.raster.proofs.quotients.quotient_above.Goals as goal

pub returns : goal.returns
returns c =
    let s = c.args.s.now in
    let l = c.requires.0 in
    let e = c.from-count.ensures in
    let n : c.args.m ≡ pos c.from-count.result = omega (arith, ints) in
    let p : int_le (c.args.m *ℤ s.area) (pos (2 ^ 83)) ≡ true = rw (to_z-of_z c.ranges.m) at (sym c.is_precise.ensures ∙ c.if-not-is_precise.false) in
    quotient_by_reciprocal c.args.m s.area c.from-count.result s.reciprocal _ n s.inverse (from_int_le _ _ p) refl

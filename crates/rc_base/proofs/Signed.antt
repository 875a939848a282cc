-- Products of signed numbers.
use Rattle.std.proofs.Common.{◌*ℤ◌, ◌+ℤ◌, ◌≡◌, ◌+◌, ◌*◌, ◌≤◌, ap, arith, ℤ, pos, negsuc, ◌≤ℤ◌, mul-le-mul}
use Rattle.std.proofs.lemmas.Int.{ints}
use borrow.Author.Differences.{up, down, same_in, le_out, sum_is_lem, product_is}

-- a product of a sum, multiplied out
pub sum_times : (a b c : ℤ) → (a +ℤ b) *ℤ c ≡ a *ℤ c +ℤ b *ℤ c
sum_times a b c =
    let s = sum_is_lem a b in
    let p = ap (λ x. x * up c) s in
    let q = ap (λ x. x * down c) s in
    omega (arith, same_in, sum_is_lem, product_is)

-- to multiply by a number that is not negative keeps an order
pub mul_mono : (a x y : ℤ) → pos 0 ≤ℤ a → x ≤ℤ y → (a *ℤ x) ≤ℤ (a *ℤ y)
mul_mono (pos a) x y h k =
    let o = le_out x y k in
    let m : a * (up x + down y) ≤ a * (up y + down x) = mul-le-mul refl_le o in
    omega (arith, ints)
  where
    refl_le : a ≤ a
    refl_le = omega arith
mul_mono (negsuc a) x y h k = absurd (omega (arith, ints))

-- products go together either way
pub times_assoc : (a b c : ℤ) → (a *ℤ b) *ℤ c ≡ a *ℤ (b *ℤ c)
times_assoc a b c =
    let p = product_is a b in
    let q = product_is b c in
    let e1 = ap (λ n. n * up c) p.0 in
    let e2 = ap (λ n. n * down c) p.0 in
    let e3 = ap (λ n. n * up c) p.1 in
    let e4 = ap (λ n. n * down c) p.1 in
    let f1 = ap (λ n. up a * n) q.0 in
    let f2 = ap (λ n. down a * n) q.0 in
    let f3 = ap (λ n. up a * n) q.1 in
    let f4 = ap (λ n. down a * n) q.1 in
    omega (arith, same_in, product_is)

-- From the bits of at most eight columns to a row's span.
use Rattle.std.proofs.Common.{◌≡◌, ◌∙◌, ℕ, zero, suc, ◌<◌, ◌≤◌, ◌^◌, ◌-◌, ◌*◌, ◌/◌, ◌%◌, ℤ, pos, ◌+ℤ◌, ◌<ℤ◌, ◌≤ℤ◌, Bool, true, false, ◌&&◌, cond, arith, refl, sym, ap, int_le, int_lt, List, w64, min, pow-suc}
use Rattle.std.proofs.lemmas.Int.{ints, by_lt_z}
use Rattle.std.proofs.lemmas.Nat.{leading_top}
use Rattle.std.proofs.lemmas.Nat.Bits.{bit_at-trailing_zeros, bit_at_above, bit_at-zero}
use Rattle.std.proofs.Math.Nat.{div-lt_iff_lt-mul}
use Rattle.std.proofs.Math.Pow.{pow_mono}
use Rattle.std.specs.Int.{bit_at, int_gap, trailing_zeros, leading_zeros}
use Rattle.std.specs.Int.Count.{leading_of_zero}
use Rattle.fixed_math.proofs.Signed.{int_gap_is}
use Rattle.rc_base.specs.Drawing.Cover.{is_inside}
use Rattle.rc_base.specs.declared.window.WindowVertex.{WindowVertex}
use Rattle.raster.specs.Lanes.{AreCoveredBits}
use Rattle.raster.specs.Spans.{IsEmptyRow, IsRowSpan}
use Rattle.raster.proofs.Convex.{inside_along}
use Rattle.raster.proofs.KeptColumns.{in_true, in_low, in_high}

is_set : (n : ℕ) (t : Bool) → n ≡ 1 → n ≡ cond t 1 0 → t ≡ true
is_set n true o e = refl
is_set n false o e = absurd (omega arith)

is_clear : (n : ℕ) (t : Bool) → n ≡ 0 → n ≡ cond t 1 0 → t ≡ false
is_clear n true o e = absurd (omega arith)
is_clear n false o e = refl

-- the highest bit
top_bit : (n j : ℕ) → 2 ^ j ≤ n → n < 2 ^ suc j → bit_at n j ≡ 1
top_bit n j h k =
    let p : 0 < 2 ^ j = pow_mono {i = 0} {j = j} (omega arith) in
    let twice : n < 2 * 2 ^ j = omega (arith, k, pow-suc 2 j) in
    let most : n / 2 ^ j < 2 = (div-lt_iff_lt-mul p).1 twice in
    let least : 0 < n / 2 ^ j = over (n / 2 ^ j) (λ z. (div-lt_iff_lt-mul p).0 (omega (arith, z))) in
    let one : n / 2 ^ j ≡ 1 = omega (arith, most, least) in
    ap (λ q. q % 2) one
  where
    over : (q : ℕ) → (q ≡ 0 → n < 1 * 2 ^ j) → 0 < q
    over zero f = absurd (let g = f refl in omega (arith, g, h))
    over (suc q) f = omega arith

low_place : (n j : ℕ) → 2 ^ j ≤ n → n < 2 ^ 8 → j < 8
low_place n j h k = by_lt_z (pos j) (pos 8) (λ m. omega (arith, ints)) (λ m. let g : 2 ^ 8 ≤ 2 ^ j = pow_mono {i = 8} {j = j} (omega (arith, ints)) in absurd (omega (arith, g)))

-- the columns from the first bit that is set to the last
pub bits_exact : (v : List WindowVertex) (x0 y : ℤ) (bits w first end : ℕ) → AreCoveredBits v x0 y bits → w ≤ 8
    → first ≡ min (trailing_zeros w64 bits) w → end ≡ min (64 - leading_zeros w64 bits) w
    → (x : ℤ) → x0 ≤ℤ x → x <ℤ (x0 +ℤ pos w) → is_inside v x y ≡ (int_le (x0 +ℤ pos first) x && int_lt x (x0 +ℤ pos end))
bits_exact v x0 y zero w first end b few ef ee x l r =
    let g = int_gap_is x0 x in
    let k = int_gap x0 x in
    let e : x0 +ℤ pos k ≡ x = omega (arith, ints, g) in
    let s : k < 8 = omega (arith, ints, g) in
    let none : is_inside v (x0 +ℤ pos k) y ≡ false = is_clear (bit_at 0 k) _ (bit_at-zero k) (b.each k s) in
    let z = leading_of_zero 64 in
    let n : end ≡ 0 = omega (arith, ee, z) in
    ap (λ p. is_inside v p y) (sym e) ∙ none ∙ sym (in_high (x0 +ℤ pos first) (x0 +ℤ pos end) x (omega (arith, ints, n)))
bits_exact v x0 y (suc m) w first end b few ef ee x l r =
    let bits : ℕ = suc m in
    let g = int_gap_is x0 x in
    let k = int_gap x0 x in
    let e : x0 +ℤ pos k ≡ x = omega (arith, ints, g) in
    let s : k < 8 = omega (arith, ints, g) in
    let kw : k < w = omega (arith, ints, g) in
    let back = ap (λ p. is_inside v p y) (sym e) in
    let fits : bits < 2 ^ 64 = let f = b.eight in omega (arith, f) in
    let low = bit_at-trailing_zeros w64 bits (omega arith) fits in
    let high = leading_top 64 bits (omega arith) fits in
    let t = trailing_zeros w64 bits in
    let j = high.0 in
    let last : 64 - leading_zeros w64 bits ≡ suc j = omega (arith, high.1) in
    let j8 : j < 8 = low_place bits j high.2 b.eight in
    by_lt_z x (x0 +ℤ pos t)
    (λ a. let kt : k < t = omega (arith, ints, e, a) in
    back ∙ is_clear (bit_at bits k) _ (low.2 k kt) (b.each k s) ∙ sym (in_low (x0 +ℤ pos first) (x0 +ℤ pos end) x (omega (arith, ints, e, ef, kt, kw))))
    (λ a. by_lt_z x (x0 +ℤ pos (suc j))
    (λ c. let t8 : t < 8 = omega (arith, ints, e, a, s) in
    let one = is_set (bit_at bits t) _ low.1 (b.each t t8) in
    let two = is_set (bit_at bits j) _ (top_bit bits j high.2 high.3) (b.each j j8) in
    inside_along v (x0 +ℤ pos t) x (x0 +ℤ pos j) y a (omega (arith, ints, c)) one two
    ∙ sym (in_true (x0 +ℤ pos first) (x0 +ℤ pos end) x (omega (arith, ints, a, ef)) (omega (arith, ints, e, c, ee, last, kw))))
    (λ c. let kj : suc j ≤ k = omega (arith, ints, e, c) in
    back ∙ is_clear (bit_at bits k) _ (bit_at_above bits (suc j) k high.3 kj) (b.each k s)
    ∙ sym (in_high (x0 +ℤ pos first) (x0 +ℤ pos end) x (omega (arith, ints, c, ee, last)))))

pub exact_empty : (v : List WindowVertex) (y x0 x1 a b : ℤ) → ((x : ℤ) → x0 ≤ℤ x → x <ℤ x1 → is_inside v x y ≡ (int_le a x && int_lt x b)) → b ≤ℤ a → IsEmptyRow v y x0 x1
exact_empty v y x0 x1 a b f h x l r = f x l r ∙ by_lt_z x a (λ m. in_low a b x m) (λ m. in_high a b x (omega (arith, ints, h, m)))

pub exact_span : (v : List WindowVertex) (y x0 x1 a b : ℤ) → ((x : ℤ) → x0 ≤ℤ x → x <ℤ x1 → is_inside v x y ≡ (int_le a x && int_lt x b))
    → x0 ≤ℤ a → a <ℤ b → b ≤ℤ x1 → IsRowSpan v y x0 x1 (record { y = y; x0 = a; x1 = b })
exact_span v y x0 x1 a b f l s h = record {
  row = refl;
  low = l;
  some = s;
  high = h;
  exact = f;
}

-- no bit is set, or the columns are a span
between : (v : List WindowVertex) (x0 x1 y : ℤ) (bits w first end : ℕ) (a b : ℤ) → AreCoveredBits v x0 y bits → x1 ≡ x0 +ℤ pos w → x1 ≤ℤ (x0 +ℤ pos 8)
    → first ≡ min (trailing_zeros w64 bits) w → end ≡ min (64 - leading_zeros w64 bits) w → a ≡ x0 +ℤ pos first → b ≡ x0 +ℤ pos end
    → (x : ℤ) → x0 ≤ℤ x → x <ℤ x1 → is_inside v x y ≡ (int_le a x && int_lt x b)
between v x0 x1 y bits w first end a b h ew few ef ee ea eb x l r =
    bits_exact v x0 y bits w first end h (omega (arith, ints, ew, few)) ef ee x l (omega (arith, ints, r, ew)) ∙ (λ i. int_le (sym ea i) x && int_lt x (sym eb i))

pub bits_empty : (v : List WindowVertex) (x0 x1 y : ℤ) (bits w first end : ℕ) (a b : ℤ) → AreCoveredBits v x0 y bits → x1 ≡ x0 +ℤ pos w → x1 ≤ℤ (x0 +ℤ pos 8)
    → first ≡ min (trailing_zeros w64 bits) w → end ≡ min (64 - leading_zeros w64 bits) w → a ≡ x0 +ℤ pos first → b ≡ x0 +ℤ pos end
    → b ≤ℤ a → IsEmptyRow v y x0 x1
bits_empty v x0 x1 y bits w first end a b h ew few ef ee ea eb o = exact_empty v y x0 x1 a b (between v x0 x1 y bits w first end a b h ew few ef ee ea eb) o

pub bits_span : (v : List WindowVertex) (x0 x1 y : ℤ) (bits w first end : ℕ) (a b : ℤ) → AreCoveredBits v x0 y bits → x1 ≡ x0 +ℤ pos w → x1 ≤ℤ (x0 +ℤ pos 8)
    → first ≡ min (trailing_zeros w64 bits) w → end ≡ min (64 - leading_zeros w64 bits) w → a ≡ x0 +ℤ pos first → b ≡ x0 +ℤ pos end
    → a <ℤ b → IsRowSpan v y x0 x1 (record { y = y; x0 = a; x1 = b })
bits_span v x0 x1 y bits w first end a b h ew few ef ee ea eb o =
    exact_span v y x0 x1 a b (between v x0 x1 y bits w first end a b h ew few ef ee ea eb) (omega (arith, ints, ea)) o (omega (arith, ints, eb, ee, ew))

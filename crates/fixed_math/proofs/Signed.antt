-- Signed numbers for `omega`, which reads z as `up z - down z`: quotients with the floor, products of sums, and bounds of products.
use Rattle.std.proofs.Common.{◌*ℤ◌, ◌+ℤ◌, ◌-ℤ◌, neg_ℤ, ◌≡◌, ℕ, ◌+◌, ◌-◌, ◌*◌, ◌^◌, ◌<◌, ◌≤◌, subst, ◌∙◌, ap, arith, List, ℤ, pos, negsuc, FitsSigned, ◌<ℤ◌, ◌≤ℤ◌, unsigned_abs, mul-le-mul}
use Rattle.std.proofs.lemmas.Int.{ints, by_lt_z, unsigned_abs-mul}
use Rattle.std.specs.Int.{Width, int_div_euclid, int_gap}
use borrow.Author.Differences.{up, down, same_in, same_out, le_out, lt_out, at_most_in, below_in, sum_is_lem, neg_is, product_is}
use mir.Val.{hbits}
use lib.IntN.{*ℤ_comm}
use mir.Syntax.{w32}
use Rattle.rc_base.specs.Numbers.{Within, floor_quotient, fixed_one}
use Rattle.fixed_math.specs.Bounds.{AllWithin}
pub use Rattle.rc_base.proofs.Signed.{sum_times, mul_mono, times_assoc}

-- the quotient q that rounds down has k * q ≤ a < k * q + k
pub floor-parts : (a : ℤ) (k : ℕ) → 0 < k → (up (int_div_euclid a (pos k)) * k + down a ≤ down (int_div_euclid a (pos k)) * k + up a) × (down (int_div_euclid a (pos k)) * k + up a < up (int_div_euclid a (pos k)) * k + down a + k)
floor-parts (pos a) k h = omega arith
floor-parts (negsuc a) k h = omega arith

pub floor_at_most : (a d : ℤ) → pos 0 <ℤ d → (int_div_euclid a d *ℤ d) ≤ℤ a
floor_at_most a (pos k) h = omega (arith, ints, floor-parts a k (omega (arith, ints)))
floor_at_most a (negsuc k) h = absurd (omega (arith, ints))

pub floor_greatest : (a d : ℤ) → pos 0 <ℤ d → a <ℤ (int_div_euclid a d *ℤ d +ℤ d)
floor_greatest a (pos k) h = omega (arith, ints, floor-parts a k (omega (arith, ints)))
floor_greatest a (negsuc k) h = absurd (omega (arith, ints))

pub times_sum : (a b c : ℤ) → c *ℤ (a +ℤ b) ≡ c *ℤ a +ℤ c *ℤ b
times_sum a b c =
    let s = sum_is_lem a b in
    let p = ap (λ x. up c * x) s in
    let q = ap (λ x. down c * x) s in
    omega (arith, same_in, sum_is_lem, product_is)

pub neg_times : (a x : ℤ) → neg_ℤ a *ℤ x ≡ neg_ℤ (a *ℤ x)
neg_times a x =
    let n = neg_is a in
    let p = ap (λ k. k * up x) n.0 in
    let q = ap (λ k. k * down x) n.0 in
    let r = ap (λ k. k * up x) n.1 in
    let s = ap (λ k. k * down x) n.1 in
    omega (arith, same_in, neg_is, product_is)

-- to multiply by a number that is not positive turns it round
pub mul_anti : (a x y : ℤ) → a ≤ℤ pos 0 → x ≤ℤ y → (a *ℤ y) ≤ℤ (a *ℤ x)
mul_anti a x y h k =
    let n : pos 0 ≤ℤ neg_ℤ a = omega (arith, ints) in
    let m : (neg_ℤ a *ℤ x) ≤ℤ (neg_ℤ a *ℤ y) = mul_mono (neg_ℤ a) x y n k in
    omega (arith, le_out, at_most_in, same_out, neg_is, neg_times a x, neg_times a y)

-- the size of a sum and of a product, from the sizes of the parts
pub product_bound : (a b : ℤ) (m n : ℕ) → unsigned_abs a ≤ m → unsigned_abs b ≤ n → unsigned_abs (a *ℤ b) ≤ m * n
product_bound a b m n h k = rw (unsigned_abs-mul a b) (mul-le-mul h k)

-- a value from -m to m, and its absolute value
pub abs_from_within : (z : ℤ) (m : ℕ) → neg_ℤ (pos m) ≤ℤ z → z ≤ℤ pos m → unsigned_abs z ≤ m
abs_from_within z m h k = omega (arith, ints)

pub within_low : (z : ℤ) (m : ℕ) → unsigned_abs z ≤ m → neg_ℤ (pos m) ≤ℤ z
within_low z m h = omega (arith, ints)

pub within_high : (z : ℤ) (m : ℕ) → unsigned_abs z ≤ m → z ≤ℤ pos m
within_high z m h = omega (arith, ints)

pub abs_from_fits : (w : Width) (z : ℤ) → FitsSigned w z → unsigned_abs z ≤ 2 ^ hbits w
abs_from_fits w z f = omega (arith, ints)

-- a matrix entry times a vector entry
pub term_within : (a b : ℤ) → FitsSigned w32 a → Within (2 ^ 64) b → Within (2 ^ 95) (a *ℤ b)
term_within a b f h =
    let p = product_bound a b (2 ^ 31) (2 ^ 64) (abs_from_fits w32 a f) (abs_from_within b (2 ^ 64) h.0 h.1) in
    (within_low (a *ℤ b) (2 ^ 95) p, within_high (a *ℤ b) (2 ^ 95) p)

pub product_within : (a b : ℤ) (m n : ℕ) → Within m a → Within n b → Within (m * n) (a *ℤ b)
product_within a b m n h k =
    let p = product_bound a b m n (abs_from_within a m h.0 h.1) (abs_from_within b n k.0 k.1) in
    (within_low (a *ℤ b) (m * n) p, within_high (a *ℤ b) (m * n) p)

-- how far b is above a, as `omega` reads it
pub int_gap_is : (a b : ℤ) → int_gap a b ≡ (up b + down a) - (up a + down b)
int_gap_is (pos a) (pos b) = omega arith
int_gap_is (pos a) (negsuc b) = omega arith
int_gap_is (negsuc a) (pos b) = omega arith
int_gap_is (negsuc a) (negsuc b) = omega arith

pub times_neg : (a d : ℤ) → a *ℤ neg_ℤ d ≡ neg_ℤ (a *ℤ d)
times_neg a d = *ℤ_comm a (neg_ℤ d) ∙ neg_times d a ∙ ap neg_ℤ (*ℤ_comm d a)

-- a product of differences, multiplied out
pub diff_times : (a b c d : ℤ) → (a -ℤ b) *ℤ (c -ℤ d) ≡ (a *ℤ c +ℤ b *ℤ d) -ℤ (a *ℤ d +ℤ b *ℤ c)
diff_times a b c d =
    let e1 = sum_times a (neg_ℤ b) (c -ℤ d) in
    let e2 = times_sum c (neg_ℤ d) a in
    let e3 = times_sum c (neg_ℤ d) (neg_ℤ b) in
    let e4 = times_neg a d in
    let e5 = neg_times b c in
    let e6 : neg_ℤ b *ℤ neg_ℤ d ≡ b *ℤ d = neg_times b (neg_ℤ d) ∙ ap neg_ℤ (times_neg b d) ∙ omega (arith, same_in, neg_is) in
    omega (arith, same_in, same_out, sum_is_lem, neg_is)

-- lo ≤ n / d gives lo ≤ the quotient with the floor, and n / d ≤ hi gives that it is at most hi
pub floor_from_low : (n d lo : ℤ) → pos 0 <ℤ d → (d *ℤ lo) ≤ℤ n → lo ≤ℤ int_div_euclid n d
floor_from_low n d lo h k =
    let q = int_div_euclid n d in
    let g = floor_greatest n d h in
    let c = *ℤ_comm d q in
    by_lt_z q lo
    (λ l. let d0 : pos 0 ≤ℤ d = omega (arith, ints) in
    let m : (d *ℤ (q +ℤ pos 1)) ≤ℤ (d *ℤ lo) = mul_mono d (q +ℤ pos 1) lo d0 (omega (arith, ints)) in
    let e = times_sum q (pos 1) d in
    let f : d *ℤ pos 1 ≡ d = omega (arith, ints) in
    absurd (omega (arith, le_out, lt_out, same_out, sum_is_lem, m, e, f, g, c)))
    (λ l. l)

pub floor_to_high : (n d hi : ℤ) → pos 0 <ℤ d → n ≤ℤ (d *ℤ hi) → int_div_euclid n d ≤ℤ hi
floor_to_high n d hi h k =
    let q = int_div_euclid n d in
    let g = floor_at_most n d h in
    let c = *ℤ_comm d q in
    by_lt_z hi q
    (λ l. let d0 : pos 0 ≤ℤ d = omega (arith, ints) in
    let m : (d *ℤ (hi +ℤ pos 1)) ≤ℤ (d *ℤ q) = mul_mono d (hi +ℤ pos 1) q d0 (omega (arith, ints)) in
    let e = times_sum hi (pos 1) d in
    let f : d *ℤ pos 1 ≡ d = omega (arith, ints) in
    absurd (omega (arith, le_out, lt_out, same_out, sum_is_lem, m, e, f, g, c, h)))
    (λ l. l)

pub fits_to_within : (w : Width) (z : ℤ) → FitsSigned w z → Within (2 ^ hbits w) z
fits_to_within w z f = let m = abs_from_fits w z f in (within_low z (2 ^ hbits w) m, within_high z (2 ^ hbits w) m)

-- a type's two ends
pub fits_low : (w : Width) (z : ℤ) → FitsSigned w z → (neg_ℤ (pos (2 ^ hbits w)) ≤ℤ z) × (z ≤ℤ (pos (2 ^ hbits w) -ℤ pos 1))
fits_low w z f = (omega (arith, ints), omega (arith, ints))

pub fits_from_ends : (w : Width) (z : ℤ) → neg_ℤ (pos (2 ^ hbits w)) ≤ℤ z → z ≤ℤ (pos (2 ^ hbits w) -ℤ pos 1) → FitsSigned w z
fits_from_ends w z h k = omega (arith, ints)

add4_within : (a b c d : ℤ) (n : ℕ) → Within n a → Within n b → Within n c → Within n d → Within (4 * n) (a +ℤ b +ℤ c +ℤ d)
add4_within a b c d n h i j k = let p = h.0 in let q = h.1 in let r = i.0 in let s = i.1 in let t = j.0 in let u = j.1 in let v = k.0 in let w = k.1 in (omega (arith, ints), omega (arith, ints))

-- the quotient by one of 16.16 fixed point
pub shrunk_within : (z : ℤ) (n : ℕ) → Within (2 ^ 33 * n) z → Within (2 ^ 17 * n) (floor_quotient z (pos fixed_one))
shrunk_within z n h =
    let l = h.0 in let u = h.1 in (
      floor_from_low z (pos fixed_one) (neg_ℤ (pos (2 ^ 17 * n))) (omega (arith, ints)) (omega (arith, ints)),
      floor_to_high z (pos fixed_one) (pos (2 ^ 17 * n)) (omega (arith, ints)) (omega (arith, ints)),
    )

pub row_within : (a b c d : ℤ) (n : ℕ) → Within (2 ^ 31 * n) a → Within (2 ^ 31 * n) b → Within (2 ^ 31 * n) c → Within (2 ^ 31 * n) d → Within (2 ^ 17 * n) (floor_quotient (a +ℤ b +ℤ c +ℤ d) (pos fixed_one))
row_within a b c d n h i j k =
    let s = add4_within a b c d (2 ^ 31 * n) h i j k in
    let e : 4 * (2 ^ 31 * n) ≡ 2 ^ 33 * n = omega arith in
    shrunk_within (a +ℤ b +ℤ c +ℤ d) n (subst (λ (m : ℕ). Within m (a +ℤ b +ℤ c +ℤ d)) e s)

pub within_more : (z : ℤ) (m n : ℕ) → m ≤ n → Within m z → Within n z
within_more z m n h k = let l = k.0 in let u = k.1 in (omega (arith, ints), omega (arith, ints))

pub all_within_more : (v : List ℤ) (m n : ℕ) → m ≤ n → AllWithin m v → AllWithin n v
all_within_more v m n h k = (within_more _ m n h k.0, within_more _ m n h k.1, within_more _ m n h k.2, within_more _ m n h k.3)

grows : (d b : ℕ) → 0 < d → b ≤ d * b
grows d b h = grind arith

-- a quotient with the floor is no larger than what was divided
pub floor_within : (z d : ℤ) (b : ℕ) → pos 0 <ℤ d → Within b z → Within b (int_div_euclid z d)
floor_within z (pos k) b h w =
    let g = grows k b (omega (arith, ints)) in
    let e = times_neg (pos k) (pos b) in
    let l = w.0 in let u = w.1 in
    (floor_from_low z (pos k) (neg_ℤ (pos b)) h (omega (arith, ints)), floor_to_high z (pos k) (pos b) h (omega (arith, ints)))
floor_within z (negsuc k) b h w = absurd (omega (arith, ints))

pub positive_times : (a b : ℤ) → pos 0 <ℤ a → pos 0 <ℤ b → pos 0 <ℤ (a *ℤ b)
positive_times a b h k =
    let p : pos 0 ≤ℤ a = omega (arith, ints) in
    let q : pos 1 ≤ℤ b = omega (arith, ints) in
    let m = mul_mono a (pos 1) b p q in
    let e : a *ℤ pos 1 ≡ a = omega (arith, ints) in
    omega (arith, le_out, lt_out, at_most_in, below_in, same_out, m, e, h)

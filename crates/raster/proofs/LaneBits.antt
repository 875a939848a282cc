-- From lanes to bits, and from bits to eight pixels.
use Rattle.std.proofs.Common.{◌≡◌, ◌∙◌, ℕ, zero, suc, ◌<◌, ◌^◌, ◌/◌, ◌%◌, ◌+ℤ◌, ◌-ℤ◌, ◌*ℤ◌, neg_ℤ, ℤ, pos, Bool, true, false, ◌&&◌, cond, arith, refl, sym, subst, ap, int_le, List, [], ◌∷◌, map, get_or, length, to_z, of_z, to_z-of_z, w64, FitsSigned, bit_and, min}
use Rattle.std.proofs.lemmas.Int.{ints}
use Rattle.std.proofs.lemmas.Simd.{bit_mask_l, mask_l-lt, tops_compared, mask_l-mod}
use Rattle.std.proofs.lemmas.Nat.{and_le_l}
use Rattle.std.proofs.lemmas.Nat.Bits.{bit_at_and}
use Rattle.std.specs.Int.{bit_at}
use Rattle.std.specs.Prelude.{replicate}
use Rattle.std.specs.Simd.Lanes.{mask_l, Each1, Each2, zip2}
use lib.Lanes.{top}
use borrow.Author.Gap.{read_sfits}
use borrow.Rule.Simd.Lanes.{act2, Asks2}
use borrow.Table.Row.{s_int}
use mir.Syntax.{mask, le, add, signed}
use lib.IntN.{*ℤ_comm}
use Rattle.fixed_math.proofs.Signed.{product_within, times_sum, times_assoc, times_neg}
use Rattle.rc_base.specs.Numbers.{Within}
use Rattle.rc_base.specs.Drawing.Cover.{edge_value, passes, keeps_line, is_within_edge, is_inside, centre, corner, IsInBounds}
use Rattle.rc_base.specs.declared.window.WindowVertex.{WindowVertex}
use Rattle.raster.specs.Lanes.{kept_value, ramp_of, edge_lanes, AreCoveredBits}

-- ---- lanes that fit their type

pub fits_all : (xs : List ℤ) → Each1 (λ e. FitsSigned w64 e) (map (to_z w64) (map (of_z w64) xs))
fits_all [] = tt
fits_all (x ∷ xs) = (read_sfits w64 (of_z w64 x), fits_all xs)

pub back_all : (xs : List ℤ) → Each1 (λ e. FitsSigned w64 e) xs → map (to_z w64) (map (of_z w64) xs) ≡ xs
back_all [] f = refl
back_all (x ∷ xs) f = λ i. to_z-of_z f.0 i ∷ back_all xs f.1 i

small_count : (k : ℕ) → k < 8 → Within 8 (pos k)
small_count k h = (omega (arith, ints), omega (arith, ints))

lane_small : (first step : ℤ) (k : ℕ) → k < 8 → Within (2 ^ 61) first → Within (2 ^ 40) step → Within (2 ^ 62) (first +ℤ pos k *ℤ step)
lane_small first step k h a b =
    let t = product_within (pos k) step 8 (2 ^ 40) (small_count k h) b in
    let l = t.0 in let u = t.1 in let m = a.0 in let n = a.1 in (omega (arith, ints), omega (arith, ints))

pub ramp_small : (first step : ℤ) → Within (2 ^ 61) first → Within (2 ^ 40) step → Each1 (λ e. Within (2 ^ 62) e) (ramp_of first step)
ramp_small first step a b =
    let f = λ (k : ℕ) (h : k < 8). lane_small first step k h a b in
    (f 0 (omega arith), (f 1 (omega arith), (f 2 (omega arith), (f 3 (omega arith), (f 4 (omega arith), (f 5 (omega arith), (f 6 (omega arith), (f 7 (omega arith), tt))))))))

pub fits_small : (xs : List ℤ) → Each1 (λ e. Within (2 ^ 62) e) xs → Each1 (λ e. FitsSigned w64 e) xs
fits_small [] f = tt
fits_small (x ∷ xs) f = (let l = f.0.0 in let u = f.0.1 in omega (arith, ints), fits_small xs f.1)

-- ---- all lanes raised alike

raised_fits : (e up : ℤ) → Within (2 ^ 62) e → Within (2 ^ 60) up → FitsSigned w64 (e +ℤ up)
raised_fits e up a b = let l = a.0 in let u = a.1 in let m = b.0 in let n = b.1 in omega (arith, ints)

pub raises : (v : List ℤ) (up : ℤ) → Each1 (λ e. Within (2 ^ 62) e) v → Within (2 ^ 60) up → FitsSigned w64 up
    → Each2 (Asks2 (add signed) (s_int w64) (s_int w64)) (map (of_z w64) v) (replicate (length v) (of_z w64 up))
raises [] up f b g = tt
raises (e ∷ v) up f b g =
    let h : FitsSigned w64 e = let l = f.0.0 in let u = f.0.1 in omega (arith, ints) in
    (rw (to_z-of_z h, to_z-of_z g) (raised_fits e up f.0 b), raises v up f.1 b g)

pub raised_is : (v : List ℤ) (up : ℤ) → Each1 (λ e. Within (2 ^ 62) e) v → Within (2 ^ 60) up → FitsSigned w64 up
    → map (to_z w64) (zip2 (act2 (add signed) (s_int w64) (s_int w64) (s_int w64)) (map (of_z w64) v) (replicate (length v) (of_z w64 up))) ≡ map (λ e. e +ℤ up) v
raised_is [] up f b g = refl
raised_is (e ∷ v) up f b g =
    let h : FitsSigned w64 e = let l = f.0.0 in let u = f.0.1 in omega (arith, ints) in
    let s : to_z w64 (of_z w64 (to_z w64 (of_z w64 e) +ℤ to_z w64 (of_z w64 up))) ≡ e +ℤ up = rw (to_z-of_z h, to_z-of_z g) (to_z-of_z (raised_fits e up f.0 b)) in
    λ i. s i ∷ raised_is v up f.1 b g i

-- ---- the bits of a comparison with 0

against : (b : ℤ) (v : List ℤ) → FitsSigned w64 b → Each1 (λ e. FitsSigned w64 e) v
    → zip2 (λ x y. int_le (to_z w64 x) (to_z w64 y)) (replicate (length v) (of_z w64 b)) (map (of_z w64) v) ≡ map (λ e. int_le b e) v
against b [] f g = refl
against b (e ∷ v) f g = λ i. int_le (to_z-of_z f i) (to_z-of_z g.0 i) ∷ against b v f g.1 i

long : (b : ℤ) (v : List ℤ) → length (map (λ e. int_le b e) v) ≡ length v
long b [] = refl
long b (e ∷ v) = ap suc (long b v)

pub mask_is : (b : ℤ) (v : List ℤ) → length v ≡ 8 → FitsSigned w64 b → Each1 (λ e. FitsSigned w64 e) v
    → mask_l (map (top 63) (zip2 (act2 (mask (le signed)) (s_int w64) (s_int w64) (s_int w64)) (replicate 8 (of_z w64 b)) (map (of_z w64) v))) % 2 ^ 64 ≡ mask_l (map (λ e. int_le b e) v)
mask_is b v l f g =
    let t = tops_compared w64 (λ x y. int_le (to_z w64 x) (to_z w64 y)) (replicate 8 (of_z w64 b)) (map (of_z w64) v) in
    let s : zip2 (λ x y. int_le (to_z w64 x) (to_z w64 y)) (replicate 8 (of_z w64 b)) (map (of_z w64) v) ≡ map (λ e. int_le b e) v =
    ap (λ n. zip2 (λ x y. int_le (to_z w64 x) (to_z w64 y)) (replicate n (of_z w64 b)) (map (of_z w64) v)) (sym l) ∙ against b v f g in
    ap (λ ms. mask_l ms % 2 ^ 64) (t ∙ s) ∙ mask_l-mod (map (λ e. int_le b e) v) 64 (omega (arith, long b v))

-- ---- an edge's lanes, some rows on

-- an edge's value at one point of a window, bounded
pub edge_small : (a b : WindowVertex) (px py : ℤ) → IsInBounds a → IsInBounds b → Within (2 ^ 36) px → Within (2 ^ 36) py → Within (2 ^ 60) (edge_value a b px py)
edge_small a b px py f g h k =
    let dx : Within (2 ^ 21) (b.x -ℤ a.x) = (let l = f.0.1 in let m = g.0.0 in omega (arith, ints), let l = f.0.0 in let m = g.0.1 in omega (arith, ints)) in
    let dy : Within (2 ^ 21) (b.y -ℤ a.y) = (let l = f.1.1 in let m = g.1.0 in omega (arith, ints), let l = f.1.0 in let m = g.1.1 in omega (arith, ints)) in
    let ox : Within (2 ^ 37) (px -ℤ a.x) = (let l = f.0.1 in let m = h.0 in omega (arith, ints), let l = f.0.0 in let m = h.1 in omega (arith, ints)) in
    let oy : Within (2 ^ 37) (py -ℤ a.y) = (let l = f.1.1 in let m = k.0 in omega (arith, ints), let l = f.1.0 in let m = k.1 in omega (arith, ints)) in
    let p = product_within (b.x -ℤ a.x) (py -ℤ a.y) (2 ^ 21) (2 ^ 37) dx oy in
    let q = product_within (b.y -ℤ a.y) (px -ℤ a.x) (2 ^ 21) (2 ^ 37) dy ox in
    let p0 = p.0 in let p1 = p.1 in let q0 = q.0 in let q1 = q.1 in (omega (arith, ints), omega (arith, ints))

pub kept_small : (e : ℤ) (k : Bool) → Within (2 ^ 60) e → Within (2 ^ 61) (kept_value e k)
kept_small e true h = let l = h.0 in let u = h.1 in (omega (arith, ints), omega (arith, ints))
kept_small e false h = let l = h.0 in let u = h.1 in (omega (arith, ints), omega (arith, ints))

-- from one pixel to another, of a row and of a column
moved : (a b : WindowVertex) (x y0 y : ℤ) (k : ℕ)
    → edge_value a b (centre (x +ℤ pos k)) (centre y) ≡ (edge_value a b (centre x) (centre y0) +ℤ pos k *ℤ neg_ℤ (pos 16 *ℤ (b.y -ℤ a.y))) +ℤ (b.x -ℤ a.x) *ℤ (pos 16 *ℤ (y -ℤ y0))
moved a b x y0 y k =
    let e : (centre y -ℤ a.y) ≡ (centre y0 -ℤ a.y) +ℤ pos 16 *ℤ (y -ℤ y0) = omega (arith, ints) in
    let f = ap (λ z. (b.x -ℤ a.x) *ℤ z) e ∙ times_sum (centre y0 -ℤ a.y) (pos 16 *ℤ (y -ℤ y0)) (b.x -ℤ a.x) in
    let g : (centre (x +ℤ pos k) -ℤ a.x) ≡ (centre x -ℤ a.x) +ℤ pos 16 *ℤ pos k = omega (arith, ints) in
    let h = ap (λ z. (b.y -ℤ a.y) *ℤ z) g ∙ times_sum (centre x -ℤ a.x) (pos 16 *ℤ pos k) (b.y -ℤ a.y) in
    let m : (b.y -ℤ a.y) *ℤ (pos 16 *ℤ pos k) ≡ neg_ℤ (pos k *ℤ neg_ℤ (pos 16 *ℤ (b.y -ℤ a.y))) = turned (b.y -ℤ a.y) (pos k) in
    omega (arith, ints, f, h, m)
  where
    turned : (d k : ℤ) → d *ℤ (pos 16 *ℤ k) ≡ neg_ℤ (k *ℤ neg_ℤ (pos 16 *ℤ d))
    turned d k =
        let a = sym (times_assoc d (pos 16) k) in
        let b = ap (λ z. z *ℤ k) (*ℤ_comm d (pos 16)) in
        let c = *ℤ_comm (pos 16 *ℤ d) k in
        let n = times_neg k (pos 16 *ℤ d) in
        omega (arith, ints, a, b, c, n)

pub kept_sum : (e d : ℤ) (k : Bool) → kept_value (e +ℤ d) k ≡ kept_value e k +ℤ d
kept_sum e d true = refl
kept_sum e d false = omega (arith, ints)

passes_is : (e : ℤ) (k : Bool) → passes e k ≡ int_le (pos 0) (kept_value e k)
passes_is e true = grind (arith, ints)
passes_is e false = grind (arith, ints)

pub within_is : (a b : WindowVertex) (x y : ℤ) → is_within_edge a b x y ≡ int_le (pos 0) (kept_value (edge_value a b x y) (keeps_line a b))
unfolding is_within_edge
within_is a b x y = passes_is (edge_value a b x y) (keeps_line a b)

ramp_at : (f : ℤ → Bool) (g : ℤ → ℤ) (first step : ℤ) (k : ℕ) → k < 8 → get_or (map f (map g (ramp_of first step))) k false ≡ f (g (first +ℤ pos k *ℤ step))
ramp_at f g first step zero h = refl
ramp_at f g first step (suc zero) h = refl
ramp_at f g first step (suc (suc zero)) h = refl
ramp_at f g first step (suc (suc (suc zero))) h = refl
ramp_at f g first step (suc (suc (suc (suc zero)))) h = refl
ramp_at f g first step (suc (suc (suc (suc (suc zero))))) h = refl
ramp_at f g first step (suc (suc (suc (suc (suc (suc zero)))))) h = refl
ramp_at f g first step (suc (suc (suc (suc (suc (suc (suc zero))))))) h = refl
ramp_at f g first step (suc (suc (suc (suc (suc (suc (suc (suc n)))))))) h = absurd (omega arith)

-- the bits of an edge's lanes, raised to row y
pub edge_bit : (a b : WindowVertex) (x y0 y up : ℤ) (bits k : ℕ) → k < 8 → up ≡ (b.x -ℤ a.x) *ℤ (pos 16 *ℤ (y -ℤ y0))
    → bits ≡ mask_l (map (λ e. int_le (pos 0) e) (map (λ e. e +ℤ up) (edge_lanes a b x y0)))
    → bit_at bits k ≡ cond (is_within_edge a b (centre (x +ℤ pos k)) (centre y)) 1 0
edge_bit a b x y0 y up bits k h eu e =
    let w = keeps_line a b in
    let at = edge_value a b (centre x) (centre y0) in
    let step = neg_ℤ (pos 16 *ℤ (b.y -ℤ a.y)) in
    let lane = ap (λ n. n / 2 ^ k % 2) e ∙ bit_mask_l (map (λ z. int_le (pos 0) z) (map (λ z. z +ℤ up) (edge_lanes a b x y0))) k
    ∙ ap (λ t. cond t 1 0) (ramp_at (λ z. int_le (pos 0) z) (λ z. z +ℤ up) (kept_value at w) step k h) in
    let value : (kept_value at w +ℤ pos k *ℤ step) +ℤ up ≡ kept_value (edge_value a b (centre (x +ℤ pos k)) (centre y)) w =
    (λ i. (kept_value at w +ℤ pos k *ℤ step) +ℤ eu i)
    ∙ ap (λ z. z +ℤ (b.x -ℤ a.x) *ℤ (pos 16 *ℤ (y -ℤ y0))) (sym (kept_sum at (pos k *ℤ step) w))
    ∙ sym (kept_sum (at +ℤ pos k *ℤ step) ((b.x -ℤ a.x) *ℤ (pos 16 *ℤ (y -ℤ y0))) w)
    ∙ ap (λ z. kept_value z w) (sym (moved a b x y0 y k)) in
    lane ∙ ap (λ z. cond (int_le (pos 0) z) 1 0) value ∙ ap (λ t. cond t 1 0) (sym (within_is a b (centre (x +ℤ pos k)) (centre y)))

pub eight_bits : (a b : WindowVertex) (x y0 up : ℤ) (bits : ℕ) → bits ≡ mask_l (map (λ e. int_le (pos 0) e) (map (λ e. e +ℤ up) (edge_lanes a b x y0))) → bits < 2 ^ 8
eight_bits a b x y0 up bits e = let l = mask_l-lt (map (λ z. int_le (pos 0) z) (map (λ z. z +ℤ up) (edge_lanes a b x y0))) in subst (λ n. n < 2 ^ 8) (sym e) l

min_and : (p q : Bool) → min (cond p 1 0) (cond q 1 0) ≡ cond (p && q) 1 0
min_and true true = refl
min_and true false = refl
min_and false true = refl
min_and false false = refl

both_bits : (m n k : ℕ) (p q : Bool) → bit_at m k ≡ cond p 1 0 → bit_at n k ≡ cond q 1 0 → bit_at (bit_and m n) k ≡ cond (p && q) 1 0
both_bits m n k p q e f = bit_at_and m n k ∙ (λ i. min (e i) (f i)) ∙ min_and p q

-- the bits of three edges
pub covered_bits : (v : List WindowVertex) (x y : ℤ) (l m n : ℕ) → l < 2 ^ 8
    → ((k : ℕ) → k < 8 → bit_at l k ≡ cond (is_within_edge (corner v 0) (corner v 1) (centre (x +ℤ pos k)) (centre y)) 1 0)
    → ((k : ℕ) → k < 8 → bit_at m k ≡ cond (is_within_edge (corner v 1) (corner v 2) (centre (x +ℤ pos k)) (centre y)) 1 0)
    → ((k : ℕ) → k < 8 → bit_at n k ≡ cond (is_within_edge (corner v 2) (corner v 0) (centre (x +ℤ pos k)) (centre y)) 1 0)
    → AreCoveredBits v x y (bit_and l (bit_and m n))
unfolding is_inside
covered_bits v x y l m n s e f g = record {
  eight = omega (arith, and_le_l l (bit_and m n), s);
  each = λ k h. both_bits l (bit_and m n) k _ _ (e k h) (both_bits m n k _ _ (f k h) (g k h));
}

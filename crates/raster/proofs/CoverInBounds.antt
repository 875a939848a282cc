-- A covered centre lies between the least and the greatest coordinates of the corners.
use Rattle.std.proofs.Common.{◌≡◌, ◌*ℤ◌, ◌+ℤ◌, ◌-ℤ◌, neg_ℤ, ℤ, pos, ◌<ℤ◌, ◌≤ℤ◌, arith, sym, ◌∙◌, ap, List, true}
use Rattle.std.proofs.lemmas.Int.{ints, by_lt_z, int_min_is, int_max_is}
use Rattle.std.proofs.Math.IntN.{*ℤ_comm}
use borrow.Author.Differences.{same_in, same_out, sum_is_lem, neg_is, le_out, lt_out, below_in}
use Rattle.fixed_math.proofs.Signed.{diff_times, times_sum, times_neg, neg_times, times_assoc, mul_mono, positive_times}
use Rattle.rc_base.specs.Drawing.Cover.{is_inside, triangle_area, corner, centre}
use Rattle.rc_base.specs.Drawing.Fragment.{weight}
use Rattle.raster.specs.Between.{CoverLiesInBounds}
use Rattle.std.specs.Int.{int_min, int_max}
use Rattle.raster.proofs.Average.{inside_weights}
use Rattle.rc_base.specs.declared.window.WindowVertex.{WindowVertex}

-- an edge's value as a cross product of the ways to its ends
cross : (ax ay bx by x y : ℤ) → (bx -ℤ ax) *ℤ (y -ℤ ay) -ℤ (by -ℤ ay) *ℤ (x -ℤ ax) ≡ (x -ℤ ax) *ℤ (y -ℤ by) -ℤ (x -ℤ bx) *ℤ (y -ℤ ay)
cross ax ay bx by x y =
    let e1 = diff_times bx ax y ay in
    let e2 = diff_times by ay x ax in
    let e3 = diff_times x ax y by in
    let e4 = diff_times x bx y ay in
    let c1 = *ℤ_comm by x in
    let c2 = *ℤ_comm ay x in
    let c3 = *ℤ_comm by ax in
    let c4 = *ℤ_comm ay ax in
    omega (arith, same_in, same_out, sum_is_lem, neg_is)

-- u * (v * w - s * t), multiplied out
times_cross : (u v w s t : ℤ) → u *ℤ (v *ℤ w -ℤ s *ℤ t) ≡ u *ℤ (v *ℤ w) -ℤ u *ℤ (s *ℤ t)
times_cross u v w s t = times_sum (v *ℤ w) (neg_ℤ (s *ℤ t)) u ∙ (let e = times_neg u (s *ℤ t) in omega (arith, same_in, same_out, sum_is_lem, neg_is))

swapped : (u v w : ℤ) → u *ℤ (v *ℤ w) ≡ v *ℤ (u *ℤ w)
swapped u v w = sym (times_assoc u v w) ∙ ap (λ z. z *ℤ w) (*ℤ_comm u v) ∙ times_assoc v u w

-- three cross products of three ways, weighed by the ways, cancel
cancel : (u0 u1 u2 v0 v1 v2 : ℤ) → u2 *ℤ (u0 *ℤ v1 -ℤ u1 *ℤ v0) +ℤ u0 *ℤ (u1 *ℤ v2 -ℤ u2 *ℤ v1) +ℤ u1 *ℤ (u2 *ℤ v0 -ℤ u0 *ℤ v2) ≡ pos 0
cancel u0 u1 u2 v0 v1 v2 =
    let a = times_cross u2 u0 v1 u1 v0 in
    let b = times_cross u0 u1 v2 u2 v1 in
    let c = times_cross u1 u2 v0 u0 v2 in
    let p = swapped u2 u0 v1 in
    let q = swapped u2 u1 v0 in
    let r = swapped u0 u1 v2 in
    omega (arith, same_in, same_out, sum_is_lem, neg_is)

-- three numbers that aren't negative, weighed by numbers above 0 to nothing, are nothing
all_zero : (u0 u1 u2 e0 e1 e2 : ℤ) → pos 0 <ℤ u0 → pos 0 <ℤ u1 → pos 0 <ℤ u2 → pos 0 ≤ℤ e0 → pos 0 ≤ℤ e1 → pos 0 ≤ℤ e2
    → u0 *ℤ e0 +ℤ u1 *ℤ e1 +ℤ u2 *ℤ e2 ≡ pos 0 → pos 0 <ℤ (e0 +ℤ e1 +ℤ e2) → ⊥
all_zero u0 u1 u2 e0 e1 e2 p0 p1 p2 h0 h1 h2 s a =
    let n0 = not_negative u0 e0 p0 h0 in
    let n1 = not_negative u1 e1 p1 h1 in
    let n2 = not_negative u2 e2 p2 h2 in
    by_lt_z (pos 0) e0
    (λ l. let m = positive_times u0 e0 p0 l in omega (arith, le_out, lt_out, same_out, sum_is_lem, m, n1, n2, s))
    (λ z0. by_lt_z (pos 0) e1
    (λ l. let m = positive_times u1 e1 p1 l in omega (arith, le_out, lt_out, same_out, sum_is_lem, m, n0, n2, s))
    (λ z1. by_lt_z (pos 0) e2
    (λ l. let m = positive_times u2 e2 p2 l in omega (arith, le_out, lt_out, same_out, sum_is_lem, m, n0, n1, s))
    (λ z2. omega (arith, le_out, lt_out, same_out, sum_is_lem, z0, z1, z2, a))))
  where
    not_negative : (u e : ℤ) → pos 0 <ℤ u → pos 0 ≤ℤ e → pos 0 ≤ℤ (u *ℤ e)
    not_negative u e p h =
        let l : pos 0 ≤ℤ u = omega (arith, ints) in
        let m = mul_mono u (pos 0) e l h in
        let z : u *ℤ pos 0 ≡ pos 0 = omega (arith, ints) in
        omega (arith, ints, m, z)

-- the same weighed by the other coordinates
turned : (a b c : ℤ) → a *ℤ (b *ℤ c) ≡ c *ℤ (b *ℤ a)
turned a b c = ap (λ z. a *ℤ z) (*ℤ_comm b c) ∙ swapped a c b ∙ ap (λ z. c *ℤ z) (*ℤ_comm a b)

cancel_too : (u0 u1 u2 v0 v1 v2 : ℤ) → v2 *ℤ (u0 *ℤ v1 -ℤ u1 *ℤ v0) +ℤ v0 *ℤ (u1 *ℤ v2 -ℤ u2 *ℤ v1) +ℤ v1 *ℤ (u2 *ℤ v0 -ℤ u0 *ℤ v2) ≡ pos 0
cancel_too u0 u1 u2 v0 v1 v2 =
    let a = times_cross v2 u0 v1 u1 v0 in
    let b = times_cross v0 u1 v2 u2 v1 in
    let c = times_cross v1 u2 v0 u0 v2 in
    let p = turned v2 u0 v1 in
    let q = turned v2 u1 v0 in
    let r = turned v0 u2 v1 in
    omega (arith, same_in, same_out, sum_is_lem, neg_is)

-- the same for three weights below 0
all_zero_too : (u0 u1 u2 e0 e1 e2 : ℤ) → u0 <ℤ pos 0 → u1 <ℤ pos 0 → u2 <ℤ pos 0 → pos 0 ≤ℤ e0 → pos 0 ≤ℤ e1 → pos 0 ≤ℤ e2
    → u0 *ℤ e0 +ℤ u1 *ℤ e1 +ℤ u2 *ℤ e2 ≡ pos 0 → pos 0 <ℤ (e0 +ℤ e1 +ℤ e2) → ⊥
all_zero_too u0 u1 u2 e0 e1 e2 p0 p1 p2 h0 h1 h2 s a =
    let n0 = neg_times u0 e0 in
    let n1 = neg_times u1 e1 in
    let n2 = neg_times u2 e2 in
    let t : neg_ℤ u0 *ℤ e0 +ℤ neg_ℤ u1 *ℤ e1 +ℤ neg_ℤ u2 *ℤ e2 ≡ pos 0 = omega (arith, same_in, same_out, sum_is_lem, neg_is, n0, n1, n2, s) in
    all_zero (neg_ℤ u0) (neg_ℤ u1) (neg_ℤ u2) e0 e1 e2 (above u0 p0) (above u1 p1) (above u2 p2) h0 h1 h2 t a
  where
    above : (z : ℤ) → z <ℤ pos 0 → pos 0 <ℤ neg_ℤ z
    above z h = omega (arith, ints)

-- the three ways from the corners to the centre, in one coordinate, weighed by the edges' values, cancel
pub record Balanced (u0 u1 u2 e0 e1 e2 : ℤ) : Type 0 where
  pub first : pos 0 ≤ℤ e0
  pub second : pos 0 ≤ℤ e1
  pub third : pos 0 ≤ℤ e2
  pub some : pos 0 <ℤ (e2 +ℤ e0 +ℤ e1)
  pub sum : u2 *ℤ e2 +ℤ u0 *ℤ e0 +ℤ u1 *ℤ e1 ≡ pos 0

balanced : (v : List WindowVertex) (x y : ℤ) → pos 0 <ℤ triangle_area v → is_inside v x y ≡ true
    → Balanced (centre x -ℤ (corner v 0).x) (centre x -ℤ (corner v 1).x) (centre x -ℤ (corner v 2).x) (weight v 0 (centre x) (centre y)) (weight v 1 (centre x) (centre y)) (weight v 2 (centre x) (centre y))
    × Balanced (centre y -ℤ (corner v 0).y) (centre y -ℤ (corner v 1).y) (centre y -ℤ (corner v 2).y) (weight v 0 (centre x) (centre y)) (weight v 1 (centre x) (centre y)) (weight v 2 (centre x) (centre y))
balanced v x y p i =
    let w = inside_weights v x y i in
    let a = corner v 0 in let b = corner v 1 in let c = corner v 2 in
    let px = centre x in let py = centre y in
    let u0 = px -ℤ a.x in let u1 = px -ℤ b.x in let u2 = px -ℤ c.x in
    let v0 = py -ℤ a.y in let v1 = py -ℤ b.y in let v2 = py -ℤ c.y in
    let e2 : weight v 2 px py ≡ u0 *ℤ v1 -ℤ u1 *ℤ v0 = cross a.x a.y b.x b.y px py in
    let e0 : weight v 0 px py ≡ u1 *ℤ v2 -ℤ u2 *ℤ v1 = cross b.x b.y c.x c.y px py in
    let e1 : weight v 1 px py ≡ u2 *ℤ v0 -ℤ u0 *ℤ v2 = cross c.x c.y a.x a.y px py in
    let s : u2 *ℤ weight v 2 px py +ℤ u0 *ℤ weight v 0 px py +ℤ u1 *ℤ weight v 1 px py ≡ pos 0 = (λ j. u2 *ℤ e2 j +ℤ u0 *ℤ e0 j +ℤ u1 *ℤ e1 j) ∙ cancel u0 u1 u2 v0 v1 v2 in
    let r : v2 *ℤ weight v 2 px py +ℤ v0 *ℤ weight v 0 px py +ℤ v1 *ℤ weight v 1 px py ≡ pos 0 = (λ j. v2 *ℤ e2 j +ℤ v0 *ℤ e0 j +ℤ v1 *ℤ e1 j) ∙ cancel_too u0 u1 u2 v0 v1 v2 in
    let t : pos 0 <ℤ (weight v 2 px py +ℤ weight v 0 px py +ℤ weight v 1 px py) = let q = w.total in omega (arith, le_out, lt_out, below_in, same_out, sum_is_lem, q, p) in (
      record { first = w.first; second = w.second; third = w.third; some = t; sum = s },
      record { first = w.first; second = w.second; third = w.third; some = t; sum = r },
    )

-- so the centre lies between the least and the greatest corner
between : (a b c p e0 e1 e2 : ℤ) → Balanced (p -ℤ a) (p -ℤ b) (p -ℤ c) e0 e1 e2 → (int_min (int_min a b) c ≤ℤ p) × (p ≤ℤ int_max (int_max a b) c)
between a b c p e0 e1 e2 w = (
  by_lt_z p (int_min (int_min a b) c)
      (λ l. absurd (all_zero_too (p -ℤ c) (p -ℤ a) (p -ℤ b) e2 e0 e1 (low c (omega (arith, ints, int_min_is (int_min a b) c, int_min_is a b))) (low a (omega (arith, ints, int_min_is (int_min a b) c, int_min_is a b))) (low b (omega (arith, ints, int_min_is (int_min a b) c, int_min_is a b))) w.third w.first w.second w.sum w.some))
      (λ l. l),
  by_lt_z (int_max (int_max a b) c) p
      (λ l. absurd (all_zero (p -ℤ c) (p -ℤ a) (p -ℤ b) e2 e0 e1 (high c (omega (arith, ints, int_max_is (int_max a b) c, int_max_is a b))) (high a (omega (arith, ints, int_max_is (int_max a b) c, int_max_is a b))) (high b (omega (arith, ints, int_max_is (int_max a b) c, int_max_is a b))) w.third w.first w.second w.sum w.some))
      (λ l. l),
)
  where
    low : (q : ℤ) → p <ℤ q → (p -ℤ q) <ℤ pos 0
    low q h = omega (arith, ints)

    high : (q : ℤ) → q <ℤ p → pos 0 <ℤ (p -ℤ q)
    high q h = omega (arith, ints)

pub cover_lies_in_bounds_holds : CoverLiesInBounds
cover_lies_in_bounds_holds v x y p i =
    let w = balanced v x y p i in (
      between (corner v 0).x (corner v 1).x (corner v 2).x (centre x) _ _ _ w.0,
      between (corner v 0).y (corner v 1).y (corner v 2).y (centre y) _ _ _ w.1,
    )

-- An attribute's sum by weight is affine in the pixel.
use Rattle.std.proofs.Common.{◌≡◌, ℕ, zero, suc, List, ℤ, pos, neg_ℤ, ◌+ℤ◌, ◌*ℤ◌, ◌-ℤ◌, arith, ap, sym, ◌∙◌}
use Rattle.std.proofs.lemmas.Int.{ints}
use Rattle.fixed_math.proofs.Signed.{times_sum, sum_times}
use Rattle.rc_base.specs.Drawing.Cover.{edge_value, corner, centre}
use Rattle.rc_base.specs.Drawing.Fragment.{weighted_sum}
use Rattle.rc_base.specs.declared.window.WindowVertex.{WindowVertex}
use Rattle.raster.specs.Planes.{sum_at, gain_across, gain_up, AreEdges, AreCorners}
use Rattle.raster.specs.declared.edges.Edges.{Edges}

-- what an edge's value gains from a pixel to the next, and to the one above
edge_across : WindowVertex → WindowVertex → ℤ
edge_across a b = neg_ℤ ((b.y -ℤ a.y) *ℤ pos 16)

edge_up : WindowVertex → WindowVertex → ℤ
edge_up a b = (b.x -ℤ a.x) *ℤ pos 16

right_is : (a b : WindowVertex) (x py : ℤ) → edge_value a b (centre (x +ℤ pos 1)) py ≡ edge_value a b (centre x) py +ℤ edge_across a b
unfolding edge_across
right_is a b x py =
    let e : (centre (x +ℤ pos 1) -ℤ a.x) ≡ (centre x -ℤ a.x) +ℤ pos 16 = omega (arith, ints) in
    let f = ap (λ z. (b.y -ℤ a.y) *ℤ z) e in
    let g = times_sum (centre x -ℤ a.x) (pos 16) (b.y -ℤ a.y) in
    omega (arith, ints, f, g)

above_is : (a b : WindowVertex) (px y : ℤ) → edge_value a b px (centre (y +ℤ pos 1)) ≡ edge_value a b px (centre y) +ℤ edge_up a b
unfolding edge_up
above_is a b px y =
    let e : (centre (y +ℤ pos 1) -ℤ a.y) ≡ (centre y -ℤ a.y) +ℤ pos 16 = omega (arith, ints) in
    let f = ap (λ z. (b.x -ℤ a.x) *ℤ z) e in
    let g = times_sum (centre y -ℤ a.y) (pos 16) (b.x -ℤ a.x) in
    omega (arith, ints, f, g)

sum_more : (e0 e1 e2 d0 d1 d2 f0 f1 f2 a0 a1 a2 : ℤ) → f0 ≡ e0 +ℤ d0 → f1 ≡ e1 +ℤ d1 → f2 ≡ e2 +ℤ d2
    → weighted_sum f0 f1 f2 a0 a1 a2 ≡ weighted_sum e0 e1 e2 a0 a1 a2 +ℤ weighted_sum d0 d1 d2 a0 a1 a2
sum_more e0 e1 e2 d0 d1 d2 f0 f1 f2 a0 a1 a2 h0 h1 h2 =
    let g0 = ap (λ z. z *ℤ a0) h0 in
    let g1 = ap (λ z. z *ℤ a1) h1 in
    let g2 = ap (λ z. z *ℤ a2) h2 in
    let k0 = sum_times e0 d0 a0 in
    let k1 = sum_times e1 d1 a1 in
    let k2 = sum_times e2 d2 a2 in
    omega (arith, ints, g0, g1, g2, k0, k1, k2)

total_across : List WindowVertex → (WindowVertex → ℤ) → ℤ
total_across v f =
    weighted_sum (edge_across (corner v 1) (corner v 2)) (edge_across (corner v 2) (corner v 0)) (edge_across (corner v 0) (corner v 1))
    (f (corner v 0)) (f (corner v 1)) (f (corner v 2))

total_up : List WindowVertex → (WindowVertex → ℤ) → ℤ
total_up v f =
    weighted_sum (edge_up (corner v 1) (corner v 2)) (edge_up (corner v 2) (corner v 0)) (edge_up (corner v 0) (corner v 1))
    (f (corner v 0)) (f (corner v 1)) (f (corner v 2))

sum_right : (v : List WindowVertex) (x y : ℤ) (f : WindowVertex → ℤ) → sum_at v (x +ℤ pos 1) y f ≡ sum_at v x y f +ℤ total_across v f
unfolding sum_at total_across
sum_right v x y f =
    sum_more _ _ _ _ _ _ _ _ _ _ _ _
    (right_is (corner v 1) (corner v 2) x (centre y)) (right_is (corner v 2) (corner v 0) x (centre y)) (right_is (corner v 0) (corner v 1) x (centre y))

sum_above : (v : List WindowVertex) (x y : ℤ) (f : WindowVertex → ℤ) → sum_at v x (y +ℤ pos 1) f ≡ sum_at v x y f +ℤ total_up v f
unfolding sum_at total_up
sum_above v x y f =
    sum_more _ _ _ _ _ _ _ _ _ _ _ _
    (above_is (corner v 1) (corner v 2) (centre x) y) (above_is (corner v 2) (corner v 0) (centre x) y) (above_is (corner v 0) (corner v 1) (centre x) y)

across_is : (v : List WindowVertex) (x y : ℤ) (f : WindowVertex → ℤ) → gain_across v x y f ≡ total_across v f
across_is v x y f = let e = sum_right v x y f in omega (arith, ints, e)

up_is : (v : List WindowVertex) (x y : ℤ) (f : WindowVertex → ℤ) → gain_up v x y f ≡ total_up v f
up_is v x y f = let e = sum_above v x y f in omega (arith, ints, e)

-- the gains are the same everywhere
pub across_same : (v : List WindowVertex) (x y z w : ℤ) (f : WindowVertex → ℤ) → gain_across v x y f ≡ gain_across v z w f
across_same v x y z w f = across_is v x y f ∙ sym (across_is v z w f)

pub up_same : (v : List WindowVertex) (x y z w : ℤ) (f : WindowVertex → ℤ) → gain_up v x y f ≡ gain_up v z w f
up_same v x y z w f = up_is v x y f ∙ sym (up_is v z w f)

times_suc : (i : ℕ) (g : ℤ) → pos (suc i) *ℤ g ≡ pos i *ℤ g +ℤ g
times_suc i g =
    let e : pos (suc i) ≡ pos i +ℤ pos 1 = omega (arith, ints) in
    let h = ap (λ z. z *ℤ g) e in
    let k = sum_times (pos i) (pos 1) g in
    omega (arith, ints, h, k)

many_right : (v : List WindowVertex) (x y : ℤ) (i : ℕ) (f : WindowVertex → ℤ) → sum_at v (x +ℤ pos i) y f ≡ sum_at v x y f +ℤ pos i *ℤ total_across v f
many_right v x y zero f =
    let e : x +ℤ pos 0 ≡ x = omega (arith, ints) in
    let h = ap (λ z. sum_at v z y f) e in
    omega (arith, ints, h)
many_right v x y (suc i) f =
    let e : x +ℤ pos (suc i) ≡ (x +ℤ pos i) +ℤ pos 1 = omega (arith, ints) in
    let h = ap (λ z. sum_at v z y f) e in
    let k = sum_right v (x +ℤ pos i) y f in
    let r = many_right v x y i f in
    let t = times_suc i (total_across v f) in
    omega (arith, ints, h, k, r, t)

many_above : (v : List WindowVertex) (x y : ℤ) (j : ℕ) (f : WindowVertex → ℤ) → sum_at v x (y +ℤ pos j) f ≡ sum_at v x y f +ℤ pos j *ℤ total_up v f
many_above v x y zero f =
    let e : y +ℤ pos 0 ≡ y = omega (arith, ints) in
    let h = ap (λ z. sum_at v x z f) e in
    omega (arith, ints, h)
many_above v x y (suc i) f =
    let e : y +ℤ pos (suc i) ≡ (y +ℤ pos i) +ℤ pos 1 = omega (arith, ints) in
    let h = ap (λ z. sum_at v x z f) e in
    let k = sum_above v x (y +ℤ pos i) f in
    let r = many_above v x y i f in
    let t = times_suc i (total_up v f) in
    omega (arith, ints, h, k, r, t)

pub sum_there : (v : List WindowVertex) (x y : ℤ) (i j : ℕ) (f : WindowVertex → ℤ)
    → (sum_at v x y f +ℤ pos i *ℤ gain_across v x y f) +ℤ pos j *ℤ gain_up v x y f ≡ sum_at v (x +ℤ pos i) (y +ℤ pos j) f
sum_there v x y i j f =
    let a = ap (λ z. pos i *ℤ z) (across_is v x y f) in
    let b = ap (λ z. pos j *ℤ z) (up_is v x y f) in
    let c = many_right v x y i f in
    let d = many_above v (x +ℤ pos i) y j f in
    omega (arith, ints, a, b, c, d)

pub sum_next : (v : List WindowVertex) (x y : ℤ) (f : WindowVertex → ℤ) → sum_at v x y f +ℤ gain_across v x y f ≡ sum_at v (x +ℤ pos 1) y f
sum_next v x y f = omega (arith, ints)

pub sum_over : (v : List WindowVertex) (x y : ℤ) (f : WindowVertex → ℤ) → sum_at v x y f +ℤ gain_up v x y f ≡ sum_at v x (y +ℤ pos 1) f
sum_over v x y f = omega (arith, ints)

-- the sum of the corners' values by the weights at a pixel
pub sum_is : (v : List WindowVertex) (x y : ℤ) (f : WindowVertex → ℤ) (e : Edges) (a b c : ℤ) → AreEdges v (centre x) (centre y) e → AreCorners v f a b c
    → weighted_sum e.first e.second e.third a b c ≡ sum_at v x y f
unfolding sum_at
sum_is v x y f e a b c h k = λ i. weighted_sum (h.first i) (h.second i) (h.third i) (sym k.0 i) (sym k.1 i) (sym k.2 i)

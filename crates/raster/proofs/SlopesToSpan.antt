-- From the inverse of an edge's step to its turn, and from three slopes to a row's span.
use Rattle.std.proofs.Common.{◌≡◌, ◌∙◌, ℕ, ◌^◌, ℤ, pos, neg_ℤ, ◌+ℤ◌, ◌-ℤ◌, ◌*ℤ◌, ◌≤ℤ◌, ◌<ℤ◌, Bool, true, false, ◌&&◌, int_le, int_lt, arith, ap, sym, refl, subst, List}
use Rattle.std.proofs.lemmas.Int.{ints, by_lt_z}
use Rattle.std.specs.Int.{int_min, int_max}
use lib.IntN.{*ℤ_comm}
use Rattle.fixed_math.proofs.Signed.{times_sum, neg_times, mul_mono}
use Rattle.rc_base.specs.Drawing.Cover.{edge_value, keeps_line, centre, corner, is_inside}
use Rattle.rc_base.specs.declared.window.WindowVertex.{WindowVertex}
use Rattle.fixed_math.proofs.Signs.{above_is}
use Rattle.raster.specs.declared.columns.Places.{Places}
use Rattle.rc_base.specs.declared.window.Rect.{Rect}
use Rattle.raster.specs.declared.lanes.Lanes.{Lanes}
use Rattle.raster.specs.declared.slopes.Slope.TheVariants as slope
use Rattle.raster.specs.declared.slopes.Slopes.{Slopes}
use Rattle.raster.specs.declared.turns.Level.{Level}
use Rattle.raster.specs.declared.turns.Turns.{Turns}
use Rattle.raster.specs.declared.ways.Way.TheVariants as way
use Rattle.raster.specs.Columns.{IsTurn, AreKept, strict_value}
use Rattle.raster.specs.Lanes.{AreLanes}
use Rattle.raster.specs.Slopes.{AreTurns, IsSlope, AreSlopes}
use Rattle.raster.specs.Ways.{IsWay}
use Rattle.raster.specs.Reciprocal.{IsReciprocal}
use Rattle.raster.specs.Spans.{IsEmptyRow, IsRowSpan}
use Rattle.raster.proofs.KeptColumns.{kept_rising, kept_falling, kept_all, kept_none, turn_same}
use Rattle.raster.proofs.KeptRows.{passes_strict, not_above}
use Rattle.raster.proofs.BitsToSpan.{exact_empty, exact_span}
use Rattle.raster.proofs.Products.{between}

-- the whole steps of a distance, by the inverse of the step
pub whole_steps : (step distance : ℤ) (inverse k : ℕ) → IsReciprocal 64 step inverse → pos 0 <ℤ step → pos 0 ≤ℤ distance → (distance *ℤ step) <ℤ pos (2 ^ 64)
    → (pos (2 ^ 64) *ℤ pos k) ≤ℤ (distance *ℤ pos inverse) → (distance *ℤ pos inverse) <ℤ (pos (2 ^ 64) *ℤ pos k +ℤ pos (2 ^ 64))
    → ((step *ℤ pos k) ≤ℤ distance) × (distance <ℤ (step *ℤ pos k +ℤ step))
whole_steps step distance inverse k s some low few under over =
    let i = pos inverse in
    let b = between step distance i in
    let m1 = mul_mono step (pos (2 ^ 64) *ℤ pos k) (distance *ℤ i) (omega (arith, ints, some)) under in
    let m2 = mul_mono step (distance *ℤ i +ℤ pos 1) (pos (2 ^ 64) *ℤ pos k +ℤ pos (2 ^ 64)) (omega (arith, ints, some)) (omega (arith, ints, over)) in
    let n1 = mul_mono distance (pos (2 ^ 64)) (step *ℤ i) low s.low in
    let n2 = mul_mono distance (step *ℤ i) (pos (2 ^ 64) +ℤ step) low s.high in
    let c1 : step *ℤ (pos (2 ^ 64) *ℤ pos k) ≡ pos (2 ^ 64) *ℤ (step *ℤ pos k) = between step (pos (2 ^ 64)) (pos k) in
    let c2 = times_sum (pos (2 ^ 64) *ℤ pos k) (pos (2 ^ 64)) step in
    let c3 : step *ℤ pos (2 ^ 64) ≡ pos (2 ^ 64) *ℤ step = *ℤ_comm step (pos (2 ^ 64)) in
    let c4 = times_sum (distance *ℤ i) (pos 1) step in
    let c5 : step *ℤ pos 1 ≡ step = omega (arith, ints) in
    let c6 : distance *ℤ pos (2 ^ 64) ≡ pos (2 ^ 64) *ℤ distance = *ℤ_comm distance (pos (2 ^ 64)) in
    let c7 = times_sum (pos (2 ^ 64)) step distance in
    (omega (arith, ints, b, m1, n2, c1, c6, c7, few), omega (arith, ints, b, m2, n1, c1, c2, c3, c4, c5, c6, some))

-- a distance held from 0 to all columns' width, one step more than `most`, has as many whole steps as there are columns before the turn
pub turn_by_steps : (most step x0 x1 distance : ℤ) (k : ℕ) → pos 0 <ℤ step → x0 ≤ℤ x1 → pos 0 ≤ℤ distance → distance ≤ℤ (step *ℤ (x1 -ℤ x0))
    → (pos 0 <ℤ distance → (distance -ℤ step) ≤ℤ most) → (distance <ℤ (step *ℤ (x1 -ℤ x0)) → most ≤ℤ (distance -ℤ step))
    → (step *ℤ pos k) ≤ℤ distance → distance <ℤ (step *ℤ pos k +ℤ step) → IsTurn most step x0 x1 (x0 +ℤ pos k)
turn_by_steps most step x0 x1 distance k some order low high under over least greatest = record {
  low = omega (arith, ints);
  high = by_lt_z (x1 -ℤ x0) (pos k)
      (λ m. let g = mul_mono step (x1 -ℤ x0 +ℤ pos 1) (pos k) (omega (arith, ints, some)) (omega (arith, ints, m)) in
      let h = times_sum (x1 -ℤ x0) (pos 1) step in
      let o : step *ℤ pos 1 ≡ step = omega (arith, ints) in
      absurd (omega (arith, ints, g, h, o, high, least, some)))
      (λ m. omega (arith, ints, m));
  under = λ x l r.
      let g = mul_mono step (x -ℤ x0 +ℤ pos 1) (pos k) (omega (arith, ints, some)) (omega (arith, ints, r)) in
      let h = times_sum (x -ℤ x0) (pos 1) step in
      let o : step *ℤ pos 1 ≡ step = omega (arith, ints) in
      let z = mul_mono step (pos 0) (x -ℤ x0) (omega (arith, ints, some)) (omega (arith, ints, l)) in
      let n : step *ℤ pos 0 ≡ pos 0 = omega (arith, ints) in
      let u = under (omega (arith, ints, g, h, o, z, n, least, some)) in
      omega (arith, ints, g, h, o, u, least);
  over = λ x l r.
      let g = mul_mono step (pos k) (x -ℤ x0) (omega (arith, ints, some)) (omega (arith, ints, l)) in
      let f = mul_mono step (x -ℤ x0 +ℤ pos 1) (x1 -ℤ x0) (omega (arith, ints, some)) (omega (arith, ints, r)) in
      let h = times_sum (x -ℤ x0) (pos 1) step in
      let o : step *ℤ pos 1 ≡ step = omega (arith, ints) in
      by_lt_z distance (step *ℤ (x1 -ℤ x0))
      (λ m. let u = over m in omega (arith, ints, g, u, greatest))
      (λ m. absurd (omega (arith, ints, f, g, h, o, m, greatest)));
}

pub held_under : (n most step reach r : ℤ) → n ≡ most +ℤ step → r ≡ int_min (int_max n (pos 0)) reach → pos 0 <ℤ r → (r -ℤ step) ≤ℤ most
held_under n most step reach r e f h = grind (arith, ints)

pub held_over : (n most step reach r : ℤ) → n ≡ most +ℤ step → r ≡ int_min (int_max n (pos 0)) reach → r <ℤ reach → most ≤ℤ (r -ℤ step)
held_over n most step reach r e f h = grind (arith, ints)

-- an edge's value in a row, from its value in another
edge_row : (a b : WindowVertex) (px y0 y : ℤ) → edge_value a b px (centre y) ≡ edge_value a b px (centre y0) +ℤ (b.x -ℤ a.x) *ℤ (pos 16 *ℤ (y -ℤ y0))
edge_row a b px y0 y =
    let e : (centre y -ℤ a.y) ≡ (centre y0 -ℤ a.y) +ℤ pos 16 *ℤ (y -ℤ y0) = omega (arith, ints) in
    let f = ap (λ z. (b.x -ℤ a.x) *ℤ z) e in
    let g = times_sum (centre y0 -ℤ a.y) (pos 16 *ℤ (y -ℤ y0)) (b.x -ℤ a.x) in
    omega (arith, ints, f, g)

pub kept_left : (a b : WindowVertex) (y0 y first gain step : ℤ) (c k : Places) → (b.y -ℤ a.y) <ℤ pos 0
    → first ≡ neg_ℤ (edge_value a b (centre c.x0) (centre y0)) -ℤ pos 1 → gain ≡ neg_ℤ (b.x -ℤ a.x) → step ≡ pos 16 *ℤ neg_ℤ (b.y -ℤ a.y)
    → IsTurn (first +ℤ gain *ℤ (pos 16 *ℤ (y -ℤ y0))) step c.x0 c.x1 k.x0 → k.x1 ≡ c.x1 → AreKept a b y c k
kept_left a b y0 y first gain step c k down f g s t e =
    let r = edge_row a b (centre c.x0) y0 y in
    let p : gain *ℤ (pos 16 *ℤ (y -ℤ y0)) ≡ neg_ℤ ((b.x -ℤ a.x) *ℤ (pos 16 *ℤ (y -ℤ y0))) =
    ap (λ z. z *ℤ (pos 16 *ℤ (y -ℤ y0))) g ∙ neg_times (b.x -ℤ a.x) (pos 16 *ℤ (y -ℤ y0)) in
    kept_rising a b y c k down (turn_same _ _ _ _ _ _ _ _ (omega (arith, ints, r, p, f)) s refl t) e

pub kept_right : (a b : WindowVertex) (y0 y first gain step : ℤ) (c k : Places) → pos 0 <ℤ (b.y -ℤ a.y)
    → first ≡ edge_value a b (centre c.x0) (centre y0) -ℤ pos 1 → gain ≡ b.x -ℤ a.x → step ≡ pos 16 *ℤ (b.y -ℤ a.y)
    → IsTurn (first +ℤ gain *ℤ (pos 16 *ℤ (y -ℤ y0))) step c.x0 c.x1 k.x1 → k.x0 ≡ c.x0 → AreKept a b y c k
kept_right a b y0 y first gain step c k up f g s t e =
    let r = edge_row a b (centre c.x0) y0 y in
    let p : gain *ℤ (pos 16 *ℤ (y -ℤ y0)) ≡ (b.x -ℤ a.x) *ℤ (pos 16 *ℤ (y -ℤ y0)) = ap (λ z. z *ℤ (pos 16 *ℤ (y -ℤ y0))) g in
    kept_falling a b y c k up (turn_same _ _ _ _ _ _ _ _ (omega (arith, ints, r, p, f)) s refl t) e

strict_sum : (e d : ℤ) (k : Bool) → strict_value (e +ℤ d) k ≡ strict_value e k +ℤ d
strict_sum e d true = omega (arith, ints)
strict_sum e d false = refl

pub kept_level : (a b : WindowVertex) (y0 y first gain : ℤ) (c k : Places) → c.x0 ≤ℤ c.x1 → (b.y -ℤ a.y) ≡ pos 0
    → first ≡ strict_value (edge_value a b (centre c.x0) (centre y0)) (keeps_line a b) → gain ≡ b.x -ℤ a.x
    → (pos 0 <ℤ (first +ℤ gain *ℤ (pos 16 *ℤ (y -ℤ y0))) → k ≡ c) → ((first +ℤ gain *ℤ (pos 16 *ℤ (y -ℤ y0))) ≤ℤ pos 0 → k ≡ record { x0 = c.x0; x1 = c.x0 })
    → AreKept a b y c k
kept_level a b y0 y first gain c k order flat f g all none =
    let r = edge_row a b (centre c.x0) y0 y in
    let p : gain *ℤ (pos 16 *ℤ (y -ℤ y0)) ≡ (b.x -ℤ a.x) *ℤ (pos 16 *ℤ (y -ℤ y0)) = ap (λ z. z *ℤ (pos 16 *ℤ (y -ℤ y0))) g in
    let value : first +ℤ gain *ℤ (pos 16 *ℤ (y -ℤ y0)) ≡ strict_value (edge_value a b (centre c.x0) (centre y)) (keeps_line a b) =
    (λ i. f i +ℤ p i) ∙ sym (strict_sum _ _ (keeps_line a b)) ∙ ap (λ e. strict_value e (keeps_line a b)) (sym r) in
    let here = passes_strict (edge_value a b (centre c.x0) (centre y)) (keeps_line a b) in
    by_lt_z (pos 0) (first +ℤ gain *ℤ (pos 16 *ℤ (y -ℤ y0)))
    (λ m. subst (λ (z : Places). AreKept a b y c z) (sym (all m)) (kept_all a b y c order flat (here ∙ ap (λ e. int_lt (pos 0) e) (sym value) ∙ above_is _ m)))
    (λ m. subst (λ (z : Places). AreKept a b y c z) (sym (none m)) (kept_none a b y c order flat (here ∙ ap (λ e. int_lt (pos 0) e) (sym value) ∙ not_above _ m)))

in_common : (a b c d x : ℤ) → ((int_le a x && int_lt x b) && (int_le c x && int_lt x d)) ≡ (int_le (int_max a c) x && int_lt x (int_min b d))
in_common a b c d x = grind (arith, ints)

-- the columns that all three edges keep
all_three : (p q r : Bool) (a b c d e f g h x : ℤ) → p ≡ (int_le a x && int_lt x b) → q ≡ (int_le c x && int_lt x d) → r ≡ (int_le e x && int_lt x f)
    → g ≡ int_max (int_max a c) e → h ≡ int_min (int_min b d) f → (p && (q && r)) ≡ (int_le g x && int_lt x h)
all_three p q r a b c d e f g h x i j k l m =
    let s = in_common a b c d x in
    let t = in_common (int_max a c) (int_min b d) e f x in
    rw (i, j, k, l, m) (regrouped (int_le a x && int_lt x b) (int_le c x && int_lt x d) (int_le e x && int_lt x f) ∙ ap (λ z. z && (int_le e x && int_lt x f)) s ∙ t)
  where
    regrouped : (p q r : Bool) → (p && (q && r)) ≡ ((p && q) && r)
    regrouped true q r = refl
    regrouped false q r = refl

common_row : (v : List WindowVertex) (y : ℤ) (c k l m n : Places) → AreKept (corner v 0) (corner v 1) y c k → AreKept (corner v 1) (corner v 2) y c l → AreKept (corner v 2) (corner v 0) y c m
    → n.x0 ≡ int_max (int_max k.x0 l.x0) m.x0 → n.x1 ≡ int_min (int_min k.x1 l.x1) m.x1
    → (x : ℤ) → c.x0 ≤ℤ x → x <ℤ c.x1 → is_inside v x y ≡ (int_le n.x0 x && int_lt x n.x1)
unfolding is_inside
common_row v y c k l m n p q r e f x g h =
    all_three _ _ _ k.x0 k.x1 l.x0 l.x1 m.x0 m.x1 n.x0 n.x1 x (p.exact x g h) (q.exact x g h) (r.exact x g h) e f

from_greatest : (x0 a b c n : ℤ) → x0 ≤ℤ a → n ≡ int_max (int_max a b) c → x0 ≤ℤ n
from_greatest x0 a b c n h e = grind (arith, ints)

to_least : (x1 a b c n : ℤ) → a ≤ℤ x1 → n ≡ int_min (int_min a b) c → n ≤ℤ x1
to_least x1 a b c n h e = grind (arith, ints)

pub common_empty : (v : List WindowVertex) (y : ℤ) (c k l m n : Places) → AreKept (corner v 0) (corner v 1) y c k → AreKept (corner v 1) (corner v 2) y c l → AreKept (corner v 2) (corner v 0) y c m
    → n.x0 ≡ int_max (int_max k.x0 l.x0) m.x0 → n.x1 ≡ int_min (int_min k.x1 l.x1) m.x1 → n.x1 ≤ℤ n.x0 → IsEmptyRow v y c.x0 c.x1
common_empty v y c k l m n p q r e f none = exact_empty v y c.x0 c.x1 n.x0 n.x1 (common_row v y c k l m n p q r e f) none

pub common_span : (v : List WindowVertex) (y : ℤ) (c k l m n : Places) → AreKept (corner v 0) (corner v 1) y c k → AreKept (corner v 1) (corner v 2) y c l → AreKept (corner v 2) (corner v 0) y c m
    → n.x0 ≡ int_max (int_max k.x0 l.x0) m.x0 → n.x1 ≡ int_min (int_min k.x1 l.x1) m.x1 → n.x0 <ℤ n.x1
    → IsRowSpan v y c.x0 c.x1 (record { y = y; x0 = n.x0; x1 = n.x1 })
common_span v y c k l m n p q r e f some =
    exact_span v y c.x0 c.x1 n.x0 n.x1 (common_row v y c k l m n p q r e f)
    (from_greatest _ _ _ _ _ p.low e) some (to_least _ _ _ _ _ p.high f)

-- ---- what is prepared

pub left_told : (a b : WindowVertex) (x0 y0 : ℤ) (u : Turns) → (b.y -ℤ a.y) <ℤ pos 0
    → AreTurns (neg_ℤ (edge_value a b (centre x0) (centre y0))) (neg_ℤ (b.x -ℤ a.x)) (pos 16 *ℤ neg_ℤ (b.y -ℤ a.y)) u → IsSlope a b x0 y0 (slope.Left u)
left_told a b x0 y0 u d h = record {
  down = λ t e. d;
  left = λ t e. let q : u ≡ t = cc in subst (λ (z : Turns). AreTurns (neg_ℤ (edge_value a b (centre x0) (centre y0))) (neg_ℤ (b.x -ℤ a.x)) (pos 16 *ℤ neg_ℤ (b.y -ℤ a.y)) z) q h;
  up = λ t e. absurd (cc);
  right = λ t e. absurd (cc);
  level = λ l e. absurd (cc);
  flat = λ l e. absurd (cc);
}

pub right_told : (a b : WindowVertex) (x0 y0 : ℤ) (u : Turns) → pos 0 <ℤ (b.y -ℤ a.y)
    → AreTurns (edge_value a b (centre x0) (centre y0)) (b.x -ℤ a.x) (pos 16 *ℤ (b.y -ℤ a.y)) u → IsSlope a b x0 y0 (slope.Right u)
right_told a b x0 y0 u d h = record {
  down = λ t e. absurd (cc);
  left = λ t e. absurd (cc);
  up = λ t e. d;
  right = λ t e. let q : u ≡ t = cc in subst (λ (z : Turns). AreTurns (edge_value a b (centre x0) (centre y0)) (b.x -ℤ a.x) (pos 16 *ℤ (b.y -ℤ a.y)) z) q h;
  level = λ l e. absurd (cc);
  flat = λ l e. absurd (cc);
}

pub level_told : (a b : WindowVertex) (x0 y0 : ℤ) (u : Level) → (b.y -ℤ a.y) ≡ pos 0
    → u.first ≡ strict_value (edge_value a b (centre x0) (centre y0)) (keeps_line a b) → u.gain ≡ b.x -ℤ a.x → IsSlope a b x0 y0 (slope.Level u)
level_told a b x0 y0 u d f g = record {
  down = λ t e. absurd (cc);
  left = λ t e. absurd (cc);
  up = λ t e. absurd (cc);
  right = λ t e. absurd (cc);
  level = λ l e. d;
  flat = λ l e. let q : u ≡ l = cc in (ap (λ (z : Level). z.first) (sym q) ∙ f, ap (λ (z : Level). z.gain) (sym q) ∙ g);
}

pub lanes_told : (v : List WindowVertex) (part : Rect) (k : Lanes) → AreLanes v part.x0 part.y0 k → part.x1 ≤ℤ (part.x0 +ℤ pos 8) → IsWay v part (way.Lanes k)
lanes_told v part k h few = record {
  lanes = λ l e. let q : k ≡ l = cc in subst (λ (z : Lanes). AreLanes v part.x0 part.y0 z) q h;
  narrow = λ l e. few;
  slopes = λ s e. absurd (cc);
  wide = λ s e. absurd (cc);
}

pub slopes_told : (v : List WindowVertex) (part : Rect) (k : Slopes) → AreSlopes v part.x0 part.y0 k → (part.x1 -ℤ part.x0) ≤ℤ pos (2 ^ 12) → IsWay v part (way.Slopes k)
slopes_told v part k h few = record {
  lanes = λ l e. absurd (cc);
  narrow = λ l e. absurd (cc);
  slopes = λ s e. let q : k ≡ s = cc in subst (λ (z : Slopes). AreSlopes v part.x0 part.y0 z) q h;
  wide = λ s e. few;
}

-- From an edge's turn to the rows of a column that it keeps, and from three edges to what a triangle covers of a column.
use Rattle.std.proofs.Common.{◌≡◌, ◌∙◌, ℤ, pos, neg_ℤ, ◌+ℤ◌, ◌-ℤ◌, ◌*ℤ◌, ◌≤ℤ◌, ◌<ℤ◌, Bool, true, false, ◌&&◌, int_le, int_lt, arith, ap, sym, refl, subst, List}
use Rattle.std.proofs.lemmas.Int.{ints, by_lt_z}
use lib.IntN.{*ℤ_comm}
use Rattle.fixed_math.proofs.Signed.{times_sum, times_assoc, neg_times, times_neg}
use Rattle.rc_base.specs.Drawing.Cover.{edge_value, centre, corner, passes, keeps_line, is_within_edge, is_inside}
use Rattle.rc_base.specs.declared.window.WindowVertex.{WindowVertex}
use Rattle.rc_base.specs.declared.window.Rect.{Rect}
use Rattle.fixed_math.proofs.Signs.{above_is}
use Rattle.raster.specs.declared.columns.Places.{Places}
use Rattle.raster.specs.Columns.{IsTurn, AreKeptRows, strict_value}
use Rattle.raster.specs.Clamped.{HoldsCover, IsFull}
use Rattle.raster.proofs.KeptColumns.{in_true, in_low, in_high, chain}

-- an edge's value in a column, from its value at a row
edge_row : (a b : WindowVertex) (y0 y px : ℤ) → edge_value a b px (centre y) ≡ edge_value a b px (centre y0) -ℤ (pos 16 *ℤ (a.x -ℤ b.x)) *ℤ (y -ℤ y0)
edge_row a b y0 y px =
    let e : (centre y -ℤ a.y) ≡ (centre y0 -ℤ a.y) +ℤ pos 16 *ℤ (y -ℤ y0) = omega (arith, ints) in
    let f = ap (λ z. (b.x -ℤ a.x) *ℤ z) e in
    let g = times_sum (centre y0 -ℤ a.y) (pos 16 *ℤ (y -ℤ y0)) (b.x -ℤ a.x) in
    let h : (b.x -ℤ a.x) *ℤ (pos 16 *ℤ (y -ℤ y0)) ≡ (pos 16 *ℤ (b.x -ℤ a.x)) *ℤ (y -ℤ y0) =
    sym (times_assoc (b.x -ℤ a.x) (pos 16) (y -ℤ y0)) ∙ ap (λ z. z *ℤ (y -ℤ y0)) (*ℤ_comm (b.x -ℤ a.x) (pos 16)) in
    let n : pos 16 *ℤ (b.x -ℤ a.x) ≡ neg_ℤ (pos 16 *ℤ (a.x -ℤ b.x)) = omega (arith, ints) in
    let m = ap (λ z. z *ℤ (y -ℤ y0)) n in
    let o = neg_times (pos 16 *ℤ (a.x -ℤ b.x)) (y -ℤ y0) in
    omega (arith, ints, f, g, h, m, o)

pub passes_strict : (e : ℤ) (k : Bool) → passes e k ≡ int_lt (pos 0) (strict_value e k)
passes_strict e true = grind (arith, ints)
passes_strict e false = grind (arith, ints)

strict_less : (e f d : ℤ) (k : Bool) → f ≡ e -ℤ d → strict_value f k ≡ strict_value e k -ℤ d
strict_less e f d true h = omega (arith, ints)
strict_less e f d false h = omega (arith, ints)

pub not_above : (z : ℤ) → z ≤ℤ pos 0 → int_lt (pos 0) z ≡ false
not_above z h = grind (arith, ints)

-- in row y the edge keeps the column exactly where this is above 0
within_row : (a b : WindowVertex) (x y0 y : ℤ) → is_within_edge a b (centre x) (centre y)
    ≡ int_lt (pos 0) (strict_value (edge_value a b (centre x) (centre y0)) (keeps_line a b) -ℤ (pos 16 *ℤ (a.x -ℤ b.x)) *ℤ (y -ℤ y0))
unfolding is_within_edge
within_row a b x y0 y =
    passes_strict (edge_value a b (centre x) (centre y)) (keeps_line a b)
    ∙ ap (λ z. int_lt (pos 0) z) (strict_less (edge_value a b (centre x) (centre y0)) (edge_value a b (centre x) (centre y)) _ (keeps_line a b) (edge_row a b y0 y (centre x)))

pub rows_rising : (a b : WindowVertex) (x : ℤ) (c k : Places) → (a.x -ℤ b.x) <ℤ pos 0
    → IsTurn (neg_ℤ (strict_value (edge_value a b (centre x) (centre c.x0)) (keeps_line a b) -ℤ pos 1) -ℤ pos 1) (pos 16 *ℤ neg_ℤ (a.x -ℤ b.x)) c.x0 c.x1 k.x0
    → k.x1 ≡ c.x1 → AreKeptRows a b x c k
rows_rising a b x c k h t e = record {
  low = t.low;
  order = let m = t.high in omega (arith, ints);
  high = omega (arith, ints);
  exact = λ y l r.
      let w = within_row a b x c.x0 y in
      let n : (pos 16 *ℤ neg_ℤ (a.x -ℤ b.x)) *ℤ (y -ℤ c.x0) ≡ neg_ℤ ((pos 16 *ℤ (a.x -ℤ b.x)) *ℤ (y -ℤ c.x0)) =
      ap (λ z. z *ℤ (y -ℤ c.x0)) (times_neg (pos 16) (a.x -ℤ b.x)) ∙ neg_times (pos 16 *ℤ (a.x -ℤ b.x)) (y -ℤ c.x0) in
      by_lt_z y k.x0
      (λ m. let u = t.under y l m in w ∙ not_above (strict_value (edge_value a b (centre x) (centre c.x0)) (keeps_line a b) -ℤ (pos 16 *ℤ (a.x -ℤ b.x)) *ℤ (y -ℤ c.x0)) (omega (arith, ints, n, u)) ∙ sym (in_low k.x0 k.x1 y m))
      (λ m. let u = t.over y m r in w ∙ above_is (strict_value (edge_value a b (centre x) (centre c.x0)) (keeps_line a b) -ℤ (pos 16 *ℤ (a.x -ℤ b.x)) *ℤ (y -ℤ c.x0)) (omega (arith, ints, n, u)) ∙ sym (in_true k.x0 k.x1 y m (omega (arith, ints, r, e))));
}

pub rows_falling : (a b : WindowVertex) (x : ℤ) (c k : Places)
    → IsTurn (strict_value (edge_value a b (centre x) (centre c.x0)) (keeps_line a b) -ℤ pos 1) (pos 16 *ℤ (a.x -ℤ b.x)) c.x0 c.x1 k.x1
    → k.x0 ≡ c.x0 → AreKeptRows a b x c k
rows_falling a b x c k t e = record {
  low = omega (arith, ints);
  order = let m = t.low in omega (arith, ints);
  high = t.high;
  exact = λ y l r.
      let w = within_row a b x c.x0 y in
      by_lt_z y k.x1
      (λ m. let u = t.under y l m in w ∙ above_is (strict_value (edge_value a b (centre x) (centre c.x0)) (keeps_line a b) -ℤ (pos 16 *ℤ (a.x -ℤ b.x)) *ℤ (y -ℤ c.x0)) (omega (arith, ints, u)) ∙ sym (in_true k.x0 k.x1 y (omega (arith, ints, l, e)) m))
      (λ m. let u = t.over y m r in w ∙ not_above (strict_value (edge_value a b (centre x) (centre c.x0)) (keeps_line a b) -ℤ (pos 16 *ℤ (a.x -ℤ b.x)) *ℤ (y -ℤ c.x0)) (omega (arith, ints, u)) ∙ sym (in_high k.x0 k.x1 y m));
}

-- along an upright edge its value stands still
upright : (a b : WindowVertex) (y0 y px : ℤ) → (a.x -ℤ b.x) ≡ pos 0 → edge_value a b px (centre y) ≡ edge_value a b px (centre y0)
upright a b y0 y px h =
    let d = edge_row a b y0 y px in
    let z : (pos 16 *ℤ (a.x -ℤ b.x)) *ℤ (y -ℤ y0) ≡ pos 0 = ap (λ z. (pos 16 *ℤ z) *ℤ (y -ℤ y0)) h ∙ omega (arith, ints) in
    omega (arith, ints, d, z)

pub rows_all : (a b : WindowVertex) (x : ℤ) (c : Places) → c.x0 ≤ℤ c.x1 → (a.x -ℤ b.x) ≡ pos 0
    → passes (edge_value a b (centre x) (centre c.x0)) (keeps_line a b) ≡ true → AreKeptRows a b x c c
unfolding is_within_edge
rows_all a b x c o h p = record {
  low = omega (arith, ints);
  order = o;
  high = omega (arith, ints);
  exact = λ y l r. ap (λ z. passes z (keeps_line a b)) (upright a b c.x0 y (centre x) h) ∙ p ∙ sym (in_true c.x0 c.x1 y l r);
}

pub rows_none : (a b : WindowVertex) (x : ℤ) (c : Places) → c.x0 ≤ℤ c.x1 → (a.x -ℤ b.x) ≡ pos 0
    → passes (edge_value a b (centre x) (centre c.x0)) (keeps_line a b) ≡ false → AreKeptRows a b x c (record { x0 = c.x0; x1 = c.x0 })
unfolding is_within_edge
rows_none a b x c o h p = record {
  low = omega (arith, ints);
  order = omega (arith, ints);
  high = o;
  exact = λ y l r. ap (λ z. passes z (keeps_line a b)) (upright a b c.x0 y (centre x) h) ∙ p ∙ sym (in_high c.x0 c.x0 y l);
}

-- three edges, one after the other
three_rows : (v : List WindowVertex) (x : ℤ) (c k l m : Places) → AreKeptRows (corner v 0) (corner v 1) x c k → AreKeptRows (corner v 1) (corner v 2) x k l
    → AreKeptRows (corner v 2) (corner v 0) x l m → (y : ℤ) → c.x0 ≤ℤ y → y <ℤ c.x1 → is_inside v x y ≡ (int_le m.x0 y && int_lt y m.x1)
unfolding is_inside
three_rows v x c k l m p q r y g h =
    let ql = q.low in let rl = r.low in let qh = q.high in let rh = r.high in
    chain k.x0 k.x1 m.x0 m.x1 y _ _ (p.exact y g h) (omega (arith, ints, ql, rl)) (omega (arith, ints, qh, rh))
    (λ a b. chain l.x0 l.x1 m.x0 m.x1 y _ _ (q.exact y a b) rl rh (λ d e. r.exact y d e))

-- what is kept of the one column
pub record IsColumn (v : List WindowVertex) (rect part cut : Rect) : Type 0 where
  pub left : cut.x0 ≡ part.x0
  pub right : cut.x1 ≡ part.x1
  pub low : part.y0 ≤ℤ cut.y0
  pub order : cut.y0 ≤ℤ cut.y1
  pub high : cut.y1 ≤ℤ part.y1
  pub exact : (y : ℤ) → part.y0 ≤ℤ y → y <ℤ part.y1 → is_inside v part.x0 y ≡ (int_le cut.y0 y && int_lt y cut.y1)

pub column_is : (v : List WindowVertex) (rect part cut : Rect) (k l m : Places) → AreKeptRows (corner v 0) (corner v 1) part.x0 (record { x0 = part.y0; x1 = part.y1 }) k
    → AreKeptRows (corner v 1) (corner v 2) part.x0 k l → AreKeptRows (corner v 2) (corner v 0) part.x0 l m
    → cut ≡ record { x0 = part.x0; y0 = m.x0; x1 = part.x1; y1 = m.x1 } → IsColumn v rect part cut
column_is v rect part cut k l m p q r e =
    let pl = p.low in let ql = q.low in let rl = r.low in let ph = p.high in let qh = q.high in let rh = r.high in
    subst (λ (z : Rect). IsColumn v rect part z) (sym e) (record {
      left = refl;
      right = refl;
      low = omega (arith, ints, pl, ql, rl);
      order = r.order;
      high = omega (arith, ints, ph, qh, rh);
      exact = three_rows v part.x0 (record { x0 = part.y0; x1 = part.y1 }) k l m p q r;
    })

in_from : (a b x : ℤ) → (int_le a x && int_lt x b) ≡ true → (a ≤ℤ x) × (x <ℤ b)
in_from a b x h = (by_lt_z x a (λ m. absurd (cc2 (sym h ∙ in_low a b x m))) (λ m. m), by_lt_z x b (λ m. m) (λ m. absurd (cc2 (sym h ∙ in_high a b x m))))
  where
    cc2 : true ≡ false → ⊥
    cc2 e = cc

one_place : (a b x : ℤ) → b ≡ a +ℤ pos 1 → a ≤ℤ x → x <ℤ b → x ≡ a
one_place a b x e h k = omega (arith, ints)

pub column_holds : (v : List WindowVertex) (rect part cut : Rect) → HoldsCover v rect part → part.x1 ≡ part.x0 +ℤ pos 1 → IsColumn v rect part cut → HoldsCover v rect cut
column_holds v rect part cut h e c = record {
  left = let a = h.left in let b = c.left in omega (arith, ints, a, b);
  right = let a = h.right in let b = c.right in omega (arith, ints, a, b);
  top = let a = h.top in let b = c.high in omega (arith, ints, a, b);
  columns = λ x y k l t. let a = h.columns x y k l t in let m = a.0 in let n = a.1 in let p = c.left in let q = c.right in (omega (arith, ints, m, p), omega (arith, ints, n, q));
  low = λ x y k l t.
      let o = c.order in let g = c.high in
      by_lt_z y part.y1
      (λ m. (in_from cut.y0 cut.y1 y (here x y k l t m)).0)
      (λ m. omega (arith, ints, o, g, m));
  high = λ x y k l r t. (in_from cut.y0 cut.y1 y (here x y k l t (h.high x y k l r t))).1;
}
  where
    here : (x y : ℤ) → rect.x0 ≤ℤ x → x <ℤ rect.x1 → is_inside v x y ≡ true → y <ℤ part.y1 → (int_le cut.y0 y && int_lt y cut.y1) ≡ true
    here x y k l t m =
        let a = h.columns x y k l t in
        let s = one_place part.x0 part.x1 x e a.0 a.1 in
        sym (c.exact y (h.low x y k l t) m) ∙ ap (λ z. is_inside v z y) (sym s) ∙ t

pub column_full : (v : List WindowVertex) (rect part cut : Rect) → part.x1 ≡ part.x0 +ℤ pos 1 → IsColumn v rect part cut → IsFull v cut
column_full v rect part cut e c x y k l m n =
    let a = c.left in let b = c.right in let o = c.low in let p = c.high in
    let s : x ≡ part.x0 = omega (arith, ints, a, b, e, k, l) in
    ap (λ z. is_inside v z y) s ∙ c.exact y (omega (arith, ints, o, m)) (omega (arith, ints, p, n)) ∙ in_true cut.y0 cut.y1 y m n

-- Touches one after the other, and the rows of a triangle.
use Rattle.std.proofs.Common.{◌≡◌, ◌≢◌, ℕ, ◌+◌, ◌*◌, ◌<◌, ◌≤◌, ◌==◌, nat_lt, nat_le, ◌&&◌, ◌||◌, ◌⊎◌, ◌↔◌, Bool, true, false, cond, List, [], length, Option, ℤ, pos, ◌+ℤ◌, ◌≤ℤ◌, ◌<ℤ◌, inl, inr, refl, sym, ap, ◌∙◌, subst, arith, eq-eqb, eqb-true, ne_eqb, le-leb, leb-true, lt-ltb, ltb-true, true≢false, mul-le-mul}
use Rattle.std.specs.Prelude.{int_lt}
use Rattle.std.proofs.lemmas.List.{get_or-set_same, get_or-set_other}
use Rattle.std.proofs.lemmas.Bool.{cases_Bool, le-ltb, and_parts, and_from, lt-leb}
use Rattle.std.proofs.lemmas.Bool.Decides.{nat_tests}
use Rattle.std.proofs.lemmas.Int.{ints, by_lt_z}
use Rattle.std.proofs.Math.Bool.{or-true, or-false, and-false}
use Rattle.rc_base.specs.Cluster.Tiles.{is_in_rect}
use Rattle.rc_base.specs.Drawing.Cover.{is_inside}
use Rattle.rc_base.specs.declared.window.Rect.{Rect}
use Rattle.rc_base.specs.declared.window.Span.{Span}
use Rattle.rc_base.specs.declared.window.WindowVertex.{WindowVertex}
use Rattle.raster.specs.Spans.{in_span, IsNextSpan, AreEmptyRows}
use Rattle.plain_lemmas.proofs.Numbers.{int_lt_true, int_lt_false}
use Rattle.scene_lemmas.proofs.Rectangles.{inside_rect}
use Rattle.race_check.specs.Finds.{IsFirst, IsFoundIn, IsRunIn, OrBefore, cell_at, mark, marked, run_has}
use Rattle.race_check.specs.Touches.{AreTouched, IsFoundWhere, IsTouch, IsWithinWindow, SomePasses, triangle_has}
use Rattle.race_check.specs.declared.found.Found.{Found}
use Rattle.race_check.specs.declared.run.Run.{Run}
use Rattle.race_check.specs.declared.visit.Seen.{Seen}
use Rattle.race_check.specs.declared.visit.Visit.{Visit}
use Rattle.race_check.specs.declared.verdict.Spot.TheVariants.{Pixel}
use Rattle.race_check.proofs.CellsTellLast.{same_pixel}
use Rattle.race_check.proofs.FoundFirst.{first_as, first_kept, first_then}
use Rattle.race_check.proofs.VisitedCells.{found_before, found_behind, marked_then}

-- ---- touches one after the other

-- what one of them has
both_pass : (w h : ℕ) (a b c : ℕ → ℕ → Bool) → ((x y : ℕ) → x < w → y < h → c x y ≡ (a x y || b x y)) → SomePasses w h c → SomePasses w h a ⊎ SomePasses w h b
both_pass w h a b c e s = elim (cases_Bool (a s.column s.row)) [
  | inl t ↦ inl (record { column = s.column; row = s.row; wide = s.wide; high = s.high; passes = t })
  | inr f ↦ inr (record {
    column = s.column;
    row = s.row;
    wide = s.wide;
    high = s.high;
    passes = sym (ap (λ k. k || b s.column s.row) f) ∙ sym (e s.column s.row s.wide s.high) ∙ s.passes;
  })
]

left_passes : (w h : ℕ) (a b c : ℕ → ℕ → Bool) → ((x y : ℕ) → x < w → y < h → c x y ≡ (a x y || b x y)) → SomePasses w h a → SomePasses w h c
left_passes w h a b c e s = record {
  column = s.column;
  row = s.row;
  wide = s.wide;
  high = s.high;
  passes = e s.column s.row s.wide s.high ∙ ap (λ k. k || b s.column s.row) s.passes;
}

right_passes : (w h : ℕ) (a b c : ℕ → ℕ → Bool) → ((x y : ℕ) → x < w → y < h → c x y ≡ (a x y || b x y)) → SomePasses w h b → SomePasses w h c
right_passes w h a b c e s = record {
  column = s.column;
  row = s.row;
  wide = s.wide;
  high = s.high;
  passes = e s.column s.row s.wide s.high ∙ ap (λ k. a s.column s.row || k) s.passes ∙ or-true (a s.column s.row);
}

pub cells_none : (v : Visit) (cells : List (List ℕ)) → AreTouched (λ x y. false) v cells cells
cells_none v cells x y lx ly = refl

pub cells_then : (a b c : ℕ → ℕ → Bool) (v : Visit) (old mid new : List (List ℕ)) → AreTouched a v old mid → AreTouched b v mid new
    → ((x y : ℕ) → x < v.width → y < v.height → c x y ≡ (a x y || b x y)) → AreTouched c v old new
cells_then a b c v old mid new p q e x y lx ly =
    let cell = cell_at old (y * v.width + x) in
    q x y lx ly ∙ ap (λ k. cond (b x y) (marked v.name k) k) (p x y lx ly) ∙ marked_then v.name cell (a x y) (b x y) ∙ ap (λ k. cond k (marked v.name cell) cell) (sym (e x y lx ly))

pub finds_then : (a b c : ℕ → ℕ → Bool) (v : Visit) (old mid : List (List ℕ)) (best between after : Option Found) → AreTouched a v old mid
    → IsFirst (OrBefore best (IsFoundWhere a v old)) between → IsFirst (OrBefore between (IsFoundWhere b v mid)) after
    → ((x y : ℕ) → x < v.width → y < v.height → c x y ≡ (a x y || b x y)) → IsFirst (OrBefore best (IsFoundWhere c v old)) after
unfolding left_passes right_passes
finds_then a b c v old mid best between after p h k e = first_then best between after (IsFoundWhere a v old) (IsFoundWhere b v mid) (IsFoundWhere c v old) h k to from
  where
    to : (z : Found) → IsFoundWhere c v old z → IsFoundWhere a v old z ⊎ IsFoundWhere b v mid z
    to z f =
        let s = f.pixel in
        let i = s.row * v.width + s.column in
        elim (cases_Bool (a s.column s.row)) [
          | inl t ↦ inl (record { pixel = record { column = s.column; row = s.row; wide = s.wide; high = s.high; passes = t }; found = f.found })
          | inr n ↦ inr (record {
            pixel = record {
              column = s.column;
              row = s.row;
              wide = s.wide;
              high = s.high;
              passes = sym (ap (λ k. k || b s.column s.row) n) ∙ sym (e s.column s.row s.wide s.high) ∙ s.passes;
            };
            found = subst (λ c. IsFoundIn v.name.client v.clock c (Pixel s.column s.row) z) (sym (p s.column s.row s.wide s.high))
                (found_behind v.name v.clock (cell_at old i) (Pixel s.column s.row) (a s.column s.row) z f.found);
          })
        ]

    from : (z : Found) → IsFoundWhere a v old z ⊎ IsFoundWhere b v mid z → IsFoundWhere c v old z
    from z (inl f) = record { pixel = left_passes v.width v.height a b c e f.pixel; found = f.found }
    from z (inr f) =
        let s = f.pixel in
        let i = s.row * v.width + s.column in
        record {
          pixel = right_passes v.width v.height a b c e f.pixel;
          found = found_before v.name v.clock (cell_at old i) (Pixel s.column s.row) (a s.column s.row) z
              (subst (λ c. IsFoundIn v.name.client v.clock c (Pixel s.column s.row) z) (p s.column s.row s.wide s.high) f.found);
        }

nowhere_found : (v : Visit) (cells : List (List ℕ)) (x : Found) → IsFoundWhere (λ x y. false) v cells x → ⊥
nowhere_found v cells x f = true≢false (sym f.pixel.passes)

pub finds_none : (v : Visit) (cells : List (List ℕ)) (best : Option Found) → IsFirst (OrBefore best (IsFoundWhere (λ x y. false) v cells)) best
finds_none v cells best = first_kept best (IsFoundWhere (λ x y. false) v cells) (nowhere_found v cells)

pub touch_none : (v : Visit) (cells : List (List ℕ)) (seen : Seen) → IsTouch (λ x y. false) v cells cells seen seen
touch_none v cells seen = record {
  cells = cells_none v cells;
  best = finds_none v cells seen.best;
  some = (λ t. inl t, λ (i : (seen.some ≡ true) ⊎ SomePasses v.width v.height (λ x y. false)). elim i [ inl t ↦ t | inr s ↦ absurd (true≢false (sym s.passes)) ]);
}

pub touch_then : (a b c : ℕ → ℕ → Bool) (v : Visit) (old mid new : List (List ℕ)) (before between after : Seen) → IsTouch a v old mid before between
    → IsTouch b v mid new between after → ((x y : ℕ) → x < v.width → y < v.height → c x y ≡ (a x y || b x y)) → IsTouch c v old new before after
touch_then a b c v old mid new before between after p q e = record {
  cells = cells_then a b c v old mid new p.cells q.cells e;
  best = finds_then a b c v old mid before.best between.best after.best p.cells p.best q.best e;
  some = (to, from);
}
  where
    to : after.some ≡ true → (before.some ≡ true) ⊎ SomePasses v.width v.height c
    to t = elim (q.some.0 t) [
      | inl u ↦ elim (p.some.0 u) [ inl k ↦ inl k | inr s ↦ inr (left_passes v.width v.height a b c e s) ]
      | inr s ↦ inr (right_passes v.width v.height a b c e s)
    ]

    from : (before.some ≡ true) ⊎ SomePasses v.width v.height c → after.some ≡ true
    from (inl t) = q.some.1 (inl (p.some.1 (inl t)))
    from (inr s) = elim (both_pass v.width v.height a b c e s) [ inl k ↦ q.some.1 (inl (p.some.1 (inr k))) | inr k ↦ q.some.1 (inr k) ]

-- what passes one test passes another
pub cells_as : (a c : ℕ → ℕ → Bool) (v : Visit) (old new : List (List ℕ)) → AreTouched a v old new → ((x y : ℕ) → x < v.width → y < v.height → c x y ≡ a x y) → AreTouched c v old new
cells_as a c v old new p e x y lx ly = p x y lx ly ∙ ap (λ k. cond k (marked v.name (cell_at old (y * v.width + x))) (cell_at old (y * v.width + x))) (sym (e x y lx ly))

pass_as : (w h : ℕ) (a c : ℕ → ℕ → Bool) → ((x y : ℕ) → x < w → y < h → c x y ≡ a x y) → SomePasses w h a → SomePasses w h c
pass_as w h a c e s = record { column = s.column; row = s.row; wide = s.wide; high = s.high; passes = e s.column s.row s.wide s.high ∙ s.passes }

pub finds_as : (a c : ℕ → ℕ → Bool) (v : Visit) (cells : List (List ℕ)) (best after : Option Found) → IsFirst (OrBefore best (IsFoundWhere a v cells)) after
    → ((x y : ℕ) → x < v.width → y < v.height → c x y ≡ a x y) → IsFirst (OrBefore best (IsFoundWhere c v cells)) after
unfolding pass_as
finds_as a c v cells best after h e =
    first_as (OrBefore best (IsFoundWhere a v cells)) (OrBefore best (IsFoundWhere c v cells)) after
    (λ x (i : OrBefore best (IsFoundWhere a v cells) x). elim i [ inl k ↦ inl k | inr f ↦ inr (record { pixel = pass_as v.width v.height a c e f.pixel; found = f.found }) ])
    (λ x (i : OrBefore best (IsFoundWhere c v cells) x). elim i [ inl k ↦ inl k | inr f ↦ inr (record { pixel = pass_as v.width v.height c a (λ x y lx ly. sym (e x y lx ly)) f.pixel; found = f.found }) ])
    h

pub touch_as : (a c : ℕ → ℕ → Bool) (v : Visit) (old new : List (List ℕ)) (before after : Seen) → IsTouch a v old new before after
    → ((x y : ℕ) → x < v.width → y < v.height → c x y ≡ a x y) → IsTouch c v old new before after
touch_as a c v old new before after p e = record {
  cells = cells_as a c v old new p.cells e;
  best = finds_as a c v old before.best after.best p.best e;
  some = (
    λ t. elim (p.some.0 t) [ inl k ↦ inl k | inr s ↦ inr (pass_as v.width v.height a c e s) ],
    λ (i : (before.some ≡ true) ⊎ SomePasses v.width v.height c). elim i [ inl k ↦ p.some.1 (inl k) | inr s ↦ p.some.1 (inr (pass_as v.width v.height c a (λ x y lx ly. sym (e x y lx ly)) s)) ],
  );
}

-- ---- one pixel, and a run

pixel_room : (w h x y : ℕ) → x < w → y < h → y * w + x < h * w
pixel_room w h x y lx ly = let m : (y + 1) * w ≤ h * w = mul-le-mul (omega arith) (omega arith) in omega arith

abbrev pub pixel_run : ℕ → ℕ → Run
pixel_run row x = record { row = row; from = x; to = x + 1 }

pixel_only : (row x u v : ℕ) → run_has (pixel_run row x) u v ≡ true → (u ≡ x) × (v ≡ row)
pixel_only row x u v t =
    let a = and_parts (row == v) (nat_le x u && nat_lt u (x + 1)) t in
    let b = and_parts (nat_le x u) (nat_lt u (x + 1)) a.1 in
    (omega (arith, leb-true x u b.0, ltb-true u (x + 1) b.1), sym (eqb-true row v a.0))

has_pixel : (row x : ℕ) → run_has (pixel_run row x) x row ≡ true
has_pixel row x =
    and_from (row == row) (nat_le x x && nat_lt x (x + 1)) (eq-eqb row row refl) (and_from (nat_le x x) (nat_lt x (x + 1)) (le-leb x x (omega arith)) (lt-ltb x (x + 1) (omega arith)))

pub pixel_cells : (v : Visit) (cells : List (List ℕ)) (row x : ℕ) → length cells ≡ v.height * v.width → x < v.width → row < v.height
    → AreTouched (run_has (pixel_run row x)) v cells (mark v.name cells (row * v.width + x))
pixel_cells v cells row x size lx ly u y lu hy = elim (cases_Bool (run_has (pixel_run row x) u y)) [
  | inl t ↦
      let s = pixel_only row x u y t in
      let here : y * v.width + u ≡ row * v.width + x = ap (λ k. k * v.width + u) s.1 ∙ ap (λ k. row * v.width + k) s.0 in
      let cell = cell_at cells (y * v.width + u) in
      ap (cell_at (mark v.name cells (row * v.width + x))) here
      ∙ get_or-set_same cells (row * v.width + x) (marked v.name (cell_at cells (row * v.width + x))) [] (omega (arith, pixel_room v.width v.height x row lx ly, size))
      ∙ ap (λ k. marked v.name (cell_at cells k)) (sym here) ∙ ap (λ b. cond b (marked v.name cell) cell) (sym t)
  | inr f ↦
      let ne : y * v.width + u ≢ row * v.width + x = λ e. (
      let s = same_pixel v.width u y x row lu lx e in
      let t : run_has (pixel_run row x) u y ≡ true = ap (λ k. run_has (pixel_run row x) k y) s.1 ∙ ap (run_has (pixel_run row x) x) s.0 ∙ has_pixel row x in
      true≢false (sym t ∙ f)) in
      let cell = cell_at cells (y * v.width + u) in
      get_or-set_other cells (row * v.width + x) (y * v.width + u) (marked v.name (cell_at cells (row * v.width + x))) [] ne ∙ ap (λ b. cond b (marked v.name cell) cell) (sym f)
]

pub pixel_finds : (v : Visit) (cells : List (List ℕ)) (row x : ℕ) (best after : Option Found) → x < v.width → row < v.height
    → IsFirst (OrBefore best (IsFoundIn v.name.client v.clock (cell_at cells (row * v.width + x)) (Pixel x row))) after
    → IsFirst (OrBefore best (IsFoundWhere (run_has (pixel_run row x)) v cells)) after
pixel_finds v cells row x best after lx ly h = first_as (OrBefore best (Here x row)) (OrBefore best (IsFoundWhere (run_has (pixel_run row x)) v cells)) after to from h
  where
    Here : ℕ → ℕ → Found → Type 0
    Here u y = IsFoundIn v.name.client v.clock (cell_at cells (y * v.width + u)) (Pixel u y)

    to : (z : Found) → OrBefore best (Here x row) z → OrBefore best (IsFoundWhere (run_has (pixel_run row x)) v cells) z
    to z (inl e) = inl e
    to z (inr f) = inr (record { pixel = record { column = x; row = row; wide = lx; high = ly; passes = has_pixel row x }; found = f })

    from : (z : Found) → OrBefore best (IsFoundWhere (run_has (pixel_run row x)) v cells) z → OrBefore best (Here x row) z
    from z (inl e) = inl e
    from z (inr f) = let s = pixel_only row x f.pixel.column f.pixel.row f.pixel.passes in inr (subst (λ u. Here u row z) s.0 (subst (λ y. Here f.pixel.column y z) s.1 f.found))

-- the pixels of a run up to below a column
abbrev pub run_to : Run → ℕ → Run
run_to r x = record { row = r.row; from = r.from; to = x }

pub run_none : (r : Run) (x y : ℕ) → run_has (run_to r r.from) x y ≡ false
run_none r x y = grind (arith, nat_tests)

pub run_more : (r : Run) (k x y : ℕ) → r.from ≤ k → run_has (run_to r (k + 1)) x y ≡ (run_has (run_to r k) x y || run_has (pixel_run r.row k) x y)
run_more r k x y le = grind (arith, nat_tests)

pub run_some : (w h : ℕ) (r : Run) (before after : Bool) → IsRunIn w h r → after ≡ (before || nat_lt r.from r.to) → (after ≡ true) ↔ ((before ≡ true) ⊎ SomePasses w h (run_has r))
run_some w h r before after ok e = (to before e, from before e)
  where
    to : (b : Bool) → after ≡ (b || nat_lt r.from r.to) → after ≡ true → (b ≡ true) ⊎ SomePasses w h (run_has r)
    to true e t = inl refl
    to false e t =
        let some : nat_lt r.from r.to ≡ true = sym e ∙ t in
        let lt = ltb-true r.from r.to some in
        inr (record {
          column = r.from;
          row = r.row;
          wide = omega (arith, ok.2);
          high = ok.0;
          passes = and_from (r.row == r.row) (nat_le r.from r.from && nat_lt r.from r.to) (eq-eqb r.row r.row refl) (and_from (nat_le r.from r.from) (nat_lt r.from r.to) (le-leb r.from r.from (omega arith)) some);
        })

    from : (b : Bool) → after ≡ (b || nat_lt r.from r.to) → (b ≡ true) ⊎ SomePasses w h (run_has r) → after ≡ true
    from b e (inl t) = e ∙ ap (λ k. k || nat_lt r.from r.to) t
    from b e (inr s) =
        let a = and_parts (r.row == s.row) (nat_le r.from s.column && nat_lt s.column r.to) s.passes in
        let c = and_parts (nat_le r.from s.column) (nat_lt s.column r.to) a.1 in
        let lt : r.from < r.to = omega (arith, leb-true r.from s.column c.0, ltb-true s.column r.to c.1) in
        e ∙ ap (λ k. b || k) (lt-ltb r.from r.to lt) ∙ or-true b

-- ---- rows of a triangle

pub outside_left : (r : Rect) (x y : ℤ) → x <ℤ r.x0 → is_in_rect r x y ≡ false
outside_left r x y h = grind (arith, ints)

pub outside_right : (r : Rect) (x y : ℤ) → r.x1 ≤ℤ x → is_in_rect r x y ≡ false
outside_right r x y h = grind (arith, ints)

pub outside_below : (r : Rect) (x y : ℤ) → y <ℤ r.y0 → is_in_rect r x y ≡ false
outside_below r x y h = grind (arith, ints)

pub outside_above : (r : Rect) (x y : ℤ) → r.y1 ≤ℤ y → is_in_rect r x y ≡ false
outside_above r x y h = grind (arith, ints)

-- the covered pixels of the rows below z
abbrev pub rows_below : List WindowVertex → Rect → ℤ → ℕ → ℕ → Bool
rows_below v part z x y = triangle_has v part x y && int_lt (pos y) z

has_not : (v : List WindowVertex) (part : Rect) (x y : ℕ) → is_in_rect part (pos x) (pos y) ≡ false → triangle_has v part x y ≡ false
has_not v part x y e = ap (λ b. is_inside v (pos x) (pos y) && b) e ∙ and-false (is_inside v (pos x) (pos y))

pub first_rows : (v : List WindowVertex) (part : Rect) (x y : ℕ) → rows_below v part part.y0 x y ≡ false
first_rows v part x y =
    by_lt_z (pos y) part.y0 (λ l. ap (λ b. b && int_lt (pos y) part.y0) (has_not v part x y (outside_below part (pos x) (pos y) l)))
    (λ g. ap (λ b. triangle_has v part x y && b) (int_lt_false (pos y) part.y0 g) ∙ and-false (triangle_has v part x y))

-- in rows without a covered pixel
empty_has : (v : List WindowVertex) (part : Rect) (y0 y1 : ℤ) (x y : ℕ) → AreEmptyRows v part y0 y1 → y0 ≤ℤ pos y → pos y <ℤ y1 → triangle_has v part x y ≡ false
empty_has v part y0 y1 x y e low high =
    by_lt_z (pos x) part.x0 (λ l. has_not v part x y (outside_left part (pos x) (pos y) l))
    (λ a. by_lt_z (pos x) part.x1 (λ b. ap (λ k. k && is_in_rect part (pos x) (pos y)) (e (pos y) low high (pos x) a b)) (λ b. has_not v part x y (outside_right part (pos x) (pos y) b)))

pub last_rows : (v : List WindowVertex) (part : Rect) (z : ℤ) (x y : ℕ) → AreEmptyRows v part z part.y1 → triangle_has v part x y ≡ rows_below v part z x y
last_rows v part z x y e =
    by_lt_z (pos y) z (λ l. sym (ap (λ b. triangle_has v part x y && b) (int_lt_true (pos y) z l) ∙ and_true (triangle_has v part x y)))
    (λ g.
    let none : triangle_has v part x y ≡ false = by_lt_z (pos y) part.y1 (λ b. empty_has v part z part.y1 x y e g b) (λ b. has_not v part x y (outside_above part (pos x) (pos y) b)) in
    none ∙ sym (ap (λ b. b && int_lt (pos y) z) none))
  where
    and_true : (b : Bool) → (b && true) ≡ b
    and_true true = refl
    and_true false = refl

not_row : (x y : ℕ) (r : Run) → r.row ≢ y → run_has r x y ≡ false
not_row x y r ne = ap (λ b. b && (nat_le r.from x && nat_lt x r.to)) (ne_eqb r.row y ne)

span_run : (s : Span) (r : Run) (x : ℕ) → s.x0 ≡ pos r.from → s.x1 ≡ pos r.to → in_span s (pos x) ≡ (nat_le r.from x && nat_lt x r.to)
span_run s r x e f = grind (arith, ints, nat_tests)

row_has : (v : List WindowVertex) (part : Rect) (z : ℤ) (s : Span) (r : Run) (x y : ℕ) → IsNextSpan v part z s → part.y0 ≤ℤ z → s.y ≡ pos y → r.row ≡ y → s.x0 ≡ pos r.from → s.x1 ≡ pos r.to
    → triangle_has v part x y ≡ run_has r x y
row_has v part z s r x y n low row same e f =
    let here : run_has r x y ≡ (nat_le r.from x && nat_lt x r.to) = ap (λ b. b && (nat_le r.from x && nat_lt x r.to)) (eq-eqb r.row y same) in
    let from = n.from in
    let top = n.below in
    let left = n.span.low in
    let right = n.span.high in
    by_lt_z (pos x) part.x0
    (λ l. has_not v part x y (outside_left part (pos x) (pos y) l) ∙ sym (here ∙ ap (λ b. b && nat_lt x r.to) (lt-leb r.from x (omega (arith, ints)))))
    (λ a. by_lt_z (pos x) part.x1
    (λ b.
    ap (λ k. is_inside v (pos x) (pos y) && k) (inside_rect part (pos x) (pos y) a b (omega (arith, ints)) (omega (arith, ints)))
    ∙ and_true (is_inside v (pos x) (pos y)) ∙ ap (is_inside v (pos x)) (sym row) ∙ n.span.exact (pos x) a b ∙ span_run s r x e f ∙ sym here)
    (λ b. has_not v part x y (outside_right part (pos x) (pos y) b) ∙ sym (here ∙ ap (λ c. nat_le r.from x && c) (le-ltb x r.to (omega (arith, ints))) ∙ and-false (nat_le r.from x))))
  where
    and_true : (b : Bool) → (b && true) ≡ b
    and_true true = refl
    and_true false = refl

pub rows_more : (v : List WindowVertex) (part : Rect) (z w : ℤ) (s : Span) (r : Run) (x y : ℕ) → IsNextSpan v part z s → part.y0 ≤ℤ z → w ≡ s.y +ℤ pos 1 → s.y ≡ pos r.row → s.x0 ≡ pos r.from → s.x1 ≡ pos r.to
    → rows_below v part w x y ≡ (rows_below v part z x y || run_has r x y)
rows_more v part z w s r x y n low next row e f =
    let from = n.from in
    let T : Bool = triangle_has v part x y in
    by_lt_z (pos y) z
    (λ l.
    let ne : r.row ≢ y = λ k. (let k' : pos r.row ≡ pos y = ap pos k in absurd (omega (arith, ints))) in
    ap (λ b. T && b) (int_lt_true (pos y) w (omega (arith, ints))) ∙ sym (ap (λ b. (T && b) || run_has r x y) (int_lt_true (pos y) z l) ∙ ap (λ b. (T && true) || b) (not_row x y r ne) ∙ or-false (T && true)))
    (λ g. by_lt_z (pos y) s.y
    (λ l.
    let ne : r.row ≢ y = λ k. (let k' : pos r.row ≡ pos y = ap pos k in absurd (omega (arith, ints))) in
    let none : T ≡ false = empty_has v part z s.y x y n.skipped g l in
    ap (λ b. b && int_lt (pos y) w) none ∙ sym (ap (λ b. (b && int_lt (pos y) z) || run_has r x y) none ∙ not_row x y r ne))
    (λ g'. by_lt_z (pos y) w
    (λ l.
    let here : s.y ≡ pos y = omega (arith, ints) in
    let same : r.row ≡ y = omega (arith, ints) in
    let t = row_has v part z s r x y n low here same e f in
    ap (λ b. T && b) (int_lt_true (pos y) w l) ∙ and_true T ∙ t ∙ sym (ap (λ b. (T && b) || run_has r x y) (int_lt_false (pos y) z g) ∙ ap (λ b. b || run_has r x y) (and-false T)))
    (λ l.
    let ne : r.row ≢ y = λ k. (let k' : pos r.row ≡ pos y = ap pos k in absurd (omega (arith, ints))) in
    ap (λ b. T && b) (int_lt_false (pos y) w l) ∙ and-false T ∙ sym (ap (λ b. (T && b) || run_has r x y) (int_lt_false (pos y) z g) ∙ ap (λ b. b || run_has r x y) (and-false T) ∙ not_row x y r ne))))
  where
    and_true : (b : Bool) → (b && true) ≡ b
    and_true true = refl
    and_true false = refl

-- a span of a part of the window lies in the window
pub record IsSpanOf (width height : ℕ) (s : Span) : Type 0 where
  pub row : pos 0 ≤ℤ s.y
  pub rows : s.y <ℤ pos height
  pub left : pos 0 ≤ℤ s.x0
  pub some : s.x0 <ℤ s.x1
  pub right : s.x1 ≤ℤ pos width

pub span_of_part : (v : List WindowVertex) (width height : ℕ) (part : Rect) (z : ℤ) (s : Span) → IsWithinWindow width height part → IsNextSpan v part z s → part.y0 ≤ℤ z → IsSpanOf width height s
span_of_part v width height part z s p n low =
    let a = p.left in
    let b = p.right in
    let c = p.bottom in
    let d = p.top in
    let from = n.from in
    let below = n.below in
    let left = n.span.low in
    let right = n.span.high in
    record { row = omega (arith, ints); rows = omega (arith, ints); left = omega (arith, ints); some = n.span.some; right = omega (arith, ints) }

pub run_inside : (width height : ℕ) (s : Span) (r : Run) → IsSpanOf width height s → s.y ≡ pos r.row → s.x0 ≡ pos r.from → s.x1 ≡ pos r.to → IsRunIn width height r
run_inside width height s r h row from to =
    let a = h.rows in
    let b = h.some in
    let c = h.right in
    (omega (arith, ints), omega (arith, ints), omega (arith, ints))

-- From the spans of a triangle to the pixels of a grid.
use Rattle.std.proofs.Common.{◌≡◌, ℕ, ◌+◌, ◌*◌, ◌<◌, ◌≤◌, ℤ, pos, ◌+ℤ◌, ◌≤ℤ◌, ◌<ℤ◌, Bool, true, false, ◌&&◌, if◌then◌else◌, arith, List, Option, ◌⊎◌, inl, inr, refl, sym, ◌∙◌, ap, subst, int_eq}
use Rattle.std.proofs.lemmas.Int.{ints, by_lt_z, int_max_is}
use Rattle.std.proofs.lemmas.Bool.{false_from_ne_true}
use Rattle.std.specs.Int.{int_max}
use Rattle.std.proofs.lemmas.Bool.Decides.{Decides-int_eq}
use Rattle.std.proofs.Math.Bool.{and-false}
use Rattle.rc_base.specs.Pictures.{Picture}
use Rattle.rc_base.specs.Cluster.Tiles.{is_in_rect}
use Rattle.rc_base.specs.Drawing.Cover.{is_inside, is_in_scissor, covers}
use Rattle.rc_base.specs.Drawing.PixelStep.{clear_step}
use Rattle.rc_base.specs.declared.state.State.{State}
use Rattle.rc_base.specs.declared.window.WindowVertex.{WindowVertex}
use Rattle.rc_base.specs.declared.window.Span.{Span}
use Rattle.rc_base.specs.declared.window.Rect.{Rect}
use Rattle.rc_base.specs.declared.window.Pixel.{Pixel}
use Rattle.raster.specs.Clamped.{HoldsCover}
use Rattle.raster.specs.Spans.{in_span, IsNextSpan, IsRowSpan, AreEmptyRows}
use Rattle.plain_lemmas.proofs.Places.{next_row}
use Rattle.scene_lemmas.proofs.Rectangles.{inside_rect}
use Rattle.draw_device.specs.Pixels.{pixel_at}
use Rattle.raster.specs.Clips.{IsPartWhere, is_let_through}
use Rattle.draw_device.specs.Shapes.{column_at, row_at, grid_rect, span_has, span_step, fragment_pixel, tried_pixel, cleared_pixel, covered_step, IsRowStepped, IsStepped, IsSteppedBelow, IsSpanIn}
use Rattle.draw_device.specs.declared.grid.Extent.{Extent}

-- ---- one span

misses_row : (s : Span) (x y : ℤ) → ¬ (y ≡ s.y) → span_has s x y ≡ false
misses_row s x y h = by (int_eq y s.y) refl
  where
    by : (t : Bool) → int_eq y s.y ≡ t → (t && in_span s x) ≡ false
    by true e = absurd (h ((Decides-int_eq y s.y).0 e))
    by false e = refl

misses_column : (s : Span) (x y : ℤ) → in_span s x ≡ false → span_has s x y ≡ false
misses_column s x y h = by (int_eq y s.y)
  where
    by : (t : Bool) → (t && in_span s x) ≡ false
    by true = h
    by false = refl

span_takes : (s : Span) (x y : ℤ) → y ≡ s.y → in_span s x ≡ true → span_has s x y ≡ true
span_takes s x y h k = rw ((Decides-int_eq y s.y).1 h) k

in_yes : (s : Span) (x : ℤ) → s.x0 ≤ℤ x → x <ℤ s.x1 → in_span s x ≡ true
in_yes s x h k = grind (arith, ints)

in_low : (s : Span) (x : ℤ) → x <ℤ s.x0 → in_span s x ≡ false
in_low s x h = grind (arith, ints)

in_high : (s : Span) (x : ℤ) → s.x1 ≤ℤ x → in_span s x ≡ false
in_high s x h = grind (arith, ints)

-- a run of a row's columns is a step of a span's pixels
pub span_drawn : (f : ℤ → ℤ → Pixel → Pixel) (s : Span) (g : Extent) (r a b : ℕ) (old new : List Pixel)
    → s.y ≡ pos (g.bottom + r) → s.x0 ≡ pos (g.left + a) → s.x1 ≡ pos (g.left + b) → a ≤ b → b ≤ g.width
    → IsRowStepped f g.left (g.bottom + r) (r * g.width) a b old new
    → IsStepped (span_step f s) g old new
span_drawn f s g r a b old new ey ea eb ab bw d = record { each = by }
  where
    by : (i j : ℕ) → i < g.width → j < g.height
        → pixel_at new (j * g.width + i) ≡ span_step f s (column_at g i) (row_at g j) (pixel_at old (j * g.width + i))
    by i j hi hj =
        let w = g.width in
        let x = column_at g i in
        let y = row_at g j in
        let k = j * w + i in
        by_lt_z (pos j) (pos r)
        (λ l. let m : j * w + w ≤ r * w = next_row w j r (omega (arith, ints)) in rw (misses_row s x y (λ e. absurd (omega (arith, ints)))) (d.before k (omega arith)))
        (λ u. by_lt_z (pos r) (pos j)
        (λ l. let m : r * w + w ≤ j * w = next_row w r j (omega (arith, ints)) in rw (misses_row s x y (λ e. absurd (omega (arith, ints)))) (d.after k (omega arith)))
        (λ v. let q : j ≡ r = omega (arith, ints) in let p : j * w ≡ r * w = ap (λ n. n * w) q in
        by_lt_z x s.x0
        (λ m. rw (misses_column s x y (in_low s x m)) (d.before k (omega (arith, ints))))
        (λ m. by_lt_z x s.x1
        (λ z. let here : pixel_at new (r * w + i) ≡ f (pos (g.left + i)) (pos (g.bottom + r)) (pixel_at old (r * w + i)) = d.run i (omega (arith, ints)) (omega (arith, ints)) in
        rw (span_takes s x y (omega (arith, ints)) (in_yes s x m z)) (rw q here))
        (λ z. rw (misses_column s x y (in_high s x z)) (d.after k (omega (arith, ints)))))))

-- ---- rows one after the other

-- what a step makes of the rows from y up to a span's row, and of that row: the step of the span's pixels, and nothing of the others
pub record IsRowStep (step f : ℤ → ℤ → Pixel → Pixel) (g : Extent) (y : ℤ) (s : Span) : Type 0 where
  pub from : y ≤ℤ s.y
  pub skipped : (i j : ℕ) → i < g.width → j < g.height → y ≤ℤ row_at g j → row_at g j <ℤ s.y → (o : Pixel) → step (column_at g i) (row_at g j) o ≡ o
  pub taken : (i j : ℕ) → i < g.width → j < g.height → row_at g j ≡ s.y → (o : Pixel)
      → step (column_at g i) (row_at g j) o ≡ span_step f s (column_at g i) (row_at g j) o

pub stepped_more : (step f : ℤ → ℤ → Pixel → Pixel) (g : Extent) (old now new : List Pixel) (y z : ℤ) (s : Span)
    → IsSteppedBelow step g old now y → IsRowStep step f g y s → IsStepped (span_step f s) g now new → z ≡ s.y +ℤ pos 1
    → IsSteppedBelow step g old new z
stepped_more step f g old now new y z s b r d ez =
    let from = r.from in
    record {
      done = λ i j hi hj k. let x = column_at g i in let yj = row_at g j in
          by_lt_z yj y
          (λ l. other i j hi hj (λ e. absurd (omega (arith, ints))) ∙ b.done i j hi hj l)
          (λ u. by_lt_z yj s.y
          (λ l. other i j hi hj (λ e. absurd (omega (arith, ints))) ∙ b.rest i j hi hj u ∙ sym (r.skipped i j hi hj u l _))
          (λ v. d.each i j hi hj ∙ ap (λ (o : Pixel). span_step f s x yj o) (b.rest i j hi hj u) ∙ sym (r.taken i j hi hj (omega (arith, ints)) _)));
      rest = λ i j hi hj k. other i j hi hj (λ e. absurd (omega (arith, ints))) ∙ b.rest i j hi hj (omega (arith, ints));
    }
  where
    other : (i j : ℕ) → i < g.width → j < g.height → ¬ (row_at g j ≡ s.y) → pixel_at new (j * g.width + i) ≡ pixel_at now (j * g.width + i)
    other i j hi hj e = d.each i j hi hj ∙ rw (misses_row s (column_at g i) (row_at g j) e) refl

pub stepped_none : (step : ℤ → ℤ → Pixel → Pixel) (g : Extent) (old : List Pixel) (y : ℤ)
    → ((i j : ℕ) → i < g.width → j < g.height → row_at g j <ℤ y → (o : Pixel) → step (column_at g i) (row_at g j) o ≡ o)
    → IsSteppedBelow step g old old y
stepped_none step g old y idle = record {
  done = λ i j hi hj k. sym (idle i j hi hj k _);
  rest = λ i j hi hj k. refl;
}

pub stepped_all : (step : ℤ → ℤ → Pixel → Pixel) (g : Extent) (old now : List Pixel) (y : ℤ) → IsSteppedBelow step g old now y
    → ((i j : ℕ) → i < g.width → j < g.height → y ≤ℤ row_at g j → (o : Pixel) → step (column_at g i) (row_at g j) o ≡ o)
    → IsStepped step g old now
stepped_all step g old now y b idle = record {
  each = λ i j hi hj. by_lt_z (row_at g j) y (λ l. b.done i j hi hj l) (λ u. b.rest i j hi hj u ∙ sym (idle i j hi hj u _));
}

-- ---- a triangle

in_grid : (g : Extent) (i j : ℕ) → i < g.width → j < g.height → is_in_rect (grid_rect g) (column_at g i) (row_at g j) ≡ true
in_grid g i j hi hj = grind (arith, ints)

covers_is : (s : State) (v : List WindowVertex) (g : Extent) (part : Rect) (i j : ℕ) → IsPartWhere (grid_rect g) part (is_let_through s)
    → i < g.width → j < g.height → covers s v (column_at g i) (row_at g j) ≡ (is_inside v (column_at g i) (row_at g j) && is_in_rect part (column_at g i) (row_at g j))
unfolding covers
covers_is s v g part i j p hi hj = ap (λ (b : Bool). is_inside v (column_at g i) (row_at g j) && b) (p.exact (column_at g i) (row_at g j) (in_grid g i j hi hj))

pub outside_rows : (r : Rect) (x y : ℤ) → (y <ℤ r.y0) → is_in_rect r x y ≡ false
outside_rows r x y h = grind (arith, ints)

pub above_rows : (r : Rect) (x y : ℤ) → (r.y1 ≤ℤ y) → is_in_rect r x y ≡ false
above_rows r x y h = grind (arith, ints)

pub left_of : (r : Rect) (x y : ℤ) → (x <ℤ r.x0) → is_in_rect r x y ≡ false
left_of r x y h = grind (arith, ints)

pub right_of : (r : Rect) (x y : ℤ) → (r.x1 ≤ℤ x) → is_in_rect r x y ≡ false
right_of r x y h = grind (arith, ints)

module _ (s : State) (picture : Option Picture) (v : List WindowVertex) (g : Extent) (part : Rect) (p : IsPartWhere (grid_rect g) part (is_let_through s)) where
  step : ℤ → ℤ → Pixel → Pixel
  step = covered_step s picture v

  pub cut_off : (i j : ℕ) → i < g.width → j < g.height → is_in_rect part (column_at g i) (row_at g j) ≡ false → (o : Pixel)
      → covered_step s picture v (column_at g i) (row_at g j) o ≡ o
  unfolding covered_step
  cut_off i j hi hj e o = rw (covers_is s v g part i j p hi hj, e, and-false (is_inside v (column_at g i) (row_at g j))) refl

  pub uncovered : (i j : ℕ) → i < g.width → j < g.height → is_inside v (column_at g i) (row_at g j) ≡ false → (o : Pixel)
      → covered_step s picture v (column_at g i) (row_at g j) o ≡ o
  unfolding covered_step
  uncovered i j hi hj e o = rw (covers_is s v g part i j p hi hj, e) refl

  pub hit : (i j : ℕ) → i < g.width → j < g.height → is_inside v (column_at g i) (row_at g j) ≡ true → is_in_rect part (column_at g i) (row_at g j) ≡ true
      → (o : Pixel) → covered_step s picture v (column_at g i) (row_at g j) o ≡ fragment_pixel s picture v (column_at g i) (row_at g j) o
  unfolding covered_step
  hit i j hi hj e f o = rw (covers_is s v g part i j p hi hj, e, f) refl

  -- rows without a covered pixel in the part are as before
  pub empty_rows : (y z : ℤ) → AreEmptyRows v part y z → (i j : ℕ) → i < g.width → j < g.height → y ≤ℤ row_at g j → row_at g j <ℤ z → (o : Pixel)
      → covered_step s picture v (column_at g i) (row_at g j) o ≡ o
  empty_rows y z e i j hi hj low high o =
      by_lt_z (column_at g i) part.x0
      (λ l. cut_off i j hi hj (left_of part _ (row_at g j) l) o)
      (λ a. by_lt_z (column_at g i) part.x1
      (λ b. uncovered i j hi hj (e (row_at g j) low high (column_at g i) a b) o)
      (λ b. cut_off i j hi hj (right_of part _ (row_at g j) b) o))

  pub below_part : (i j : ℕ) → i < g.width → j < g.height → row_at g j <ℤ part.y0 → (o : Pixel)
      → covered_step s picture v (column_at g i) (row_at g j) o ≡ o
  below_part i j hi hj l o = cut_off i j hi hj (outside_rows part (column_at g i) _ l) o

  -- from row y on, where the rows from y to the part's top are empty
  pub rest_empty : (y : ℤ) → AreEmptyRows v part y part.y1 → (i j : ℕ) → i < g.width → j < g.height → y ≤ℤ row_at g j → (o : Pixel)
      → covered_step s picture v (column_at g i) (row_at g j) o ≡ o
  rest_empty y e i j hi hj low o =
      by_lt_z (row_at g j) part.y1 (λ l. empty_rows y part.y1 e i j hi hj low l o)
      (λ u. cut_off i j hi hj (above_rows part (column_at g i) _ u) o)

  in_row : (t : Span) (i j : ℕ) → i < g.width → j < g.height → IsRowSpan v (row_at g j) part.x0 part.x1 t → row_at g j ≡ t.y
      → part.y0 ≤ℤ row_at g j → row_at g j <ℤ part.y1
      → (b : Bool) → in_span t (column_at g i) ≡ b → (o : Pixel)
      → covered_step s picture v (column_at g i) (row_at g j) o ≡ span_step (fragment_pixel s picture v) t (column_at g i) (row_at g j) o
  in_row t i j hi hj r ey low high true e o =
      let x = column_at g i in
      let l = r.low in
      let h = r.high in
      let a : t.x0 ≤ℤ x = span_low t x e in
      let b : x <ℤ t.x1 = span_high t x e in
      let q : is_inside v x (row_at g j) ≡ true = r.exact x (omega (arith, ints)) (omega (arith, ints)) ∙ e in
      hit i j hi hj q (inside_rect part x (row_at g j) (omega (arith, ints)) (omega (arith, ints)) low high) o
      ∙ sym (rw (span_takes t x (row_at g j) ey e) refl)
    where
      span_low : (t : Span) (x : ℤ) → in_span t x ≡ true → t.x0 ≤ℤ x
      span_low t x e = grind (arith, ints)

      span_high : (t : Span) (x : ℤ) → in_span t x ≡ true → x <ℤ t.x1
      span_high t x e = grind (arith, ints)
  in_row t i j hi hj r ey low high false e o =
      by_lt_z (column_at g i) part.x0
      (λ l. cut_off i j hi hj (left_of part _ (row_at g j) l) o)
      (λ a. by_lt_z (column_at g i) part.x1
      (λ b. uncovered i j hi hj (r.exact (column_at g i) a b ∙ e) o)
      (λ b. cut_off i j hi hj (right_of part _ (row_at g j) b) o))
      ∙ sym (rw (misses_column t (column_at g i) (row_at g j) e) refl)

  pub triangle_row : (y : ℤ) (t : Span) → IsNextSpan v part y t → part.y0 ≤ℤ y → IsRowStep (covered_step s picture v) (fragment_pixel s picture v) g y t
  triangle_row y t n low =
      let from = n.from in
      let below = n.below in
      record {
        from = n.from;
        skipped = λ i j hi hj a b. empty_rows y t.y n.skipped i j hi hj a b;
        taken = λ i j hi hj e o. in_row t i j hi hj (rw e n.span) e (omega (arith, ints)) (omega (arith, ints)) _ refl o;
      }

  -- ---- the pixels of a part that holds what the triangle covers, tried one by one

  -- nothing is covered beside the columns of the part
  idle_row : (i j : ℕ) → i < g.width → j < g.height → ((x : ℤ) → part.x0 ≤ℤ x → x <ℤ part.x1 → is_inside v x (row_at g j) ≡ false) → (o : Pixel)
      → covered_step s picture v (column_at g i) (row_at g j) o ≡ o
  idle_row i j hi hj e o =
      by_lt_z (column_at g i) part.x0
      (λ l. cut_off i j hi hj (left_of part _ (row_at g j) l) o)
      (λ a. by_lt_z (column_at g i) part.x1
      (λ b. uncovered i j hi hj (e (column_at g i) a b) o)
      (λ b. cut_off i j hi hj (right_of part _ (row_at g j) b) o))

  pub tried_below : (few : Rect) → HoldsCover v part few → (i j : ℕ) → i < g.width → j < g.height → row_at g j <ℤ int_max few.y0 part.y0 → (o : Pixel)
      → covered_step s picture v (column_at g i) (row_at g j) o ≡ o
  tried_below few h i j hi hj l o =
      by_lt_z (row_at g j) part.y0
      (λ m. cut_off i j hi hj (outside_rows part (column_at g i) _ m) o)
      (λ u. idle_row i j hi hj (λ x a b. false_from_ne_true (is_inside v x (row_at g j))
      (λ t. let low = h.low x (row_at g j) a b t in absurd (omega (arith, ints, int_max_is few.y0 part.y0)))) o)

  pub tried_above : (few : Rect) → HoldsCover v part few → (i j : ℕ) → i < g.width → j < g.height → few.y1 ≤ℤ row_at g j → (o : Pixel)
      → covered_step s picture v (column_at g i) (row_at g j) o ≡ o
  tried_above few h i j hi hj l o =
      by_lt_z (row_at g j) part.y1
      (λ m. idle_row i j hi hj (λ x a b. false_from_ne_true (is_inside v x (row_at g j))
      (λ t. let high = h.high x (row_at g j) a b m t in absurd (omega (arith, ints)))) o)
      (λ u. cut_off i j hi hj (above_rows part (column_at g i) _ u) o)

  step_none : (f : ℤ → ℤ → Pixel → Pixel) (t : Span) (x y : ℤ) (o : Pixel) → f x y o ≡ o → span_step f t x y o ≡ o
  step_none f t x y o h = by (span_has t x y)
    where
      by : (b : Bool) → (if b then f x y o else o) ≡ o
      by true = h
      by false = refl

  tried_in : (few : Rect) (t : Span) → HoldsCover v part few → t.x0 ≡ few.x0 → t.x1 ≡ few.x1 → (i j : ℕ) → i < g.width → j < g.height
      → row_at g j ≡ t.y → part.y0 ≤ℤ row_at g j → row_at g j <ℤ part.y1 → (b : Bool) → is_inside v (column_at g i) (row_at g j) ≡ b → (o : Pixel)
      → covered_step s picture v (column_at g i) (row_at g j) o ≡ span_step (tried_pixel s picture v) t (column_at g i) (row_at g j) o
  tried_in few t h ex0 ex1 i j hi hj ey low high false e o =
      uncovered i j hi hj e o ∙ sym (step_none (tried_pixel s picture v) t (column_at g i) (row_at g j) o (rw e refl))
  tried_in few t h ex0 ex1 i j hi hj ey low high true e o =
      let x = column_at g i in
      let y = row_at g j in
      let left = h.left in
      let right = h.right in
      by_lt_z x part.x0
      (λ l. cut_off i j hi hj (left_of part _ y l) o ∙ sym (rw (misses_column t x y (in_low t x (omega (arith, ints)))) refl))
      (λ a. by_lt_z x part.x1
      (λ b. let k = h.columns x y a b e in
      let m = k.0 in
      let n = k.1 in
      hit i j hi hj e (inside_rect part x y a b low high) o
      ∙ sym (rw (span_takes t x y ey (in_yes t x (omega (arith, ints)) (omega (arith, ints))), e) refl))
      (λ b. cut_off i j hi hj (right_of part _ y b) o ∙ sym (rw (misses_column t x y (in_high t x (omega (arith, ints)))) refl)))

  pub tried_row : (few : Rect) (t : Span) → HoldsCover v part few → t.x0 ≡ few.x0 → t.x1 ≡ few.x1 → part.y0 ≤ℤ t.y → t.y <ℤ part.y1
      → IsRowStep (covered_step s picture v) (tried_pixel s picture v) g t.y t
  tried_row few t h ex0 ex1 low high = record {
    from = omega (arith, ints);
    skipped = λ i j hi hj a b. absurd (omega (arith, ints));
    taken = λ i j hi hj e o. tried_in few t h ex0 ex1 i j hi hj e (omega (arith, ints)) (omega (arith, ints)) _ refl o;
  }

-- a span of the part lies in the grid
pub span_in : (v : List WindowVertex) (g : Extent) (part : Rect) (test : ℤ → ℤ → Bool) (y : ℤ) (s : Span) → IsNextSpan v part y s → part.y0 ≤ℤ y
    → IsPartWhere (grid_rect g) part test → IsSpanIn g s
span_in v g part test y s n low p =
    let from = n.from in
    let below = n.below in
    let left = n.span.low in
    let right = n.span.high in
    let a = p.bounds.left in
    let b = p.bounds.right in
    let c = p.bounds.bottom in
    let d = p.bounds.top in
    record {
      low = omega (arith, ints);
      high = omega (arith, ints);
      left = omega (arith, ints);
      some = n.span.some;
      right = omega (arith, ints);
    }

pub span_covered : (v : List WindowVertex) (rect : Rect) (y : ℤ) (s : Span) → IsNextSpan v rect y s → (x : ℤ) → s.x0 ≤ℤ x → x <ℤ s.x1 → is_inside v x s.y ≡ true
span_covered v rect y s n x low high =
    let left = n.span.low in
    let right = n.span.high in
    n.span.exact x (omega (arith, ints)) (omega (arith, ints)) ∙ in_yes s x low high

-- ---- a Clear

row_taken : (s : State) (mask : ℕ) (part : Rect) (x y : ℤ) → is_in_scissor s x y ≡ is_in_rect part x y → part.y0 ≤ℤ y → y <ℤ part.y1 → (o : Pixel)
    → clear_step s mask x y o ≡ span_step (cleared_pixel s mask) (record { y = y; x0 = part.x0; x1 = part.x1 }) x y o
row_taken s mask part x y e low high o =
    let row : Span = record { y = y; x0 = part.x0; x1 = part.x1 } in
    by_lt_z x part.x0
    (λ l. rw (e, left_of part x y l, misses_column row x y (in_low row x l)) refl)
    (λ a. by_lt_z x part.x1
    (λ b. rw (e, inside_rect part x y a b low high, span_takes row x y refl (in_yes row x a b)) refl)
    (λ b. rw (e, right_of part x y b, misses_column row x y (in_high row x b)) refl))

module _ (s : State) (mask : ℕ) (g : Extent) (part : Rect) (p : IsPartWhere (grid_rect g) part (is_in_scissor s)) where
  not_cleared : (i j : ℕ) → i < g.width → j < g.height → is_in_rect part (column_at g i) (row_at g j) ≡ false → (o : Pixel)
      → clear_step s mask (column_at g i) (row_at g j) o ≡ o
  not_cleared i j hi hj e o = rw (p.exact (column_at g i) (row_at g j) (in_grid g i j hi hj), e) refl

  pub below_cleared : (i j : ℕ) → i < g.width → j < g.height → row_at g j <ℤ part.y0 → (o : Pixel)
      → clear_step s mask (column_at g i) (row_at g j) o ≡ o
  below_cleared i j hi hj l o = not_cleared i j hi hj (outside_rows part (column_at g i) _ l) o

  pub above_cleared : (i j : ℕ) → i < g.width → j < g.height → part.y1 ≤ℤ row_at g j → (o : Pixel)
      → clear_step s mask (column_at g i) (row_at g j) o ≡ o
  above_cleared i j hi hj l o = not_cleared i j hi hj (above_rows part (column_at g i) _ l) o

  -- a part without columns or rows lets nothing through
  pub none_cleared : (old : List Pixel) → (part.x1 ≤ℤ part.x0) ⊎ (part.y1 ≤ℤ part.y0) → IsStepped (clear_step s mask) g old old
  none_cleared old e = record { each = λ i j hi hj. sym (not_cleared i j hi hj (empty (column_at g i) (row_at g j) e) _) }
    where
      empty : (x y : ℤ) → (part.x1 ≤ℤ part.x0) ⊎ (part.y1 ≤ℤ part.y0) → is_in_rect part x y ≡ false
      empty x y (inl a) = by_lt_z x part.x0 (λ l. left_of part x y l) (λ l. right_of part x y (omega (arith, ints)))
      empty x y (inr a) = by_lt_z y part.y0 (λ l. outside_rows part x y l) (λ l. above_rows part x y (omega (arith, ints)))

  pub clear_row : (r : ℕ) → part.y0 ≤ℤ row_at g r → row_at g r <ℤ part.y1
      → IsRowStep (clear_step s mask) (cleared_pixel s mask) g (row_at g r) (record { y = row_at g r; x0 = part.x0; x1 = part.x1 })
  clear_row r low high = record {
    from = omega (arith, ints);
    skipped = λ i j hi hj a b. absurd (omega (arith, ints));
    taken = λ i j hi hj e o. subst (λ (y : ℤ). clear_step s mask (column_at g i) (row_at g j) o
        ≡ span_step (cleared_pixel s mask) (record { y = y; x0 = part.x0; x1 = part.x1 }) (column_at g i) (row_at g j) o) e
        (row_taken s mask part (column_at g i) (row_at g j) (p.exact (column_at g i) (row_at g j) (in_grid g i j hi hj)) (omega (arith, ints)) (omega (arith, ints)) o);
  }

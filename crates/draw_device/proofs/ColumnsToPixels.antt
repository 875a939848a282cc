-- From the rows of one column to the pixels of a grid.
use Rattle.std.proofs.Common.{◌≡◌, ℕ, ◌+◌, ◌*◌, ◌<◌, ◌≤◌, ℤ, pos, ◌+ℤ◌, ◌≤ℤ◌, ◌<ℤ◌, Bool, true, false, ◌&&◌, arith, List, Option, None, Some, is_some, length, refl, mul-le-mul, sym, ◌∙◌, ap, subst, length-set, int_eq, int_le, int_lt}
use Rattle.std.proofs.lemmas.Int.{ints, by_lt_z}
use Rattle.std.proofs.lemmas.List.{get_or-set_other}
use Rattle.std.proofs.lemmas.Grind.{get_or-set_at}
use lib.ListN.{set}
use Rattle.rc_base.specs.Pictures.{Picture}
use Rattle.rc_base.specs.Drawing.Cover.{is_inside}
use Rattle.rc_base.specs.declared.command.Rgba.{Rgba}
use Rattle.rc_base.specs.declared.state.State.{State}
use Rattle.rc_base.specs.declared.window.Pixel.{Pixel}
use Rattle.rc_base.specs.declared.window.Rect.{Rect}
use Rattle.rc_base.specs.declared.window.WindowVertex.{WindowVertex}
use Rattle.raster.specs.Spans.{IsOnlyColumn, AreEmptyRows}
use Rattle.raster.specs.Colors.{HasDepths, IsColorRise}
use Rattle.raster.specs.declared.color.ColorRamp.{ColorRamp}
use Rattle.raster.specs.declared.column.Column.{Column}
use Rattle.fragment_ops.specs.DepthTests.{pixel}
use Rattle.plain_lemmas.proofs.Places.{next_row}
use Rattle.scene_lemmas.proofs.Rectangles.{inside_rect}
use Rattle.draw_device.specs.Pixels.{pixel_at, color_at, depth_at, pixels_of}
use Rattle.raster.specs.Clips.{IsPartWhere, is_let_through}
use Rattle.draw_device.specs.Columns.{place_in, column_fragment, is_column_inside, IsColumnStepped, IsColumnColored, IsColumnDrawn, IsRiseAt, IsOnlyRun, column_of}
use Rattle.draw_device.specs.Loops.{StoresColor}
use Rattle.draw_device.specs.Plans.{AreStored}
use Rattle.draw_device.proofs.Lists.{length_pixels, pixel_in}
use Rattle.draw_device.proofs.Steps.{alone_step}
use Rattle.draw_device.specs.Shapes.{column_at, row_at, grid_rect, fragment_pixel, covered_step, IsStepped}
use Rattle.draw_device.specs.declared.column_run.ColumnRun.{ColumnRun}
use Rattle.draw_device.specs.declared.grid.Extent.{Extent}
use Rattle.draw_device.proofs.SpansToPixels.{cut_off, uncovered, hit, outside_rows, above_rows, left_of, right_of}

-- two places of one column are apart
apart : (r : ColumnRun) (j k : ℕ) → r.across < r.width → j < k → place_in r j < place_in r k
apart r j k h l = let m : j * r.width + r.width ≤ k * r.width = next_row r.width j k l in omega arith

-- one more row
pub colored_more : (g : ℕ → Rgba) (r : ColumnRun) (y at : ℕ) (old now : List Rgba) (q : Rgba) → r.across < r.width → IsColumnColored g r y old now → r.from ≤ y
    → at ≡ place_in r y → at < length now → q ≡ g y → IsColumnColored g r (y + 1) old (set now at q)
colored_more g r y at old now q inside d h e l s = record {
  size = length-set _ _ _ ∙ d.size;
  run = λ k m n. by_lt_z (pos k) (pos y)
      (λ o. let before : k < y = omega (arith, ints, o) in
      let a = apart r k y inside before in get_or-set_other now at (place_in r k) q _ (omega (arith, a, e)) ∙ d.run k m before)
      (λ o. let same : k ≡ y = omega (arith, ints, o, n) in
      get_or-set_at now at (place_in r k) q _ (ap (place_in r) same ∙ sym e) l ∙ s ∙ ap g (sym same));
  rest = λ n o. get_or-set_other now at n q _ (λ z. o y h (omega arith) (z ∙ e)) ∙ d.rest n (λ k m u. o k m (omega arith));
}

pub colored_none : (g : ℕ → Rgba) (r : ColumnRun) (old : List Rgba) → IsColumnColored g r r.from old old
colored_none g r old = record { size = refl; run = λ k m n. absurd (omega arith); rest = λ n h. refl }

pub colored_end : (g : ℕ → Rgba) (r : ColumnRun) (y to : ℕ) (old now : List Rgba) → y ≡ to → IsColumnColored g r y old now → IsColumnColored g r to old now
colored_end g r y to old now e d = subst (λ (n : ℕ). IsColumnColored g r n old now) e d

-- a column whose colours alone are stored
pub column_stored : (s : State) (v : List WindowVertex) (g : ℕ → Rgba) (r : ColumnRun) (old new : List Rgba) → StoresColor s → HasDepths v → ((k : ℕ) → r.from ≤ k → k < r.to → is_column_inside v r k ≡ true)
    → ((k : ℕ) → r.from ≤ k → k < r.to → g k ≡ (column_fragment v r k).color) → IsColumnColored g r r.to old new → IsColumnDrawn s None v r old new
column_stored s v g r old new kind ranged covered colors d ds e = record {
  size = length_pixels new ds (e ∙ sym d.size) ∙ d.size ∙ sym (length_pixels old ds e);
  run = λ k m n. at (place_in r k) ∙ (λ i. pixel (d.run k m n i) (depth_at ds (place_in r k)))
      ∙ alone_step s None (column_fragment v r k) (g k) (pixel (color_at old (place_in r k)) (depth_at ds (place_in r k))) kind (ranged _ _ (covered k m n)) (colors k m n)
      ∙ ap (λ (o : Pixel). fragment_pixel s None v (pos (r.left + r.across)) (pos (r.bottom + k)) o) (sym (pixel_in old ds (place_in r k) e));
  rest = λ n h. at n ∙ (λ i. pixel (d.rest n h i) (depth_at ds n)) ∙ sym (pixel_in old ds n e);
}
  where
    at : (n : ℕ) → pixel_at (pixels_of new ds) n ≡ pixel (color_at new n) (depth_at ds n)
    at n = pixel_in new ds n (e ∙ sym d.size)

-- the next row's colour
pub rise_moved : (v : List WindowVertex) (r : ColumnRun) (k : ℕ) (ramp : ColorRamp)
    → IsColorRise v (pos (r.left + r.across)) (pos (r.bottom + k) +ℤ pos 1) (1 + r.across + k + 1) ramp → IsRiseAt v r (k + 1) ramp
rise_moved v r k ramp h =
    let e : pos (r.bottom + k) +ℤ pos 1 ≡ pos (r.bottom + (k + 1)) = omega (arith, ints) in
    let n : 1 + r.across + k + 1 ≡ 1 + r.across + (k + 1) = omega arith in
    subst (λ (m : ℕ). IsColorRise v (pos (r.left + r.across)) (pos (r.bottom + (k + 1))) m ramp) n
    (subst (λ (z : ℤ). IsColorRise v (pos (r.left + r.across)) z (1 + r.across + k + 1) ramp) e h)

-- the first row's colour
pub rise_start : (v : List WindowVertex) (r : ColumnRun) (i j : ℕ) (ramp : ColorRamp) → i ≡ r.across → j ≡ r.from
    → IsColorRise v (pos r.left +ℤ pos i) (pos r.bottom +ℤ pos j) (1 + i + j) ramp → IsRiseAt v r r.from ramp
rise_start v r i j ramp e f h =
    let x : pos r.left +ℤ pos i ≡ pos (r.left + r.across) = omega (arith, ints) in
    let y : pos r.bottom +ℤ pos j ≡ pos (r.bottom + r.from) = omega (arith, ints) in
    let n : 1 + i + j ≡ 1 + r.across + r.from = omega arith in
    subst (λ (m : ℕ). IsColorRise v (pos (r.left + r.across)) (pos (r.bottom + r.from)) m ramp) n
    (subst (λ (z : ℤ). IsColorRise v (pos (r.left + r.across)) z (1 + i + j) ramp) y
    (subst (λ (z : ℤ). IsColorRise v z (pos r.bottom +ℤ pos j) (1 + i + j) ramp) x h))

-- the place of a row of the column lies in the pixels
pub place_below : (r : ColumnRun) (y length : ℕ) → r.across < r.width → y < r.to → r.to * r.width ≤ length → place_in r y < length
place_below r y length inside l room = let m : y * r.width + r.width ≤ r.to * r.width = next_row r.width y r.to l in omega arith

-- ---- the pixels of a grid

abbrev column_test : Column → ℤ → ℤ → Bool
column_test c x y = int_eq x c.x && (int_le c.y0 y && int_lt y c.y1)

test_yes : (c : Column) (x y : ℤ) → x ≡ c.x → c.y0 ≤ℤ y → y <ℤ c.y1 → column_test c x y ≡ true
test_yes c x y e l h = grind (arith, ints)

test_below : (c : Column) (x y : ℤ) → y <ℤ c.y0 → column_test c x y ≡ false
test_below c x y l = grind (arith, ints)

test_above : (c : Column) (x y : ℤ) → c.y1 ≤ℤ y → column_test c x y ≡ false
test_above c x y l = grind (arith, ints)

test_left : (c : Column) (x y : ℤ) → x <ℤ c.x → column_test c x y ≡ false
test_left c x y l = grind (arith, ints)

test_right : (c : Column) (x y : ℤ) → c.x <ℤ x → column_test c x y ≡ false
test_right c x y l = grind (arith, ints)

-- two places of a grid are one only where their columns and rows are
same_row : (w i j a k : ℕ) → i < w → a < w → j * w + i ≡ k * w + a → j ≡ k
same_row w i j a k hi ha e =
    by_lt_z (pos j) (pos k) (λ l. let m : j * w + w ≤ k * w = next_row w j k (omega (arith, ints)) in absurd (omega arith))
    (λ u. by_lt_z (pos k) (pos j) (λ l. let m : k * w + w ≤ j * w = next_row w k j (omega (arith, ints)) in absurd (omega arith)) (λ v. omega (arith, ints)))

same_column : (w i j a k : ℕ) → i < w → a < w → j * w + i ≡ k * w + a → i ≡ a
same_column w i j a k hi ha e = let q : j * w ≡ k * w = ap (λ (n : ℕ). n * w) (same_row w i j a k hi ha e) in omega arith

module _ (s : State) (picture : Option Picture) (v : List WindowVertex) (g : Extent) (part : Rect) (p : IsPartWhere (grid_rect g) part (is_let_through s)) where
  -- a pixel that the triangle doesn't cover, or that isn't of the part, is as before
  idle : (c : Column) → IsOnlyColumn v part c → (i j : ℕ) → i < g.width → j < g.height → column_test c (column_at g i) (row_at g j) ≡ false → (o : Pixel)
      → covered_step s picture v (column_at g i) (row_at g j) o ≡ o
  idle c n i j hi hj e o =
      let x = column_at g i in
      let y = row_at g j in
      by_lt_z x part.x0 (λ l. cut_off s picture v g part p i j hi hj (left_of part x y l) o)
      (λ a. by_lt_z x part.x1
      (λ b. by_lt_z y part.y0 (λ l. cut_off s picture v g part p i j hi hj (outside_rows part x y l) o)
      (λ d. by_lt_z y part.y1 (λ u. uncovered s picture v g part p i j hi hj (n.exact x y a b d u ∙ e) o)
      (λ u. cut_off s picture v g part p i j hi hj (above_rows part x y u) o)))
      (λ b. cut_off s picture v g part p i j hi hj (right_of part x y b) o))

  -- the rows of the column that the triangle covers are all that it draws
  pub column_drawn : (c : Column) (r : ColumnRun) (old new : List Pixel) → IsOnlyColumn v part c
      → r.left ≡ g.left → r.bottom ≡ g.bottom → r.width ≡ g.width → r.across < g.width
      → c.x ≡ pos (g.left + r.across) → c.y0 ≡ pos (g.bottom + r.from) → c.y1 ≡ pos (g.bottom + r.to)
      → IsColumnStepped (fragment_pixel s picture v) r r.to old new → IsStepped (covered_step s picture v) g old new
  column_drawn c r old new n el eb ew inside ex ey ez d = record { each = by }
    where
      kept : (i j : ℕ) → i < g.width → j < g.height → column_test c (column_at g i) (row_at g j) ≡ false
          → ((k : ℕ) → r.from ≤ k → k < r.to → ¬ (j * g.width + i ≡ place_in r k))
          → pixel_at new (j * g.width + i) ≡ covered_step s picture v (column_at g i) (row_at g j) (pixel_at old (j * g.width + i))
      kept i j hi hj e h = d.rest (j * g.width + i) h ∙ sym (idle c n i j hi hj e _)

      row_of : (i j k : ℕ) → i < g.width → j * g.width + i ≡ place_in r k → j ≡ k
      row_of i j k hi e = same_row g.width i j r.across k hi inside (e ∙ ap (λ (w : ℕ). k * w + r.across) ew)

      column_of : (i j k : ℕ) → i < g.width → j * g.width + i ≡ place_in r k → i ≡ r.across
      column_of i j k hi e = same_column g.width i j r.across k hi inside (e ∙ ap (λ (w : ℕ). k * w + r.across) ew)

      taken : (i j : ℕ) → i < g.width → j < g.height → i ≡ r.across → r.from ≤ j → j < r.to
          → pixel_at new (j * g.width + i) ≡ covered_step s picture v (column_at g i) (row_at g j) (pixel_at old (j * g.width + i))
      taken i j hi hj e low high =
          let x = column_at g i in
          let y = row_at g j in
          let test : column_test c x y ≡ true = test_yes c x y (omega (arith, ints)) (omega (arith, ints)) (omega (arith, ints)) in
          let a = n.left in
          let b = n.right in
          let m = n.low in
          let h = n.high in
          let x0 : part.x0 ≤ℤ x = omega (arith, ints) in
          let x1 : x <ℤ part.x1 = omega (arith, ints) in
          let y0 : part.y0 ≤ℤ y = omega (arith, ints) in
          let y1 : y <ℤ part.y1 = omega (arith, ints) in
          let place : place_in r j ≡ j * g.width + i = (λ t. j * ew t + sym e t) in
          let here : pixel_at new (place_in r j) ≡ fragment_pixel s picture v (pos (r.left + r.across)) (pos (r.bottom + j)) (pixel_at old (place_in r j)) = d.run j low high in
          let there : pixel_at new (j * g.width + i) ≡ fragment_pixel s picture v x y (pixel_at old (j * g.width + i)) =
          subst (λ (q : ℕ). pixel_at new q ≡ fragment_pixel s picture v x y (pixel_at old q)) place
          (here ∙ (λ t. fragment_pixel s picture v (pos (el t + sym e t)) (pos (eb t + j)) (pixel_at old (place_in r j)))) in
          there ∙ sym (hit s picture v g part p i j hi hj (n.exact x y x0 x1 y0 y1 ∙ test) (inside_rect part x y x0 x1 y0 y1) _)

      by : (i j : ℕ) → i < g.width → j < g.height
          → pixel_at new (j * g.width + i) ≡ covered_step s picture v (column_at g i) (row_at g j) (pixel_at old (j * g.width + i))
      by i j hi hj =
          let x = column_at g i in
          let y = row_at g j in
          by_lt_z (pos i) (pos r.across)
          (λ l. kept i j hi hj (test_left c x y (omega (arith, ints))) (λ k m h q. let e = column_of i j k hi q in absurd (omega (arith, ints))))
          (λ a. by_lt_z (pos r.across) (pos i)
          (λ l. kept i j hi hj (test_right c x y (omega (arith, ints))) (λ k m h q. let e = column_of i j k hi q in absurd (omega (arith, ints))))
          (λ b. by_lt_z (pos j) (pos r.from)
          (λ l. kept i j hi hj (test_below c x y (omega (arith, ints))) (λ k m h q. let e = row_of i j k hi q in absurd (omega (arith, ints))))
          (λ f. by_lt_z (pos j) (pos r.to)
          (λ l. taken i j hi hj (omega (arith, ints)) (omega (arith, ints)) (omega (arith, ints)))
          (λ u. kept i j hi hj (test_above c x y (omega (arith, ints))) (λ k m h q. let e = row_of i j k hi q in absurd (omega (arith, ints)))))))

  -- a triangle that misses the part draws nothing
  pub missed : (old : List Pixel) → AreEmptyRows v part part.y0 part.y1 → IsStepped (covered_step s picture v) g old old
  missed old e = record {
    each = λ i j hi hj. sym (by i j hi hj _);
  }
    where
      by : (i j : ℕ) → i < g.width → j < g.height → (o : Pixel) → covered_step s picture v (column_at g i) (row_at g j) o ≡ o
      by i j hi hj o =
          let x = column_at g i in
          let y = row_at g j in
          by_lt_z x part.x0 (λ l. cut_off s picture v g part p i j hi hj (left_of part x y l) o)
          (λ a. by_lt_z x part.x1
          (λ b. by_lt_z y part.y0 (λ l. cut_off s picture v g part p i j hi hj (outside_rows part x y l) o)
          (λ d. by_lt_z y part.y1 (λ u. uncovered s picture v g part p i j hi hj (e y d u x a b) o)
          (λ u. cut_off s picture v g part p i j hi hj (above_rows part x y u) o)))
          (λ b. cut_off s picture v g part p i j hi hj (right_of part x y b) o))

-- so many rows have no more pixels than all rows
pub rows_fit : (w h t : ℕ) → t ≤ h → t * w ≤ w * h
rows_fit w h t l = let m : t * w ≤ h * w = mul-le-mul l (omega arith) in omega arith

-- the triangle covers the rows of its only column
pub covered_rows : (v : List WindowVertex) (part : Rect) (c : Column) (x y : ℤ) → IsOnlyColumn v part c → x ≡ c.x → c.y0 ≤ℤ y → y <ℤ c.y1
    → is_inside v x y ≡ true
covered_rows v part c x y n e low high =
    let a = n.left in
    let b = n.right in
    let d = n.low in
    let h = n.high in
    n.exact x y (omega (arith, ints)) (omega (arith, ints)) (omega (arith, ints)) (omega (arith, ints)) ∙ test_yes c x y e low high

pub only_covered : (v : List WindowVertex) (g : Extent) (part : Rect) (r : ColumnRun) → IsOnlyRun v g part r → (k : ℕ) → r.from ≤ k → k < r.to → is_column_inside v r k ≡ true
only_covered v g part r o k low high = covered_rows v part (column_of r) _ _ o.only refl (omega (arith, ints)) (omega (arith, ints))

-- the rows of the only column lie in the grid
pub only_room : (v : List WindowVertex) (g : Extent) (part : Rect) (r : ColumnRun) (n : ℕ) → IsOnlyRun v g part r → n ≡ g.width * g.height → r.to * r.width ≤ n
only_room v g part r n o e =
    subst (λ (m : ℕ). r.to * r.width ≤ m) (sym e) (subst (λ (w : ℕ). r.to * w ≤ g.width * g.height) (sym o.width) (rows_fit g.width g.height r.to o.top))

-- a triangle of one column whose colours alone are stored
pub only_drawn : (s : State) (p : Option Picture) (v : List WindowVertex) (g : Extent) (part : Rect) (r : ColumnRun) (f : ℕ → Rgba) (old new : List Rgba) (ds : List ℕ)
    → IsPartWhere (grid_rect g) part (is_let_through s) → IsOnlyRun v g part r → AreStored s p v
    → ((k : ℕ) → r.from ≤ k → k < r.to → f k ≡ (column_fragment v r k).color) → IsColumnColored f r r.to old new → length ds ≡ length old
    → IsStepped (covered_step s p v) g (pixels_of old ds) (pixels_of new ds)
only_drawn s p v g part r f old new ds w o st colors d e =
    let drawn = column_stored s v f r old new st.alone st.ranged (only_covered v g part r o) colors d in
    let inside : r.across < g.width = subst (λ (n : ℕ). r.across < n) o.width o.run.inside in
    subst (λ (q : Option Picture). IsStepped (covered_step s q v) g (pixels_of old ds) (pixels_of new ds)) (sym st.none)
    (column_drawn s None v g part w (column_of r) r (pixels_of old ds) (pixels_of new ds) o.only o.left o.bottom o.width inside
    (λ i. pos (o.left i + r.across)) (λ i. pos (o.bottom i + r.from)) (λ i. pos (o.bottom i + r.to)) (drawn ds e))

pub no_picture : (p : Option Picture) → is_some p ≡ false → p ≡ None
no_picture None e = refl
no_picture (Some q) e = absurd (cc e)

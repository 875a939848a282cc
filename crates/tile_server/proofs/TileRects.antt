-- The rectangle of a tile lies in the window, and what a device has of it is the tile's part.
use Rattle.std.proofs.Common.{◌≡◌, ℕ, ◌+◌, ◌-◌, ◌*◌, ◌<◌, ◌≤◌, true, length, Some, Ok, Err, sym, ap, ◌∙◌, subst, arith, ℤ, pos}
use Rattle.std.specs.Prelude.{IfOk}
use Rattle.std.specs.declared.result.Result.{Result}
use Rattle.std.proofs.Math.Nat.{div-lt_iff_lt-mul}
use Rattle.std.proofs.lemmas.Int.{ints}
use Rattle.std.proofs.lemmas.Option.{slice_get-get_or}
use Rattle.rc_base.specs.Colors.{rgba}
use Rattle.rc_base.specs.Cluster.Tiles.{boundary_of, is_in_rect, tile_column, tile_count, tile_rectangle, tile_row}
use Rattle.rc_base.specs.declared.cluster.TilePart.{TilePart}
use Rattle.rc_base.specs.declared.window.Layout.{Layout}
use Rattle.rc_base.specs.declared.window.Pixel.{Pixel}
use Rattle.rc_base.specs.declared.window.Rect.{Rect}
use Rattle.draw_device.specs.Devices.{DeviceView, pixel_index, pixel_of, rect_size}
use Rattle.draw_device.specs.Pixels.{pixel_at}
use Rattle.order_model.specs.Board.{Board}
use Rattle.plain_lemmas.proofs.Numbers.{factor_above_zero}
use Rattle.plain_lemmas.proofs.Places.{place_within}
use Rattle.scene_lemmas.proofs.Boundaries.{boundary_rises, boundary_most}
use Rattle.scene_lemmas.proofs.Rectangles.{length_between}
use Rattle.tile_server.specs.Boards.{IsPartOf}
use Rattle.tile_server.specs.Works.{IsRectOf, LiesInWindow}

-- ---- where a tile's rectangle lies

column_below : (l : Layout) (tile : ℕ) → tile < tile_count l → tile_column l tile < l.columns
column_below l tile low = let some = factor_above_zero l.columns l.rows tile low in omega (arith, some)

row_below : (l : Layout) (tile : ℕ) → tile < tile_count l → tile_row l tile < l.rows
row_below l tile low = (div-lt_iff_lt-mul (factor_above_zero l.columns l.rows tile low)).1 (omega (arith, low))

pub lies_in_window : (l : Layout) (tile : ℕ) (r : Rect) → tile < tile_count l → r ≡ tile_rectangle l tile → LiesInWindow l.width l.height r
lies_in_window l tile r low is = subst (LiesInWindow l.width l.height) (sym is) (record {
  left = omega (arith, ints);
  across = let h = boundary_rises l.width l.columns (tile_column l tile) (tile_column l tile + 1) (factor_above_zero l.columns l.rows tile low) (omega arith) in omega (arith, ints, h);
  right = let h = boundary_most l.width l.columns (tile_column l tile) (column_below l tile low) in omega (arith, ints, h);
  bottom = omega (arith, ints);
  upward = let h = boundary_rises l.height l.rows (tile_row l tile) (tile_row l tile + 1) (let k = row_below l tile low in omega (arith, k)) (omega arith) in omega (arith, ints, h);
  top = let h = boundary_most l.height l.rows (tile_row l tile) (row_below l tile low) in omega (arith, ints, h);
})

-- ---- a part

pub if_ok_both : {T E : Type 0} {P Q R : T → Type 0} (r : Result T E) → ((x : T) → P x → Q x → R x) → IfOk r P → IfOk r Q → IfOk r R
if_ok_both (Ok x) f p q = f x p q
if_ok_both (Err e) f p q = tt

module _ (l : Layout) (tile x y : ℕ) (inside : is_in_rect (tile_rectangle l tile) (pos x) (pos y) ≡ true) where
  abbrev left : ℕ
  left = boundary_of l.width l.columns (tile_column l tile)

  abbrev right : ℕ
  right = boundary_of l.width l.columns (tile_column l tile + 1)

  abbrev bottom : ℕ
  bottom = boundary_of l.height l.rows (tile_row l tile)

  abbrev top : ℕ
  top = boundary_of l.height l.rows (tile_row l tile + 1)

  in_bounds : (a b c d : ℕ) → is_in_rect (record { x0 = pos a; y0 = pos c; x1 = pos b; y1 = pos d }) (pos x) (pos y) ≡ true → (a ≤ x) × (x < b) × (c ≤ y) × (y < d)
  in_bounds a b c d h = (grind (arith, ints), grind (arith, ints), grind (arith, ints), grind (arith, ints))

  index_below : pixel_index (tile_rectangle l tile) (pos x) (pos y) < rect_size (tile_rectangle l tile)
  unfolding pixel_index
  index_below =
      let h = in_bounds left right bottom top inside in
      let low : (y - bottom) * (right - left) + (x - left) < (right - left) * (top - bottom) =
      place_within (right - left) (top - bottom) (x - left) (y - bottom) (omega (arith, h.0, h.1)) (omega (arith, h.2, h.3)) in
      rw (length_between bottom y h.2, length_between left right (omega (arith, h.0, h.1)), length_between left x h.0, length_between bottom top (omega (arith, h.2, h.3))) low

pub is_part : (l : Layout) (tile frame : ℕ) (b : Board) (d : DeviceView) → IsRectOf l tile d.rect → b.pixel ≡ pixel_of d
    → (p : TilePart) → p ≡ record { tile = tile; frame = frame; pixels = d.pixels } → length p.pixels ≡ rect_size d.rect → IsPartOf l tile frame b p
unfolding pixel_of
is_part l tile frame b d at same p is count = record {
  tile = ap (λ (q : TilePart). q.tile) is;
  frame = ap (λ (q : TilePart). q.frame) is;
  count = count ∙ ap rect_size at.rectangle;
  pixel = λ x y has.
      let inside : is_in_rect (tile_rectangle l tile) (pos x) (pos y) ≡ true =
      ap (λ (r : Rect). is_in_rect r (pos x) (pos y)) (sym at.rectangle) ∙ at.pixels x y ∙ has in
      let k = pixel_index (tile_rectangle l tile) (pos x) (pos y) in
      let low : k < length p.pixels = rw (count ∙ ap rect_size at.rectangle) (index_below l tile x y inside) in
      slice_get-get_or p.pixels k (record { color = rgba 0 0 0 0; depth = 0 }) low
      ∙ ap (λ (v : Pixel). Some v)
      (ap (λ (q : TilePart). pixel_at q.pixels k) is ∙ ap (λ (r : Rect). pixel_at d.pixels (pixel_index r (pos x) (pos y))) (sym at.rectangle)
      ∙ sym (ap (λ (f : ℤ → ℤ → Pixel). f (pos x) (pos y)) same));
}

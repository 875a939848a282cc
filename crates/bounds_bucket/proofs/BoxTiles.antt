-- What follows for pixels and tiles where a rectangle is a box.
use Rattle.std.proofs.Common.{◌≡◌, ◌∙◌, ℕ, ◌+◌, ◌-◌, ◌*◌, ◌<◌, ◌≤◌, ℤ, pos, ◌<ℤ◌, Bool, true, false, ◌&&◌, List, [], ◌∷◌, Some, None, arith, refl, sym, ap, subst}
use Rattle.std.specs.Prelude.{◌||◌, MatchOption}
use Rattle.std.specs.declared.option.Option.{Option}
use Rattle.std.specs.List.{list_any}
use Rattle.std.proofs.lemmas.Int.{ints}
use Rattle.std.proofs.Math.Nat.{mod-lt, div-lt_iff_lt-mul, mul-div_cancel_left}
use Rattle.rc_base.specs.Cluster.Tiles.{tile_count, boundary_of, is_amid, interval_of, tile_column, tile_row, some_pixel, is_in_rect, rect_meets, kept_corners, is_in_window_box, is_in_box, meets_tile}
use Rattle.rc_base.specs.Drawing.Cover.{centre, is_in_area, is_in_scissor}
use Rattle.rc_base.specs.Drawing.Touch.{touches}
use Rattle.rc_base.specs.Drawing.Triangles.{cut_modes}
use Rattle.rc_base.specs.declared.state.Block.{Block}
use Rattle.rc_base.specs.declared.state.Effect.{Effect}
use Rattle.rc_base.specs.declared.state.Effect.TheVariants as eff
use Rattle.rc_base.specs.declared.state.State.{State}
use Rattle.rc_base.specs.declared.window.Layout.{Layout}
use Rattle.rc_base.specs.declared.window.Rect.{Rect}
use Rattle.rc_base.specs.declared.window.WindowVertex.{WindowVertex}
use Rattle.plain_lemmas.proofs.Ranges.{any_same_in_range}
use Rattle.plain_lemmas.proofs.Numbers.{int_le_true, int_lt_true, factor_above_zero}
use Rattle.scene_lemmas.proofs.Boundaries.{boundary_rises}
use Rattle.bounds_bucket.specs.declared.extent.Extent.{Extent}
use Rattle.bounds_bucket.specs.Extents.{Spans, is_within}
use Rattle.bounds_bucket.specs.Ranges.{IsPartWhere, HasPixels}
use Rattle.bounds_bucket.specs.Boxes.{is_boxed, IsBox, IsEmptyBox, IsBoxIfAny, HoldsTouched, whole_window, MeetsSameTiles}
use Rattle.bounds_bucket.proofs.EndsOfCorners.{low_is, high_is}
use Rattle.bounds_bucket.proofs.WholeNumbers.{and_last}
use Rattle.bounds_bucket.proofs.ObjectRects.{window_is}

pub touched_by : (s : State) (effect : Effect) (window : Rect) (o : Option Rect) → ((x y : ℤ) → touches s effect x y ≡ true → is_in_box s effect x y ≡ true) → IsBoxIfAny s effect window o → HoldsTouched s effect window o
touched_by s effect window None law h x y within touched =
    let e : is_boxed s effect window x y ≡ true = rw (within, law x y touched) refl in
    let f = h x y in
    absurd (differ (sym f ∙ e))
  where
    differ : false ≡ true → ⊥
    differ h = cc
touched_by s effect window (Some r) law h x y within touched = h.pixels x y ∙ rw (within, law x y touched) refl

-- ---- tiles

none_at_all : (xs : List ℕ) → list_any (λ k. false) xs ≡ false
none_at_all [] = refl
none_at_all (x ∷ xs) = none_at_all xs

none_of_none : (xs ys : List ℕ) → list_any (λ y. list_any (λ x. false) xs) ys ≡ false
none_of_none xs [] = refl
none_of_none xs (y ∷ ys) = (λ i. none_at_all xs i || none_of_none xs ys i)

-- a pixel of a tile lies below its ends
record IsBelowEnds (l : Layout) (tile x y : ℕ) : Type 0 where
  across : x < boundary_of l.width l.columns (tile_column l tile + 1)
  up : y < boundary_of l.height l.rows (tile_row l tile + 1)

within_interval : (side parts j k : ℕ) → 0 < parts → k < boundary_of side parts j + (boundary_of side parts (j + 1) - boundary_of side parts j) → k < boundary_of side parts (j + 1)
within_interval side parts j k some h = let r = boundary_rises side parts j (j + 1) some (omega arith) in omega (arith, h, r)

-- two tests that agree on the pixels of a tile
same_pixels : (l : Layout) (tile : ℕ) (f g : ℤ → ℤ → Bool) → 0 < l.columns → 0 < l.rows
    → ((x y : ℕ) → IsBelowEnds l tile x y → f (pos x) (pos y) ≡ g (pos x) (pos y)) → some_pixel l tile f ≡ some_pixel l tile g
same_pixels l tile f g columns rows same =
    any_same_in_range _ _ (boundary_of l.height l.rows (tile_row l tile)) _
    (λ y _ high. any_same_in_range _ _ (boundary_of l.width l.columns (tile_column l tile)) _
    (λ x _ wide. same x y (record { across = within_interval l.width l.columns (tile_column l tile) x columns wide; up = within_interval l.height l.rows (tile_row l tile) y rows high })))

no_pixel : (l : Layout) (tile : ℕ) → some_pixel l tile (λ x y. false) ≡ false
no_pixel l tile = none_of_none (interval_of l.width l.columns (tile_column l tile)) (interval_of l.height l.rows (tile_row l tile))

pub record IsCounted (l : Layout) (tile : ℕ) : Type 0 where
  pub columns : 0 < l.columns
  pub rows : 0 < l.rows
  pub column : tile_column l tile < l.columns
  pub row : tile_row l tile < l.rows

pub counted : (l : Layout) (tile : ℕ) → tile < tile_count l → IsCounted l tile
counted l tile h =
    let columns : 0 < l.columns = factor_above_zero l.columns l.rows tile h in
    let turned : tile < l.rows * l.columns = omega (arith, h) in
    record {
      columns = columns;
      rows = factor_above_zero l.rows l.columns tile turned;
      column = mod-lt tile columns;
      row = (div-lt_iff_lt-mul columns).1 turned;
    }

end_in : (side parts j : ℕ) → 0 < parts → j < parts → boundary_of side parts (j + 1) ≤ side
end_in side parts j some h =
    let r : boundary_of side parts (j + 1) ≤ boundary_of side parts parts = boundary_rises side parts (j + 1) parts some (omega (arith, h)) in
    let e : boundary_of side parts parts ≡ side = mul-div_cancel_left side some in
    omega (arith, r, e)

-- the pixels of a tile lie in the window
in_window : (l : Layout) (tile x y : ℕ) → IsCounted l tile → IsBelowEnds l tile x y → is_in_rect (whole_window l) (pos x) (pos y) ≡ true
in_window l tile x y c b =
    let u = end_in l.width l.columns (tile_column l tile) c.columns c.column in
    let v = end_in l.height l.rows (tile_row l tile) c.rows c.row in
    let x1 : pos x <ℤ pos l.width = let h = b.across in omega (arith, ints, h, u) in
    let y1 : pos y <ℤ pos l.height = let h = b.up in omega (arith, ints, h, v) in
    rw (int_le_true (pos 0) (pos x) (omega (arith, ints)), int_lt_true (pos x) (pos l.width) x1, int_le_true (pos 0) (pos y) (omega (arith, ints)), int_lt_true (pos y) (pos l.height) y1) refl

boxed_there : (l : Layout) (s : State) (effect : Effect) (tile : ℕ) (window : Rect) (x y : ℕ) → whole_window l ≡ window → IsCounted l tile → IsBelowEnds l tile x y
    → is_in_box s effect (pos x) (pos y) ≡ is_boxed s effect window (pos x) (pos y)
boxed_there l s effect tile window x y whole c b =
    let w : is_in_rect window (pos x) (pos y) ≡ true = ap (λ (r : Rect). is_in_rect r (pos x) (pos y)) (sym whole) ∙ in_window l tile x y c b in
    rw w refl

pub tiles_by : (s : State) (effect : Effect) (window : Rect) (o : Option Rect) → IsBoxIfAny s effect window o → MeetsSameTiles s effect window o
unfolding meets_tile rect_meets
tiles_by s effect window None h l tile whole few =
    let c = counted l tile few in
    same_pixels l tile (is_in_box s effect) (λ x y. false) c.columns c.rows (λ x y b. boxed_there l s effect tile window x y whole c b ∙ h (pos x) (pos y))
    ∙ no_pixel l tile
tiles_by s effect window (Some r) h l tile whole few =
    let c = counted l tile few in
    same_pixels l tile (is_in_box s effect) (is_in_rect r) c.columns c.rows
    (λ x y b. boxed_there l s effect tile window x y whole c b ∙ sym (h.pixels (pos x) (pos y)))

-- ---- the rectangle of a box

-- a rectangle with the box's pixels, where it has any
pub box_if_any : (s : State) (effect : Effect) (window rect : Rect) (o : Option Rect)
    → ((x y : ℤ) → is_in_rect rect x y ≡ is_boxed s effect window x y)
    → MatchOption o ((x y : ℤ) → is_in_rect rect x y ≡ false) (λ r. (r ≡ rect) × HasPixels rect) → IsBoxIfAny s effect window o
box_if_any s effect window rect None same h = λ x y. sym (same x y) ∙ h x y
box_if_any s effect window rect (Some r) same h =
    subst (λ (q : Rect). IsBox s effect window q) (sym h.0) (record { some = h.1; pixels = same })

amid_is : (s : State) (block : Block) (e : Extent) → Spans (kept_corners s block) (Some e) → (x y : ℤ)
    → is_within e x y ≡ (is_amid (kept_corners s block) (λ (v : WindowVertex). v.x) (centre x) && is_amid (kept_corners s block) (λ (v : WindowVertex). v.y) (centre y))
amid_is s block e h x y =
    let a = low_is e.across (λ (v : WindowVertex). v.x) (kept_corners s block) h.0 (centre x) in
    let b = high_is e.across (λ (v : WindowVertex). v.x) (kept_corners s block) h.0 (centre x) in
    let c = low_is e.up (λ (v : WindowVertex). v.y) (kept_corners s block) h.1 (centre y) in
    let d = high_is e.up (λ (v : WindowVertex). v.y) (kept_corners s block) h.1 (centre y) in
    sym (λ i. (a i && b i) && (c i && d i))

-- the window cut by an extent, the viewport and the scissor box is the box of a block
pub block_boxed : (s : State) (block : Block) (e : Extent) (window a b r : Rect) → block.mode < cut_modes → Spans (kept_corners s block) (Some e)
    → IsPartWhere window (is_within e) a → IsPartWhere a (is_in_area s.viewport) b → IsPartWhere b (is_in_scissor s) r
    → (x y : ℤ) → is_in_rect r x y ≡ is_boxed s (eff.Block block) window x y
unfolding is_in_window_box
block_boxed s block e window a b r mode h p q t x y =
    t x y ∙ ap (λ (u : Bool). u && is_in_scissor s x y) (q x y ∙ ap (λ (u : Bool). u && is_in_area s.viewport x y) (p x y))
    ∙ and_last (is_in_rect window x y) (is_within e x y) (is_in_area s.viewport x y) (is_in_scissor s x y)
    ∙ ap (λ (u : Bool). is_in_rect window x y && (u && (is_in_area s.viewport x y && is_in_scissor s x y))) (amid_is s block e h x y)
    ∙ ap (λ (u : Bool). is_in_rect window x y && u) (sym (window_is s block x y mode))

-- a block without kept triangles has no box
pub block_unboxed : (s : State) (block : Block) (window : Rect) → block.mode < cut_modes → Spans (kept_corners s block) None → IsEmptyBox s (eff.Block block) window
unfolding is_in_window_box
block_unboxed s block window mode h x y =
    ap (λ (u : Bool). is_in_rect window x y && u) (window_is s block x y mode) ∙ rw h (and_no (is_in_rect window x y))
  where
    and_no : (b : Bool) → (b && false) ≡ false
    and_no true = refl
    and_no false = refl

pub clear_boxed : (s : State) (mask : ℕ) (window r : Rect) → IsPartWhere window (is_in_scissor s) r → (x y : ℤ) → is_in_rect r x y ≡ is_boxed s (eff.Clear mask) window x y
unfolding is_in_box
clear_boxed s mask window r h x y = h x y

pub touched_clear : (s : State) (mask : ℕ) (x y : ℤ) → touches s (eff.Clear mask) x y ≡ true → is_in_box s (eff.Clear mask) x y ≡ true
unfolding touches is_in_box
touched_clear s mask x y h = h

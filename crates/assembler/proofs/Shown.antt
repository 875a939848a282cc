-- The parts of a frame show one picture: each pixel of the window lies in one tile alone.
use Rattle.std.proofs.Common.{◌≡◌, ℕ, zero, suc, ◌+◌, ◌-◌, ◌*◌, ◌/◌, ◌%◌, ◌<◌, ◌≤◌, Bool, true, false, List, [], ◌∷◌, length, Some, inl, inr, refl, sym, ap, ◌∙◌, arith, true≢false}
use Rattle.std.specs.Prelude.{slice_get, slice_index_or}
use Rattle.std.specs.List.{find, range_with_len}
use Rattle.std.specs.Option.{option_map_or}
use Rattle.std.specs.declared.option.Option.{Option}
use Rattle.std.proofs.Math.Nat.{mul-le-mul_left, div-add-mod}
use Rattle.std.proofs.lemmas.Bool.{cases_lt}
use Rattle.rc_base.specs.Cluster.Tiles.{boundary_of, tile_at, tile_column, tile_count, tile_pixels, tile_row}
use Rattle.rc_base.specs.Drawing.Serial.{blank_pixel}
use Rattle.rc_base.specs.declared.cluster.TilePart.{TilePart}
use Rattle.rc_base.specs.declared.window.Layout.{Layout}
use Rattle.scene_lemmas.proofs.Boundaries.{one_part, has_place, HasPlace}
use Rattle.assembler.specs.Parts.{ArePartsOf, ShowPixels, pixels_of, place_in_part, shown, tile_height, tile_width}
use Rattle.assembler.proofs.Checked.{below_length}

-- ---- one tile

pub one_tile : (l : Layout) (a b x y : ℕ) → 0 < l.columns → 0 < l.rows → HasPlace l a x y → HasPlace l b x y → a ≡ b
one_tile l a b x y columns rows p q =
    let c : a % l.columns ≡ b % l.columns = one_part l.width l.columns (tile_column l a) (tile_column l b) x columns p.across q.across in
    let r : a / l.columns ≡ b / l.columns = one_part l.height l.rows (tile_row l a) (tile_row l b) y rows p.up q.up in
    sym (div-add-mod a l.columns) ∙ rw (c, r) (div-add-mod b l.columns)

-- ---- it is found

found_first : (test : ℕ → Bool) (a n k : ℕ) → a ≤ k → k < a + n → test k ≡ true → ((j : ℕ) → test j ≡ true → j ≡ k) → find test (range_with_len a n) ≡ Some k
found_first test a zero k low high here only = absurd (omega (arith, low, high))
found_first test a (suc n) k low high here only =
    by (test a) refl (λ ne. found_first test (a + 1) n k (elim (cases_lt a k) [ inl lt ↦ omega (arith, lt) | inr ge ↦ absurd (ne (omega (arith, low, ge))) ]) (omega (arith, high)) here only)
  where
    by : (b : Bool) → test a ≡ b → ((a ≡ k → ⊥) → find test (range_with_len (a + 1) n) ≡ Some k) → find test (a ∷ range_with_len (a + 1) n) ≡ Some k
    by true is rest = let e : a ≡ k = only a is in rw is (ap (λ (j : ℕ). Some j) e)
    by false is rest = rw is (rest (λ same. absurd (true≢false (sym here ∙ ap test (sym same) ∙ is))))

tile_is : (l : Layout) (tile x y : ℕ) → 0 < l.columns → 0 < l.rows → tile < tile_count l → tile_pixels l tile x y ≡ true → tile_at l x y ≡ tile
tile_is l tile x y columns rows few has =
    ap (λ (o : Option ℕ). option_map_or (λ (t : ℕ). t) o 0)
    (found_first (λ t. tile_pixels l t x y) 0 (tile_count l) tile (omega arith) (omega (arith, few)) has
    (λ j is. one_tile l j tile x y columns rows (has_place l j x y is) (has_place l tile x y has)))

-- ---- and it has the pixel

stands_at : {A : Type 0} (ps : List A) (k : ℕ) (d : A) → k < length ps → slice_get ps k ≡ Some (slice_index_or ps k d)
stands_at [] k d lt = absurd (omega arith)
stands_at (p ∷ ps) zero d lt = refl
stands_at (p ∷ ps) (suc k) d lt = stands_at ps k d (omega arith)

place_below : (l : Layout) (tile x y : ℕ) → HasPlace l tile x y → place_in_part l tile x y < tile_width l tile * tile_height l tile
place_below l tile x y p =
    let wide = tile_width l tile in
    let line = y - boundary_of l.height l.rows (tile_row l tile) in
    let more : wide * (line + 1) ≤ wide * tile_height l tile = mul-le-mul_left wide (omega (arith, p.up.low, p.up.high)) in
    let column : x - boundary_of l.width l.columns (tile_column l tile) < wide = omega (arith, p.across.low, p.across.high) in
    omega (arith, more, column)

pub parts_show : (l : Layout) (parts : List TilePart) → 0 < l.columns → 0 < l.rows → ArePartsOf l parts → ShowPixels l parts (shown l parts)
parts_show l parts columns rows are tile x y p is has =
    let few : tile < tile_count l = (let k = below_length parts tile p is in omega (arith, k, are.count)) in
    let size : length p.pixels ≡ tile_width l tile * tile_height l tile = are.size tile p is in
    let place = place_in_part l tile x y in
    let here : place < length p.pixels = (let k = place_below l tile x y (has_place l tile x y has) in omega (arith, k, size)) in
    stands_at p.pixels place blank_pixel here
    ∙ ap (λ (o : Option TilePart). Some (slice_index_or (option_map_or (λ (q : TilePart). q.pixels) o []) place blank_pixel)) (sym is)
    ∙ ap (λ (t : ℕ). Some (slice_index_or (pixels_of parts t) (place_in_part l t x y) blank_pixel)) (sym (tile_is l tile x y columns rows few has))

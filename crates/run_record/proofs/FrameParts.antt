-- The parts of a frame that the tiles have shown are those of its image, and the texts of the images are the record's image text.
use Rattle.std.proofs.Common.{◌≡◌, ℕ, zero, suc, ◌+◌, ◌*◌, ◌/◌, ◌<◌, ◌≤◌, inl, inr, Bool, true, false, List, ◌∷◌, length, map, get_or, take, drop, Some, refl, sym, ap, ◌∙◌, arith, true≢false, pos, ◌-ℤ◌}
use Rattle.std.specs.Prelude.{slice_get}
use Rattle.std.specs.List.{find, range_with_len}
use Rattle.std.specs.Option.{option_map_or}
use Rattle.std.specs.declared.option.Option.{Option}
use Rattle.std.proofs.Math.Nat.{div-lt_iff_lt-mul, mul-div_cancel, mul-le-mul_left, zero-mul}
use Rattle.std.proofs.lemmas.Bool.{cases_lt}
use Rattle.std.proofs.lemmas.List.{length-take-le, length-drop, get_or-take, get_or-drop}
use Rattle.std.proofs.lemmas.Option.{get_or_from_slice_get, slice_get-get_or, slice_get_within}
use Rattle.rc_base.specs.Numbers.{natural}
use Rattle.rc_base.specs.Cluster.Tiles.{boundary_of, tile_at, tile_column, tile_count, tile_pixels, tile_rectangle, tile_row}
use Rattle.rc_base.specs.Drawing.Images.{rgb_bytes}
use Rattle.rc_base.specs.Drawing.Serial.{frame_pixel}
use Rattle.rc_base.specs.Formats.Netpbm.{p6_texts}
use Rattle.rc_base.specs.declared.cluster.TilePart.{TilePart}
use Rattle.rc_base.specs.declared.scene.Scene.{Scene}
use Rattle.rc_base.specs.declared.window.Layout.{Layout}
use Rattle.assembler.specs.Parts.{place_in_part, tile_height, tile_width, ShowPixels}
use Rattle.bounds_bucket.specs.Tiles.{EachPixelHasOneTile}
use Rattle.draw_device.specs.Devices.{pixel_index, rect_size}
use Rattle.order_model.specs.Report.{frame_count, image_text_of, recorded_pixel, tile_order}
use Rattle.order_model.specs.declared.record.Record.{Record}
use Rattle.run_record.specs.Told.{AreFrameParts}
use Rattle.tile_server.specs.Laws.{IsFramePart}
use Rattle.scene_lemmas.proofs.Boundaries.{boundary_rises, boundary_most, has_place}
use Rattle.scene_lemmas.proofs.Rectangles.{length_between}
use Rattle.frame_out.specs.Frames.{frame_parts, frame_total, AreFrames, ShowFrames}
use Rattle.run_record.specs.ImageText.{RecordedFramesHaveTheImageText, WholeRunsShowFrames}

-- ---- sides

pub some_columns : (a b : ℕ) → 0 < a * b → 0 < a
some_columns zero b some = absurd (omega (arith, some, zero-mul b))
some_columns (suc a) b some = omega arith

pub some_rows : (a b : ℕ) → 0 < a * b → 0 < b
some_rows a zero some = absurd (omega (arith, some))
some_rows a (suc b) some = omega arith

module _ (l : Layout) (columns : 0 < l.columns) (rows : 0 < l.rows) where
  wide_is : (tile : ℕ) → natural (pos (boundary_of l.width l.columns (tile_column l tile + 1)) -ℤ pos (boundary_of l.width l.columns (tile_column l tile))) ≡ tile_width l tile
  wide_is tile = length_between _ _ (boundary_rises l.width l.columns (tile_column l tile) (tile_column l tile + 1) columns (omega arith))

  high_is : (tile : ℕ) → natural (pos (boundary_of l.height l.rows (tile_row l tile + 1)) -ℤ pos (boundary_of l.height l.rows (tile_row l tile))) ≡ tile_height l tile
  high_is tile = length_between _ _ (boundary_rises l.height l.rows (tile_row l tile) (tile_row l tile + 1) rows (omega arith))

  size_is : (tile : ℕ) → rect_size (tile_rectangle l tile) ≡ tile_width l tile * tile_height l tile
  size_is tile = rw (wide_is tile, high_is tile) refl

  place_is : (tile x y : ℕ) → boundary_of l.width l.columns (tile_column l tile) ≤ x → boundary_of l.height l.rows (tile_row l tile) ≤ y
      → pixel_index (tile_rectangle l tile) (pos x) (pos y) ≡ place_in_part l tile x y
  unfolding pixel_index
  place_is tile x y across up = rw (wide_is tile, length_between (boundary_of l.width l.columns (tile_column l tile)) x across, length_between (boundary_of l.height l.rows (tile_row l tile)) y up) refl

-- ---- the tile of a pixel

found_first : (test : ℕ → Bool) (a n k : ℕ) → a ≤ k → k < a + n → test k ≡ true → ((j : ℕ) → j < a + n → test j ≡ true → j ≡ k)
    → find test (range_with_len a n) ≡ Some k
found_first test a zero k low high here only = absurd (omega (arith, low, high))
found_first test a (suc n) k low high here only =
    by (test a) refl (λ ne. found_first test (a + 1) n k (elim (cases_lt a k) [ inl lt ↦ omega (arith, lt) | inr ge ↦ absurd (ne (omega (arith, low, ge))) ]) (omega (arith, high)) here
    (λ j below is. only j (omega (arith, below)) is))
  where
    by : (b : Bool) → test a ≡ b → ((a ≡ k → ⊥) → find test (range_with_len (a + 1) n) ≡ Some k) → find test (a ∷ range_with_len (a + 1) n) ≡ Some k
    by true is rest = let e : a ≡ k = only a (omega arith) is in rw is (ap (λ (j : ℕ). Some j) e)
    by false is rest = rw is (rest (λ same. absurd (true≢false (sym here ∙ ap test (sym same) ∙ is))))

module _ (one : EachPixelHasOneTile) (l : Layout) (columns : 0 < l.columns) (rows : 0 < l.rows) where
  tile_is : (tile x y : ℕ) → tile < tile_count l → tile_pixels l tile x y ≡ true → tile_at l x y ≡ tile
  tile_is tile x y low has =
      let place = has_place l tile x y has in
      let row_low : tile_row l tile < l.rows = (div-lt_iff_lt-mul columns).1 (omega (arith, low)) in
      let right : x < l.width = (let most = boundary_most l.width l.columns (tile_column l tile) (omega (arith, columns)) in omega (arith, most, place.across.high)) in
      let top : y < l.height = (let most = boundary_most l.height l.rows (tile_row l tile) row_low in omega (arith, most, place.up.high)) in
      let found = one l x y columns rows right top in
      let this : tile ≡ found.0 = found.2 tile (low, has) in
      ap (λ (o : Option ℕ). option_map_or (λ (t : ℕ). t) o 0)
      (found_first (λ t. tile_pixels l t x y) 0 (tile_count l) tile (omega arith) (omega (arith, low)) has
      (λ j below is. found.2 j (omega (arith, below), is) ∙ sym this))

-- ---- the parts of a frame

slice_get_slice : (xs : List TilePart) (a n i : ℕ) (p : TilePart) → a + n ≤ length xs → slice_get (take n (drop a xs)) i ≡ Some p
    → (i < n) × (slice_get xs (a + i) ≡ Some p)
slice_get_slice xs a n i p within is =
    let count : length (take n (drop a xs)) ≡ n = length-take-le n (drop a xs) (let k = length-drop a xs in omega (arith, k, within)) in
    let low : i < n = (let k = slice_get_within (take n (drop a xs)) i p is in omega (arith, k, count)) in
    let there : get_or xs (a + i) p ≡ p = sym (get_or-drop a xs i p) ∙ sym (get_or-take n (drop a xs) i p low) ∙ get_or_from_slice_get (take n (drop a xs)) i p p is in
    (low, slice_get-get_or xs (a + i) p (omega (arith, low, within)) ∙ ap (λ (q : TilePart). Some q) there)

-- parts of one frame, each with its tile's pixels of it, show the pixels of the window
pub frame_shows : EachPixelHasOneTile → (scene : Scene) (l : Layout) (kept : Record) → 0 < tile_count l → (parts : List TilePart) (frame : ℕ)
    → ((tile : ℕ) (p : TilePart) → slice_get parts tile ≡ Some p → (tile < tile_count l) × IsFramePart scene l (tile_order kept tile) tile frame p)
    → ShowPixels l parts (recorded_pixel scene l kept frame)
frame_shows one scene l kept some parts frame are tile x y p is has =
    let columns = some_columns l.columns l.rows some in
    let rows = some_rows l.columns l.rows some in
    let got = are tile p is in
    let place = has_place l tile x y has in
    ap (slice_get p.pixels) (sym (place_is l columns rows tile x y place.across.low place.up.low))
    ∙ got.1.pixel x y has
    ∙ ap (λ (t : ℕ). Some (frame_pixel scene (tile_order kept t) frame (pos x) (pos y))) (sym (tile_is one l columns rows tile x y got.0 has))

module _ (scene : Scene) (l : Layout) (kept : Record) (parts : List TilePart) (are : AreFrameParts scene l kept parts) (some : 0 < tile_count l) where
  -- as many frames as parts for each tile
  frames_are : frame_total l parts ≡ frame_count kept.journal
  frames_are = ap (λ (n : ℕ). n / tile_count l) are.count ∙ mul-div_cancel (frame_count kept.journal) some

  inside : (frame : ℕ) → frame < frame_total l parts → frame * tile_count l + tile_count l ≤ length parts
  inside frame low =
      let more : tile_count l * (frame + 1) ≤ tile_count l * frame_count kept.journal = mul-le-mul_left (tile_count l) (omega (arith, low, frames_are)) in
      omega (arith, more, are.count)

  part_is : (frame tile : ℕ) (p : TilePart) → frame < frame_total l parts → slice_get (frame_parts l parts frame) tile ≡ Some p
      → (tile < tile_count l) × IsFramePart scene l (tile_order kept tile) tile (frame + 1) p
  part_is frame tile p low is =
      let got = slice_get_slice parts (frame * tile_count l) (tile_count l) tile p (inside frame low) is in
      (got.0, are.each frame tile p got.0 got.1)

  are_parts : AreFrames l parts
  are_parts frame low = record {
    frame = frame + 1;
    count = length-take-le (tile_count l) (drop (frame * tile_count l) parts)
        (let k = length-drop (frame * tile_count l) parts in let within = inside frame low in omega (arith, k, within));
    each = λ tile p is.
        let part = (part_is frame tile p low is).1 in
        (part.tile, part.frame, part.count ∙ size_is l (some_columns l.columns l.rows some) (some_rows l.columns l.rows some) tile);
  }

  show_frames : EachPixelHasOneTile → ShowFrames l parts (recorded_pixel scene l kept)
  show_frames one frame low = frame_shows one scene l kept some (frame_parts l parts frame) (frame + 1) (λ tile p is. part_is frame tile p low is)

-- ---- as laws

pub whole_runs : EachPixelHasOneTile → WholeRunsShowFrames
whole_runs one scene l kept parts are some = record {
  frames = are_parts scene l kept parts are some;
  shown = show_frames scene l kept parts are some one;
  count = frames_are scene l kept parts are some;
}

pub texts_are : RecordedFramesHaveTheImageText
unfolding image_text_of
texts_are scene l kept window =
    let frames = range_with_len 1 (frame_count kept.journal) in
    ap (λ (w : ℕ). p6_texts (map (λ k. record { width = w; height = l.height; rgb = rgb_bytes (recorded_pixel scene l kept k) w l.height }) frames)) window.width
    ∙ ap (λ (h : ℕ). p6_texts (map (λ k. record { width = scene.decl.width; height = h; rgb = rgb_bytes (recorded_pixel scene l kept k) scene.decl.width h }) frames)) window.height

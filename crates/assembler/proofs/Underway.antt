-- Frames that come one by one, while parts are taken.
use Rattle.std.proofs.Common.{◌≡◌, ℕ, zero, suc, ◌+◌, ◌<◌, false, List, [], ◌∷◌, ◌++◌, Option, Some, None, length, map, inl, inr, refl, ap, sym, subst, ◌∙◌, arith, length-append, true≢false}
use Rattle.std.specs.Prelude.{slice_get, slice_index_or}
use Rattle.std.specs.List.{range_with_len}
use Rattle.std.proofs.lemmas.List.{get_or-replicate, length-map, length-replicate}
use Rattle.std.proofs.lemmas.List.FromFn.{fill_by_all, get_or-map-range_with_len, length-map-range_with_len}
use Rattle.rc_base.specs.Cluster.Tiles.{tile_count}
use Rattle.rc_base.specs.declared.cluster.TilePart.{TilePart}
use Rattle.rc_base.specs.declared.image.Image.{Image}
use Rattle.rc_base.specs.declared.window.Layout.{Layout}
use Rattle.plain_lemmas.proofs.Lists.{item_within}
use Rattle.assembler.specs.Assembled.{ComesOf, places_of, short_of}
use Rattle.assembler.specs.declared.frame_parts.FrameParts.{FrameParts}
use Rattle.assembler.specs.Parts.{picture}
use Rattle.assembler.specs.Places.{AreFound, IsFound, in_place, no_parts, parts_in}
use Rattle.assembler.specs.Underway.{AllGrow, GoesOn, Grows, IsUnderway, Taken, Waits, frame_parts}
use Rattle.assembler.proofs.Waiting.{stands_in}

-- ---- one tile

grown : (k : ℕ) (place found : Option TilePart) (before later : List TilePart) → Waits k place before → Grows place found before later → Waits k found later
grown k (Some q) found before later w g = subst (λ (o : Option TilePart). Waits k o later) (sym g.0) (w.0, w.1, g.1 ∙ w.2)
grown k None (Some p) before later w g = (before, w, g)
grown k None None before later w g = ap length g ∙ w

last_of : (front : List TilePart) (p : TilePart) → slice_get (front ++ p ∷ []) (length front) ≡ Some p
last_of [] p = refl
last_of (q ∷ front) p = last_of front p

waiting_part : (k : ℕ) (p : TilePart) (parts : List TilePart) → Waits k (Some p) parts → slice_get parts k ≡ Some p
waiting_part k p parts w = ap (λ (ps : List TilePart). slice_get ps k) w.2 ∙ ap (slice_get (w.0 ++ p ∷ [])) (sym w.1) ∙ last_of w.0 p

one_more : (k : ℕ) (p : TilePart) (parts : List TilePart) → Waits k (Some p) parts → length parts ≡ k + 1
one_more k p parts w = omega (arith, ap length w.2, length-append w.0 (p ∷ []), w.1)

in_front : (xs ys : List TilePart) (i : ℕ) → i < length xs → slice_get (xs ++ ys) i ≡ slice_get xs i
in_front [] ys i lt = absurd (omega arith)
in_front (x ∷ xs) ys zero lt = refl
in_front (x ∷ xs) ys (suc i) lt = in_front xs ys i (omega arith)

stays : (k i : ℕ) (place found : Option TilePart) (before later : List TilePart) → i < k → Waits k place before → Grows place found before later
    → slice_get later i ≡ slice_get before i
stays k i (Some q) found before later lt w g = ap (λ (ps : List TilePart). slice_get ps i) g.1
stays k i None (Some p) before later lt w g = ap (λ (ps : List TilePart). slice_get ps i) g ∙ in_front before (p ∷ []) i (omega (arith, lt, w))
stays k i None None before later lt w g = ap (λ (ps : List TilePart). slice_get ps i) g

-- ---- all tiles

parts_back : (parts : List TilePart) → parts_in (map (λ p. Some p) parts) ≡ parts
parts_back [] = refl
parts_back (p ∷ parts) = ap (λ (ps : List TilePart). p ∷ ps) (parts_back parts)

module _ (l : Layout) (k : ℕ) (places found : List (Option TilePart)) (before later : Taken) (under : IsUnderway l k places before) (grow : AllGrow l places found before later) where
  found_waits : (tile : ℕ) → tile < tile_count l → Waits k (in_place found tile) (later tile)
  found_waits tile lt = grown k (in_place places tile) (in_place found tile) (before tile) (later tile) (under.each tile lt) (grow.each tile lt)

  found_count : length found ≡ tile_count l
  found_count = grow.count ∙ under.count

  module _ (parts : List TilePart) (all : found ≡ map (λ p. Some p) parts) where
    count_is : length parts ≡ tile_count l
    count_is = sym (length-map parts (λ (p : TilePart). Some p)) ∙ sym (ap length all) ∙ found_count

    part_of : (tile : ℕ) → tile < tile_count l → (p : TilePart) × (in_place found tile ≡ Some p) × Waits k (Some p) (later tile)
    part_of tile lt =
        let got = item_within parts tile (omega (arith, lt, count_is)) in
        let is : in_place found tile ≡ Some got.0 = ap (λ (os : List (Option TilePart)). in_place os tile) all ∙ stands_in parts tile got.0 got.1 in
        (got.0, is, subst (λ (o : Option TilePart). Waits k o (later tile)) is (found_waits tile lt))

    frame_is : parts ≡ frame_parts l later k
    frame_is =
        sym (parts_back parts)
        ∙ ap parts_in (sym all
        ∙ fill_by_all (λ tile. slice_get (later tile) k) found (tile_count l) None found_count
        (λ tile lt. let got = part_of tile lt in got.1 ∙ sym (waiting_part k got.0 (later tile) got.2)))

    next_frame : IsUnderway l (k + 1) (no_parts l) later
    next_frame = record {
      count = length-replicate (tile_count l) None;
      each = λ tile lt.
          let got = part_of tile lt in
          subst (λ (o : Option TilePart). Waits (k + 1) o (later tile)) (sym (get_or-replicate (tile_count l) tile None None lt)) (one_more k got.0 (later tile) got.2);
    }

  pub goes_on : (result : Option Image) (after : FrameParts) → ComesOf l found result after → short_of after ≡ false → GoesOn l k result (places_of after) later
  goes_on (Some image) after w whole =
      (w.shown ∙ ap (picture l) (frame_is w.parts w.all), subst (λ (os : List (Option TilePart)). IsUnderway l (k + 1) os later) (sym w.places) (next_frame w.parts w.all))
  goes_on None after w whole = elim w [
    | inl u ↦ subst (λ (os : List (Option TilePart)). IsUnderway l k os later) (sym u.places) (record { count = found_count; each = found_waits })
    | inr s ↦ absurd (true≢false (sym s.short ∙ whole))
  ]

  pub frames_stay : (i : ℕ) → i < k → frame_parts l later i ≡ frame_parts l before i
  frames_stay i low =
      ap parts_in (fill_by_all (λ tile. slice_get (before tile) i) (map (λ tile. slice_get (later tile) i) (range_with_len 0 (tile_count l))) (tile_count l) None
      (length-map-range_with_len (λ tile. slice_get (later tile) i) 0 (tile_count l))
      (λ tile lt.
      get_or-map-range_with_len (λ t. slice_get (later t) i) 0 (tile_count l) tile tile None lt (omega arith)
      ∙ stays k i (in_place places tile) (in_place found tile) (before tile) (later tile) low (under.each tile lt) (grow.each tile lt)))

-- ---- lanes that tell what was taken of them

module _ {I : Type 0} (gave : I → TilePart → I → Type 0) (same : I → I → Type 0) (empty_seen : I → ℕ) (bare : I → Type 0) (taken : I → List TilePart)
    (gives : (a : I) (p : TilePart) (b : I) → gave a p b → taken b ≡ taken a ++ p ∷ []) (keeps : (a b : I) → same a b → taken b ≡ taken a) where
  grows : (place found : Option TilePart) (a b : I) → IsFound gave same empty_seen bare place a found b → Grows place found (taken a) (taken b)
  grows (Some q) found a b h = (h.0, ap taken h.1)
  grows None (Some p) a b h = gives a p b h
  grows None None a b h = keeps a b h.0

  pub all_grow : (l : Layout) (places found : List (Option TilePart)) (lanes later : List I) (d : I) → length lanes ≡ tile_count l
      → AreFound gave same empty_seen bare places lanes found later
      → AllGrow l places found (λ tile. taken (slice_index_or lanes tile d)) (λ tile. taken (slice_index_or later tile d))
  all_grow l places found lanes later d count h = record {
    count = h.count;
    each = λ tile lt. grows (in_place places tile) (in_place found tile) (slice_index_or lanes tile d) (slice_index_or later tile d) (h.at tile d (omega (arith, lt, count)));
  }

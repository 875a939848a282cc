-- A writer of frames stays on its way with each call.
use Rattle.std.proofs.Common.{◌≡◌, ℕ, ◌+◌, ◌<◌, ◌≤◌, ◌^◌, false, List, [], ◌∷◌, ◌++◌, length, take, map, Some, None, inl, inr, refl, sym, ap, ◌∙◌, subst, arith, length-append, append-nil, append_assoc, true≢false}
use Rattle.std.specs.Prelude.{option_to_list, slice_index_or, Option}
use Rattle.std.specs.Io.KnownBytes.{Appends}
use Rattle.std.specs.List.{AllByRecursion}
use Rattle.std.proofs.Math.Seq.{take-append-add}
use Rattle.std.proofs.lemmas.Bool.{cases_Bool}
use Rattle.std.proofs.lemmas.List.{take-append-le}
use Rattle.rc_base.specs.Cluster.Tiles.{tile_count}
use Rattle.rc_base.specs.Formats.Netpbm.{p6_text, p6_texts}
use Rattle.rc_base.specs.Lists.{IsFront}
use Rattle.rc_base.specs.Outside.Ends.{Used}
use Rattle.rc_base.specs.declared.cluster.TilePart.{TilePart}
use Rattle.rc_base.specs.declared.image.Image.{Image}
use Rattle.rc_base.specs.declared.window.Layout.{Layout}
use Rattle.rc_base.proofs.Known.{Appends-then}
use Rattle.assembler.specs.Assembled.{layout_of, places_of, short_of, IsAssembled, IsCompleteFrame}
use Rattle.assembler.specs.Parts.{picture, shown, ArePartsOf}
use Rattle.assembler.specs.Places.{in_place, AreFound, IsFound, IsTaken}
use Rattle.assembler.specs.declared.frame_parts.FrameParts.{FrameParts}
use Rattle.ppm_out.specs.Pictures.{IsWholeImage}
use Rattle.assembler.proofs.Waiting.{none_in}
use Rattle.frame_out.specs.Laws.{NewWritersAreOnTheWay}
use Rattle.rc_base.specs.Cluster.Lanes.{EachLane, Follows}
use Rattle.frame_out.specs.OnTheWay.{parts_in, GaveFrames, GaveText, GivesOne, HasWritten, IsMissing, IsOnTheWay}
use Rattle.frame_out.specs.Windows.{IsWindow}
use Rattle.frame_out.specs.Writing.{HasGiven, IsCounted}
use Rattle.frame_out.specs.declared.on_the_way.FrameWriter.{FrameWriter}
use Rattle.frame_out.specs.declared.writing.Written.{Written}
use Rattle.frame_out.proofs.FramesLeft.{texts_more}
use Rattle.frame_out.proofs.PartsTaken.{all_more, found_grows, map_more, parts_more, place_is}
use Rattle.frame_out.proofs.Texts.{texts_short}
use Rattle.frame_out.proofs.Writable.{pixels_whole}
use Rattle.frame_out.proofs.WrittenMore.{used}

-- ---- texts

picture_whole : (l : Layout) → IsWindow l → (parts : List TilePart) → IsWholeImage (picture l parts)
picture_whole l window parts = record { width = window.width; height = window.height; pixels = pixels_whole (shown l parts) l.width l.height }

pictures_whole : (l : Layout) → IsWindow l → (frames : List (List TilePart)) → AllByRecursion IsWholeImage (map (picture l) frames)
pictures_whole l window [] = tt
pictures_whole l window (parts ∷ frames) = (picture_whole l window parts, pictures_whole l window frames)

count_map : {A B : Type 0} (f : A → B) (xs : List A) → length (map f xs) ≡ length xs
count_map f [] = refl
count_map f (x ∷ xs) = let h = count_map f xs in omega (arith, h)

-- ---- the image

-- one text more was given, up to a fault
module _ (a b c : Option (List ℕ)) (fa fb fc : ℕ) (old new : Written) (text more : List ℕ) (given : HasGiven b c more old new) (h : GaveText (used a b fa fb) text old) where
  text_more : GaveText (used a c fa fc) (text ++ more) new
  text_more = elim (cases_Bool old.fault) [
    | inl fault ↦
        let none = given.none fault in
        let low = h.front.part in record {
          front = record {
            done = h.front.done;
            part = (let n = length-append text more in omega (arith, n, low));
            given = subst (λ (o : Option (List ℕ)). Appends a o (take h.front.done (text ++ more))) (sym none.0)
                (subst (Appends a b) (sym (take-append-le h.front.done text more (omega (arith, low)))) h.front.given);
          };
          all = λ e. absurd (true≢false (sym fault ∙ ap (λ (w : Written). w.fault) (sym none.1) ∙ e));
        }
    | inr no_fault ↦
        let front = given.front no_fault in
        let took = h.all no_fault in record {
          front = record {
            done = length text + front.0;
            part = (let n = length-append text more in let low = front.1 in omega (arith, n, low));
            given = subst (Appends a c) (sym (take-append-add text more front.0)) (Appends-then a b c text (take front.0 more) took front.2);
          };
          all = λ e. Appends-then a b c text more took (given.all e).1;
        }
  ]

-- ---- a call

module _ {I : Type 0} (gave : I → TilePart → I → Type 0) (same : I → I → Type 0) (empty_seen : I → ℕ) (bare : I → Type 0) (taken : I → List TilePart)
    (f : Follows gave same taken) (l : Layout) (d : I) (lanes lanes' : List I) (count : length lanes ≡ tile_count l)
    (one : EachLane (λ i a b. GivesOne gave same a b) lanes lanes') where
  abbrev took : List I → ℕ → List TilePart
  took ls tile = taken (slice_index_or ls tile d)

  grown : (a b : I) → GivesOne gave same a b → IsFront (taken a) (taken b)
  grown a b (inl h) = ([], f.stays a b h ∙ sym (append-nil (taken a)))
  grown a b (inr h) = (h.0 ∷ [], f.grows a b h.0 h.1)

  -- what was taken first was taken first still
  still : (e : Used) (written : Written) → GaveFrames l e (took lanes) written → GaveFrames l e (took lanes') written
  still e written h = record {
    frames = h.frames;
    sizes = h.sizes;
    fronts = λ tile low.
        let was = h.fronts tile low in
        let more = grown (slice_index_or lanes tile d) (slice_index_or lanes' tile d) (one.at tile d (omega (arith, count, low))) in
        (was.0 ++ more.0, more.1 ∙ ap (λ (xs : List TilePart). xs ++ more.0) was.1 ∙ append_assoc (parts_in h.frames tile) was.0 more.0);
    given = h.given;
  }

  took_more : (base : ℕ → List TilePart) (places found : List (Option TilePart)) → AreFound gave same empty_seen bare places lanes found lanes'
      → ((tile : ℕ) → tile < tile_count l → took lanes tile ≡ base tile ++ option_to_list (in_place places tile))
      → (tile : ℕ) → tile < tile_count l → took lanes' tile ≡ base tile ++ option_to_list (in_place found tile)
  took_more base places found h e tile low =
      found_grows gave same empty_seen bare taken f (in_place places tile) (in_place found tile) (slice_index_or lanes tile d) (slice_index_or lanes' tile d) (base tile)
      (h.at tile d (omega (arith, count, low))) (e tile low)

  -- no frame was completed
  pub waits : (e : Used) (w w' : FrameWriter) → IsAssembled gave same empty_seen bare w.parts lanes None w'.parts lanes'
      → w'.written ≡ w.written → IsOnTheWay l e (took lanes) w → IsOnTheWay l e (took lanes') w'
  waits e w w' k written h = record {
    layout_is = k.layout ∙ h.layout_is;
    given = subst (GaveFrames l e (took lanes')) (sym written) (still e w.written h.given);
    whole = λ ample. elim (cases_Bool (short_of w.parts)) [
      | inl was ↦ absurd (true≢false (sym ((k.refused was).short) ∙ ample))
      | inr was ↦
          let a = k.whole was in
          let x = h.whole was in
          elim a.comes [
            | inl u ↦ record {
              frames = x.frames;
              sizes = x.sizes;
              took_is = λ tile low. took_more (parts_in x.frames) (places_of w.parts) a.found a.each x.took_is tile low
                  ∙ ap (λ (ps : List (Option TilePart)). parts_in x.frames tile ++ option_to_list (in_place ps tile)) (sym u.places);
              given = subst (GaveText e (p6_texts (map (picture l) x.frames))) (sym written) x.given;
              written = λ few. subst (IsCounted e (p6_texts (map (picture l) x.frames))) (sym written) (x.written few);
            }
            | inr s ↦ absurd (true≢false (sym s.short ∙ ample))
          ]
    ];
  }

  -- a frame was completed and written
  module _ (a b c : Option (List ℕ)) (fa fb fc : ℕ) (w w' : FrameWriter) (image : Image) (window : IsWindow (layout_of w.parts))
      (k : IsAssembled gave same empty_seen bare w.parts lanes (Some image) w'.parts lanes')
      (counts : (text : List ℕ) → length text + length (p6_text image) < 2 ^ 64 → IsCounted (used a b fa fb) text w.written → IsCounted (used a c fa fc) (text ++ p6_text image) w'.written)
      (given : HasGiven b c (p6_text image) w.written w'.written) (h : IsOnTheWay l (used a b fa fb) (took lanes) w) where
    was_ample : short_of w.parts ≡ false
    was_ample = elim (cases_Bool (short_of w.parts)) [
      | inl was ↦ absurd (let e : Some image ≡ None = (k.refused was).none in cc)
      | inr was ↦ was
    ]

    complete : IsCompleteFrame (layout_of w.parts) (k.whole was_ample).found image w'.parts
    complete = (k.whole was_ample).comes

    image_is : image ≡ picture l complete.parts
    image_is = complete.shown ∙ ap (λ (x : Layout). picture x complete.parts) h.layout_is

    before : HasWritten l (used a b fa fb) (took lanes) w
    before = h.whole was_ample

    frames_now : List (List TilePart)
    frames_now = before.frames ++ complete.parts ∷ []

    sizes_now : AllByRecursion (ArePartsOf l) frames_now
    unfolding frames_now
    sizes_now = all_more (ArePartsOf l) before.frames complete.parts before.sizes (subst (λ (z : Layout). ArePartsOf z complete.parts) h.layout_is complete.sizes)

    took_now : (tile : ℕ) → tile < tile_count l → took lanes' tile ≡ parts_in frames_now tile ++ option_to_list (in_place (places_of w'.parts) tile)
    unfolding frames_now
    took_now tile low =
        let y = k.whole was_ample in
        took_more (parts_in before.frames) (places_of w.parts) y.found y.each before.took_is tile low
        ∙ ap (λ (o : Option TilePart). parts_in before.frames tile ++ option_to_list o) (ap (λ (ps : List (Option TilePart)). in_place ps tile) complete.all ∙ place_is complete.parts tile)
        ∙ sym (parts_more before.frames complete.parts tile)
        ∙ sym (append-nil (parts_in (before.frames ++ complete.parts ∷ []) tile))
        ∙ ap (λ (o : Option TilePart). parts_in (before.frames ++ complete.parts ∷ []) tile ++ option_to_list o)
        (sym (ap (λ (ps : List (Option TilePart)). in_place ps tile) complete.places ∙ none_in (tile_count (layout_of w.parts)) tile))

    text_now : p6_texts (map (picture l) frames_now) ≡ p6_texts (map (picture l) before.frames) ++ p6_text image
    unfolding frames_now
    text_now =
        ap p6_texts (map_more (picture l) before.frames complete.parts) ∙ texts_more (map (picture l) before.frames) (picture l complete.parts)
        ∙ ap (λ (m : Image). p6_texts (map (picture l) before.frames) ++ p6_text m) (sym image_is)

    given_now : GaveText (used a c fa fc) (p6_texts (map (picture l) frames_now)) w'.written
    given_now = subst (λ (t : List ℕ). GaveText (used a c fa fc) t w'.written) (sym text_now)
        (text_more a b c fa fb fc w.written w'.written (p6_texts (map (picture l) before.frames)) (p6_text image) given before.given)

    counted_now : length frames_now ≤ 2 ^ 32 → IsCounted (used a c fa fc) (p6_texts (map (picture l) frames_now)) w'.written
    unfolding frames_now
    counted_now few =
        let win : IsWindow l = subst IsWindow h.layout_is window in
        let n = length-append before.frames (complete.parts ∷ []) in
        let m = count_map (picture l) before.frames in
        let fits = texts_short (map (picture l) before.frames) (pictures_whole l win before.frames) in
        let one = texts_short (image ∷ []) (subst IsWholeImage (sym image_is) (picture_whole l win complete.parts), tt) in
        let one_is = ap length (append-nil (p6_text image)) in
        subst (λ (t : List ℕ). IsCounted (used a c fa fc) t w'.written) (sym text_now)
        (counts (p6_texts (map (picture l) before.frames)) (omega (arith, fits, one, one_is, m, n, few)) (before.written (omega (arith, n, few))))

    pub writes : IsOnTheWay l (used a c fa fc) (took lanes') w'
    writes = record {
      layout_is = k.layout ∙ h.layout_is;
      given = record {
        frames = frames_now;
        sizes = sizes_now;
        fronts = λ tile low. (option_to_list (in_place (places_of w'.parts) tile), took_now tile low);
        given = given_now;
      };
      whole = λ _. record { frames = frames_now; sizes = sizes_now; took_is = took_now; given = given_now; written = counted_now };
    }

-- ---- what is missing

module _ {I : Type 0} (gave : I → TilePart → I → Type 0) (same : I → I → Type 0) (empty_seen : I → ℕ) (bare : I → Type 0) (lanes lanes' : List I) where
  -- where no frame was completed, and no tile was short, a part is missing
  pub is_missing : (w w' : FrameWriter) → length lanes ≡ tile_count (layout_of w.parts)
      → IsAssembled gave same empty_seen bare w.parts lanes None w'.parts lanes' → short_of w'.parts ≡ false → IsMissing bare w' lanes'
  is_missing w w' count k ample = elim (cases_Bool (short_of w.parts)) [
    | inl was ↦ absurd (true≢false (sym ((k.refused was).short) ∙ ample))
    | inr was ↦
        let a = k.whole was in
        elim a.comes [
          | inl u ↦ record {
            tile = u.gap.tile;
            low = subst (λ (x : Layout). u.gap.tile < tile_count x) (sym k.layout) u.gap.low;
            place = ap (λ (ps : List (Option TilePart)). in_place ps u.gap.tile) u.places ∙ u.gap.missing;
            empty = λ e. found_bare (in_place (places_of w.parts) u.gap.tile) (in_place a.found u.gap.tile) _ _
                (a.each.at u.gap.tile e (let low = u.gap.low in omega (arith, count, low))) u.gap.missing;
          }
          | inr s ↦ absurd (true≢false (sym s.short ∙ ample))
        ]
  ]
    where
      found_bare : (place found : Option TilePart) (x y : I) → IsFound gave same empty_seen bare place x found y → found ≡ None → bare y
      found_bare (Some p) found x y h none = absurd (let e = h.0 in cc)
      found_bare None (Some p) x y h none = absurd cc
      found_bare None None x y h none = h.1.1

-- ---- each lane

module _ {I : Type 0} (gave : I → TilePart → I → Type 0) (same : I → I → Type 0) (empty_seen : I → ℕ) (bare : I → Type 0) (here : (a : I) → same a a) where
  taken_one : (part : Option TilePart) (a b : I) → IsTaken gave same empty_seen bare a part b → GivesOne gave same a b
  taken_one (Some p) a b h = inr (p, h)
  taken_one None a b h = inl h.0

  found_one : (place found : Option TilePart) (a b : I) → IsFound gave same empty_seen bare place a found b → GivesOne gave same a b
  found_one (Some p) found a b h = inl (subst (same a) (sym h.1) (here a))
  found_one None found a b h = taken_one found a b h

  -- of each lane at most one part was taken, whether the assembler was short or not; as many lanes are there as before
  pub each_one : (w w' : FrameParts) (lanes lanes' : List I) (result : Option Image) → length lanes' ≡ length lanes
      → IsAssembled gave same empty_seen bare w lanes result w' lanes' → EachLane (λ i a b. GivesOne gave same a b) lanes lanes'
  each_one w w' lanes lanes' result count k = elim (cases_Bool (short_of w)) [
    | inl was ↦ let r = k.refused was in record {
      count = count;
      at = λ i d lt. let x = r.each.at i d lt in taken_one x.part (slice_index_or lanes i d) (slice_index_or lanes' i d) x.taken;
    }
    | inr was ↦ let a = k.whole was in record {
      count = count;
      at = λ i d lt. found_one (in_place (places_of w) i) (in_place a.found i) (slice_index_or lanes i d) (slice_index_or lanes' i d) (a.each.at i d lt);
    }
  ]

-- ---- a new writer

pub new_writers : NewWritersAreOnTheWay
new_writers l image took w new none calm empty = let nothing : GaveText image [] w.written = record {
  front = record { done = 0; part = omega arith; given = none };
  all = λ _. none;
} in record {
  layout_is = new.parts_are.layout;
  given = record { frames = []; sizes = tt; fronts = λ tile low. (took tile, refl); given = nothing };
  whole = λ ample. record {
    frames = [];
    sizes = tt;
    given = nothing;
    took_is = λ tile low. empty tile low
        ∙ ap (λ (o : Option TilePart). option_to_list o) (sym (ap (λ (ps : List (Option TilePart)). in_place ps tile) new.parts_are.places ∙ none_in (tile_count l) tile));
    written = λ few. record {
      is = inl (ap (λ (x : Written). x.fault) new.written, none, calm);
      count = λ _. ap (λ (x : Written). x.bytes) new.written;
    };
  };
}

-- The images of frames whose parts tiles have shown are those of the run that they begin.
use Rattle.std.proofs.Common.{◌≡◌, ℕ, suc, ◌+◌, ◌*◌, ◌/◌, ◌<◌, ◌≤◌, ◌==◌, Bool, true, false, List, [], ◌∷◌, ◌++◌, length, map, take, Some, None, refl, sym, ap, ◌∙◌, subst, arith, eq-eqb, ne_eqb, length-append}
use Rattle.std.proofs.Math.Nat.{div-mul-le_self, mul-pos}
use Rattle.std.proofs.lemmas.List.{take-append-le}
use Rattle.std.proofs.lemmas.List.FromFn.{take-map-range_with_len}
use Rattle.std.proofs.lemmas.Nat.{le-div}
use Rattle.std.proofs.lemmas.Option.{slice_get_within}
use Rattle.std.specs.Prelude.{min, option_to_list, slice_get}
use Rattle.std.specs.List.{range_with_len, AllByRecursion}
use Rattle.std.specs.declared.option.Option.{Option}
use Rattle.rc_base.specs.Cluster.Tiles.{tile_count, tile_column, tile_row}
use Rattle.rc_base.specs.Formats.Limits.{quantity, layout_limit}
use Rattle.rc_base.specs.Formats.Netpbm.{p6_text, p6_texts}
use Rattle.rc_base.specs.Formats.Within.{IsLayoutFor}
use Rattle.rc_base.specs.Lists.{IsFront}
use Rattle.rc_base.specs.Outside.Ends.{Used, Took, TookFront}
use Rattle.rc_base.specs.declared.cluster.TilePart.{TilePart}
use Rattle.rc_base.specs.declared.image.Image.{Image}
use Rattle.rc_base.specs.declared.scene.Scene.{Scene}
use Rattle.rc_base.specs.declared.window.Layout.{Layout}
use Rattle.rc_base.proofs.WithinLimits.{first_within, in_range}
use Rattle.assembler.specs.Laws.{PartsShowTheirPixels}
use Rattle.assembler.specs.Parts.{part_size, picture, tile_height, tile_width, ArePartsOf}
use Rattle.bounds_bucket.specs.Tiles.{EachPixelHasOneTile}
use Rattle.order_model.specs.Report.{frame_count, image_text_of, recorded_pixel, tile_order}
use Rattle.order_model.specs.declared.record.Record.{Record}
use Rattle.tile_server.specs.Laws.{IsFramePart}
use Rattle.plain_lemmas.proofs.Lists.{get_in_front}
use Rattle.frame_out.specs.Frames.{window_image, window_images}
use Rattle.frame_out.specs.OnTheWay.{parts_in}
use Rattle.frame_out.proofs.PartsCounted.{counted, part_of}
use Rattle.frame_out.proofs.Prefixes.{before, before_most, whole}
use Rattle.run_record.proofs.FrameParts.{frame_shows, texts_are}
use Rattle.shown_frames.specs.Clusters.{BeginsSo}
use Rattle.shown_frames.specs.Shown.{AreBlank}
use Rattle.shown_frames.specs.Images.{GaveShown, ShownFramesAreOfTheRun}
use Rattle.shown_frames.proofs.Fronts.{front_of_front, before_last}

-- ---- each tile has pixels

-- a side that is cut into no more parts than it is long has a pixel in each
long_part : (side parts j : ℕ) → 0 < parts → parts ≤ side → 0 < part_size side parts j
long_part side parts j pos le =
    let all : j * side / parts * parts ≤ j * side = div-mul-le_self (j * side) parts in
    let next : j * side / parts + 1 ≤ (j + 1) * side / parts = le-div (j * side / parts + 1) ((j + 1) * side) parts pos (omega (arith, all, le)) in
    omega (arith, next)

-- the columns and rows of a layout within the limits
record HasSides (l : Layout) : Type 0 where
  pub columns : (0 < l.columns) × (l.columns ≤ l.width)
  pub rows : (0 < l.rows) × (l.rows ≤ l.height)

sides_of : (l : Layout) (depth : ℕ) → layout_limit l.width l.height l.columns l.rows depth ≡ None → HasSides l
unfolding layout_limit
sides_of l depth within =
    let first = first_within (quantity 14 l.columns 1 (min 8 l.width)) (quantity 15 l.rows 1 (min 8 l.height) ∷ quantity 16 (l.columns * l.rows) 1 32 ∷ quantity 17 depth 1 16 ∷ []) within in
    let second = first_within (quantity 15 l.rows 1 (min 8 l.height)) (quantity 16 (l.columns * l.rows) 1 32 ∷ quantity 17 depth 1 16 ∷ []) first.1 in
    let c = in_range 14 l.columns 1 (min 8 l.width) first.0 in
    let r = in_range 15 l.rows 1 (min 8 l.height) second.0 in
    record { columns = (omega (arith, c.0), omega (arith, c.1)); rows = (omega (arith, r.0), omega (arith, r.1)) }

module _ (one : EachPixelHasOneTile) (show : PartsShowTheirPixels) (scene : Scene) (l : Layout) (depth : ℕ) (kept : Record) (shown : ℕ → List TilePart) (image : Used)
    (fits : IsLayoutFor scene l depth) (h : BeginsSo scene l shown kept) (g : GaveShown l shown image) where
  sides : HasSides l
  sides = sides_of l depth fits.limits

  some : 0 < tile_count l
  some = mul-pos sides.columns.0 sides.rows.0

  large : (tile : ℕ) → 0 < tile_width l tile * tile_height l tile
  large tile = mul-pos (long_part l.width l.columns (tile_column l tile) sides.columns.0 sides.columns.1) (long_part l.height l.rows (tile_row l tile) sides.rows.0 sides.rows.1)

  -- ---- the parts of frames aren't blank

  abbrev is_blank : TilePart → Bool
  is_blank part = length part.pixels == 0

  blank_all : (parts : List TilePart) → AreBlank parts → AllByRecursion (λ (part : TilePart). is_blank part ≡ true) parts
  blank_all [] none = tt
  blank_all (part ∷ parts) none = (eq-eqb (length part.pixels) 0 (ap length none.0), blank_all parts none.1)

  large_all : (tile : ℕ) → tile < tile_count l → (frames : List (List TilePart)) → AllByRecursion (ArePartsOf l) frames
      → AllByRecursion (λ (part : TilePart). is_blank part ≡ false) (parts_in frames tile)
  large_all tile lt [] all = tt
  large_all tile lt (parts ∷ frames) all =
      let q = part_of l parts tile all.0 lt in
      let here : is_blank q.0 ≡ false = ne_eqb (length q.0.pixels) 0 (λ none. (let n = all.0.size tile q.0 q.1 in let some = large tile in omega (arith, n, some, none))) in
      subst (λ (o : Option TilePart). AllByRecursion (λ (part : TilePart). is_blank part ≡ false) (option_to_list o ++ parts_in frames tile)) (sym q.1)
      (here, large_all tile lt frames all.1)

  -- so they are a front of the run's
  front_of_whole : (tile : ℕ) (lt : tile < tile_count l) → IsFront (parts_in g.given.frames tile) (h.parts tile lt).whole
  front_of_whole tile lt =
      let k = h.parts tile lt in
      before_last is_blank (parts_in g.given.frames tile) k.whole k.blank
      (subst (λ (ps : List TilePart). IsFront (parts_in g.given.frames tile) ps) k.parts_are
      (front_of_front (parts_in g.given.frames tile) (g.took tile) (shown tile) (g.given.fronts tile lt) (g.fronts tile lt)))
      (large_all tile lt g.given.frames g.given.sizes) (blank_all k.blank k.blank_are)

  part_at : (tile k : ℕ) (p : TilePart) → tile < tile_count l → slice_get (parts_in g.given.frames tile) k ≡ Some p → IsFramePart scene l (tile_order kept tile) tile (k + 1) p
  part_at tile k p lt is =
      let f = front_of_whole tile lt in
      (h.parts tile lt).each k p (ap (λ (ps : List TilePart). slice_get ps k) f.1 ∙ get_in_front (parts_in g.given.frames tile) f.0 k p is)

  few : length g.given.frames ≤ frame_count kept.journal
  few =
      let f = front_of_whole 0 some in
      let a = counted l 0 some g.given.frames g.given.sizes in
      let b = ap length f.1 ∙ length-append (parts_in g.given.frames 0) f.0 in
      let c = (h.parts 0 some).few in
      omega (arith, a, b, c)

  -- ---- their images

  first_part : (parts : List TilePart) (frames : List (List TilePart)) (tile : ℕ) (p : TilePart) → slice_get parts tile ≡ Some p → slice_get (parts_in (parts ∷ frames) tile) 0 ≡ Some p
  first_part parts frames tile p is = rw is refl

  later_part : (parts : List TilePart) (frames : List (List TilePart)) (tile k : ℕ) (p q : TilePart) → slice_get parts tile ≡ Some q → slice_get (parts_in frames tile) k ≡ Some p
      → slice_get (parts_in (parts ∷ frames) tile) (suc k) ≡ Some p
  later_part parts frames tile k p q is at = rw is at

  pictures_are : (a : ℕ) (frames : List (List TilePart)) → AllByRecursion (ArePartsOf l) frames
      → ((tile k : ℕ) (p : TilePart) → tile < tile_count l → slice_get (parts_in frames tile) k ≡ Some p → IsFramePart scene l (tile_order kept tile) tile (a + k) p)
      → map (picture l) frames ≡ map (λ k. window_image l (recorded_pixel scene l kept k)) (range_with_len a (length frames))
  pictures_are a [] all each = refl
  pictures_are a (parts ∷ frames) all each =
      let here = frame_shows one scene l kept some parts a (λ tile p is.
      let low : tile < tile_count l = (let n = slice_get_within parts tile p is in let m = all.0.count in omega (arith, n, m)) in (
        low,
        subst (λ (n : ℕ). IsFramePart scene l (tile_order kept tile) tile n p) (let z : a + 0 ≡ a = omega arith in z) (each tile 0 p low (first_part parts frames tile p is)),
      )) in
      let image : picture l parts ≡ window_image l (recorded_pixel scene l kept a) =
      show l parts (recorded_pixel scene l kept a) sides.columns.0 sides.rows.0 all.0 here in
      let rest = pictures_are (a + 1) frames all.1 (λ tile k p low at.
      let q = part_of l parts tile all.0 low in
      subst (λ (n : ℕ). IsFramePart scene l (tile_order kept tile) tile n p) (let z : a + suc k ≡ a + 1 + k = omega arith in z)
      (each tile (suc k) p low (later_part parts frames tile k p q.0 q.1 at))) in
      ap (λ (m : Image). m ∷ map (picture l) frames) image ∙ ap (λ (ms : List Image). window_image l (recorded_pixel scene l kept a) ∷ ms) rest

  -- ---- their texts

  abbrev all_images : List Image
  all_images = window_images l (recorded_pixel scene l kept) (frame_count kept.journal)

  images_are : map (picture l) g.given.frames ≡ take (length g.given.frames) all_images
  images_are =
      pictures_are 1 g.given.frames g.given.sizes (λ tile k p lt at.
      subst (λ (n : ℕ). IsFramePart scene l (tile_order kept tile) tile n p) (let z : k + 1 ≡ 1 + k = omega arith in z) (part_at tile k p lt at))
      ∙ sym (take-map-range_with_len (λ k. window_image l (recorded_pixel scene l kept k)) 1 (frame_count kept.journal) (length g.given.frames) few)

  text_is : p6_texts all_images ≡ image_text_of scene l kept
  text_is = texts_are scene l kept record { width = fits.width; height = fits.height }

  front_given : TookFront image (image_text_of scene l kept)
  front_given =
      let n = length g.given.frames in
      let given : TookFront image (before p6_text all_images n) = subst (λ (ms : List Image). TookFront image (p6_texts ms)) images_are g.given.given.front in
      let most = before_most p6_text all_images n in
      let part : take given.done (before p6_text all_images n) ≡ take given.done (p6_texts all_images) =
      sym (ap (take given.done) (whole p6_text all_images n) ∙ take-append-le given.done (before p6_text all_images n) _ given.part) in
      subst (TookFront image) text_is record {
        done = given.done;
        part = (let a = given.part in omega (arith, a, most));
        given = subst (Took image) part given.given;
      }

pub shown_images : EachPixelHasOneTile → PartsShowTheirPixels → ShownFramesAreOfTheRun
shown_images one show scene l depth kept shown image fits h g = front_given one show scene l depth kept shown image fits h g

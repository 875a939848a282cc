-- A writer that was given the parts of a whole run has written its image text.
use Rattle.std.proofs.Common.{◌≡◌, ℕ, suc, ◌+◌, ◌<◌, ◌≤◌, ◌^◌, List, [], ◌∷◌, ◌++◌, length, map, Some, None, refl, ap, ◌∙◌, subst, arith, length-append, append-nil}
use Rattle.std.specs.Prelude.{option_to_list, slice_get}
use Rattle.std.specs.List.{range_with_len, AllByRecursion}
use Rattle.std.specs.declared.option.Option.{Option}
use Rattle.std.proofs.lemmas.List.FromFn.{length-map-range_with_len}
use Rattle.std.proofs.lemmas.Option.{slice_get_within}
use Rattle.rc_base.specs.Lists.{IsFront}
use Rattle.rc_base.specs.Cluster.Tiles.{tile_count}
use Rattle.rc_base.specs.Formats.Netpbm.{p6_texts}
use Rattle.rc_base.specs.Outside.Ends.{Used}
use Rattle.rc_base.specs.declared.cluster.TilePart.{TilePart}
use Rattle.rc_base.specs.declared.image.Image.{Image}
use Rattle.rc_base.specs.declared.scene.Scene.{Scene}
use Rattle.rc_base.specs.declared.window.Layout.{Layout}
use Rattle.assembler.specs.Assembled.{places_of}
use Rattle.assembler.specs.Laws.{PartsShowTheirPixels}
use Rattle.assembler.specs.Parts.{picture, ArePartsOf}
use Rattle.assembler.specs.Places.{in_place}
use Rattle.bounds_bucket.specs.Tiles.{EachPixelHasOneTile}
use Rattle.order_model.specs.Report.{frame_count, image_text_of, recorded_pixel, tile_order}
use Rattle.order_model.specs.declared.record.Record.{Record}
use Rattle.run_record.specs.Told.{HaveFrames}
use Rattle.tile_server.specs.Laws.{IsFramePart}
use Rattle.frame_out.specs.Frames.{window_image, window_images}
use Rattle.frame_out.specs.Laws.{HasWindow}
use Rattle.run_record.specs.ImageText.{WholeRunsAreWritten}
use Rattle.frame_out.specs.OnTheWay.{parts_in, HasWritten}
use Rattle.frame_out.specs.Writing.{AreWritable, IsCounted}
use Rattle.frame_out.specs.declared.on_the_way.FrameWriter.{FrameWriter}
use Rattle.frame_out.proofs.PartsCounted.{counted, part_of}
use Rattle.run_record.proofs.FrameParts.{frame_shows, some_columns, some_rows, texts_are}

-- ---- the images of frames

module _ (one : EachPixelHasOneTile) (show : PartsShowTheirPixels) (scene : Scene) (l : Layout) (kept : Record) (some : 0 < tile_count l) where
  first_is : (parts : List TilePart) (frames : List (List TilePart)) (tile : ℕ) (p : TilePart) → slice_get parts tile ≡ Some p → slice_get (parts_in (parts ∷ frames) tile) 0 ≡ Some p
  first_is parts frames tile p is = rw is refl

  later_is : (parts : List TilePart) (frames : List (List TilePart)) (tile k : ℕ) (p q : TilePart) → slice_get parts tile ≡ Some q → slice_get (parts_in frames tile) k ≡ Some p
      → slice_get (parts_in (parts ∷ frames) tile) (suc k) ≡ Some p
  later_is parts frames tile k p q is at = rw is at

  images_are : (a : ℕ) (frames : List (List TilePart)) → AllByRecursion (ArePartsOf l) frames
      → ((tile k : ℕ) (p : TilePart) → tile < tile_count l → slice_get (parts_in frames tile) k ≡ Some p → IsFramePart scene l (tile_order kept tile) tile (a + k) p)
      → map (picture l) frames ≡ map (λ k. window_image l (recorded_pixel scene l kept k)) (range_with_len a (length frames))
  images_are a [] all each = refl
  images_are a (parts ∷ frames) all each =
      let here = frame_shows one scene l kept some parts a (λ tile p is.
      let low : tile < tile_count l = (let n = slice_get_within parts tile p is in let m = all.0.count in omega (arith, n, m)) in (
        low,
        subst (λ (n : ℕ). IsFramePart scene l (tile_order kept tile) tile n p) (let z : a + 0 ≡ a = omega arith in z)
            (each tile 0 p low (first_is parts frames tile p is)),
      )) in
      let image : picture l parts ≡ window_image l (recorded_pixel scene l kept a) =
      show l parts (recorded_pixel scene l kept a) (some_columns l.columns l.rows some) (some_rows l.columns l.rows some) all.0 here in
      let rest = images_are (a + 1) frames all.1 (λ tile k p low at.
      let q = part_of l parts tile all.0 low in
      subst (λ (n : ℕ). IsFramePart scene l (tile_order kept tile) tile n p) (let z : a + suc k ≡ a + 1 + k = omega arith in z)
      (each tile (suc k) p low (later_is parts frames tile k p q.0 q.1 at))) in
      ap (λ (m : Image). m ∷ map (picture l) frames) image ∙ ap (λ (ms : List Image). window_image l (recorded_pixel scene l kept a) ∷ ms) rest

  -- ---- all of them were given

  module _ (shown took : ℕ → List TilePart) (image : Used) (w : FrameWriter) (have : HaveFrames scene l kept shown) (window : HasWindow scene l)
      (writable : AreWritable (window_images l (recorded_pixel scene l kept) (frame_count kept.journal))) (h : HasWritten l image took w)
      (fronts : (tile : ℕ) → tile < tile_count l → IsFront (took tile) (shown tile)) (last : ℕ) (low : last < tile_count l)
      (missing : in_place (places_of w.parts) last ≡ None) (all : took last ≡ shown last) where
    many : length h.frames ≡ frame_count kept.journal
    many =
        let a = ap length (h.took_is last low ∙ ap (λ (o : Option TilePart). parts_in h.frames last ++ option_to_list o) missing ∙ append-nil (parts_in h.frames last)) in
        let b = counted l last low h.frames h.sizes in
        let c = ap length all in
        let d = have.count last low in
        omega (arith, a, b, c, d)

    none_more : (ps qs rs xs : List TilePart) → xs ≡ (ps ++ qs) ++ rs → length ps ≡ length xs → xs ≡ ps
    none_more ps [] [] xs e n = e ∙ append-nil (ps ++ []) ∙ append-nil ps
    none_more ps [] (r ∷ rs) xs e n = absurd (let a = ap length e in let b = length-append (ps ++ []) (r ∷ rs) in let c = length-append ps [] in omega (arith, a, b, c, n))
    none_more ps (q ∷ qs) rs xs e n = absurd (let a = ap length e in let b = length-append (ps ++ q ∷ qs) rs in let c = length-append ps (q ∷ qs) in omega (arith, a, b, c, n))

    shown_is : (tile : ℕ) → tile < tile_count l → shown tile ≡ parts_in h.frames tile
    shown_is tile lt =
        let front = fronts tile lt in
        none_more (parts_in h.frames tile) (option_to_list (in_place (places_of w.parts) tile)) front.0 (shown tile)
        (front.1 ∙ ap (λ (xs : List TilePart). xs ++ front.0) (h.took_is tile lt))
        (let a = counted l tile lt h.frames h.sizes in let b = have.count tile lt in let c = many in omega (arith, a, b, c))

    text_is : p6_texts (map (picture l) h.frames) ≡ image_text_of scene l kept
    text_is =
        ap p6_texts (images_are 1 h.frames h.sizes (λ tile k p lt at.
        subst (λ (n : ℕ). IsFramePart scene l (tile_order kept tile) tile n p) (let z : k + 1 ≡ 1 + k = omega arith in z)
        (have.each k tile p lt (ap (λ (xs : List TilePart). slice_get xs k) (shown_is tile lt) ∙ at)))
        ∙ ap (window_images l (recorded_pixel scene l kept)) many)
        ∙ texts_are scene l kept window

    few : length h.frames ≤ 2 ^ 32
    few = let a = writable.few in let b = length-map-range_with_len (λ (k : ℕ). window_image l (recorded_pixel scene l kept k)) 1 (frame_count kept.journal) in let c = many in omega (arith, a, b, c)

    is_written : IsCounted image (image_text_of scene l kept) w.written
    is_written = subst (λ (text : List ℕ). IsCounted image text w.written) text_is (h.written few)

pub runs_written : EachPixelHasOneTile → PartsShowTheirPixels → WholeRunsAreWritten
runs_written one show scene l kept shown took image w have window some writable h fronts last low missing all =
    is_written one show scene l kept some shown took image w have window writable h fronts last low missing all

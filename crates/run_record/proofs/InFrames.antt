-- The parts of a run, taken frame by frame, are those of its frames.
use Rattle.std.proofs.Common.{◌≡◌, ℕ, ◌+◌, ◌*◌, ◌<◌, List, [], length, Some, inl, inr, sym, ap, ◌∙◌, arith}
use Rattle.std.proofs.Math.Nat.{mul-le-mul_right}
use Rattle.std.proofs.lemmas.Bool.{cases_lt}
use Rattle.std.proofs.lemmas.Option.{slice_get-get_or, slice_get_within, get_or_from_slice_get}
use Rattle.std.specs.Option.{option_map_or}
use Rattle.std.specs.Prelude.{slice_get, slice_index_or, Vec}
use Rattle.std.specs.Global.{Global}
use Rattle.std.specs.declared.option.Option.{Option}
use Rattle.rc_base.specs.Cluster.Tiles.{tile_count}
use Rattle.rc_base.specs.declared.cluster.TilePart.{TilePart}
use Rattle.rc_base.specs.declared.scene.Scene.{Scene}
use Rattle.rc_base.specs.declared.window.Layout.{Layout}
use Rattle.order_model.specs.Report.{frame_count}
use Rattle.order_model.specs.declared.record.Record.{Record}
use Rattle.rc_base.proofs.Paired.{some_item}
use Rattle.run_record.specs.Collected.{FramesAreInOrder}
use Rattle.run_record.specs.Gathering.{AreInFrames, shown_by}
use Rattle.run_record.specs.Told.{AreFrameParts, HaveFrames}

-- the list of a tile, whatever stands for a tile that there isn't
pub shown_at : (lists : List (Vec TilePart Global)) (tile : ℕ) (d : Vec TilePart Global) → tile < length lists → shown_by lists tile ≡ (slice_index_or lists tile d).items
shown_at lists tile d low = ap (λ (o : Option (Vec TilePart Global)). option_map_or (λ (list : Vec TilePart Global). list.items) o []) (slice_get-get_or lists tile d low)

module _ (scene : Scene) (l : Layout) (kept : Record) (lists : List (Vec TilePart Global)) (parts : List TilePart) (h : HaveFrames scene l kept (shown_by lists))
    (tiles : length lists ≡ tile_count l) (f : AreInFrames (frame_count kept.journal) lists parts) where
  count : length parts ≡ frame_count kept.journal * tile_count l
  count = f.count ∙ ap (λ x. frame_count kept.journal * x) tiles

  less_of : (frame tile : ℕ) (part : TilePart) → tile < tile_count l → slice_get parts (frame * tile_count l + tile) ≡ Some part → frame < frame_count kept.journal
  less_of frame tile part low is =
      let within = slice_get_within parts (frame * tile_count l + tile) part is in
      let c = count in
      elim (cases_lt frame (frame_count kept.journal)) [
        | inl lt ↦ lt
        | inr ge ↦ absurd (let m = mul-le-mul_right {m = frame_count kept.journal} {n = frame} (tile_count l) ge in omega (arith, m, within, c))
      ]

  part_of : (frame tile : ℕ) (part : TilePart) → tile < tile_count l → slice_get parts (frame * tile_count l + tile) ≡ Some part → slice_get (shown_by lists tile) frame ≡ Some part
  part_of frame tile part low is =
      let here : tile < length lists = omega (arith, tiles, low) in
      let less = less_of frame tile part low is in
      let d = some_item lists tile here in
      let at : part ≡ slice_index_or (slice_index_or lists tile d).items frame part =
      sym (get_or_from_slice_get parts (frame * tile_count l + tile) part part is)
      ∙ ap (λ x. slice_index_or parts (frame * x + tile) part) (sym tiles)
      ∙ f.at frame tile d part less here in
      let same = shown_at lists tile d here in
      let c = h.count tile low in
      slice_get-get_or (shown_by lists tile) frame part (omega (arith, c, less))
      ∙ ap (λ (xs : List TilePart). Some (slice_index_or xs frame part)) same ∙ ap (λ (x : TilePart). Some x) (sym at)

  in_order : AreFrameParts scene l kept parts
  in_order = record {
    count = count;
    each = λ frame tile part low is. h.each frame tile part low (part_of frame tile part low is);
  }

pub frames_in_order : FramesAreInOrder
frames_in_order scene l kept lists parts h tiles f = in_order scene l kept lists parts h tiles f

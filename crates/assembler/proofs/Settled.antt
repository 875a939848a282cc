-- What a call leaves, where no part that it found is a misfit.
use Rattle.std.proofs.Common.{◌≡◌, ℕ, ◌*◌, ◌<◌, Bool, true, false, List, length, map, Some, inl, refl, sym, ap, subst, ◌∙◌}
use Rattle.std.specs.declared.option.Option.{Option}
use Rattle.rc_base.specs.Cluster.Tiles.{tile_count}
use Rattle.rc_base.specs.declared.cluster.TilePart.{TilePart}
use Rattle.rc_base.specs.declared.window.Layout.{Layout}
use Rattle.assembler.specs.Assembled.{ComesOf, places_of, short_of, shows}
use Rattle.assembler.specs.Drawn.{AreDrawn}
use Rattle.assembler.specs.Parts.{image_with}
use Rattle.assembler.specs.Places.{AllFit, HasGap, in_place, no_parts, parts_in}
use Rattle.assembler.specs.declared.frame_parts.FrameParts.{FrameParts}
use Rattle.assembler.proofs.Drawn.{none_drawn}
use Rattle.assembler.proofs.Waiting.{all_parts}
use Rattle.assembler.proofs.Whole.{all_drawn}

module _ (l : Layout) (was found : List (Option TilePart)) (items : was ≡ found) (rgb : List ℕ) (drawn : AreDrawn l found rgb) where
  pub settled : (result : Bool) (after : FrameParts) → 0 < l.columns → 0 < l.rows → length found ≡ tile_count l → AllFit l found → length rgb ≡ 3 * l.width * l.height
      → short_of after ≡ false → (result ≡ false → HasGap l was) → (result ≡ false → places_of after ≡ was) → (result ≡ true → was ≡ map (λ p. Some p) (parts_in was))
      → (result ≡ true → places_of after ≡ no_parts l) → ComesOf l found (shows result (image_with l rgb)) after
  settled true after columns rows count fit size short gap waiting all empty =
      let each : found ≡ map (λ p. Some p) (parts_in found) = subst (λ (os : List (Option TilePart)). os ≡ map (λ p. Some p) (parts_in os)) items (all refl) in
      let sizes = all_parts l found count each fit in
      record {
        parts = parts_in found;
        all = each;
        sizes = sizes;
        shown = ap (image_with l) (all_drawn l (parts_in found) columns rows sizes found rgb each size drawn);
        short = short;
        places = empty refl;
      }
  settled false after columns rows count fit size short gap waiting all empty =
      inl (record { gap = subst (HasGap l) items (gap refl); sizes = fit; short = short; places = waiting refl ∙ items })

  pub still_drawn : (result : Bool) (places : List (Option TilePart)) → (result ≡ false → places ≡ was) → (result ≡ true → places ≡ no_parts l) → AreDrawn l places rgb
  still_drawn true places waiting empty = none_drawn l l places rgb (empty refl)
  still_drawn false places waiting empty = λ tile p is.
      drawn tile p (ap (λ (os : List (Option TilePart)). in_place os tile) (sym (waiting refl ∙ items)) ∙ is)

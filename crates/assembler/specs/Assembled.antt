-- What a call makes of the parts that it finds, beside those that wait.
use Rattle.std.specs.Prelude.{◌≡◌, ℕ, ◌⊎◌, Bool, true, false, List, map, Option, Some, None}
use Rattle.rc_base.specs.declared.cluster.TilePart.{TilePart}
use Rattle.rc_base.specs.declared.image.Image.{Image}
use Rattle.rc_base.specs.declared.window.Layout.{Layout}
use Rattle.assembler.specs.Parts.{ArePartsOf, picture}
use Rattle.assembler.specs.Places.{AllFit, AreDropped, AreFound, HasGap, HasMisfit, no_parts}
use Rattle.assembler.specs.declared.frame_parts.FrameParts.{FrameParts}

abbrev pub layout_of : FrameParts → Layout
layout_of f = f.layout

-- a part that doesn't fit its tile was taken
abbrev pub short_of : FrameParts → Bool
short_of f = f.short

-- what waits for the other parts of its frame, by tile
abbrev pub places_of : FrameParts → List (Option TilePart)
places_of f = f.places.items

-- the image of a frame that is complete, or none
abbrev pub shows : Bool → Image → Option Image
shows true image = Some image
shows false image = None

-- no part was taken
pub record AreNewParts (l : Layout) (f : FrameParts) : Type 0 where
  pub layout : layout_of f ≡ l
  pub short : short_of f ≡ false
  pub places : places_of f ≡ no_parts l

-- one part of each tile: the image of exactly these, and the places are empty
pub record IsCompleteFrame (l : Layout) (found : List (Option TilePart)) (image : Image) (after : FrameParts) : Type 0 where
  pub parts : List TilePart
  pub all : found ≡ map Some parts
  pub sizes : ArePartsOf l parts
  pub shown : image ≡ picture l parts
  pub short : short_of after ≡ false
  pub places : places_of after ≡ no_parts l

-- a part is missing: the others wait
pub record IsUnfinished (l : Layout) (found : List (Option TilePart)) (after : FrameParts) : Type 0 where
  pub gap : HasGap l found
  pub sizes : AllFit l found
  pub short : short_of after ≡ false
  pub places : places_of after ≡ found

-- a part doesn't fit: no image will come any more
pub record IsSpoilt (l : Layout) (found : List (Option TilePart)) (after : FrameParts) : Type 0 where
  pub misfit : HasMisfit l found
  pub short : short_of after ≡ true

abbrev pub ComesOf : Layout → List (Option TilePart) → Option Image → FrameParts → Type 0
ComesOf l found (Some image) after = IsCompleteFrame l found image after
ComesOf l found None after = IsUnfinished l found after ⊎ IsSpoilt l found after

-- ---- a call

module _ {I : Type 0} (gave : I → TilePart → I → Type 0) (same : I → I → Type 0) (empty_seen : I → ℕ) (bare : I → Type 0) where
  -- of parts none of which was short
  pub record IsAssembledOf (before : FrameParts) (lanes : List I) (result : Option Image) (after : FrameParts) (later : List I) : Type 0 where
    pub found : List (Option TilePart)
    pub each : AreFound gave same empty_seen bare (places_of before) lanes found later
    pub comes : ComesOf (layout_of before) found result after

  -- where one was: no image, and what is taken is dropped
  pub record IsRefused (lanes : List I) (result : Option Image) (after : FrameParts) (later : List I) : Type 0 where
    pub none : result ≡ None
    pub short : short_of after ≡ true
    pub each : AreDropped gave same empty_seen bare lanes later

  -- in any case
  pub record IsAssembled (before : FrameParts) (lanes : List I) (result : Option Image) (after : FrameParts) (later : List I) : Type 0 where
    pub layout : layout_of after ≡ layout_of before
    pub whole : short_of before ≡ false → IsAssembledOf before lanes result after later
    pub refused : short_of before ≡ true → IsRefused lanes result after later

  -- whether it completed a frame, which has this image then
  pub record Completes (before : FrameParts) (lanes later : List I) (completed : Bool) (after : FrameParts) : Type 0 where
    pub image : Image
    pub step : IsAssembled before lanes (shows completed image) after later

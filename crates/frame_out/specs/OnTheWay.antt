-- Frames that are put together and written while their parts still come, from lanes or from what is left of them.
use Rattle.std.specs.Prelude.{◌≡◌, ℕ, ◌^◌, ◌<◌, ◌≤◌, ◌⊎◌, false, List, ◌++◌, length, map, slice_get, slice_index_or, option_to_list, None}
use Rattle.std.specs.List.{flat_map, AllByRecursion}
use Rattle.rc_base.specs.Cluster.Lanes.{Follows}
use Rattle.rc_base.specs.Cluster.Tiles.{tile_count}
use Rattle.rc_base.specs.Formats.Netpbm.{p6_texts}
use Rattle.rc_base.specs.Lists.{IsFront}
use Rattle.rc_base.specs.Outside.Ends.{Used, Took, TookFront}
use Rattle.rc_base.specs.declared.cluster.TilePart.{TilePart}
use Rattle.rc_base.specs.declared.window.Layout.{Layout}
use Rattle.assembler.specs.Parts.{picture, ArePartsOf}
use Rattle.assembler.specs.Assembled.{layout_of, places_of, short_of, AreNewParts}
use Rattle.assembler.specs.Places.{in_place}
use Rattle.frame_out.specs.Writing.{IsCounted}
use Rattle.frame_out.specs.declared.on_the_way.FrameWriter.{FrameWriter}
use Rattle.frame_out.specs.declared.writing.Written.{Written}

-- ---- frames

-- the parts of a tile in frames, each of which has a part for each tile
abbrev pub parts_in : List (List TilePart) → ℕ → List TilePart
parts_in frames tile = flat_map (λ (parts : List TilePart). option_to_list (slice_get parts tile)) frames

-- the image was given this text, or a front of it where it failed
pub record GaveText (image : Used) (text : List ℕ) (written : Written) : Type 0 where
  pub front : TookFront image text
  pub all : written.fault ≡ false → Took image text

-- What was taken of the tiles: for each frame that is complete one part of each tile, and then the part that is in the tile's place.
pub record HasWritten (l : Layout) (image : Used) (took : ℕ → List TilePart) (w : FrameWriter) : Type 0 where
  pub frames : List (List TilePart)
  pub sizes : AllByRecursion (ArePartsOf l) frames
  pub took_is : (tile : ℕ) → tile < tile_count l → took tile ≡ parts_in frames tile ++ option_to_list (in_place (places_of w.parts) tile)
  -- the texts of the complete frames were written, up to a fault of the image
  pub given : GaveText image (p6_texts (map (picture l) frames)) w.written
  -- and are counted
  pub written : length frames ≤ 2 ^ 32 → IsCounted image (p6_texts (map (picture l) frames)) w.written

-- The image was given the texts of frames, or a front of them where it failed: of those whose parts were taken first of each tile.
pub record GaveFrames (l : Layout) (image : Used) (took : ℕ → List TilePart) (written : Written) : Type 0 where
  pub frames : List (List TilePart)
  pub sizes : AllByRecursion (ArePartsOf l) frames
  pub fronts : (tile : ℕ) → tile < tile_count l → IsFront (parts_in frames tile) (took tile)
  pub given : GaveText image (p6_texts (map (picture l) frames)) written

-- A writer of frames for a layout, what the image was given since a moment, and what was taken of the tiles since then. Once a tile was short it writes no
-- more: no frame is written behind one that isn't.
pub record IsOnTheWay (l : Layout) (image : Used) (took : ℕ → List TilePart) (w : FrameWriter) : Type 0 where
  pub layout_is : layout_of w.parts ≡ l
  pub given : GaveFrames l image took w.written
  pub whole : short_of w.parts ≡ false → HasWritten l image took w

-- nothing was taken, and nothing written
pub record IsNewWriter (l : Layout) (w : FrameWriter) : Type 0 where
  pub parts_are : AreNewParts l w.parts
  pub written : w.written ≡ record { bytes = 0; fault = false }

-- ---- lanes

-- Whatever was taken, the writer is on its way with that, and what it takes now.
abbrev pub GoesOn : {I K : Type 0} → (I → TilePart → I → Type 0) → (I → I → Type 0) → (K → K → Used) → FrameWriter → List I → K → FrameWriter → List I → K → Type 0
GoesOn {I} {K} gave same used before lanes image after lanes' image' =
    (taken : I → List TilePart) (l : Layout) (start : K) (d : I) → Follows gave same taken
    → IsOnTheWay l (used start image) (λ tile. taken (slice_index_or lanes tile d)) before
    → IsOnTheWay l (used start image') (λ tile. taken (slice_index_or lanes' tile d)) after

-- a lane that gave nothing, or one part
abbrev pub GivesOne : {I : Type 0} → (I → TilePart → I → Type 0) → (I → I → Type 0) → I → I → Type 0
GivesOne gave same a b = same a b ⊎ ((part : TilePart) × gave a part b)

-- a tile's part is missing, and its lane was found empty
pub record IsMissing {I : Type 0} (bare : I → Type 0) (w : FrameWriter) (lanes : List I) : Type 0 where
  pub tile : ℕ
  pub low : tile < tile_count (layout_of w.parts)
  pub place : in_place (places_of w.parts) tile ≡ None
  pub empty : (d : I) → bare (slice_index_or lanes tile d)

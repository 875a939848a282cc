-- Call after call: the images are those of the first parts of all lanes, of the second, and so on.
use Rattle.std.specs.Prelude.{◌≡◌, ℕ, ◌+◌, ◌<◌, false, List, [], ◌∷◌, ◌++◌, length, map, Option, Some, None, slice_get}
use Rattle.std.specs.List.{range_with_len}
use Rattle.rc_base.specs.Cluster.Tiles.{tile_count}
use Rattle.rc_base.specs.declared.cluster.TilePart.{TilePart}
use Rattle.rc_base.specs.declared.image.Image.{Image}
use Rattle.rc_base.specs.declared.window.Layout.{Layout}
use Rattle.assembler.specs.Assembled.{ComesOf, places_of, short_of}
use Rattle.assembler.specs.Parts.{picture}
use Rattle.assembler.specs.Places.{in_place, parts_in}

-- what was taken of each tile's lane, by tile
abbrev pub Taken : Type 0
Taken = ℕ → List TilePart

-- the parts of frame k, counted from 0: one of each tile
abbrev pub frame_parts : Layout → Taken → ℕ → List TilePart
frame_parts l taken k = parts_in (map (λ tile. slice_get (taken tile) k) (range_with_len 0 (tile_count l)))

-- After k frames as many parts were taken of a tile, or one more, which waits in its place.
abbrev pub Waits : ℕ → Option TilePart → List TilePart → Type 0
Waits k None parts = length parts ≡ k
Waits k (Some p) parts = (front : List TilePart) × (length front ≡ k) × (parts ≡ front ++ p ∷ [])

pub record IsUnderway (l : Layout) (k : ℕ) (places : List (Option TilePart)) (taken : Taken) : Type 0 where
  pub count : length places ≡ tile_count l
  pub each : (tile : ℕ) → tile < tile_count l → Waits k (in_place places tile) (taken tile)

-- what was taken of a tile grows by what a call finds, where it wasn't in its place
abbrev pub Grows : Option TilePart → Option TilePart → List TilePart → List TilePart → Type 0
Grows (Some q) found before later = (found ≡ Some q) × (later ≡ before)
Grows None (Some p) before later = later ≡ before ++ p ∷ []
Grows None None before later = later ≡ before

pub record AllGrow (l : Layout) (places found : List (Option TilePart)) (before later : Taken) : Type 0 where
  pub count : length found ≡ length places
  pub each : (tile : ℕ) → tile < tile_count l → Grows (in_place places tile) (in_place found tile) (before tile) (later tile)

-- after a call: its image is that of the next frame's parts, or the frame is still underway
abbrev pub GoesOn : Layout → ℕ → Option Image → List (Option TilePart) → Taken → Type 0
GoesOn l k (Some image) places later = (image ≡ picture l (frame_parts l later k)) × IsUnderway l (k + 1) places later
GoesOn l k None places later = IsUnderway l k places later

-- A call that leaves no tile short goes on so,
abbrev pub CallsGoOn : Type 0
CallsGoOn =
    (l : Layout) (k : ℕ) (places found : List (Option TilePart)) (before later : Taken) (result : Option Image) (after : _)
    → IsUnderway l k places before → AllGrow l places found before later → ComesOf l found result after → short_of after ≡ false
    → GoesOn l k result (places_of after) later

-- and the parts of the frames before are as they were.
abbrev pub FramesStay : Type 0
FramesStay =
    (l : Layout) (k i : ℕ) (places found : List (Option TilePart)) (before later : Taken)
    → IsUnderway l k places before → AllGrow l places found before later → i < k → frame_parts l later i ≡ frame_parts l before i

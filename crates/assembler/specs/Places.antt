-- The places in which the parts of one frame wait for one another, one for each tile, and what a call finds there and in the tiles' lanes.
use Rattle.std.specs.Prelude.{◌≡◌, ℕ, ◌*◌, ◌<◌, ◌==◌, Bool, true, false, not, List, length, replicate, Option, Some, None, option_to_list, slice_index_or}
use Rattle.std.specs.List.{flat_map}
use Rattle.rc_base.specs.Cluster.Lanes.{EachLane}
use Rattle.rc_base.specs.Cluster.Tiles.{tile_count}
use Rattle.rc_base.specs.Outside.Causes.{Rose}
use Rattle.rc_base.specs.declared.cluster.TilePart.{TilePart}
use Rattle.rc_base.specs.declared.window.Layout.{Layout}
use Rattle.assembler.specs.Parts.{tile_height, tile_width}

-- the part that is in a tile's place
abbrev pub in_place : List (Option TilePart) → ℕ → Option TilePart
in_place places tile = slice_index_or places tile None

-- no part in any place
abbrev pub no_parts : Layout → List (Option TilePart)
no_parts l = replicate (tile_count l) None

-- the part has its tile's number of pixels
abbrev pub fits : Layout → ℕ → TilePart → Bool
fits l tile p = length p.pixels == tile_width l tile * tile_height l tile

-- the part has another number
abbrev pub is_misfit : Layout → ℕ → Option TilePart → Bool
is_misfit l tile (Some p) = not (fits l tile p)
is_misfit l tile None = false

-- the parts that are there, in the order of the tiles
abbrev pub parts_in : List (Option TilePart) → List TilePart
parts_in places = flat_map option_to_list places

-- ---- what a call finds

module _ {I : Type 0} (gave : I → TilePart → I → Type 0) (same : I → I → Type 0) (empty_seen : I → ℕ) (bare : I → Type 0) where
  -- a lane gave this part, or it was empty and has counted that
  abbrev pub IsTaken : I → Option TilePart → I → Type 0
  IsTaken a (Some p) b = gave a p b
  IsTaken a None b = same a b × (Rose (empty_seen a) (empty_seen b) × bare b)

  -- what a call finds for a tile: the part in its place, where the lane isn't asked, or else what its lane gives
  abbrev pub IsFound : Option TilePart → I → Option TilePart → I → Type 0
  IsFound (Some p) a found b = (found ≡ Some p) × (b ≡ a)
  IsFound None a found b = IsTaken a found b

  -- the same for each tile
  pub record AreFound (places : List (Option TilePart)) (lanes : List I) (found : List (Option TilePart)) (later : List I) : Type 0 where
    pub count : length found ≡ length places
    pub at : (tile : ℕ) (d : I) → tile < length lanes
        → IsFound (in_place places tile) (slice_index_or lanes tile d) (in_place found tile) (slice_index_or later tile d)

  -- at most one part of the lane is taken, and it is dropped
  pub record IsDropped (a b : I) : Type 0 where
    pub part : Option TilePart
    pub taken : IsTaken a part b

  -- the same of each lane
  abbrev pub AreDropped : List I → List I → Type 0
  AreDropped lanes later = EachLane (λ i a b. IsDropped a b) lanes later

-- ---- what is wanting in what was found

-- the part of a tile is missing
pub record HasGap (l : Layout) (found : List (Option TilePart)) : Type 0 where
  pub tile : ℕ
  pub low : tile < tile_count l
  pub missing : in_place found tile ≡ None

-- a part has another number of pixels than its tile
pub record HasMisfit (l : Layout) (found : List (Option TilePart)) : Type 0 where
  pub tile : ℕ
  pub part : TilePart
  pub here : in_place found tile ≡ Some part
  pub misfit : fits l tile part ≡ false

-- each part that is there has its tile's number of pixels
abbrev pub AllFit : Layout → List (Option TilePart) → Type 0
AllFit l found = (tile : ℕ) (p : TilePart) → in_place found tile ≡ Some p → fits l tile p ≡ true

-- What a client sends, lane by lane.
use Rattle.std.specs.Prelude.{◌≡◌, ◌≢◌, ℕ, ◌<◌, List, [], ◌∷◌, ◌++◌, length, map}
use Rattle.std.specs.List.{AllByRecursion}
use Rattle.rc_base.specs.Lists.{AreRising}
use Rattle.rc_base.specs.Contexts.Issue.{stream_of}
use Rattle.rc_base.specs.Cluster.Tiles.{tile_count}
use Rattle.rc_base.specs.Cluster.Parcels.{parcels_of, end_parcel}
use Rattle.rc_base.specs.Cluster.Sending.{parcels_to, requests_in, sent_by, requests_of}
use Rattle.rc_base.specs.declared.scene.Scene.{Scene}
use Rattle.rc_base.specs.declared.state.Act.TheVariants as act
use Rattle.rc_base.specs.declared.state.Parcel.{Parcel}
use Rattle.rc_base.specs.declared.window.Layout.{Layout}

-- A client's sequence is its parcels for each tile, and its requests.
pub record IsSplit (scene : Scene) (l : Layout) (client : ℕ) : Type 0 where
  pub parcels : (tile : ℕ) → tile < tile_count l → parcels_to tile (sent_by scene l client) ≡ parcels_of scene l client tile
  pub requests : client < length scene.streams → requests_in (sent_by scene l client) ≡ requests_of scene client

abbrev pub SequencesAreSplit : Type 0
SequencesAreSplit = (scene : Scene) (l : Layout) (client : ℕ) → IsSplit scene l client

-- ---- a client's parcels for a tile

abbrev pub places : List Parcel → List ℕ
places parcels = map (λ (p : Parcel). p.place) parcels

-- none is an End
abbrev pub AreCommands : List Parcel → Type 0
AreCommands parcels = AllByRecursion (λ (p : Parcel). p.act ≢ act.End) parcels

-- Parcels of commands at rising places, at most one each, and then End with the number of commands.
pub record EndsLast (scene : Scene) (l : Layout) (client tile : ℕ) : Type 0 where
  pub before : List Parcel
  pub whole : parcels_of scene l client tile ≡ before ++ end_parcel (length (stream_of scene client)) ∷ []
  pub rising : AreRising 0 (places before) (length (stream_of scene client))
  pub commands : AreCommands before

abbrev pub ParcelsRiseAndEnd : Type 0
ParcelsRiseAndEnd = (scene : Scene) (l : Layout) (client tile : ℕ) → EndsLast scene l client tile

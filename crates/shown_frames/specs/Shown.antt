-- What tiles have shown by now, whoever lacks memory: each tile is told of by itself, of its core and of what its own lanes gave.
use Rattle.std.specs.Prelude.{◌≡◌, ℕ, ◌<◌, true, false, List, [], ◌++◌, length, option_to_list, Result, Ok, Err}
use Rattle.std.specs.List.{AllByRecursion}
use Rattle.rc_base.specs.Cluster.Parcels.{is_end}
use Rattle.rc_base.specs.Lists.{IsFront}
use Rattle.rc_base.specs.declared.cluster.TileMoved.{TileMoved}
use Rattle.rc_base.specs.declared.cluster.TilePart.{TilePart}
use Rattle.rc_base.specs.declared.out_of_memory.OutOfMemory.{OutOfMemory}
use Rattle.rc_base.specs.declared.scene.Scene.{Scene}
use Rattle.rc_base.specs.declared.state.Parcel.{Parcel}
use Rattle.rc_base.specs.declared.sync.Grant.{Grant}
use Rattle.rc_base.specs.declared.window.Layout.{Layout}
use Rattle.order_model.specs.Standing.{Progress, is_over}
use Rattle.tile_model.specs.Scenes.{IsInRange, HasSides}
use Rattle.tile_server.specs.Clauses.{shown_in, IsTileAt, IsTileClause}
use Rattle.tile_server.specs.Cores.{is_short, IsProgressOf, IsTileStep}
use Rattle.tile_server.specs.Deeds.{answer_of, granted_of, taken_of}
use Rattle.tile_server.specs.declared.deed.TileDeed.{TileDeed}
use Rattle.tile_server.specs.declared.tile_core.TileCore.{TileCore}

-- ---- parts

-- parts without pixels, by which a tile tells that memory lacked
abbrev pub AreBlank : List TilePart → Type 0
AreBlank parts = AllByRecursion (λ (part : TilePart). part.pixels ≡ []) parts

-- what a step has for the caller: the part that it shows, or where memory lacked one without pixels
abbrev pub Offers : Result TileMoved OutOfMemory → List TilePart → Type 0
Offers (Ok did) offered = offered ≡ shown_in (Ok did)
Offers (Err lack) offered = AreBlank offered

-- ---- parcels

-- none of them is an End
abbrev pub AreOpen : List Parcel → Type 0
AreOpen parcels = AllByRecursion (λ (p : Parcel). is_end p.act ≡ false) parcels

-- no client's End was taken
abbrev pub NoneEnded : ℕ → (ℕ → List Parcel) → Type 0
NoneEnded clients took = (client : ℕ) → client < clients → AreOpen (took client)

-- A client whose End was taken is closed; and one that is closed is held by nothing, as long as an entry may be performed.
pub record ClosesByEnds (clients : ℕ) (p : Progress) (took : ℕ → List Parcel) : Type 0 where
  pub unended : (client : ℕ) → client < clients → p.closed client ≡ false → AreOpen (took client)
  pub unheld : (client : ℕ) → client < clients → p.closed client ≡ true → is_over p ≡ false → p.held client ≡ false

-- ---- a tile

-- The parts that a tile has shown are some with pixels, and then some without. When it had shown the last of those with pixels it stood for them, no
-- client's End was taken yet, and what was taken and heard by then are fronts of what was taken and heard.
pub record HasShown (scene : Scene) (l : Layout) (this_tile : ℕ) (took : ℕ → List Parcel) (heard : List Grant) (parts : List TilePart) : Type 0 where
  pub whole : List TilePart
  pub blank : List TilePart
  pub parts_are : parts ≡ whole ++ blank
  pub blank_are : AreBlank blank
  pub core : TileCore
  pub progress : Progress
  pub took_then : ℕ → List Parcel
  pub heard_then : List Grant
  pub stood : IsTileAt scene l this_tile core progress took_then heard_then whole false
  pub none_ended : NoneEnded (length scene.streams) took_then
  pub fronts : (client : ℕ) → client < length scene.streams → IsFront (took_then client) (took client)
  pub front : IsFront heard_then heard

-- A core that meets its clause, and has shown so.
pub record IsShowing (scene : Scene) (l : Layout) (this_tile : ℕ) (core : TileCore) (took : ℕ → List Parcel) (heard : List Grant) (parts : List TilePart) : Type 0 where
  pub clause : IsTileClause scene l this_tile core took heard parts false
  pub progress : Progress
  pub stands : IsProgressOf core progress
  pub closes : is_short core ≡ false → ClosesByEnds (length scene.streams) progress took
  pub shown : HasShown scene l this_tile took heard parts

-- so it is at first, where memory doesn't lack, and nothing was taken, heard and shown
abbrev pub NewTilesShow : Type 0
NewTilesShow = (scene : Scene) (l : Layout) (tile : ℕ) (core : TileCore) (took : ℕ → List Parcel) (heard : List Grant) (parts : List TilePart)
    → IsInRange scene → HasSides scene.decl → IsTileClause scene l tile core took heard parts false → is_short core ≡ false
    → ((client : ℕ) → client < length scene.streams → took client ≡ []) → heard ≡ [] → parts ≡ [] → IsShowing scene l tile core took heard parts

-- and after each step, also one in which memory lacks, and each behind that
abbrev pub TilesGoOnShowing : Type 0
TilesGoOnShowing = (scene : Scene) (l : Layout) (tile : ℕ) (core : TileCore) (deed : TileDeed) (later : TileCore)
    (took took_later : ℕ → List Parcel) (heard heard_later : List Grant) (parts offered : List TilePart)
    → IsShowing scene l tile core took heard parts → IsTileStep core deed later
    → ((client : ℕ) → client < length scene.streams → took_later client ≡ took client ++ option_to_list (taken_of deed client))
    → heard_later ≡ heard ++ option_to_list (granted_of deed)
    → Offers (answer_of deed) offered → IsShowing scene l tile later took_later heard_later (parts ++ offered)

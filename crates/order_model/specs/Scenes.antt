-- What a renderer and a cluster need of a scene and of its layout, and that the limits give it.
use Rattle.std.specs.Prelude.{◌≡◌, ℕ, ◌+◌, ◌<◌, ◌≤◌, ◌^◌, ◌&&◌, nat_lt, Bool, true, length, Some, slice_index}
use Rattle.std.specs.List.{AllByRecursion}
use Rattle.rc_base.specs.Cluster.Tiles.{tile_count}
use Rattle.rc_base.specs.Contexts.Context.{shared_sides}
use Rattle.rc_base.specs.Contexts.Faults.{is_name}
use Rattle.rc_base.specs.Contexts.Issue.{stream_of}
use Rattle.rc_base.specs.Formats.Commands.{IsCommand}
use Rattle.rc_base.specs.Formats.Within.{IsWithin, IsLayoutFor}
use Rattle.rc_base.specs.Lists.{at_name}
use Rattle.rc_base.specs.Orders.Sync.{IsWellFormed, client_count, sync_lists_of}
use Rattle.rc_base.specs.declared.scene.Decl.{Decl}
use Rattle.rc_base.specs.declared.scene.Scene.{Scene}
use Rattle.rc_base.specs.declared.window.Layout.{Layout}

-- the fields of all commands are in their ranges
abbrev pub IsInRange : Scene → Type 0
IsInRange scene = AllByRecursion (AllByRecursion IsCommand) scene.streams

-- the declared sides of a shared texture are above 0
abbrev pub has_sides : Decl → ℕ → Bool
has_sides d name = nat_lt 0 (slice_index (shared_sides d.shared name) 0) && nat_lt 0 (slice_index (shared_sides d.shared name) 1)

-- the sides of each declared shared texture are above 0
abbrev pub HasSides : Decl → Type 0
HasSides d = (name : ℕ) → is_name name (length d.shared) ≡ true → has_sides d name ≡ true

-- a scene that one renderer can draw, and whose operations can be put into an order
pub record IsDrawableScene (scene : Scene) : Type 0 where
  pub width : (1 ≤ scene.decl.width) × (scene.decl.width ≤ 2048)
  pub height : (1 ≤ scene.decl.height) × (scene.decl.height ≤ 2048)
  pub some : 0 < length scene.streams
  pub few : length scene.streams ≤ 8
  pub short : (client : ℕ) → length (stream_of scene client) < 2 ^ 20 + 1
  pub commands : IsInRange scene
  pub sides : HasSides scene.decl
  pub barriers : length scene.decl.barriers ≤ 64
  pub counts : (barrier count : ℕ) → at_name scene.decl.barriers barrier ≡ Some count → 0 < count
  pub formed : IsWellFormed (sync_lists_of scene)
  pub clients : client_count (sync_lists_of scene) ≤ 8

-- a scene that a cluster can run on the tiles of a layout, with lanes of a depth
pub record IsRunnable (scene : Scene) (l : Layout) (depth : ℕ) : Type 0 where
  pub some : 0 < length scene.streams
  pub few : length scene.streams ≤ 8
  pub short : (client : ℕ) → length (stream_of scene client) < 2 ^ 20 + 1
  pub commands : IsInRange scene
  pub sides : HasSides scene.decl
  pub barriers : length scene.decl.barriers < 256
  pub counts : (barrier count : ℕ) → at_name scene.decl.barriers barrier ≡ Some count → 0 < count
  pub some_tiles : 0 < tile_count l
  pub few_tiles : tile_count l ≤ 32
  pub some_depth : 1 ≤ depth
  pub little_depth : depth ≤ 16

-- a scene within the limits can be drawn
abbrev pub ScenesWithinLimitsAreDrawable : Type 0
ScenesWithinLimitsAreDrawable = (scene : Scene) → IsWithin scene → IsDrawableScene scene

-- and a cluster can run it on a layout within them
abbrev pub ScenesWithinLimitsAreRunnable : Type 0
ScenesWithinLimitsAreRunnable = (scene : Scene) (l : Layout) (depth : ℕ) → IsWithin scene → IsLayoutFor scene l depth → IsRunnable scene l depth

-- Stepped runs: from a new world, one move for each pick of an actor; and when they have ended.
use Rattle.std.specs.Prelude.{◌≡◌, ℕ, zero, suc, ◌+◌, ◌<◌, List, [], ◌++◌, map}
use Rattle.std.specs.List.{range_with_len}
use Rattle.rc_base.specs.Cluster.Tiles.{tile_count}
use Rattle.rc_base.specs.Orders.Sync.{sync_lists_of}
use Rattle.rc_base.specs.declared.scene.Scene.{Scene}
use Rattle.rc_base.specs.declared.window.Layout.{Layout}
use Rattle.sync_manager.specs.Progress.{IsNextDeed}
use Rattle.sync_manager.specs.declared.deed.ManagerDeed.TheVariants.{Finishes}
use Rattle.world_model.specs.declared.moves.Move.{Move}
use Rattle.world_model.specs.Moves.{AreMoves}
use Rattle.world_model.specs.declared.moves.Move.TheVariants.{Client as ClientMove, Manager as ManagerMove, Tile as TileMove}
use Rattle.world_model.specs.Tiles.{HasEnded}
use Rattle.world_model.specs.World.{World, client_total, IsNewWorld}

-- the actors' numbers: the clients from 0, then the manager, then the tiles
abbrev pub actor_of : Scene → Move → ℕ
actor_of scene (ClientMove client answer) = client
actor_of scene (ManagerMove answer) = client_total scene
actor_of scene (TileMove tile answer) = client_total scene + 1 + tile

-- one pick for each actor, rising
abbrev pub round_of : Scene → Layout → List ℕ
round_of scene l = range_with_len 0 (client_total scene + 1 + tile_count l)

abbrev pub rounds_of : Scene → Layout → ℕ → List ℕ
rounds_of scene l zero = []
rounds_of scene l (suc n) = rounds_of scene l n ++ round_of scene l

-- nothing is left to do for anybody
pub record AllHaveEnded (scene : Scene) (l : Layout) (w : World) : Type 0 where
  pub clients : (client : ℕ) → client < client_total scene → (w.clients client).left ≡ []
  pub manager : IsNextDeed (sync_lists_of scene) (tile_count l) w.manager Finishes
  pub tiles : (tile : ℕ) → tile < tile_count l → HasEnded (w.tiles tile).progress

module _ (scene : Scene) (l : Layout) (depth : ℕ) where
  -- From a new world on there is one move for each pick, by its actor, and the last one leads here.
  pub record IsSteppedRun (picks : List ℕ) (moves : List Move) (w : World) : Type 0 where
    pub first : World
    pub new : IsNewWorld scene l first
    pub actors : map (actor_of scene) moves ≡ picks
    pub leads : AreMoves scene l depth first moves w

  -- The picks, and behind them rounds until all have ended: so many and no fewer.
  pub record IsFinishedRun (picks : List ℕ) (rounds : ℕ) (moves : List Move) (w : World) : Type 0 where
    pub run : IsSteppedRun (picks ++ rounds_of scene l rounds) moves w
    pub ended : AllHaveEnded scene l w
    pub fewest : (n : ℕ) (some : List Move) (v : World) → n < rounds → IsSteppedRun (picks ++ rounds_of scene l n) some v → AllHaveEnded scene l v → ⊥

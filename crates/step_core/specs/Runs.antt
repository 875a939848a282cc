-- Runs of the cluster as runs of the model.
use Rattle.std.specs.Prelude.{◌≡◌, ℕ, List, map}
use Rattle.rc_base.specs.declared.scene.Decl.{Decl}
use Rattle.rc_base.specs.declared.scene.Scene.{Scene}
use Rattle.rc_base.specs.declared.window.Layout.{Layout}
use Rattle.world_model.specs.declared.moves.Move.{Move}
use Rattle.world_model.specs.Runs.{actor_of, IsSteppedRun}
use Rattle.world_model.specs.World.{World as Model}
use Rattle.order_model.specs.declared.record.LogEntry.{LogEntry}
use Rattle.rc_base.specs.declared.sync.Entry.{Entry}
use Rattle.sync_manager.specs.Books.{journal_in}
use Rattle.sync_manager.specs.Cores.{book_of}
use Rattle.tile_server.specs.Cores.{log_of}
use Rattle.order_model.specs.Scenes.{IsRunnable}
use Rattle.step_core.specs.Schedules.{WorldView}
use Rattle.step_core.specs.Worlds.{IsViewOf}
use Rattle.step_core.specs.declared.cluster.Cluster.{Cluster}

-- The cluster is seen as where the stepped run of these picks and moves leads.
pub record IsRunOf (scene : Scene) (l : Layout) (depth : ℕ) (picks : List ℕ) (moves : List Move) (cluster : Cluster) : Type 0 where
  pub model : Model
  pub run : IsSteppedRun scene l depth picks moves model
  pub view : IsViewOf scene l depth cluster model

-- ---- worlds

-- the journal of its manager
abbrev pub journal_of : Cluster → List Entry
journal_of cluster = journal_in (book_of cluster.manager)

-- the logs of its tiles
abbrev pub logs_of : Cluster → List (List LogEntry)
logs_of cluster = map log_of cluster.tiles.items

-- what a world is seen as
abbrev pub seen_as : Scene → Layout → ℕ → List Move → Cluster → WorldView
seen_as scene l depth moves cluster =
    record { scene = scene; layout = l; depth = depth; moves = moves; journal = journal_of cluster; logs = logs_of cluster }

-- a world's cluster is where its moves lead
pub record IsUnderWay (scene : Scene) (l : Layout) (depth : ℕ) (decl : Decl) (moves : List Move) (cluster : Cluster) : Type 0 where
  pub decl_is : decl ≡ scene.decl
  pub runnable : IsRunnable scene l depth
  pub run : IsRunOf scene l depth (map (actor_of scene) moves) moves cluster

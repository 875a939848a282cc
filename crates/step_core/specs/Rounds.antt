-- What a round of one step for each actor comes to, and how far rounds have led.
use Rattle.std.specs.Prelude.{◌≡◌, ℕ, ◌+◌, ◌<◌, ◌^◌, false, List, ◌++◌, map}
use Rattle.std.specs.List.{range_with_len, AllByRecursion}
use Rattle.rc_base.specs.Cluster.Tiles.{tile_count}
use Rattle.rc_base.specs.declared.scene.Decl.{Decl}
use Rattle.rc_base.specs.declared.scene.Scene.{Scene}
use Rattle.rc_base.specs.declared.window.Layout.{Layout}
use Rattle.world_model.specs.declared.moves.Move.{Move}
use Rattle.world_model.specs.Flowing.{IsFlowing}
use Rattle.world_model.specs.Runs.{AllHaveEnded, rounds_of, IsSteppedRun}
use Rattle.world_model.specs.Turns.{Turn, AreAmple, AreTurns, IsLastTurn, IsResting, number_of}
use Rattle.world_model.specs.World.{client_total}
use Rattle.world_model.specs.World.{World as Model}
use Rattle.world_model.specs.Work.{work_in}
use Rattle.order_model.specs.Scenes.{IsRunnable}
use Rattle.step_core.specs.Schedules.{WorldView, picks_of}
use Rattle.step_core.specs.Steps.{KeepsParts}
use Rattle.step_core.specs.Worlds.{AreShown, IsSeenAs, IsViewOf}
use Rattle.step_core.specs.declared.actor.Stepped.{Stepped}
use Rattle.step_core.specs.declared.actor.Stepped.TheVariants as stepped
use Rattle.step_core.specs.declared.round.Round.{Round}
use Rattle.step_core.specs.declared.round.Round.TheVariants.{Moved, Still, Ended}
use Rattle.step_core.specs.declared.cluster.Cluster.{Cluster}

-- what steps come to with one step more
abbrev pub round_with : Round → Stepped → Round
round_with Moved stepped.Moved = Moved
round_with Moved stepped.Waits = Moved
round_with Moved stepped.Ended = Moved
round_with Still stepped.Moved = Moved
round_with Still stepped.Waits = Still
round_with Still stepped.Ended = Still
round_with Ended stepped.Moved = Moved
round_with Ended stepped.Waits = Still
round_with Ended stepped.Ended = Ended

-- somebody moved; nobody moved, and somebody has something left to do; nobody has anything left to do
abbrev pub IsRound : Round → List Turn → Type 0
IsRound Moved turns = AllByRecursion IsResting turns → ⊥
IsRound Still turns = AllByRecursion IsResting turns × (AllByRecursion IsLastTurn turns → ⊥)
IsRound Ended turns = AllByRecursion IsLastTurn turns

-- One turn of each of the first n actors, rising, in the world that the cluster was seen as, to one that it is seen as.
pub record IsRoundOf (scene : Scene) (l : Layout) (depth n : ℕ) (w : Model) (before : Cluster) (round : Round) (after : Cluster) : Type 0 where
  pub turns : List Turn
  pub later : Model
  pub actors : map (number_of scene) turns ≡ range_with_len 0 n
  pub turned : AreTurns scene l depth w turns later
  pub view : IsSeenAs scene l depth after later
  pub tells : IsRound round turns
  pub kept : after.lacking ≡ false → KeepsParts scene l w later before after

-- whatever world the cluster was seen as
pub record IsRoundBelow (n : ℕ) (before : Cluster) (round : Round) (after : Cluster) : Type 0 where
  pub each : (scene : Scene) (l : Layout) (depth : ℕ) (w : Model) → IsSeenAs scene l depth before w → IsRoundOf scene l depth n w before round after

-- a round of all actors
abbrev pub Rounds : Cluster → Round → Cluster → Type 0
Rounds before round after =
    (scene : Scene) (l : Layout) (depth : ℕ) (w : Model) → IsSeenAs scene l depth before w
    → IsRoundOf scene l depth (client_total scene + 1 + tile_count l) w before round after

-- The world is where the picks and so many rounds lead, and fewer rounds end it nowhere.
pub record IsReached (scene : Scene) (l : Layout) (depth : ℕ) (picks : List ℕ) (rounds : ℕ) (model : Model) : Type 0 where
  pub moves : List Move
  pub run : IsSteppedRun scene l depth (picks ++ rounds_of scene l rounds) moves model
  pub fewest : (n : ℕ) (some : List Move) (v : Model) → n < rounds → IsSteppedRun scene l depth (picks ++ rounds_of scene l n) some v
      → AllHaveEnded scene l v → ⊥

-- nobody is short in it, and the parts are kept
pub record AreAmpleRounds (world : WorldView) (rounds : ℕ) (cluster : Cluster) (model : Model) : Type 0 where
  pub reached : IsReached world.scene world.layout world.depth (picks_of world) rounds model
  pub ample : AreAmple world.scene world.layout model
  pub parts : AreShown world.scene world.layout model.tiles cluster.parts.items

-- The cluster is seen as a world in which all that was sent stands somewhere, and each of so many rounds left less to do. Where memory hasn't lacked
-- in them, they lead there from where the world's moves lead.
pub record IsOnTheWay (world : WorldView) (rounds : ℕ) (cluster : Cluster) : Type 0 where
  pub runnable : IsRunnable world.scene world.layout world.depth
  pub model : Model
  pub view : IsSeenAs world.scene world.layout world.depth cluster model
  pub flowing : IsFlowing world.scene world.layout model
  pub less : rounds + work_in world.scene world.layout model < 2 ^ 40
  pub whole : cluster.lacking ≡ false → AreAmpleRounds world rounds cluster model

-- The cluster is seen as where a run of a scene leads in which all have ended.
pub record HasRun (scene : Scene) (l : Layout) (cluster : Cluster) : Type 0 where
  pub depth : ℕ
  pub runnable : IsRunnable scene l depth
  pub picks : List ℕ
  pub moves : List Move
  pub model : Model
  pub run : IsSteppedRun scene l depth picks moves model
  pub view : IsViewOf scene l depth cluster model
  pub ended : AllHaveEnded scene l model

-- it is seen so for some scene of this declaration
pub record IsAtEnd (decl : Decl) (cluster : Cluster) : Type 0 where
  pub scene : Scene
  pub l : Layout
  pub decl_is : decl ≡ scene.decl
  pub has_run : HasRun scene l cluster

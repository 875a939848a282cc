-- What a step of an actor comes to, as a turn of the model.
use Rattle.std.specs.Prelude.{◌≡◌, ℕ, ◌↔◌, false, IfOk, Result, Ok, Err}
use Rattle.rc_base.specs.declared.out_of_memory.OutOfMemory.{OutOfMemory}
use Rattle.rc_base.specs.declared.scene.Scene.{Scene}
use Rattle.rc_base.specs.declared.window.Layout.{Layout}
use Rattle.world_model.specs.declared.moves.Move.{Move}
use Rattle.world_model.specs.Moves.{IsAtRest, IsLast}
use Rattle.world_model.specs.Turns.{Turn, AreAmple, IsLastTurn, IsResting, IsTurn, number_of, turn_of}
use Rattle.world_model.specs.World.{World as Model}
use Rattle.step_core.specs.Worlds.{AreShown, IsSeenAs}
use Rattle.step_core.specs.declared.actor.Stepped.{Stepped}
use Rattle.step_core.specs.declared.actor.Stepped.TheVariants.{Moved, Ended}
use Rattle.step_core.specs.declared.cluster.Cluster.{Cluster}

-- it says whether the move moved anything, and whether its actor has anything left to do
pub record IsSaid (move : Move) (said : Stepped) : Type 0 where
  pub rest : IsAtRest move ↔ (said ≡ Moved → ⊥)
  pub last : IsLast move ↔ (said ≡ Ended)

-- The step's answer tells of the turn. Where memory lacked for it, or for the list of a tile's parts, the turn moved something.
abbrev pub TellsOf : Result Move OutOfMemory → Turn → Type 0
TellsOf (Ok move) turn = turn ≡ turn_of move
TellsOf (Err error) turn = IsResting turn → ⊥

-- The actor of this number takes this turn in the world that the cluster was seen as, to one that it is seen as.
pub record IsTurned (scene : Scene) (l : Layout) (depth number : ℕ) (w : Model) (r : Result Move OutOfMemory) (before after : Cluster) : Type 0 where
  pub turn : Turn
  pub later : Model
  pub turned : IsTurn scene l depth w turn later
  pub actor : number_of scene turn ≡ number
  pub tells : TellsOf r turn
  pub view : IsSeenAs scene l depth after later
  -- a part that is shown is kept
  pub parts : IfOk r (λ move. AreAmple scene l w → AreShown scene l w.tiles before.parts.items → AreShown scene l later.tiles after.parts.items)

-- whatever world the cluster was seen as
abbrev pub Turns : ℕ → Cluster → Result Move OutOfMemory → Cluster → Type 0
Turns number before r after =
    (scene : Scene) (l : Layout) (depth : ℕ) (w : Model) → IsSeenAs scene l depth before w → IsTurned scene l depth number w r before after

-- ---- whether it is answered or not

-- what is said of the turn: whether it moved anything, and whether its actor has anything left to do
pub record IsTurnSaid (turn : Turn) (said : Stepped) : Type 0 where
  pub moves : said ≡ Moved → IsResting turn → ⊥
  pub rests : (said ≡ Moved → ⊥) → IsResting turn
  pub last : said ≡ Ended → IsLastTurn turn
  pub goes_on : (said ≡ Ended → ⊥) → IsLastTurn turn → ⊥

-- Where memory has lacked in no step until after it, nobody becomes short, and the parts that the tiles show are kept.
pub record KeepsParts (scene : Scene) (l : Layout) (w later : Model) (before after : Cluster) : Type 0 where
  pub lacking : before.lacking ≡ false
  pub ample : AreAmple scene l w → AreAmple scene l later
  pub parts : AreAmple scene l w → AreShown scene l w.tiles before.parts.items → AreShown scene l later.tiles after.parts.items

-- The actor of this number takes this turn, and the cluster notes where memory lacked.
pub record IsAttempt (scene : Scene) (l : Layout) (depth number : ℕ) (w : Model) (before : Cluster) (said : Stepped) (after : Cluster) : Type 0 where
  pub turn : Turn
  pub later : Model
  pub turned : IsTurn scene l depth w turn later
  pub actor : number_of scene turn ≡ number
  pub tells : IsTurnSaid turn said
  pub view : IsSeenAs scene l depth after later
  pub kept : after.lacking ≡ false → KeepsParts scene l w later before after

abbrev pub Attempts : ℕ → Cluster → Stepped → Cluster → Type 0
Attempts number before said after =
    (scene : Scene) (l : Layout) (depth : ℕ) (w : Model) → IsSeenAs scene l depth before w → IsAttempt scene l depth number w before said after

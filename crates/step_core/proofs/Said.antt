-- What an actor's answer comes to is whether its move is at rest, and whether it is its last.
use Rattle.std.proofs.Common.{◌≡◌, ℕ, inl, inr, refl, subst}
use Rattle.rc_base.specs.declared.cluster.ClientMoved.{ClientMoved}
use Rattle.rc_base.specs.declared.cluster.ClientMoved.TheVariants as client_moved
use Rattle.rc_base.specs.declared.cluster.ManagerMoved.{ManagerMoved}
use Rattle.rc_base.specs.declared.cluster.ManagerMoved.TheVariants as manager_moved
use Rattle.world_model.specs.declared.moves.Move.TheVariants.{Client as ClientMove, Manager as ManagerMove, Tile as TileMove}
use Rattle.world_model.specs.declared.moves.TileAnswer.{TileAnswer}
use Rattle.world_model.specs.declared.moves.TileAnswer.TheVariants as tile_answer
use Rattle.world_model.specs.declared.moves.Move.{Move}
use Rattle.std.specs.Prelude.{Result, Ok}
use Rattle.rc_base.specs.declared.out_of_memory.OutOfMemory.{OutOfMemory}
use Rattle.world_model.specs.Moves.{IsAtRest, IsLast}
use Rattle.world_model.specs.Turns.{IsResting, IsLastTurn, turn_of}
use Rattle.world_model.specs.Turns.Turn.{TileTurn}
use Rattle.step_core.specs.Actors.{client_said, manager_said, tile_said, said_of}
use Rattle.rc_base.specs.declared.scene.Scene.{Scene}
use Rattle.rc_base.specs.declared.window.Layout.{Layout}
use Rattle.world_model.specs.World.{World as Model}
use Rattle.step_core.specs.Steps.{IsSaid, IsTurned}
use Rattle.step_core.specs.declared.cluster.Cluster.{Cluster}
use Rattle.step_core.specs.declared.actor.Stepped.{Stepped}
use Rattle.step_core.specs.declared.actor.Stepped.TheVariants.{Moved, Waits, Ended}

moves : (move : Move) (said : Stepped) → said ≡ Moved → (IsAtRest move → ⊥) → (IsLast move → ⊥) → IsSaid move said
moves move said e rest last = record { rest = (λ h. absurd (rest h), λ f. absurd (f e)); last = (λ h. absurd (last h), λ f. absurd cc) }

waits : (move : Move) (said : Stepped) → said ≡ Waits → IsAtRest move → (IsLast move → ⊥) → IsSaid move said
waits move said e rest last = record { rest = (λ h f. cc, λ f. rest); last = (λ h. absurd (last h), λ f. absurd cc) }

ends : (move : Move) (said : Stepped) → said ≡ Ended → IsAtRest move → IsLast move → IsSaid move said
ends move said e rest last = record { rest = (λ h f. cc, λ f. rest); last = (λ h. e, λ f. last) }

client_tells : (client : ℕ) (m : ClientMoved) → IsSaid (ClientMove client m) (client_said m)
client_tells client (client_moved.Appended tile) = moves _ _ refl
    (λ h. elim h [ inl x ↦ (let y = x.1 in cc) | inr x ↦ elim x [ inl y ↦ cc | inr y ↦ cc ] ]) (λ h. cc)
client_tells client client_moved.Requested = moves _ _ refl
    (λ h. elim h [ inl x ↦ (let y = x.1 in cc) | inr x ↦ elim x [ inl y ↦ cc | inr y ↦ cc ] ]) (λ h. cc)
client_tells client (client_moved.BlockedTile tile) = waits _ _ refl (inl (tile, refl)) (λ h. cc)
client_tells client client_moved.BlockedRequest = waits _ _ refl (inr (inl refl)) (λ h. cc)
client_tells client client_moved.Ended = ends _ _ refl (inr (inr refl)) refl

manager_tells : (m : ManagerMoved) → IsSaid (ManagerMove m) (manager_said m)
manager_tells (manager_moved.Delivered tile) = moves _ _ refl
    (λ h. elim h [ inl x ↦ (let y = x.1 in cc) | inr x ↦ elim x [ inl y ↦ cc | inr y ↦ cc ] ]) (λ h. cc)
manager_tells (manager_moved.BlockedGrant tile) = waits _ _ refl (inl (tile, refl)) (λ h. cc)
manager_tells manager_moved.Granted = moves _ _ refl (λ h. elim h [ inl x ↦ (let y = x.1 in cc) | inr x ↦ elim x [ inl y ↦ cc | inr y ↦ cc ] ])
    (λ h. cc)
manager_tells (manager_moved.Arrived client) = moves _ _ refl
    (λ h. elim h [ inl x ↦ (let y = x.1 in cc) | inr x ↦ elim x [ inl y ↦ cc | inr y ↦ cc ] ]) (λ h. cc)
manager_tells manager_moved.BlockedRequest = waits _ _ refl (inr (inl refl)) (λ h. cc)
manager_tells (manager_moved.Drained client) = moves _ _ refl
    (λ h. elim h [ inl x ↦ (let y = x.1 in cc) | inr x ↦ elim x [ inl y ↦ cc | inr y ↦ cc ] ]) (λ h. cc)
manager_tells manager_moved.Ended = ends _ _ refl (inr (inr refl)) refl

tile_tells : (tile : ℕ) (a : TileAnswer) → IsSaid (TileMove tile a) (tile_said a)
tile_tells tile tile_answer.Performed = moves _ _ refl (λ h. elim h [ inl x ↦ cc | inr x ↦ cc ]) (λ h. cc)
tile_tells tile tile_answer.Swapped = moves _ _ refl (λ h. elim h [ inl x ↦ cc | inr x ↦ cc ]) (λ h. cc)
tile_tells tile tile_answer.Learnt = moves _ _ refl (λ h. elim h [ inl x ↦ cc | inr x ↦ cc ]) (λ h. cc)
tile_tells tile (tile_answer.Took client) = moves _ _ refl (λ h. elim h [ inl x ↦ cc | inr x ↦ cc ]) (λ h. cc)
tile_tells tile (tile_answer.Held client) = moves _ _ refl (λ h. elim h [ inl x ↦ cc | inr x ↦ cc ]) (λ h. cc)
tile_tells tile (tile_answer.Closed client) = moves _ _ refl (λ h. elim h [ inl x ↦ cc | inr x ↦ cc ]) (λ h. cc)
tile_tells tile (tile_answer.Dropped client) = moves _ _ refl (λ h. elim h [ inl x ↦ cc | inr x ↦ cc ]) (λ h. cc)
tile_tells tile tile_answer.Blocked = waits _ _ refl (inl refl) (λ h. cc)
tile_tells tile tile_answer.Ended = ends _ _ refl (inr refl) refl

pub tells : (move : Move) → IsSaid move (said_of move)
tells (ClientMove client answer) = client_tells client answer
tells (ManagerMove answer) = manager_tells answer
tells (TileMove tile answer) = tile_tells tile answer

-- a step of an actor of the same number with the same answer
pub told : (scene : Scene) (l : Layout) (depth : ℕ) (w : Model) (before after : Cluster) (r made : Result Move OutOfMemory) (number number' : ℕ) → number ≡ number'
    → made ≡ r → IsTurned scene l depth number w made before after → IsTurned scene l depth number' w r before after
told scene l depth w before after r made number number' e f h =
    subst (λ n. IsTurned scene l depth n w r before after) e (subst (λ (x : Result Move OutOfMemory). IsTurned scene l depth number w x before after) f h)

-- ---- turns

-- a move's turn is at rest where the move is
pub rests : (move : Move) → (IsResting (turn_of move) → IsAtRest move) × (IsAtRest move → IsResting (turn_of move))
rests (ClientMove client answer) = (λ h. h, λ h. h)
rests (ManagerMove answer) = (λ h. h, λ h. h)
rests (TileMove tile answer) = (λ h. h, λ h. h)

pub lasts : (move : Move) → (IsLastTurn (turn_of move) → IsLast move) × (IsLast move → IsLastTurn (turn_of move))
lasts (ClientMove client answer) = (λ h. h, λ h. h)
lasts (ManagerMove answer) = (λ h. h, λ h. h)
lasts (TileMove tile answer) = (λ h. h, λ h. h)

-- a tile that shows a part has moved
pub swap_moves : (tile : ℕ) → IsResting (TileTurn tile (Ok tile_answer.Swapped)) → ⊥
swap_moves tile h = (tile_tells tile tile_answer.Swapped).rest.0 h refl

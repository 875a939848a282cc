-- Runs with the same picks have the same moves, and lead to alike worlds.
use Rattle.std.proofs.Common.{◌≡◌, ℕ, List, [], ◌∷◌, map, refl, sym, ap, ◌∙◌, subst, arith}
use Rattle.rc_base.specs.declared.scene.Scene.{Scene}
use Rattle.rc_base.specs.declared.window.Layout.{Layout}
use Rattle.client_issue.specs.Laws.{SequencesAreSplit}
use Rattle.order_model.specs.Laws.{GrantsAreLawful}
use Rattle.sync_manager.specs.Promises.{NewManagersAreRight}
use Rattle.tile_model.specs.Laws.{NewTilesStand}
use Rattle.tile_model.specs.Scenes.{IsInRange, HasSides}
use Rattle.world_model.specs.Laws.{AreAlike, OneScheduleHasOneRun}
use Rattle.world_model.specs.declared.moves.Move.{Move}
use Rattle.world_model.specs.Moves.{IsMove, AreMoves, IsClientMove, IsTileMove}
use Rattle.world_model.specs.declared.moves.Move.TheVariants.{Client as ClientMove, Manager as ManagerMove, Tile as TileMove}
use Rattle.world_model.specs.Runs.{actor_of}
use Rattle.world_model.specs.Sound.{IsSound}
use Rattle.world_model.specs.World.{World, IsNewWorld}
use Rattle.world_model.proofs.ClientsDoOneThing.{client_alike}
use Rattle.world_model.proofs.ManagersDoOneThing.{manager_alike}
use Rattle.world_model.proofs.NewWorldsAreSound.{new_sound}
use Rattle.world_model.proofs.SchedulesKeepSound.{ActorsAreRight, move_keeps}
use Rattle.world_model.proofs.TilesDoOneThing.{tile_alike}

new_alike : (scene : Scene) (l : Layout) (w v : World) → IsNewWorld scene l w → IsNewWorld scene l v → AreAlike scene l w v
new_alike scene l w v h k = record {
  left = λ c lc. k.left c lc ∙ sym (h.left c lc);
  manager = k.manager ∙ sym h.manager;
  progress = λ t lt. (k.tiles t lt).progress ∙ sym (h.tiles t lt).progress;
  next = λ t lt. (k.tiles t lt).next ∙ sym (h.tiles t lt).next;
  parcels = λ c t lc lt. k.parcels c t lc lt ∙ sym (h.parcels c t lc lt);
  requests = λ c lc. k.requests c lc ∙ sym (h.requests c lc);
  grants = λ t lt. k.grants t lt ∙ sym (h.grants t lt);
}

-- the laws that are cited
pub record StepsAreOne : Type 0 where
  pub lawful : GrantsAreLawful

module _ (scene : Scene) (l : Layout) (depth : ℕ) (laws : StepsAreOne) where
  one_move : (w v w' v' : World) (move other : Move) → IsSound scene l w → AreAlike scene l w w' → IsMove scene l depth w move v → IsMove scene l depth w' other v'
      → actor_of scene other ≡ actor_of scene move → (other ≡ move) × AreAlike scene l v v'
  one_move w v w' v' (ClientMove c x) (ClientMove k y) sound h m m' e =
      let r = client_alike scene l depth w v w' v' c x y h m.step m.fit (subst (λ n. IsClientMove scene l depth w' n y v') e m'.step) m'.fit in
      (ap (λ n. ClientMove n y) e ∙ ap (λ a. ClientMove c a) r.0, r.1)
  one_move w v w' v' (ClientMove c x) (ManagerMove y) sound h m m' e = absurd (let a = m.step.low in omega (arith, a, e))
  one_move w v w' v' (ClientMove c x) (TileMove k y) sound h m m' e = absurd (let a = m.step.low in omega (arith, a, e))
  one_move w v w' v' (ManagerMove x) (ClientMove k y) sound h m m' e = absurd (let a = m'.step.low in omega (arith, a, e))
  one_move w v w' v' (ManagerMove x) (ManagerMove y) sound h m m' e =
      let r = manager_alike scene l depth laws.lawful w v w' v' x y h m.step m.fit m'.step m'.fit in (ap ManagerMove r.0, r.1)
  one_move w v w' v' (ManagerMove x) (TileMove k y) sound h m m' e = absurd (omega (arith, e))
  one_move w v w' v' (TileMove t x) (ClientMove k y) sound h m m' e = absurd (let a = m'.step.low in omega (arith, a, e))
  one_move w v w' v' (TileMove t x) (ManagerMove y) sound h m m' e = absurd (omega (arith, e))
  one_move w v w' v' (TileMove t x) (TileMove k y) sound h m m' e =
      let same : k ≡ t = omega (arith, e) in
      let r = tile_alike scene l depth w v w' v' t x y sound h m.step (subst (λ n. IsTileMove scene l depth w' n y v') same m'.step) in
      (ap (λ n. TileMove n y) same ∙ ap (λ a. TileMove t a) r.0, r.1)

  one_run : ActorsAreRight → IsInRange scene → HasSides scene.decl → (moves others : List Move) (w v w' v' : World) → IsSound scene l w → AreAlike scene l w w'
      → AreMoves scene l depth w moves v → AreMoves scene l depth w' others v' → map (actor_of scene) others ≡ map (actor_of scene) moves → (others ≡ moves) × AreAlike scene l v v'
  one_run right range sides [] [] w v w' v' sound h m m' e = (refl, subst (λ x. AreAlike scene l x v') (sym m) (subst (λ x. AreAlike scene l w x) (sym m') h))
  one_run right range sides [] (o ∷ others) w v w' v' sound h m m' e = absurd cc
  one_run right range sides (o ∷ moves) [] w v w' v' sound h m m' e = absurd cc
  one_run right range sides (x ∷ moves) (y ∷ others) w v w' v' sound h m m' e =
      let heads : actor_of scene y ≡ actor_of scene x = cc in
      let tails : map (actor_of scene) others ≡ map (actor_of scene) moves = cc in
      let one = one_move w m.0 w' m'.0 x y sound h m.1 m'.1 heads in
      let more = one_run right range sides moves others m.0 v m'.0 v' (move_keeps right scene l depth w m.0 x range sides sound m.1) one.1 m.2 m'.2 tails in
      (ap (λ k. k ∷ others) one.0 ∙ ap (λ ks. x ∷ ks) more.0, more.1)

pub one_schedule : StepsAreOne → ActorsAreRight → SequencesAreSplit → NewManagersAreRight → NewTilesStand → OneScheduleHasOneRun
one_schedule laws right split managers tiles scene l depth picks moves others w v range sides run other =
    one_run scene l depth laws right range sides moves others run.first w other.first v (new_sound split managers tiles scene l run.first run.new)
    (new_alike scene l run.first other.first run.new other.new) run.leads other.leads (other.actors ∙ sym run.actors)

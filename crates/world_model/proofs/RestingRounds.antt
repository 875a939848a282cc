-- Turns that move nothing, one after the other: all is as it was, so what each of them says is true of the first world.
use Rattle.std.proofs.Common.{◌≡◌, ◌⊎◌, ℕ, zero, suc, ◌+◌, ◌<◌, ◌≤◌, Bool, true, false, cond, List, [], ◌∷◌, map, inl, inr, refl, sym, ap, ◌∙◌, subst, arith}
use Rattle.std.proofs.lemmas.Bool.{cases_lt}
use Rattle.std.specs.List.{range_with_len, AllByRecursion}
use Rattle.std.specs.Prelude.{Ok, Err, MatchOption}
use Rattle.rc_base.specs.Cluster.Parcels.{is_end}
use Rattle.rc_base.specs.Cluster.Tiles.{tile_count}
use Rattle.rc_base.specs.Lists.{IsIn}
use Rattle.rc_base.specs.declared.scene.Scene.{Scene}
use Rattle.rc_base.specs.declared.window.Layout.{Layout}
use Rattle.order_model.specs.Standing.{Progress}
use Rattle.tile_model.specs.Items.{Item, grant_taken, parcel_taken}
use Rattle.tile_model.specs.Items.Item.{Nothing, Due, Granted, NoMore, Sent}
use Rattle.tile_model.specs.Short.{after_lost}
use Rattle.plain_lemmas.proofs.Numbers.{at_one_or_other}
use Rattle.world_model.specs.Laws.{IsSameWorld, RestingTurnsChangeNothing, RestingRoundsChangeNothing}
use Rattle.world_model.specs.Moves.{IsAtRest, IsTileMoveSeeing}
use Rattle.world_model.specs.Short.{IsShortAnswer}
use Rattle.world_model.specs.Tiles.{next_after}
use Rattle.world_model.specs.Turns.{Turn, IsShortTileMoveSeeing, IsTurnSeeing, IsTurn, AreTurns, IsResting, number_of}
use Rattle.world_model.specs.Turns.Turn.{ClientTurn, ManagerTurn, TileTurn}
use Rattle.world_model.specs.World.{World, Client, Lanes, all_lanes, client_total}
use Rattle.world_model.specs.declared.moves.Move.TheVariants.{Tile as TileMove}
use Rattle.world_model.specs.declared.moves.TileAnswer.{TileAnswer}
use Rattle.world_model.specs.declared.moves.TileAnswer.TheVariants as tile_answer
use Rattle.world_model.proofs.EndedWorldsRest.{same_self, same_on}
use Rattle.world_model.proofs.RestChangesNothing.{client_rests as client_still, manager_rests as manager_still, tile_rests as tile_still, equal_tiles}

-- a turn, of whatever kind, of an actor that has one
pub pick_of : {T : Type 0} (P : T → Type 0) (number : T → ℕ) (k : ℕ) (turns : List T) → IsIn k (map number turns) → AllByRecursion P turns → (m : T) × P m × (number m ≡ k)
pick_of P number k [] has h = absurd has
pick_of P number k (m ∷ turns) (inl e) h = (m, h.0, e)
pick_of P number k (m ∷ turns) (inr has) h = pick_of P number k turns has h.1

module _ (scene : Scene) (l : Layout) (depth : ℕ) where
  -- a short tile at rest has no item
  pub no_short_item : (p : Progress) (item : Item) (answer : TileAnswer) → IsShortAnswer p item answer → (answer ≡ tile_answer.Blocked) ⊎ (answer ≡ tile_answer.Ended) → item ≡ Nothing
  no_short_item p Nothing answer is rest = refl
  no_short_item p (Due e) answer is rest = absurd is
  no_short_item p (Granted e) answer is (inl b) = absurd cc
  no_short_item p (Granted e) answer is (inr b) = absurd cc
  no_short_item p NoMore answer is (inl b) = absurd cc
  no_short_item p NoMore answer is (inr b) = absurd cc
  no_short_item p (Sent client parcel) answer is rest = absurd (neither (is_end parcel.act) client answer is rest)
    where
      neither : (b : Bool) (client : ℕ) (answer : TileAnswer) → answer ≡ cond b (tile_answer.Closed client) (tile_answer.Dropped client) → (answer ≡ tile_answer.Blocked) ⊎ (answer ≡ tile_answer.Ended) → ⊥
      neither true client answer is (inl e) = cc
      neither true client answer is (inr e) = cc
      neither false client answer is (inl e) = cc
      neither false client answer is (inr e) = cc

  -- ---- a turn at rest changes nothing

  short_still : (w v : World) (seen : Lanes) (tile : ℕ) (answer : TileAnswer) → IsAtRest (TileMove tile answer) → IsShortTileMoveSeeing scene l depth w seen tile answer v
      → IsSameWorld scene l w v
  short_still w v seen tile answer rest m =
      let none = no_short_item (w.tiles tile).progress m.item answer m.answered rest in
      record {
        left = λ c lc. ap (λ (k : Client). k.left) (m.only.clients c lc);
        tallies = λ c t lc. ap (λ (k : Client). k.tallies t) (m.only.clients c lc);
        short = λ c lc. ap (λ (k : Client). k.short) (m.only.clients c lc);
        manager = m.only.manager;
        tiles = at_one_or_other (λ t. t < tile_count l → v.tiles t ≡ w.tiles t) tile
            (λ lt. equal_tiles scene l depth w v (w.tiles tile) (v.tiles tile) (m.progress ∙ ap (λ i. after_lost (w.tiles tile).progress i) none)
            (m.next ∙ ap (λ i. next_after (w.tiles tile).next i) none) m.board m.parts (m.still_short ∙ sym m.short))
            (λ t ne lt. m.only.tiles t lt ne);
        parcels = λ c. at_one_or_other (λ t. c < client_total scene → t < tile_count l → v.parcels c t ≡ w.parcels c t) tile
            (λ lc lt. subst (λ i. MatchOption (parcel_taken i c) (v.parcels c tile ≡ w.parcels c tile) (λ p. w.parcels c tile ≡ p ∷ v.parcels c tile)) none (m.parcel c lc))
            (λ t ne lc lt. m.only.parcels c t lc lt ne);
        requests = m.only.requests;
        grants = at_one_or_other (λ t. t < tile_count l → v.grants t ≡ w.grants t) tile
            (λ lt. subst (λ i. MatchOption (grant_taken i) (v.grants tile ≡ w.grants tile) (λ g. w.grants tile ≡ g ∷ v.grants tile)) none m.grant)
            (λ t ne lt. m.only.grants t lt ne);
      }

  pub rest_keeps : (w v : World) (seen : Lanes) (turn : Turn) → IsResting turn → IsTurnSeeing scene l depth w seen turn v → IsSameWorld scene l w v
  rest_keeps w v seen (ClientTurn client (Ok answer)) rest m = client_still scene l depth w v seen client answer rest m.step
  rest_keeps w v seen (ClientTurn client (Err error)) rest m = absurd rest
  rest_keeps w v seen (ManagerTurn (Ok answer)) rest m = manager_still scene l depth w v seen answer rest m.step
  rest_keeps w v seen (ManagerTurn (Err error)) rest m = absurd rest
  rest_keeps w v seen (TileTurn tile (Ok answer)) rest m = by m.step
    where
      by : IsTileMoveSeeing scene l depth w seen tile answer v ⊎ IsShortTileMoveSeeing scene l depth w seen tile answer v → IsSameWorld scene l w v
      by (inl t) = tile_still scene l depth w v seen tile answer rest t
      by (inr t) = short_still w v seen tile answer rest t
  rest_keeps w v seen (TileTurn tile (Err error)) rest m = absurd rest

  pub all_keep : (w v : World) (turns : List Turn) → AllByRecursion IsResting turns → AreTurns scene l depth w turns v → IsSameWorld scene l w v
  all_keep w v [] rest h = subst (λ u. IsSameWorld scene l w u) (sym h) (same_self scene l w)
  all_keep w v (m ∷ turns) rest h = same_on scene l w h.0 v (rest_keeps w h.0 (all_lanes w) m rest.0 h.1) (all_keep h.0 v turns rest.1 h.2)

  -- ---- what each turn says

  -- the actor of a turn exists
  abbrev pub Exists : Turn → Type 0
  Exists (ClientTurn client answer) = client < client_total scene
  Exists (ManagerTurn answer) = Unit {0}
  Exists (TileTurn tile answer) = tile < tile_count l

  pub exists : (w v : World) (seen : Lanes) (m : Turn) → IsTurnSeeing scene l depth w seen m v → Exists m
  exists w v seen (ClientTurn client (Ok answer)) m = m.step.low
  exists w v seen (ClientTurn client (Err error)) m = m.step.low
  exists w v seen (ManagerTurn answer) m = tt
  exists w v seen (TileTurn tile (Ok answer)) m = by m.step
    where
      by : IsTileMoveSeeing scene l depth w seen tile answer v ⊎ IsShortTileMoveSeeing scene l depth w seen tile answer v → tile < tile_count l
      by (inl t) = t.low
      by (inr t) = t.low
  exists w v seen (TileTurn tile (Err error)) m = m.step.low

  -- turns of a kind that rest, each of which says something of the world that it leads from
  module _ (Kind : Turn → Type 0) (Says : World → Turn → Type 0) (rests : (m : Turn) → Kind m → IsResting m)
      (says : (w v : World) (m : Turn) → Kind m → IsTurn scene l depth w m v → Says w m)
      (before : (w v : World) (m : Turn) → Exists m → IsSameWorld scene l w v → Says v m → Says w m) where
    abbrev pub Known : World → Turn → Type 0
    Known w m = Exists m × Says w m

    all_before : (w v : World) (turns : List Turn) → IsSameWorld scene l w v → AllByRecursion (Known v) turns → AllByRecursion (Known w) turns
    all_before w v [] s h = tt
    all_before w v (m ∷ turns) s h = ((h.0.0, before w v m h.0.0 s h.0.1), all_before w v turns s h.1)

    -- they say it of the first world
    pub all_known : (w v : World) (turns : List Turn) → AllByRecursion Kind turns → AreTurns scene l depth w turns v → AllByRecursion (Known w) turns
    all_known w v [] kind h = tt
    all_known w v (m ∷ turns) kind h = (
      (exists w h.0 (all_lanes w) m h.1, says w h.0 m kind.0 h.1),
      all_before w h.0 turns (rest_keeps w h.0 (all_lanes w) m (rests m kind.0) h.1) (all_known h.0 v turns kind.1 h.2),
    )

  -- ---- each actor has a turn in the round

  pub find : (P : Turn → Type 0) (moves : List Turn) (from n : ℕ) → map (number_of scene) moves ≡ range_with_len from n → AllByRecursion P moves → (k : ℕ) → from ≤ k → k < from + n
      → (m : Turn) × P m × (number_of scene m ≡ k)
  find P moves from zero e h k le lt = absurd (omega (arith, le, lt))
  find P [] from (suc n) e h k le lt = absurd cc
  find P (m ∷ moves) from (suc n) e h k le lt =
      let head : number_of scene m ≡ from = cc in
      let tail : map (number_of scene) moves ≡ range_with_len (from + 1) n = cc in
      elim (cases_lt from k) [
        | inl less ↦ find P moves (from + 1) n tail h.1 k (omega (arith, less)) (omega (arith, lt))
        | inr ge ↦ (m, h.0, head ∙ (let same : from ≡ k = omega (arith, le, ge) in same))
      ]

pub rest_still : RestingTurnsChangeNothing
rest_still scene l depth w v seen turn rest m = rest_keeps scene l depth w v seen turn rest m

pub rests_still : RestingRoundsChangeNothing
rests_still scene l depth w v turns rest m = all_keep scene l depth w v turns rest m

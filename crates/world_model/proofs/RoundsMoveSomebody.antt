-- A round in which nobody moves, whoever is short, says of each actor that it can't move, so all have ended.
use Rattle.std.proofs.Common.{◌≡◌, ◌⊎◌, ℕ, ◌+◌, ◌<◌, List, [], length, map, inl, inr, refl, sym, ap, ◌∙◌, subst, arith, true≢false}
use Rattle.std.specs.List.{AllByRecursion}
use Rattle.std.specs.Prelude.{Ok, Err}
use Rattle.rc_base.specs.Cluster.Tiles.{tile_count}
use Rattle.rc_base.specs.Orders.Sync.{client_count, sync_lists_of}
use Rattle.rc_base.specs.declared.cluster.ClientMoved.{ClientMoved}
use Rattle.rc_base.specs.declared.cluster.ClientMoved.TheVariants as client_moved
use Rattle.rc_base.specs.declared.cluster.ManagerMoved.{ManagerMoved}
use Rattle.rc_base.specs.declared.cluster.ManagerMoved.TheVariants as manager_moved
use Rattle.rc_base.specs.declared.scene.Scene.{Scene}
use Rattle.rc_base.specs.declared.sync.Grant.{Grant}
use Rattle.rc_base.specs.declared.sync.Grant.TheVariants as grant_item
use Rattle.rc_base.specs.declared.window.Layout.{Layout}
use Rattle.sync_manager.specs.Progress.{ManagerProgress, IsReceiving, IsDraining, IsGrantDue, may_arrive, IsNextDeed, IsFoundFull, IsFoundEmpty, answer_of}
use Rattle.sync_manager.specs.declared.deed.ManagerDeed.{ManagerDeed}
use Rattle.sync_manager.specs.declared.deed.ManagerDeed.TheVariants.{Delivers, FindsFull, Grants, Receives, Loses, FindsNoRequest, Drops, FindsNoneLeft, Finishes}
use Rattle.tile_model.specs.Laws.{MembersAreClients}
use Rattle.tile_model.specs.Short.{asks, listens, IsFinished, NothingIsDue}
use Rattle.scene_lemmas.proofs.Scenes.{scene_client_count}
use Rattle.world_model.specs.Fair.{HaveTurns, FairTurnsMoveSomebody}
use Rattle.world_model.specs.Laws.{IsSameWorld, RoundsMoveSomebody}
use Rattle.world_model.specs.Moves.{IsAtRest, IsClientStep, IsTileMove}
use Rattle.world_model.specs.Runs.{round_of}
use Rattle.world_model.specs.Short.{FindsNoGrantShort, FindsNoParcelShort}
use Rattle.world_model.specs.Tiles.{Tile, IsUndue, FindsNoGrant, FindsNoParcel}
use Rattle.world_model.specs.Turns.{Turn, IsShortTileMove, IsTurn, AreTurns, IsResting, number_of, AllHaveStopped}
use Rattle.world_model.specs.Turns.Turn.{ClientTurn, ManagerTurn, TileTurn}
use Rattle.world_model.specs.World.{World, client_total}
use Rattle.world_model.specs.declared.moves.Move.TheVariants.{Client as ClientMove, Manager as ManagerMove, Tile as TileMove}
use Rattle.world_model.specs.declared.moves.TileAnswer.{TileAnswer}
use Rattle.world_model.proofs.RestChangesNothing.{no_item}
use Rattle.world_model.proofs.RestingRounds.{no_short_item, all_keep, all_known, find, pick_of, Exists}
use Rattle.world_model.proofs.SomebodyCanMove.{ClientRests, ManagerRests, AllRest, somebody_can_move}
use Rattle.world_model.proofs.TilesAtRest.{TileRests}

module _ (scene : Scene) (l : Layout) (depth : ℕ) where
  -- ---- what a move at rest says

  client_rests : (w v : World) (client : ℕ) (answer : ClientMoved) → IsAtRest (ClientMove client answer) → IsClientStep scene l depth w client answer v → ClientRests l depth w client
  client_rests w v client (client_moved.Appended tile) rest m = absurd (elim rest [ inl a ↦ no_tile a.0 a.1 | inr b ↦ elim b [ inl c ↦ cc | inr d ↦ cc ] ])
    where
      no_tile : (t : ℕ) → client_moved.Appended tile ≡ client_moved.BlockedTile t → ⊥
      no_tile t e = cc
  client_rests w v client client_moved.Requested rest m = absurd (elim rest [ inl a ↦ no_tile a.0 a.1 | inr b ↦ elim b [ inl c ↦ cc | inr d ↦ cc ] ])
    where
      no_tile : (t : ℕ) → client_moved.Requested ≡ client_moved.BlockedTile t → ⊥
      no_tile t e = cc
  client_rests w v client (client_moved.BlockedTile tile) rest m = inr (inl record { tile = tile; parcel = m.parcel; rest = m.rest; low = m.low; next = m.next; full = m.full })
  client_rests w v client client_moved.BlockedRequest rest m = inr (inr record { request = m.request; rest = m.rest; next = m.next; full = m.full })
  client_rests w v client client_moved.Ended rest m = inl m.0

  due_low : (d : ManagerProgress) (t : ℕ) (g : Grant) → IsGrantDue (sync_lists_of scene) (tile_count l) d t g → t < tile_count l
  due_low d t (grant_item.Entry e) x = x.0.low
  due_low d t grant_item.NoMore x = x.2.low

  low_client : (c : ℕ) → c < client_count (sync_lists_of scene) → c < client_total scene
  low_client c lt = subst (λ n. c < n) (scene_client_count scene) lt

  -- the answer is that of a deed that moves something
  pub record Moves (answer : ManagerMoved) : Type 0 where
    pub blocked_grant : (t : ℕ) → answer ≡ manager_moved.BlockedGrant t → ⊥
    pub blocked_request : answer ≡ manager_moved.BlockedRequest → ⊥
    pub ended : answer ≡ manager_moved.Ended → ⊥

  not_resting : (answer : ManagerMoved) → Moves answer → IsAtRest (ManagerMove answer) → ⊥
  not_resting answer m (inl a) = m.blocked_grant a.0 a.1
  not_resting answer m (inr (inl b)) = m.blocked_request b
  not_resting answer m (inr (inr b)) = m.ended b

  manager_rests : (w : World) (deed : ManagerDeed) (answer : ManagerMoved) → IsAtRest (ManagerMove answer) → answer_of deed ≡ Ok answer
      → IsNextDeed (sync_lists_of scene) (tile_count l) w.manager deed
      → ((client : ℕ) → client < client_total scene → IsFoundEmpty (sync_lists_of scene) w.manager deed client → w.requests client ≡ [])
      → ((tile : ℕ) → tile < tile_count l → IsFoundFull deed tile → length (w.grants tile) ≡ depth) → ManagerRests scene l depth w
  manager_rests w (Delivers t g) answer rest e next empty full = absurd (not_resting answer record {
    blocked_grant = λ k is. (let no = e ∙ ap Ok is in cc);
    blocked_request = λ is. (let no = e ∙ ap Ok is in cc);
    ended = λ is. (let no = e ∙ ap Ok is in cc);
  } rest)
  manager_rests w (FindsFull t) answer rest e next empty full = inl record { tile = t; low = due_low w.manager t next.0 next.1; full = full t (due_low w.manager t next.0 next.1) refl }
  manager_rests w (Grants entry) answer rest e next empty full = absurd (not_resting answer record {
    blocked_grant = λ k is. (let no = e ∙ ap Ok is in cc);
    blocked_request = λ is. (let no = e ∙ ap Ok is in cc);
    ended = λ is. (let no = e ∙ ap Ok is in cc);
  } rest)
  manager_rests w (Receives c q) answer rest e next empty full = absurd (not_resting answer record {
    blocked_grant = λ k is. (let no = e ∙ ap Ok is in cc);
    blocked_request = λ is. (let no = e ∙ ap Ok is in cc);
    ended = λ is. (let no = e ∙ ap Ok is in cc);
  } rest)
  manager_rests w (Loses c place op) answer rest e next empty full = absurd cc
  manager_rests w FindsNoRequest answer rest e next empty full = inr (inl record { receives = next; empty = λ c lc may. empty c lc may })
  manager_rests w (Drops c q) answer rest e next empty full = absurd (not_resting answer record {
    blocked_grant = λ k is. (let no = e ∙ ap Ok is in cc);
    blocked_request = λ is. (let no = e ∙ ap Ok is in cc);
    ended = λ is. (let no = e ∙ ap Ok is in cc);
  } rest)
  manager_rests w FindsNoneLeft answer rest e next empty full =
      let lc = low_client next.1.0 next.1.1 in
      inr (inr (inl record { drains = next.0; client = next.1.0; low = lc; undrained = next.1.2; empty = empty next.1.0 lc next.1.2 }))
  manager_rests w Finishes answer rest e next empty full = inr (inr (inr next))

  tile_rests : (w v : World) (tile : ℕ) (answer : TileAnswer) → IsAtRest (TileMove tile answer) → IsTileMove scene l depth w tile answer v → TileRests scene w tile
  tile_rests w v tile answer rest m =
      let none = no_item scene l depth w v (w.tiles tile).progress m.item answer m.answered rest in
      let ample = m.step.ample in
      record {
        undue = λ still. subst (λ i. IsUndue (w.tiles tile).progress i) none m.step.undue refl;
        no_grant = λ listening. subst (λ i. FindsNoGrant (w.tiles tile).progress i → w.grants tile ≡ []) none m.no_grant (rw ample at listening);
        no_parcel = λ c lc asked. subst (λ i. FindsNoParcel (w.tiles tile) i c → w.parcels c tile ≡ []) none (m.no_parcel c lc) (rw ample at asked);
      }

  short_rests : (w v : World) (tile : ℕ) (answer : TileAnswer) → IsAtRest (TileMove tile answer) → IsShortTileMove scene l depth w tile answer v → TileRests scene w tile
  short_rests w v tile answer rest m =
      let none = no_short_item scene l depth (w.tiles tile).progress m.item answer m.answered rest in
      let short = m.short in
      record {
        undue = λ ample. absurd (true≢false (sym short ∙ ample));
        no_grant = λ listening. subst (λ i. FindsNoGrantShort (w.tiles tile).progress i → w.grants tile ≡ []) none m.no_grant (rw short at listening);
        no_parcel = λ c lc asked. subst (λ i. FindsNoParcelShort (w.tiles tile) i c → w.parcels c tile ≡ []) none (m.no_parcel c lc) (rw short at asked);
      }

  -- ---- of each move of a round, by one world

  abbrev pub RestsAt : World → Turn → Type 0
  RestsAt w (ClientTurn client answer) = ClientRests l depth w client
  RestsAt w (ManagerTurn answer) = ManagerRests scene l depth w
  RestsAt w (TileTurn tile answer) = TileRests scene w tile

  pub rests_at : (w v : World) (m : Turn) → IsResting m → IsTurn scene l depth w m v → RestsAt w m
  rests_at w v (ClientTurn client (Ok answer)) rest m = client_rests w v client answer rest m.step.step
  rests_at w v (ClientTurn client (Err error)) rest m = absurd rest
  rests_at w v (ManagerTurn (Ok answer)) rest m = manager_rests w m.step.deed answer rest m.step.answered m.step.next m.step.empty m.step.full
  rests_at w v (ManagerTurn (Err error)) rest m = absurd rest
  rests_at w v (TileTurn tile (Ok answer)) rest m = by m.step
    where
      by : IsTileMove scene l depth w tile answer v ⊎ IsShortTileMove scene l depth w tile answer v → TileRests scene w tile
      by (inl t) = tile_rests w v tile answer rest t
      by (inr t) = short_rests w v tile answer rest t
  rests_at w v (TileTurn tile (Err error)) rest m = absurd rest

  client_before : (w v : World) (client : ℕ) → client < client_total scene → IsSameWorld scene l w v → ClientRests l depth v client → ClientRests l depth w client
  client_before w v client lc s (inl none) = inl (sym (s.left client lc) ∙ none)
  client_before w v client lc s (inr (inl b)) = inr (inl record {
    tile = b.tile;
    parcel = b.parcel;
    rest = b.rest;
    low = b.low;
    next = sym (s.left client lc) ∙ b.next;
    full = ap length (sym (s.parcels client b.tile lc b.low)) ∙ b.full;
  })
  client_before w v client lc s (inr (inr b)) = inr (inr record { request = b.request; rest = b.rest; next = sym (s.left client lc) ∙ b.next; full = ap length (sym (s.requests client lc)) ∙ b.full })

  manager_before : (w v : World) → IsSameWorld scene l w v → ManagerRests scene l depth v → ManagerRests scene l depth w
  manager_before w v s (inl b) = inl record { tile = b.tile; low = b.low; full = ap length (sym (s.grants b.tile b.low)) ∙ b.full }
  manager_before w v s (inr (inl b)) = inr (inl record {
    receives = subst (λ (d : ManagerProgress). IsReceiving (sync_lists_of scene) (tile_count l) d) s.manager b.receives;
    empty = λ c lc may. sym (s.requests c lc) ∙ b.empty c lc (ap (λ (d : ManagerProgress). may_arrive (sync_lists_of scene) d.book c) s.manager ∙ may);
  })
  manager_before w v s (inr (inr (inl b))) = inr (inr (inl record {
    drains = subst (λ (d : ManagerProgress). IsDraining (sync_lists_of scene) (tile_count l) d) s.manager b.drains;
    client = b.client;
    low = b.low;
    undrained = ap (λ (d : ManagerProgress). d.drained b.client) (sym s.manager) ∙ b.undrained;
    empty = sym (s.requests b.client b.low) ∙ b.empty;
  }))
  manager_before w v s (inr (inr (inr b))) = inr (inr (inr (subst (λ (d : ManagerProgress). IsNextDeed (sync_lists_of scene) (tile_count l) d Finishes) s.manager b)))

  tile_before : (w v : World) (tile : ℕ) → tile < tile_count l → IsSameWorld scene l w v → TileRests scene v tile → TileRests scene w tile
  tile_before w v tile lt s b =
      let e = s.tiles tile lt in
      record {
        undue = subst (λ (a : Tile). NothingIsDue a.short a.progress) e b.undue;
        no_grant = λ listening. sym (s.grants tile lt) ∙ b.no_grant (ap (λ (a : Tile). listens a.short a.progress) e ∙ listening);
        no_parcel = λ c lc asked. sym (s.parcels c tile lc lt) ∙ b.no_parcel c lc (ap (λ (a : Tile). asks a.short a.progress c) e ∙ asked);
      }

  pub before : (w v : World) (m : Turn) → Exists scene l depth m → IsSameWorld scene l w v → RestsAt v m → RestsAt w m
  before w v (ClientTurn client answer) lc s b = client_before w v client lc s b
  before w v (ManagerTurn answer) lc s b = manager_before w v s b
  before w v (TileTurn tile answer) lt s b = tile_before w v tile lt s b

  abbrev Known : World → Turn → Type 0
  Known w m = Exists scene l depth m × RestsAt w m

  -- ---- each actor has a move in the round

  client_of : (w : World) (c : ℕ) → c < client_total scene → (m : Turn) → Known w m → number_of scene m ≡ c → ClientRests l depth w c
  client_of w c lc (ClientTurn client answer) k e = subst (λ i. ClientRests l depth w i) e k.1
  client_of w c lc (ManagerTurn answer) k e = absurd (omega (arith, lc, e))
  client_of w c lc (TileTurn tile answer) k e = absurd (omega (arith, lc, e))

  manager_of : (w : World) (m : Turn) → Known w m → number_of scene m ≡ client_total scene → ManagerRests scene l depth w
  manager_of w (ClientTurn client answer) k e = absurd (let lc = k.0 in omega (arith, lc, e))
  manager_of w (ManagerTurn answer) k e = k.1
  manager_of w (TileTurn tile answer) k e = absurd (omega (arith, e))

  tile_of : (w : World) (t : ℕ) (m : Turn) → Known w m → number_of scene m ≡ client_total scene + 1 + t → TileRests scene w t
  tile_of w t (ClientTurn client answer) k e = absurd (let lc = k.0 in omega (arith, lc, e))
  tile_of w t (ManagerTurn answer) k e = absurd (omega (arith, e))
  tile_of w t (TileTurn tile answer) k e = let same : tile ≡ t = omega (arith, e) in subst (λ i. TileRests scene w i) same k.1

  -- where a turn at rest is known of each actor, all rest
  rest_by : (w : World) → ((k : ℕ) → k < client_total scene + 1 + tile_count l → (m : Turn) × Known w m × (number_of scene m ≡ k)) → AllRest scene l depth w
  rest_by w pick = record {
    clients = λ c lc. let m = pick c (omega (arith, lc)) in client_of w c lc m.0 m.1 m.2;
    manager = let m = pick (client_total scene) (omega arith) in manager_of w m.0 m.1 m.2;
    tiles = λ t lt. let m = pick (client_total scene + 1 + t) (omega (arith, lt)) in tile_of w t m.0 m.1 m.2;
  }

  known : (w v : World) (turns : List Turn) → AllByRecursion IsResting turns → AreTurns scene l depth w turns v → AllByRecursion (Known w) turns
  known w v turns rest h = all_known scene l depth IsResting RestsAt (λ m rests. rests) rests_at before w v turns rest h

  all_rest : (w v : World) (round : List Turn) → map (number_of scene) round ≡ round_of scene l → AllByRecursion IsResting round → AreTurns scene l depth w round v → AllRest scene l depth w
  all_rest w v round e rest h =
      rest_by w (λ k lt. find scene l depth (Known w) round 0 (client_total scene + 1 + tile_count l) e (known w v round rest h) k (omega arith) (omega (arith, lt)))

  all_rest_among : (w v : World) (turns : List Turn) → HaveTurns scene l turns → AllByRecursion IsResting turns → AreTurns scene l depth w turns v → AllRest scene l depth w
  all_rest_among w v turns has rest h = rest_by w (λ k lt. pick_of (Known w) (number_of scene) k turns (has k lt) (known w v turns rest h))

-- all have stopped in a world that is the same
pub stopped_on : (scene : Scene) (l : Layout) (w v : World) → IsSameWorld scene l w v → AllHaveStopped scene l w → AllHaveStopped scene l v
stopped_on scene l w v s h = record {
  clients = λ c lc. s.left c lc ∙ h.clients c lc;
  manager = subst (λ (d : ManagerProgress). IsNextDeed (sync_lists_of scene) (tile_count l) d Finishes) (sym s.manager) h.manager;
  tiles = λ t lt. subst (λ (a : Tile). IsFinished a.short a.progress) (sym (s.tiles t lt)) (h.tiles t lt);
}

pub rounds_move : MembersAreClients → RoundsMoveSomebody
rounds_move members scene l depth round w later pos flows actors turns rest =
    let h = somebody_can_move members scene l depth pos w flows (all_rest scene l depth w later round actors rest turns) in
    stopped_on scene l w later (all_keep scene l depth w later round rest turns) h

pub fair_turns_move : MembersAreClients → FairTurnsMoveSomebody
fair_turns_move members scene l depth turns w later pos flows has goes rest =
    let h = somebody_can_move members scene l depth pos w flows (all_rest_among scene l depth w later turns has rest goes) in
    stopped_on scene l w later (all_keep scene l depth w later turns rest goes) h

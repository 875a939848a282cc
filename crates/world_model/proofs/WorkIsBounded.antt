-- At first there is little to do, and no turn leaves more.
use Rattle.std.proofs.Common.{◌≡◌, ◌⊎◌, ℕ, zero, suc, ◌+◌, ◌-◌, ◌*◌, ◌<◌, ◌≤◌, Bool, true, false, List, [], ◌∷◌, length, map, inl, inr, refl, ap, arith, length-append}
use Rattle.std.specs.List.{flat_map, range_with_len, AllByRecursion}
use Rattle.std.specs.Prelude.{Ok, Err}
use Rattle.rc_base.specs.Cluster.Parcels.{parcels_at, parcels_before, end_parcel, told}
use Rattle.rc_base.specs.Cluster.Sending.{Sending, ToTile, ToManager, requests_in, request_of, to_tiles, sent_at, sent_before, sent_last, sent_by}
use Rattle.rc_base.specs.Cluster.Tiles.{tile_count}
use Rattle.rc_base.specs.Contexts.Issue.{stream_of, context_after, effect_at}
use Rattle.rc_base.specs.Orders.Sync.{IsWellFormed, sync_lists_of, wait_of}
use Rattle.rc_base.specs.declared.cluster.ClientMoved.TheVariants as client_moved
use Rattle.rc_base.specs.declared.cluster.ManagerMoved.TheVariants as manager_moved
use Rattle.rc_base.specs.declared.scene.Scene.{Scene}
use Rattle.rc_base.specs.declared.state.Effect.{Effect}
use Rattle.rc_base.specs.declared.state.Effect.TheVariants as eff
use Rattle.rc_base.specs.declared.state.Parcel.{Parcel}
use Rattle.rc_base.specs.declared.sync.Request.TheVariants as request
use Rattle.rc_base.specs.declared.sync.WaitAt.{WaitAt}
use Rattle.rc_base.specs.declared.window.Layout.{Layout}
use Rattle.order_model.specs.Standing.{Progress, performed_in}
use Rattle.sync_manager.specs.Progress.{ManagerProgress}
use Rattle.world_model.specs.Flowing.{asks, IsFlowing}
use Rattle.world_model.specs.Laws.{IsSameWorld, NewWorldsFlow, RestingTurnsChangeNothing, TurnsKeepWorldsFlowing}
use Rattle.world_model.specs.Tiles.{Tile}
use Rattle.world_model.specs.declared.moves.TileAnswer.TheVariants as tile_answer
use Rattle.world_model.specs.Turns.{Turn, AreTurns, IsResting, turn_of}
use Rattle.world_model.specs.Turns.Turn.{ClientTurn, ManagerTurn, TileTurn}
use Rattle.world_model.specs.Work.{total, one_unless, operations, client_work, tile_work, work_in, TurnsLeaveLess, TurnsLeaveNoMore, RoundsLeaveLess, NewWorldsHaveLittleToDo, SteppedRunsHaveLittleToDo}
use Rattle.world_model.specs.World.{World, all_lanes, client_total}
use Rattle.world_model.proofs.MovesAreTurns.{all_turns}
use Rattle.world_model.proofs.SequencesAreOrdered.{few_parcels}

-- ---- the length of a sequence

module _ (l : Layout) (few : tile_count l ≤ 32) where
  one_each : (f : ℕ → List Parcel) → ((k : ℕ) → length (f k) ≤ 1) → (from n : ℕ) → length (flat_map (λ k. map (λ p. ToTile k p) (f k)) (range_with_len from n)) ≤ n
  one_each f h from zero = omega arith
  one_each f h from (suc n) =
      let a = one_each f h (from + 1) n in
      let b = length-append (map (λ p. ToTile from p) (f from)) (flat_map (λ k. map (λ p. ToTile k p) (f k)) (range_with_len (from + 1) n)) in
      let c = mapped (f from) in
      let d = h from in
      omega (arith, a, b, c, d)
    where
      mapped : (ps : List Parcel) → length (map (λ p. ToTile from p) ps) ≡ length ps
      mapped [] = refl
      mapped (p ∷ ps) = ap suc (mapped ps)

  to_few : (f : ℕ → List Parcel) → ((k : ℕ) → length (f k) ≤ 1) → length (to_tiles l f) ≤ 32
  to_few f h = let a = one_each f h 0 (tile_count l) in omega (arith, a, few)

  one_wait : (place : ℕ) (e : Effect) → length (map (λ (w : WaitAt). ToManager (request_of w)) (wait_of place e)) ≤ 1
  one_wait place eff.Quiet = omega arith
  one_wait place (eff.Refused fault) = omega arith
  one_wait place (eff.Block block) = omega arith
  one_wait place (eff.Clear mask) = omega arith
  one_wait place (eff.Shared part) = omega arith
  one_wait place (eff.Sync op) = omega arith

  at_few : (scene : Scene) (client place : ℕ) → length (sent_at scene l client place) ≤ 33
  at_few scene client place =
      let f : ℕ → List Parcel = λ k. parcels_at scene l client k place (parcels_before scene l client k place) in
      let a = to_few f (λ k. one (f k) (few_parcels l k (told scene.decl (parcels_before scene l client k place)) (context_after scene client place) place (effect_at scene client place))) in
      let b = one_wait place (effect_at scene client place) in
      let c = length-append (to_tiles l f) (map (λ (w : WaitAt). ToManager (request_of w)) (wait_of place (effect_at scene client place))) in
      omega (arith, a, b, c)
    where
      one : (ps : List Parcel) → (ps ≡ []) ⊎ ((p : Parcel) × (ps ≡ p ∷ [])) → length ps ≤ 1
      one ps (inl e) = let a = ap length e in omega (arith, a)
      one ps (inr e) = let a = ap length e.1 in omega (arith, a)

  before_few : (scene : Scene) (client n : ℕ) → length (sent_before scene l client n) ≤ 33 * n
  unfolding sent_before
  before_few scene client zero = omega arith
  before_few scene client (suc n) =
      let a = before_few scene client n in
      let b = at_few scene client n in
      let c = length-append (sent_before scene l client n) (sent_at scene l client n) in
      omega (arith, a, b, c)

  last_few : (scene : Scene) (client : ℕ) → length (sent_last scene l client) ≤ 33
  last_few scene client =
      let place = length (stream_of scene client) in
      let a = to_few (λ k. end_parcel place ∷ []) (λ k. omega arith) in
      let b = length-append (to_tiles l (λ tile. end_parcel place ∷ [])) (ToManager request.End ∷ []) in
      omega (arith, a, b)

  all_few : (scene : Scene) (client : ℕ) → length (sent_by scene l client) ≤ 33 * length (stream_of scene client) + 33
  unfolding sent_by
  all_few scene client =
      let n = length (stream_of scene client) in
      let a = before_few scene client n in
      let b = last_few scene client in
      let c = length-append (sent_before scene l client n) (sent_last scene l client) in
      omega (arith, a, b, c)

few_asks : (items : List Sending) → asks (requests_in items) ≤ length items
few_asks [] = omega arith
few_asks (ToTile k p ∷ items) = let h = few_asks items in omega (arith, h)
few_asks (ToManager (request.Op place op) ∷ items) = let h = few_asks items in omega (arith, h)
few_asks (ToManager request.End ∷ items) = let h = few_asks items in omega (arith, h)

-- ---- at first

few_of_many : (f : ℕ → ℕ) (n k : ℕ) → ((i : ℕ) → i < n → f i ≤ k) → total f n ≤ n * k
few_of_many f zero k h = omega arith
few_of_many f (suc n) k h = let a = few_of_many f n k (λ i lt. h i (omega (arith, lt))) in let b = h n (omega arith) in
    let c : suc n * k ≡ n * k + k = times n k in omega (arith, a, b, c)
  where
    times : (n k : ℕ) → suc n * k ≡ n * k + k
    times n k = omega arith

pub little_to_do : NewWorldsHaveLittleToDo
little_to_do scene l w h clients tiles short =
    let each : (c : ℕ) → c < client_total scene → length (w.clients c).left ≤ 34603041 = λ c lc.
    (let a = ap length (h.left c lc) in let b = all_few l tiles scene c in let d = short c in omega (arith, a, b, d)) in
    let ops : (c : ℕ) → c < client_total scene → operations w c ≤ 34603041 = λ c lc.
    (let a = each c lc in let b = few_asks (w.clients c).left in let d = ap asks (h.requests c lc) in
    let e = ap (λ (d : ManagerProgress). length (d.book.arrived c)) h.manager in omega (arith, a, b, d, e)) in
    let work : (c : ℕ) → c < client_total scene → client_work w c ≤ 69206083 = λ c lc.
    (let a = each c lc in let b = ap length (h.requests c lc) in let d = one_most (w.clients c).short in omega (arith, a, b, d)) in
    let m = few_of_many (operations w) (client_total scene) 34603041 ops in
    let k = few_of_many (client_work w) (client_total scene) 69206083 work in
    let parts : (t : ℕ) → t < tile_count l → tile_work scene w t ≤ 830472988 = λ t lt.
    (let a = ap length (h.grants t lt) in
    let b = ap (λ (p : Progress). length p.learnt - performed_in p.log) (h.tiles t lt).progress in
    let d = one_most (w.tiles t).short in
    let e = one_most (w.manager.told t) in
    let f : total (λ client. length (w.parcels client t)) (client_total scene) ≤ client_total scene * 0 =
    few_of_many (λ client. length (w.parcels client t)) (client_total scene) 0 (λ c lc. (let z = ap length (h.parcels c t lc lt) in omega (arith, z))) in
    omega (arith, a, b, d, e, f, m, clients)) in
    let t = few_of_many (tile_work scene w) (tile_count l) 830472988 parts in
    let s = one_most w.manager.short in
    omega (arith, m, k, t, s, clients, tiles)
  where
    one_most : (b : Bool) → one_unless b ≤ 1
    one_most true = omega arith
    one_most false = omega arith

-- ---- and then

total_as : (f g : ℕ → ℕ) (n : ℕ) → ((i : ℕ) → i < n → g i ≡ f i) → total g n ≡ total f n
total_as f g zero h = refl
total_as f g (suc n) h = let a = total_as f g n (λ i lt. h i (omega (arith, lt))) in let b = h n (omega arith) in omega (arith, a, b)

same_work : (scene : Scene) (l : Layout) (w v : World) → IsSameWorld scene l w v → work_in scene l v ≡ work_in scene l w
same_work scene l w v s =
    let n = client_total scene in
    let ops = total_as (operations w) (operations v) n (λ c lc.
    (let a = ap (λ items. asks (requests_in items)) (s.left c lc) in let b = ap asks (s.requests c lc) in
    let d = ap (λ (d : ManagerProgress). length (d.book.arrived c)) s.manager in omega (arith, a, b, d))) in
    let work = total_as (client_work w) (client_work v) n (λ c lc.
    (let a = ap length (s.left c lc) in let b = ap one_unless (s.short c lc) in let d = ap length (s.requests c lc) in omega (arith, a, b, d))) in
    let tiles = total_as (tile_work scene w) (tile_work scene v) (tile_count l) (λ t lt.
    (let a = ap (λ (x : Tile). length x.progress.learnt - performed_in x.progress.log + one_unless x.short) (s.tiles t lt) in
    let b = ap length (s.grants t lt) in
    let c = total_as (λ i. length (w.parcels i t)) (λ i. length (v.parcels i t)) n (λ i li. ap length (s.parcels i t li lt)) in
    let d = ap (λ (d : ManagerProgress). d.delivered t) s.manager in
    let e = ap (λ (d : ManagerProgress). one_unless (d.told t)) s.manager in
    omega (arith, ops, a, b, c, d, e))) in
    let journal = ap (λ (d : ManagerProgress). length d.book.journal) s.manager in
    let short = ap (λ (d : ManagerProgress). one_unless d.short) s.manager in
    omega (arith, ops, work, tiles, journal, short)

-- whether the turn rests
pub rests : (turn : Turn) → IsResting turn ⊎ (IsResting turn → ⊥)
rests (ClientTurn client (Ok (client_moved.Appended tile))) = inr (λ h. elim h [ inl x ↦ (let y = x.1 in cc) | inr x ↦ elim x [ inl y ↦ cc | inr y ↦ cc ] ])
rests (ClientTurn client (Ok client_moved.Requested)) = inr (λ h. elim h [ inl x ↦ (let y = x.1 in cc) | inr x ↦ elim x [ inl y ↦ cc | inr y ↦ cc ] ])
rests (ClientTurn client (Ok (client_moved.BlockedTile tile))) = inl (inl (tile, refl))
rests (ClientTurn client (Ok client_moved.BlockedRequest)) = inl (inr (inl refl))
rests (ClientTurn client (Ok client_moved.Ended)) = inl (inr (inr refl))
rests (ClientTurn client (Err error)) = inr (λ h. h)
rests (ManagerTurn (Ok (manager_moved.Delivered tile))) = inr (λ h. elim h [ inl x ↦ (let y = x.1 in cc) | inr x ↦ elim x [ inl y ↦ cc | inr y ↦ cc ] ])
rests (ManagerTurn (Ok (manager_moved.BlockedGrant tile))) = inl (inl (tile, refl))
rests (ManagerTurn (Ok manager_moved.Granted)) = inr (λ h. elim h [ inl x ↦ (let y = x.1 in cc) | inr x ↦ elim x [ inl y ↦ cc | inr y ↦ cc ] ])
rests (ManagerTurn (Ok (manager_moved.Arrived client))) = inr (λ h. elim h [ inl x ↦ (let y = x.1 in cc) | inr x ↦ elim x [ inl y ↦ cc | inr y ↦ cc ] ])
rests (ManagerTurn (Ok manager_moved.BlockedRequest)) = inl (inr (inl refl))
rests (ManagerTurn (Ok (manager_moved.Drained client))) = inr (λ h. elim h [ inl x ↦ (let y = x.1 in cc) | inr x ↦ elim x [ inl y ↦ cc | inr y ↦ cc ] ])
rests (ManagerTurn (Ok manager_moved.Ended)) = inl (inr (inr refl))
rests (ManagerTurn (Err error)) = inr (λ h. h)
rests (TileTurn tile (Ok tile_answer.Performed)) = inr (λ h. elim h [ inl x ↦ cc | inr x ↦ cc ])
rests (TileTurn tile (Ok tile_answer.Swapped)) = inr (λ h. elim h [ inl x ↦ cc | inr x ↦ cc ])
rests (TileTurn tile (Ok tile_answer.Learnt)) = inr (λ h. elim h [ inl x ↦ cc | inr x ↦ cc ])
rests (TileTurn tile (Ok (tile_answer.Took client))) = inr (λ h. elim h [ inl x ↦ cc | inr x ↦ cc ])
rests (TileTurn tile (Ok (tile_answer.Held client))) = inr (λ h. elim h [ inl x ↦ cc | inr x ↦ cc ])
rests (TileTurn tile (Ok (tile_answer.Closed client))) = inr (λ h. elim h [ inl x ↦ cc | inr x ↦ cc ])
rests (TileTurn tile (Ok (tile_answer.Dropped client))) = inr (λ h. elim h [ inl x ↦ cc | inr x ↦ cc ])
rests (TileTurn tile (Ok tile_answer.Blocked)) = inl (inl refl)
rests (TileTurn tile (Ok tile_answer.Ended)) = inl (inr refl)
rests (TileTurn tile (Err error)) = inr (λ h. h)

pub no_more : RestingTurnsChangeNothing → TurnsLeaveLess → TurnsLeaveNoMore
no_more still less scene l depth w v seen turn well f m = by (rests turn)
  where
    by : IsResting turn ⊎ (IsResting turn → ⊥) → work_in scene l v ≤ work_in scene l w
    by (inl rest) = let e = same_work scene l w v (still scene l depth w v seen turn rest m) in omega (arith, e)
    by (inr moving) = let e = less scene l depth w v seen turn well f m moving in omega (arith, e)

-- ---- turns one after the other

module _ (keep : TurnsKeepWorldsFlowing) (less : TurnsLeaveLess) (more : TurnsLeaveNoMore) (scene : Scene) (l : Layout) (depth : ℕ) (well : IsWellFormed (sync_lists_of scene)) where
  all_no_more : (w v : World) (turns : List Turn) → IsFlowing scene l w → AreTurns scene l depth w turns v → work_in scene l v ≤ work_in scene l w
  all_no_more w v [] f m = let e = ap (work_in scene l) m in omega (arith, e)
  all_no_more w v (turn ∷ turns) f m =
      let a = more scene l depth w m.0 (all_lanes w) turn well f m.1 in
      let b = all_no_more m.0 v turns (keep scene l depth w m.0 (all_lanes w) turn f m.1) m.2 in
      omega (arith, a, b)

  all_less : (w v : World) (turns : List Turn) → IsFlowing scene l w → AreTurns scene l depth w turns v → (AllByRecursion IsResting turns → ⊥) → work_in scene l v < work_in scene l w
  all_less w v [] f m moving = absurd (moving tt)
  all_less w v (turn ∷ turns) f m moving =
      let flows = keep scene l depth w m.0 (all_lanes w) turn f m.1 in
      elim (rests turn) [
        | inl rest ↦
            let a = more scene l depth w m.0 (all_lanes w) turn well f m.1 in
            let b = all_less m.0 v turns flows m.2 (λ all. moving (rest, all)) in
            omega (arith, a, b)
        | inr moves ↦
            let a = less scene l depth w m.0 (all_lanes w) turn well f m.1 moves in
            let b = all_no_more m.0 v turns flows m.2 in
            omega (arith, a, b)
      ]

pub rounds_leave_less : TurnsKeepWorldsFlowing → TurnsLeaveLess → TurnsLeaveNoMore → RoundsLeaveLess
rounds_leave_less keep less more scene l depth w v turns well f m moving = all_less keep less more scene l depth well w v turns f m moving

pub runs_little : NewWorldsFlow → TurnsKeepWorldsFlowing → TurnsLeaveLess → TurnsLeaveNoMore → SteppedRunsHaveLittleToDo
runs_little new keep less more scene l depth picks moves w well r clients tiles short =
    let a = little_to_do scene l r.first r.new clients tiles short in
    let b = all_no_more keep less more scene l depth well r.first w (map turn_of moves) (new scene l r.first r.new) (all_turns scene l depth r.first w moves r.leads) in
    omega (arith, a, b)

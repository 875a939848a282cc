-- Where all have ended nobody moves, and a round in which each move says so leads from there.
use Rattle.std.proofs.Common.{◌≡◌, ℕ, zero, suc, ◌+◌, ◌==◌, ◌<◌, not, Bool, true, false, List, [], ◌∷◌, length, map, inl, inr, refl, sym, ap, ◌∙◌, subst, arith, get_or, eqb-true}
use Rattle.std.proofs.lemmas.Bool.{and_parts}
use Rattle.std.proofs.lemmas.List.{length-map}
use Rattle.std.proofs.lemmas.List.FromFn.{length-range_with_len, get_or-range_with_len}
use Rattle.std.proofs.lemmas.Option.{slice_get_within}
use Rattle.std.specs.List.{AllByRecursion}
use Rattle.std.specs.Prelude.{◌||◌, Ok, Result}
use Rattle.rc_base.specs.Cluster.Sending.{Sending}
use Rattle.rc_base.specs.Cluster.Tiles.{tile_count}
use Rattle.rc_base.specs.Orders.Sync.{sync_lists_of}
use Rattle.rc_base.specs.declared.cluster.ClientMoved.{ClientMoved}
use Rattle.rc_base.specs.declared.cluster.ClientMoved.TheVariants as client_moved
use Rattle.rc_base.specs.declared.cluster.ManagerMoved.{ManagerMoved}
use Rattle.rc_base.specs.declared.cluster.ManagerMoved.TheVariants as manager_moved
use Rattle.rc_base.specs.declared.out_of_memory.OutOfMemory.{OutOfMemory}
use Rattle.rc_base.specs.declared.scene.Scene.{Scene}
use Rattle.rc_base.specs.declared.window.Layout.{Layout}
use Rattle.order_model.specs.Standing.{Progress, performed_in, is_over}
use Rattle.sync_manager.specs.Progress.{answer_of, IsNextDeed}
use Rattle.sync_manager.specs.Promises.{DoneManagersFinish}
use Rattle.sync_manager.specs.declared.deed.ManagerDeed.{ManagerDeed}
use Rattle.sync_manager.specs.declared.deed.ManagerDeed.TheVariants.{Delivers, FindsFull, Grants, Receives, Loses, FindsNoRequest, Drops, FindsNoneLeft, Finishes}
use Rattle.tile_model.specs.Items.{Item, IsAwaited}
use Rattle.tile_model.specs.Items.Item.{Nothing, Due, Granted, NoMore, Sent}
use Rattle.world_model.specs.Laws.{IsSameWorld, RestsChangeNothing, EndedWorldsRest, LastRoundsTell}
use Rattle.world_model.specs.declared.moves.Move.{Move}
use Rattle.world_model.specs.Moves.{IsAtRest, IsLast, IsClientStep, IsMove, AreMoves}
use Rattle.world_model.specs.declared.moves.Move.TheVariants.{Client as ClientMove, Manager as ManagerMove, Tile as TileMove}
use Rattle.world_model.specs.Runs.{actor_of, round_of, AllHaveEnded}
use Rattle.world_model.specs.declared.moves.TileAnswer.{TileAnswer}
use Rattle.world_model.specs.Tiles.{HasEnded, IsTileAnswer}
use Rattle.world_model.specs.declared.moves.TileAnswer.TheVariants.{Ended}
use Rattle.world_model.specs.World.{World, client_total}
use Rattle.world_model.proofs.RestChangesNothing.{rest_changes_nothing, no_item}

module _ (scene : Scene) (l : Layout) where
  -- ---- worlds that are the same

  pub same_self : (w : World) → IsSameWorld scene l w w
  same_self w = record {
    left = λ c lc. refl;
    tallies = λ c t lc. refl;
    short = λ c lc. refl;
    manager = refl;
    tiles = λ t lt. refl;
    parcels = λ c t lc lt. refl;
    requests = λ c lc. refl;
    grants = λ t lt. refl;
  }

  pub same_on : (w v u : World) → IsSameWorld scene l w v → IsSameWorld scene l v u → IsSameWorld scene l w u
  same_on w v u a b = record {
    left = λ c lc. b.left c lc ∙ a.left c lc;
    tallies = λ c t lc. b.tallies c t lc ∙ a.tallies c t lc;
    short = λ c lc. b.short c lc ∙ a.short c lc;
    manager = b.manager ∙ a.manager;
    tiles = λ t lt. b.tiles t lt ∙ a.tiles t lt;
    parcels = λ c t lc lt. b.parcels c t lc lt ∙ a.parcels c t lc lt;
    requests = λ c lc. b.requests c lc ∙ a.requests c lc;
    grants = λ t lt. b.grants t lt ∙ a.grants t lt;
  }

  ended_on : (w v : World) → IsSameWorld scene l w v → AllHaveEnded scene l w → AllHaveEnded scene l v
  ended_on w v s done = record {
    clients = λ c lc. s.left c lc ∙ done.clients c lc;
    manager = subst (λ d. IsNextDeed (sync_lists_of scene) (tile_count l) d Finishes) (sym s.manager) done.manager;
    tiles = λ t lt. subst (λ a. HasEnded a.progress) (sym (s.tiles t lt)) (done.tiles t lt);
  }

  last_rests : (move : Move) → IsLast move → IsAtRest move
  last_rests (ClientMove client answer) last = inr (inr last)
  last_rests (ManagerMove answer) last = inr (inr last)
  last_rests (TileMove tile answer) last = inr last

  module _ (depth : ℕ) where
    all_rest : (moves : List Move) (w later : World) → AllByRecursion IsAtRest moves → AreMoves scene l depth w moves later → IsSameWorld scene l w later
    all_rest [] w later rest m = subst (λ v. IsSameWorld scene l w v) (sym m) (same_self w)
    all_rest (move ∷ moves) w later rest m =
        same_on w m.0 later (rest_changes_nothing scene l depth w m.0 move rest.0 m.1) (all_rest moves m.0 later rest.1 m.2)

    -- ---- from a world in which all have ended

    no_item_left : (xs rest : List Sending) (x : Sending) → xs ≡ [] → xs ≡ x ∷ rest → ⊥
    no_item_left xs rest x e f = let no : x ∷ rest ≡ [] = sym f ∙ e in cc

    not_both : (b : Bool) → b ≡ true → not b ≡ true → ⊥
    not_both true e f = cc
    not_both false e f = cc

    pub client_last : (w v : World) (c : ℕ) (answer : ClientMoved) → (w.clients c).left ≡ [] → IsClientStep scene l depth w c answer v → answer ≡ client_moved.Ended
    client_last w v c (client_moved.Appended tile) none s = absurd (no_item_left (w.clients c).left (v.clients c).left _ none s.sent.next)
    client_last w v c client_moved.Requested none s = absurd (no_item_left (w.clients c).left (v.clients c).left _ none s.sent.next)
    client_last w v c (client_moved.BlockedTile tile) none s = absurd (no_item_left (w.clients c).left s.rest _ none s.next)
    client_last w v c client_moved.BlockedRequest none s = absurd (no_item_left (w.clients c).left s.rest _ none s.next)
    client_last w v c client_moved.Ended none s = refl

    same_answer : (r : Result ManagerMoved OutOfMemory) (a b : ManagerMoved) → r ≡ Ok a → r ≡ Ok b → b ≡ a
    same_answer r a b e f = cc

    pub tile_last : (p : Progress) (item : Item) (answer : TileAnswer) → HasEnded p → IsAwaited p item → IsTileAnswer p item answer → answer ≡ Ended
    tile_last p Nothing answer h a (inl is) = is.0
    tile_last p Nothing answer h a (inr is) = absurd (is.1 h)
    tile_last p (Due e) answer h a is =
        let more = slice_get_within p.learnt (performed_in p.log) e a.0 in
        let all = eqb-true (performed_in p.log) (length p.learnt) (and_parts p.no_more (performed_in p.log == length p.learnt) h.over).1 in
        absurd (omega (arith, more, all))
    tile_last p (Granted e) answer h a is =
        absurd (not_both p.no_more (and_parts p.no_more (performed_in p.log == length p.learnt) h.over).0 (and_parts (not p.no_more) (performed_in p.log == length p.learnt) a).0)
    tile_last p NoMore answer h a is =
        absurd (not_both p.no_more (and_parts p.no_more (performed_in p.log == length p.learnt) h.over).0 (and_parts (not p.no_more) (performed_in p.log == length p.learnt) a).0)
    tile_last p (Sent c parcel) answer h a is =
        absurd (not_both (p.closed c) (h.closed c a.0) (and_parts (not (p.closed c)) (not (p.held c) || is_over p) a.1).0)

    move_last : DoneManagersFinish → (w v : World) (move : Move) → AllHaveEnded scene l w → IsMove scene l depth w move v → IsLast move
    move_last finish w v (ClientMove c answer) done m = client_last w v c answer (done.clients c m.step.low) m.step.step
    move_last finish w v (ManagerMove answer) done m =
        same_answer (answer_of m.step.deed) manager_moved.Ended answer
        (ap answer_of (finish (sync_lists_of scene) (tile_count l) w.manager m.step.deed done.manager m.step.next)) m.step.answered
    move_last finish w v (TileMove t answer) done m =
        tile_last (w.tiles t).progress m.step.item answer (done.tiles t m.step.low) m.step.step.awaited m.step.answered

    all_last : DoneManagersFinish → (moves : List Move) (w later : World) → AllHaveEnded scene l w → AreMoves scene l depth w moves later
        → AllByRecursion IsLast moves × IsSameWorld scene l w later
    all_last finish [] w later done m = (tt, subst (λ v. IsSameWorld scene l w v) (sym m) (same_self w))
    all_last finish (move ∷ moves) w later done m =
        let last = move_last finish w m.0 move done m.1 in
        let same = rest_changes_nothing scene l depth w m.0 move (last_rests move last) m.1 in
        let more = all_last finish moves m.0 later (ended_on w m.0 same done) m.2 in
        ((last, more.0), same_on w m.0 later same more.1)

    -- ---- a round in which each move is the last

    -- a move of an actor among them, from a world that is the same
    record IsFound (w : World) (number : ℕ) : Type 0 where
      pub move : Move
      pub before : World
      pub after : World
      pub same : IsSameWorld scene l w before
      pub moved : IsMove scene l depth before move after
      pub last : IsLast move
      pub actor : actor_of scene move ≡ number

    found : (moves : List Move) (w v later : World) (i : ℕ) → i < length moves → IsSameWorld scene l w v → AreMoves scene l depth v moves later
        → AllByRecursion IsLast moves → IsFound w (get_or (map (actor_of scene) moves) i 0)
    found [] w v later i lt same m last = absurd (omega arith)
    found (move ∷ moves) w v later zero lt same m last =
        record { move = move; before = v; after = m.0; same = same; moved = m.1; last = last.0; actor = refl }
    found (move ∷ moves) w v later (suc i) lt same m last =
        found moves w m.0 later i (omega arith) (same_on w v m.0 same (rest_changes_nothing scene l depth v m.0 move (last_rests move last.0) m.1)) m.2 last.1

    module _ (w : World) where
      pub client_ends : (v after : World) (c : ℕ) (answer : ClientMoved) → answer ≡ client_moved.Ended → IsClientStep scene l depth v c answer after → (v.clients c).left ≡ []
      client_ends v after c (client_moved.Appended tile) e s = absurd cc
      client_ends v after c client_moved.Requested e s = absurd cc
      client_ends v after c (client_moved.BlockedTile tile) e s = absurd cc
      client_ends v after c client_moved.BlockedRequest e s = absurd cc
      client_ends v after c client_moved.Ended e s = s.0

      client_done : (c : ℕ) → c < client_total scene → (f : IsFound w c) → (w.clients c).left ≡ []
      client_done c lc f = by f.move f.moved f.last f.actor
        where
          by : (move : Move) → IsMove scene l depth f.before move f.after → IsLast move → actor_of scene move ≡ c → (w.clients c).left ≡ []
          by (ClientMove k answer) m last e =
              sym (f.same.left c lc) ∙ subst (λ n. (f.before.clients n).left ≡ []) e (client_ends f.before f.after k answer last m.step.step)
          by (ManagerMove answer) m last e = absurd (omega (arith, e, lc))
          by (TileMove t answer) m last e = absurd (omega (arith, e, lc))

      pub deed_ends : (deed : ManagerDeed) → answer_of deed ≡ Ok manager_moved.Ended → deed ≡ Finishes
      deed_ends (Delivers tile g) e = absurd (let x = same_answer (answer_of (Delivers tile g)) (manager_moved.Delivered tile) manager_moved.Ended refl e in cc)
      deed_ends (FindsFull tile) e = absurd (let x = same_answer (answer_of (FindsFull tile)) (manager_moved.BlockedGrant tile) manager_moved.Ended refl e in cc)
      deed_ends (Grants entry) e = absurd (let x = same_answer (answer_of (Grants entry)) manager_moved.Granted manager_moved.Ended refl e in cc)
      deed_ends (Receives client r) e = absurd (let x = same_answer (answer_of (Receives client r)) (manager_moved.Arrived client) manager_moved.Ended refl e in cc)
      deed_ends (Loses client place op) e = absurd cc
      deed_ends FindsNoRequest e = absurd (let x = same_answer (answer_of FindsNoRequest) manager_moved.BlockedRequest manager_moved.Ended refl e in cc)
      deed_ends (Drops client r) e = absurd (let x = same_answer (answer_of (Drops client r)) (manager_moved.Drained client) manager_moved.Ended refl e in cc)
      deed_ends FindsNoneLeft e = absurd (let x = same_answer (answer_of FindsNoneLeft) manager_moved.BlockedRequest manager_moved.Ended refl e in cc)
      deed_ends Finishes e = refl

      manager_done : IsFound w (client_total scene) → IsNextDeed (sync_lists_of scene) (tile_count l) w.manager Finishes
      manager_done f = by f.move f.moved f.last f.actor
        where
          by : (move : Move) → IsMove scene l depth f.before move f.after → IsLast move → actor_of scene move ≡ client_total scene
              → IsNextDeed (sync_lists_of scene) (tile_count l) w.manager Finishes
          by (ClientMove k answer) m last e = absurd (let low = m.step.low in omega (arith, e, low))
          by (ManagerMove answer) m last e =
              let deed = deed_ends m.step.deed (m.step.answered ∙ ap (λ a. Ok a) last) in
              subst (λ d. IsNextDeed (sync_lists_of scene) (tile_count l) d Finishes) f.same.manager
              (subst (λ d. IsNextDeed (sync_lists_of scene) (tile_count l) f.before.manager d) deed m.step.next)
          by (TileMove t answer) m last e = absurd (omega (arith, e))

      pub has_ended : (p : Progress) (answer : TileAnswer) → answer ≡ Ended → IsTileAnswer p Nothing answer → HasEnded p
      has_ended p answer e (inl is) = is.1
      has_ended p answer e (inr is) = absurd (let x = sym e ∙ is.0 in cc)

      tile_done : (t : ℕ) → t < tile_count l → IsFound w (client_total scene + 1 + t) → HasEnded (w.tiles t).progress
      tile_done t lt f = by f.move f.moved f.last f.actor
        where
          by : (move : Move) → IsMove scene l depth f.before move f.after → IsLast move → actor_of scene move ≡ client_total scene + 1 + t → HasEnded (w.tiles t).progress
          by (ClientMove k answer) m last e = absurd (let low = m.step.low in omega (arith, e, low))
          by (ManagerMove answer) m last e = absurd (omega (arith, e))
          by (TileMove k answer) m last e =
              let same : k ≡ t = omega (arith, e) in
              let none = no_item scene l depth f.before f.after (f.before.tiles k).progress m.step.item answer m.step.answered (inr last) in
              let here = has_ended (f.before.tiles k).progress answer last (subst (λ i. IsTileAnswer (f.before.tiles k).progress i answer) none m.step.answered) in
              subst (λ a. HasEnded a.progress) (f.same.tiles t lt) (subst (λ n. HasEnded (f.before.tiles n).progress) same here)

      round_done : (later : World) (moves : List Move) → map (actor_of scene) moves ≡ round_of scene l → AreMoves scene l depth w moves later
          → AllByRecursion IsLast moves → AllHaveEnded scene l w
      round_done later moves actors m last = record {
        clients = λ c lc. client_done c lc (at c (omega (arith, lc)));
        manager = manager_done (at (client_total scene) (omega arith));
        tiles = λ t lt. tile_done t lt (at (client_total scene + 1 + t) (omega (arith, lt)));
      }
        where
          n : ℕ
          n = client_total scene + 1 + tile_count l

          count : length moves ≡ client_total scene + 1 + tile_count l
          count = sym (length-map moves (actor_of scene)) ∙ ap length actors ∙ length-range_with_len 0 (client_total scene + 1 + tile_count l)

          at : (i : ℕ) → i < client_total scene + 1 + tile_count l → IsFound w i
          at i lt =
              let number : get_or (map (actor_of scene) moves) i 0 ≡ i =
              ap (λ xs. get_or xs i 0) actors ∙ get_or-range_with_len 0 (client_total scene + 1 + tile_count l) i 0 lt ∙ (let z : 0 + i ≡ i = omega arith in z) in
              subst (λ k. IsFound w k) number (found moves w w later i (omega (arith, lt, count)) (same_self w) m last)

pub rests_change_nothing : RestsChangeNothing
rests_change_nothing scene l depth w later moves rest m = all_rest scene l depth moves w later rest m

pub ended_worlds_rest : DoneManagersFinish → EndedWorldsRest
ended_worlds_rest finish scene l depth w later moves done m = all_last scene l depth finish moves w later done m

pub last_rounds_tell : LastRoundsTell
last_rounds_tell scene l depth w later moves actors m last = round_done scene l depth w later moves actors m last

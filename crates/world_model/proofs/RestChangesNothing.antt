-- The move of an actor that is blocked or has ended changes nothing.
use Rattle.std.proofs.Common.{◌≡◌, ℕ, ◌<◌, Bool, true, false, cond, List, [], ◌∷◌, ◌++◌, ◌⊎◌, inl, inr, refl, sym, ap, ◌∙◌, subst, append-nil}
use Rattle.std.specs.Prelude.{Ok, None, Result, MatchOption}
use Rattle.rc_base.specs.Cluster.Tiles.{tile_count}
use Rattle.rc_base.specs.Drawing.Images.{Pixels}
use Rattle.rc_base.specs.Orders.Sync.{sync_lists_of}
use Rattle.rc_base.specs.declared.cluster.ClientMoved.{ClientMoved}
use Rattle.rc_base.specs.declared.cluster.ClientMoved.TheVariants as client_moved
use Rattle.rc_base.specs.declared.cluster.ManagerMoved.{ManagerMoved}
use Rattle.rc_base.specs.declared.cluster.ManagerMoved.TheVariants as manager_moved
use Rattle.rc_base.specs.declared.out_of_memory.OutOfMemory.{OutOfMemory}
use Rattle.rc_base.specs.declared.scene.Scene.{Scene}
use Rattle.rc_base.specs.declared.state.Act.{Act}
use Rattle.rc_base.specs.declared.state.Act.TheVariants as act
use Rattle.rc_base.specs.declared.sync.Entry.{Entry}
use Rattle.rc_base.specs.declared.sync.Entry.TheVariants.{Meet, Swap, Give, Take}
use Rattle.rc_base.specs.declared.window.Layout.{Layout}
use Rattle.order_model.specs.Board.{Board}
use Rattle.order_model.specs.Standing.{Progress}
use Rattle.sync_manager.specs.Progress.{ManagerProgress, progress_after, answer_of, taken_of, sent_to}
use Rattle.sync_manager.specs.declared.deed.ManagerDeed.{ManagerDeed}
use Rattle.sync_manager.specs.declared.deed.ManagerDeed.TheVariants.{Delivers, FindsFull, Grants, Receives, Loses, FindsNoRequest, Drops, FindsNoneLeft, Finishes}
use Rattle.tile_model.specs.Items.{Item, parcel_taken, grant_taken}
use Rattle.tile_model.specs.Items.Item.{Nothing, Due, Granted, NoMore, Sent}
use Rattle.plain_lemmas.proofs.Numbers.{at_one_or_other}
use Rattle.world_model.specs.Laws.{IsSameWorld, RestChangesNothing}
use Rattle.world_model.specs.Moves.{IsAtRest, IsIdle, IsClientStepSeeing, IsClientMoveSeeing, IsManagerStepSeeing, IsTileMoveSeeing}
use Rattle.world_model.specs.declared.moves.Move.TheVariants.{Client as ClientMove, Manager as ManagerMove, Tile as TileMove}
use Rattle.world_model.specs.declared.moves.TileAnswer.{TileAnswer}
use Rattle.world_model.specs.Tiles.{Tile, IsTileStep, answer_to_entry, answer_to_act, IsTileAnswer}
use Rattle.world_model.specs.declared.moves.TileAnswer.TheVariants.{Learnt, Took, Held, Dropped, Blocked, Ended}
use Rattle.world_model.specs.World.{World, Client, Lanes, all_lanes, client_total}

module _ (scene : Scene) (l : Layout) (depth : ℕ) (w v : World) where
  -- ---- a client

  is_idle : (seen : Lanes) (client : ℕ) (answer : ClientMoved) → IsAtRest (ClientMove client answer) → IsClientStepSeeing scene l depth w seen client answer v → IsIdle w client v
  is_idle seen client (client_moved.Appended tile) rest step = absurd (elim rest [ inl a ↦ no_tile a.0 a.1 | inr b ↦ elim b [ inl c ↦ cc | inr d ↦ cc ] ])
    where
      no_tile : (t : ℕ) → client_moved.Appended tile ≡ client_moved.BlockedTile t → ⊥
      no_tile t e = cc
  is_idle seen client client_moved.Requested rest step = absurd (elim rest [ inl a ↦ no_tile a.0 a.1 | inr b ↦ elim b [ inl c ↦ cc | inr d ↦ cc ] ])
    where
      no_tile : (t : ℕ) → client_moved.Requested ≡ client_moved.BlockedTile t → ⊥
      no_tile t e = cc
  is_idle seen client (client_moved.BlockedTile tile) rest step = step.idle
  is_idle seen client client_moved.BlockedRequest rest step = step.idle
  is_idle seen client client_moved.Ended rest step = step.1

  pub client_rests : (seen : Lanes) (client : ℕ) (answer : ClientMoved) → IsAtRest (ClientMove client answer) → IsClientMoveSeeing scene l depth w seen client answer v
      → IsSameWorld scene l w v
  client_rests seen client answer rest m =
      let idle = is_idle seen client answer rest m.step in
      record {
        left = at_one_or_other (λ c. c < client_total scene → (v.clients c).left ≡ (w.clients c).left) client (λ lc. idle.sent.left) (λ c ne lc. ap (λ (k : Client). k.left) (m.only.clients c lc ne));
        tallies = at_one_or_other (λ c. (tile : ℕ) → c < client_total scene → (v.clients c).tallies tile ≡ (w.clients c).tallies tile) client
            (λ tile lc. idle.tallies tile) (λ c ne tile lc. ap (λ (k : Client). k.tallies tile) (m.only.clients c lc ne));
        short = at_one_or_other (λ c. c < client_total scene → (v.clients c).short ≡ (w.clients c).short) client (λ lc. m.short) (λ c ne lc. ap (λ (k : Client). k.short) (m.only.clients c lc ne));
        manager = m.only.manager;
        tiles = m.only.tiles;
        parcels = at_one_or_other (λ c. (tile : ℕ) → c < client_total scene → tile < tile_count l → v.parcels c tile ≡ w.parcels c tile) client
            (λ tile lc lt. idle.sent.parcels tile) (λ c ne tile lc lt. m.only.parcels c tile lc lt ne);
        requests = at_one_or_other (λ c. c < client_total scene → v.requests c ≡ w.requests c) client (λ lc. idle.sent.requests) (λ c ne lc. m.only.requests c lc ne);
        grants = m.only.grants;
      }

  -- ---- the manager

  -- nothing is taken or appended, and the manager is as it was
  record IsStill (d : ManagerProgress) (deed : ManagerDeed) : Type 0 where
    pub after : progress_after (sync_lists_of scene) d deed ≡ d
    pub taken : (client : ℕ) → taken_of deed client ≡ None
    pub sent : (tile : ℕ) → sent_to deed tile ≡ []

  not_granted : (answer : ManagerMoved) (t : ℕ) → IsAtRest (ManagerMove answer) → answer ≡ manager_moved.Delivered t → ⊥
  not_granted answer t (inl a) e = let f : manager_moved.BlockedGrant a.0 ≡ manager_moved.Delivered t = sym a.1 ∙ e in cc
  not_granted answer t (inr (inl b)) e = cc
  not_granted answer t (inr (inr b)) e = cc

  no_rest_granted : (answer : ManagerMoved) → IsAtRest (ManagerMove answer) → answer ≡ manager_moved.Granted → ⊥
  no_rest_granted answer (inl a) e = let f : manager_moved.BlockedGrant a.0 ≡ manager_moved.Granted = sym a.1 ∙ e in cc
  no_rest_granted answer (inr (inl b)) e = cc
  no_rest_granted answer (inr (inr b)) e = cc

  no_rest_arrived : (answer : ManagerMoved) (c : ℕ) → IsAtRest (ManagerMove answer) → answer ≡ manager_moved.Arrived c → ⊥
  no_rest_arrived answer c (inl a) e = let f : manager_moved.BlockedGrant a.0 ≡ manager_moved.Arrived c = sym a.1 ∙ e in cc
  no_rest_arrived answer c (inr (inl b)) e = cc
  no_rest_arrived answer c (inr (inr b)) e = cc

  no_rest_drained : (answer : ManagerMoved) (c : ℕ) → IsAtRest (ManagerMove answer) → answer ≡ manager_moved.Drained c → ⊥
  no_rest_drained answer c (inl a) e = let f : manager_moved.BlockedGrant a.0 ≡ manager_moved.Drained c = sym a.1 ∙ e in cc
  no_rest_drained answer c (inr (inl b)) e = cc
  no_rest_drained answer c (inr (inr b)) e = cc

  answered : (r : Result ManagerMoved OutOfMemory) (a b : ManagerMoved) → r ≡ Ok a → r ≡ Ok b → b ≡ a
  answered r a b e f = cc

  is_still : (d : ManagerProgress) (deed : ManagerDeed) (answer : ManagerMoved) → IsAtRest (ManagerMove answer) → answer_of deed ≡ Ok answer → IsStill d deed
  is_still d (Delivers tile g) answer rest e = absurd (not_granted answer tile rest (answered (answer_of (Delivers tile g)) (manager_moved.Delivered tile) answer refl e))
  is_still d (FindsFull tile) answer rest e = record { after = refl; taken = λ client. refl; sent = λ tile. refl }
  is_still d (Grants entry) answer rest e = absurd (no_rest_granted answer rest (answered (answer_of (Grants entry)) manager_moved.Granted answer refl e))
  is_still d (Receives client r) answer rest e = absurd (no_rest_arrived answer client rest (answered (answer_of (Receives client r)) (manager_moved.Arrived client) answer refl e))
  is_still d (Loses client place op) answer rest e = absurd cc
  is_still d FindsNoRequest answer rest e = record { after = refl; taken = λ client. refl; sent = λ tile. refl }
  is_still d (Drops client r) answer rest e = absurd (no_rest_drained answer client rest (answered (answer_of (Drops client r)) (manager_moved.Drained client) answer refl e))
  is_still d FindsNoneLeft answer rest e = record { after = refl; taken = λ client. refl; sent = λ tile. refl }
  is_still d Finishes answer rest e = record { after = refl; taken = λ client. refl; sent = λ tile. refl }

  pub manager_rests : (seen : Lanes) (answer : ManagerMoved) → IsAtRest (ManagerMove answer) → IsManagerStepSeeing scene l depth w seen (Ok answer) v → IsSameWorld scene l w v
  manager_rests seen answer rest m =
      let s = is_still w.manager m.deed answer rest m.answered in
      record {
        left = λ c lc. ap (λ (k : Client). k.left) (m.only.clients c lc);
        tallies = λ c tile lc. ap (λ (k : Client). k.tallies tile) (m.only.clients c lc);
        short = λ c lc. ap (λ (k : Client). k.short) (m.only.clients c lc);
        manager = m.manager ∙ s.after;
        tiles = m.only.tiles;
        parcels = m.only.parcels;
        requests = λ c lc. subst (λ o. MatchOption o (v.requests c ≡ w.requests c) (λ r. w.requests c ≡ r ∷ v.requests c)) (s.taken c) (m.taken c lc);
        grants = λ tile lt. m.sent tile lt ∙ ap (λ gs. w.grants tile ++ gs) (s.sent tile) ∙ append-nil (w.grants tile);
      }

  -- ---- a tile

  entry_answers : (e : Entry) (answer : TileAnswer) → answer ≡ answer_to_entry e → (answer ≡ Blocked) ⊎ (answer ≡ Ended) → ⊥
  entry_answers (Meet barrier members) answer is (inl b) = cc
  entry_answers (Meet barrier members) answer is (inr b) = cc
  entry_answers Swap answer is (inl b) = cc
  entry_answers Swap answer is (inr b) = cc
  entry_answers (Give semaphore client) answer is (inl b) = cc
  entry_answers (Give semaphore client) answer is (inr b) = cc
  entry_answers (Take semaphore client) answer is (inl b) = cc
  entry_answers (Take semaphore client) answer is (inr b) = cc

  work_answers : (held : Bool) (client : ℕ) (answer : TileAnswer) → answer ≡ cond held (Dropped client) (Took client) → (answer ≡ Blocked) ⊎ (answer ≡ Ended) → ⊥
  work_answers true client answer is (inl b) = cc
  work_answers true client answer is (inr b) = cc
  work_answers false client answer is (inl b) = cc
  work_answers false client answer is (inr b) = cc

  wait_answers : (held : Bool) (client : ℕ) (answer : TileAnswer) → answer ≡ cond held (Dropped client) (Held client) → (answer ≡ Blocked) ⊎ (answer ≡ Ended) → ⊥
  wait_answers true client answer is (inl b) = cc
  wait_answers true client answer is (inr b) = cc
  wait_answers false client answer is (inl b) = cc
  wait_answers false client answer is (inr b) = cc

  act_answers : (held : Bool) (client : ℕ) (a : Act) (answer : TileAnswer) → answer ≡ answer_to_act held client a → (answer ≡ Blocked) ⊎ (answer ≡ Ended) → ⊥
  act_answers held client (act.Draw block) answer is rest = work_answers held client answer is rest
  act_answers held client (act.Clear mask) answer is rest = work_answers held client answer is rest
  act_answers held client (act.Shared part) answer is rest = work_answers held client answer is rest
  act_answers held client (act.Sync op) answer is rest = wait_answers held client answer is rest
  act_answers held client act.End answer is (inl b) = cc
  act_answers held client act.End answer is (inr b) = cc

  learnt_answers : (answer : TileAnswer) → answer ≡ Learnt → (answer ≡ Blocked) ⊎ (answer ≡ Ended) → ⊥
  learnt_answers answer is (inl b) = cc
  learnt_answers answer is (inr b) = cc

  -- the step has no item
  pub no_item : (p : Progress) (item : Item) (answer : TileAnswer) → IsTileAnswer p item answer → (answer ≡ Blocked) ⊎ (answer ≡ Ended) → item ≡ Nothing
  no_item p Nothing answer is rest = refl
  no_item p (Due e) answer is rest = absurd (entry_answers e answer is rest)
  no_item p (Granted e) answer is rest = absurd (learnt_answers answer is rest)
  no_item p NoMore answer is rest = absurd (learnt_answers answer is rest)
  no_item p (Sent client parcel) answer is rest = absurd (act_answers (p.held client) client parcel.act answer is rest)

  pub equal_tiles : (a b : Tile) → b.progress ≡ a.progress → b.next ≡ a.next → b.board ≡ a.board → b.parts ≡ a.parts → b.short ≡ a.short → b ≡ a
  equal_tiles a b progress next board parts short =
      ap (λ (p : Progress). record { progress = p; next = b.next; board = b.board; parts = b.parts; short = b.short }) progress
      ∙ ap (λ (n : ℕ). record { progress = a.progress; next = n; board = b.board; parts = b.parts; short = b.short }) next
      ∙ ap (λ (d : Board). record { progress = a.progress; next = a.next; board = d; parts = b.parts; short = b.short }) board
      ∙ ap (λ (xs : List Pixels). record { progress = a.progress; next = a.next; board = a.board; parts = xs; short = b.short }) parts
      ∙ ap (λ (y : Bool). record { progress = a.progress; next = a.next; board = a.board; parts = a.parts; short = y }) short

  same_tile : (tile : ℕ) (a b : Tile) → IsTileStep scene.decl l tile Nothing a b → b ≡ a
  same_tile tile a b s = equal_tiles a b s.progress s.next s.board s.parts s.still_ample

  pub tile_rests : (seen : Lanes) (tile : ℕ) (answer : TileAnswer) → IsAtRest (TileMove tile answer) → IsTileMoveSeeing scene l depth w seen tile answer v → IsSameWorld scene l w v
  tile_rests seen tile answer rest m =
      let none = no_item (w.tiles tile).progress m.item answer m.answered rest in
      let step = subst (λ i. IsTileStep scene.decl l tile i (w.tiles tile) (v.tiles tile)) none m.step in
      record {
        left = λ c lc. ap (λ (k : Client). k.left) (m.only.clients c lc);
        tallies = λ c t lc. ap (λ (k : Client). k.tallies t) (m.only.clients c lc);
        short = λ c lc. ap (λ (k : Client). k.short) (m.only.clients c lc);
        manager = m.only.manager;
        tiles = at_one_or_other (λ t. t < tile_count l → v.tiles t ≡ w.tiles t) tile (λ lt. same_tile tile (w.tiles tile) (v.tiles tile) step) (λ t ne lt. m.only.tiles t lt ne);
        parcels = λ c. at_one_or_other (λ t. c < client_total scene → t < tile_count l → v.parcels c t ≡ w.parcels c t) tile
            (λ lc lt. subst (λ i. MatchOption (parcel_taken i c) (v.parcels c tile ≡ w.parcels c tile) (λ p. w.parcels c tile ≡ p ∷ v.parcels c tile)) none (m.parcel c lc))
            (λ t ne lc lt. m.only.parcels c t lc lt ne);
        requests = m.only.requests;
        grants = at_one_or_other (λ t. t < tile_count l → v.grants t ≡ w.grants t) tile
            (λ lt. subst (λ i. MatchOption (grant_taken i) (v.grants tile ≡ w.grants tile) (λ g. w.grants tile ≡ g ∷ v.grants tile)) none m.grant)
            (λ t ne lt. m.only.grants t lt ne);
      }

pub rest_changes_nothing : RestChangesNothing
rest_changes_nothing scene l depth w v (ClientMove client answer) rest m = client_rests scene l depth w v (all_lanes w) client answer rest m.step
rest_changes_nothing scene l depth w v (ManagerMove answer) rest m = manager_rests scene l depth w v (all_lanes w) answer rest m.step
rest_changes_nothing scene l depth w v (TileMove tile answer) rest m = tile_rests scene l depth w v (all_lanes w) tile answer rest m.step

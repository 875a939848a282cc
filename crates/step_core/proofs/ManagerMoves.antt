-- A step of the manager's core over lanes that are seen as the model's is a turn of the manager.
use Rattle.std.proofs.Common.{◌≡◌, ℕ, ◌==◌, Bool, false, cond, List, [], ◌∷◌, ◌++◌, length, Some, None, Ok, Err, refl, ◌∙◌, subst, arith}
use Rattle.std.specs.Prelude.{IfOk, Result, Vec}
use Rattle.std.specs.Global.{Global}
use Rattle.rc_base.specs.Cluster.Lanes.{EachLane}
use Rattle.rc_base.specs.Cluster.PlainLanes.{held, depth_of}
use Rattle.rc_base.specs.Cluster.Tiles.{tile_count}
use Rattle.rc_base.specs.Orders.Sync.{sync_lists_of}
use Rattle.rc_base.specs.declared.cluster.ManagerMoved.{ManagerMoved}
use Rattle.rc_base.specs.declared.out_of_memory.OutOfMemory.{OutOfMemory}
use Rattle.rc_base.specs.declared.plain_lane.PlainLane.{PlainLane}
use Rattle.rc_base.specs.declared.scene.Scene.{Scene}
use Rattle.rc_base.specs.declared.sync.Grant.{Grant}
use Rattle.rc_base.specs.declared.sync.Request.{Request}
use Rattle.rc_base.specs.declared.sync.SyncLists.{SyncLists}
use Rattle.rc_base.specs.declared.window.Layout.{Layout}
use Rattle.sync_manager.specs.Cores.{IsManagerStep, AreTaken, AreFoundEmpty, AreSent, AreFoundFull}
use Rattle.sync_manager.specs.Progress.{ManagerProgress, answer_of, progress_after, taken_of, sent_to, IsFoundEmpty, IsFoundFull, IsNextDeed}
use Rattle.sync_manager.specs.declared.deed.ManagerDeed.{ManagerDeed}
use Rattle.sync_manager.specs.declared.deed.ManagerDeed.TheVariants.{Delivers, FindsFull, Grants, Receives, Loses, FindsNoRequest, Drops, FindsNoneLeft, Finishes}
use Rattle.sync_manager.specs.declared.manager.ManagerCore.{ManagerCore}
use Rattle.world_model.specs.Moves.{IsManagerStep as IsManagerModelStep}
use Rattle.world_model.specs.Turns.{AreAmple}
use Rattle.world_model.specs.Turns.Turn.{ManagerTurn}
use Rattle.world_model.specs.declared.moves.Move.{Move}
use Rattle.world_model.specs.declared.moves.Move.TheVariants.{Manager as ManagerMove}
use Rattle.world_model.specs.World.{client_total}
use Rattle.world_model.specs.World.{World as Model}
use Rattle.step_core.specs.Worlds.{AreShown, IsSeenAs}
use Rattle.step_core.specs.Steps.{IsTurned, TellsOf}
use Rattle.step_core.specs.declared.cluster.Cluster.{Cluster}
use Rattle.step_core.proofs.Lanes.{rest_of, not_itself, lanes_give, lanes_gave, lanes_empty, lanes_gain, lanes_full}
use Rattle.step_core.proofs.Fits.{view_fits}

off : {A : Type 0} (x : A) (b : Bool) → b ≡ false → cond b (Some x) None ≡ None
off x b e = rw e refl

-- where it finds a client's lane empty, it takes nothing of it
none_there : (syncs : SyncLists) (d : ManagerProgress) (deed : ManagerDeed) (i : ℕ) → IsFoundEmpty syncs d deed i → taken_of deed i ≡ None
none_there syncs d (Delivers tile g) i h = absurd h
none_there syncs d (FindsFull tile) i h = absurd h
none_there syncs d (Grants e) i h = absurd h
none_there syncs d (Receives client r) i h = off r (i == client) (not_itself d.next client i h.0)
none_there syncs d (Loses client place op) i h = off _ (i == client) (not_itself d.next client i h.0)
none_there syncs d FindsNoRequest i h = refl
none_there syncs d (Drops client r) i h = off r (i == client) (not_itself d.next client i h.0)
none_there syncs d FindsNoneLeft i h = refl
none_there syncs d Finishes i h = absurd h

-- and where it finds a tile's lane full, it appends nothing
none_sent : (deed : ManagerDeed) (i : ℕ) → IsFoundFull deed i → sent_to deed i ≡ []
none_sent (Delivers tile g) i h = absurd h
none_sent (FindsFull tile) i h = refl
none_sent (Grants e) i h = absurd h
none_sent (Receives client r) i h = absurd h
none_sent (Loses client place op) i h = absurd h
none_sent FindsNoRequest i h = absurd h
none_sent (Drops client r) i h = absurd h
none_sent FindsNoneLeft i h = absurd h
none_sent Finishes i h = absurd h

abbrev pub later_of : Scene → Model → ManagerDeed → Model
later_of scene w deed = record w {
  manager = progress_after (sync_lists_of scene) w.manager deed;
  requests = λ client. rest_of (taken_of deed client) (w.requests client);
  grants = λ tile. w.grants tile ++ sent_to deed tile;
}

-- what a step's contract says over plain lanes
pub record IsCoreStep (core later : ManagerCore) (deed : ManagerDeed) (requests requests' : List (PlainLane Request))
    (grants grants' : List (PlainLane Grant)) : Type 0 where
  pub request_depths : EachLane (λ i x y. ◌≡◌ {A = List ℕ} (depth_of y ∷ []) (depth_of x ∷ [])) requests requests'
  pub grant_depths : EachLane (λ i x y. ◌≡◌ {A = List ℕ} (depth_of y ∷ []) (depth_of x ∷ [])) grants grants'
  pub step : IsManagerStep core deed later
  pub taken : AreTaken (λ x r y. held x ≡ r ∷ held y) (λ x y. held y ≡ held x) deed requests requests'
  pub empty : AreFoundEmpty (λ x. x.empty_seen) (λ x. held x ≡ []) core deed requests requests'
  pub sent : AreSent held deed grants grants'
  pub full : AreFoundFull (λ x. x.full_seen) (λ x. length (held x) ≡ depth_of x) deed grants grants'

-- what the step answers
abbrev pub answer_in : Result ManagerMoved OutOfMemory → Result Move OutOfMemory
answer_in (Ok m) = Ok (ManagerMove m)
answer_in (Err error) = Err error

module _ (scene : Scene) (l : Layout) (depth : ℕ) (before : Cluster) (w : Model) (deed : ManagerDeed) (core : ManagerCore)
    (requests : Vec (PlainLane Request) Global) (grants : Vec (PlainLane Grant) Global) (v : IsSeenAs scene l depth before w)
    (s : IsCoreStep before.manager core deed before.requests.items requests.items before.grants.items grants.items) where
  abbrev after : Cluster
  after = record before { manager = core; requests = requests; grants = grants }

  view_after : IsSeenAs scene l depth after (later_of scene w deed)
  view_after = record {
    clients = v.clients;
    manager = record {
      clients = s.step.clients ∙ v.manager.clients;
      tiles = s.step.tiles ∙ v.manager.tiles;
      progress = s.step.after (sync_lists_of scene) w.manager v.manager.progress;
    };
    tiles = v.tiles;
    parcels = v.parcels;
    ports = v.ports;
    requests = lanes_give depth (client_total scene) w.requests before.requests.items requests.items v.requests s.request_depths (taken_of deed)
        s.taken;
    grants = lanes_gain depth (tile_count l) w.grants before.grants.items grants.items v.grants s.grant_depths (sent_to deed) s.sent;
    lists = v.lists;
  }

  manager_moves : (r : Result ManagerMoved OutOfMemory) → answer_of deed ≡ r → IsManagerModelStep scene l depth w r (later_of scene w deed)
  manager_moves r answered = record {
    deed = deed;
    answered = answered;
    next = subst (λ n. IsNextDeed (sync_lists_of scene) n w.manager deed) v.manager.tiles
        (s.step.first (sync_lists_of scene) w.manager v.manager.progress);
    manager = refl;
    taken = λ client low. lanes_gave depth (client_total scene) w.requests before.requests.items requests.items v.requests s.request_depths
        (taken_of deed) s.taken client low;
    empty = λ client low found. lanes_empty depth (client_total scene) w.requests before.requests.items requests.items v.requests s.request_depths
        (taken_of deed) s.taken client low
        (none_there (sync_lists_of scene) w.manager deed client found)
        (λ d. ((s.empty (sync_lists_of scene) w.manager v.manager.progress).at client d (let e = v.requests.count in omega arith) found).1);
    sent = λ tile lt. refl;
    full = λ tile lt found. lanes_full depth (tile_count l) w.grants before.grants.items grants.items v.grants s.grant_depths (sent_to deed) s.sent
        tile lt (none_sent deed tile found)
        (λ d. ((s.full.at tile d (let e = v.grants.count in omega arith)).0 found).1);
    only = record {
      clients = λ client low. refl;
      tiles = λ tile lt. refl;
      parcels = λ client tile low lt. refl;
    };
  }

  tells : (r : Result ManagerMoved OutOfMemory) → TellsOf (answer_in r) (ManagerTurn r)
  tells (Ok m) = refl
  tells (Err error) = λ rest. rest

  keeps : (o : Result Move OutOfMemory)
      → IfOk o (λ move. AreAmple scene l w → AreShown scene l w.tiles before.parts.items → AreShown scene l (later_of scene w deed).tiles after.parts.items)
  keeps (Ok move) = λ ample shown. shown
  keeps (Err error) = tt

  pub manager_steps : (r : Result ManagerMoved OutOfMemory) → answer_of deed ≡ r → IsTurned scene l depth (client_total scene) w (answer_in r) before after
  manager_steps r answered = record {
    turn = ManagerTurn r;
    later = later_of scene w deed;
    turned = record { step = manager_moves r answered; fit = view_fits scene l depth after (later_of scene w deed) view_after };
    actor = refl;
    tells = tells r;
    view = view_after;
    parts = keeps (answer_in r);
  }

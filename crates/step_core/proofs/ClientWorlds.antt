-- The cluster after a client's step is seen as the world after the client's turn.
use Rattle.std.proofs.Common.{◌≡◌, ℕ, ◌<◌, List, length, Ok, Err, refl, sym, ap, ◌∙◌, subst}
use Rattle.std.specs.Prelude.{slice_index_or, IfOk, Result, Vec}
use Rattle.std.specs.Global.{Global}
use Rattle.rc_base.specs.Cluster.Tiles.{tile_count}
use Rattle.rc_base.specs.declared.cluster.ClientMoved.{ClientMoved}
use Rattle.rc_base.specs.declared.out_of_memory.OutOfMemory.{OutOfMemory}
use Rattle.rc_base.specs.declared.plain_lane.PlainLane.{PlainLane}
use Rattle.rc_base.specs.declared.scene.Scene.{Scene}
use Rattle.rc_base.specs.declared.state.Parcel.{Parcel}
use Rattle.rc_base.specs.declared.sync.Request.{Request}
use Rattle.rc_base.specs.declared.window.Layout.{Layout}
use Rattle.client_issue.specs.Cores as client_issue
use Rattle.client_issue.specs.declared.client.ClientCore.{ClientCore}
use Rattle.world_model.specs.Turns.{AreAmple, IsStepOf}
use Rattle.world_model.specs.Turns.Turn.{ClientTurn}
use Rattle.world_model.specs.declared.moves.Move.{Move}
use Rattle.world_model.specs.declared.moves.Move.TheVariants.{Client as ClientMove}
use Rattle.world_model.specs.World.{Client, client_total}
use Rattle.world_model.specs.World.{World as Model}
use Rattle.scene_lemmas.proofs.Numbered.{with_here, with_other}
use Rattle.plain_lemmas.proofs.Numbers.{at_one_or_other}
use Rattle.step_core.specs.Changes.{IsClientStepped}
use Rattle.step_core.specs.Ports.{CanCarry, IsCarried, where_appended}
use Rattle.step_core.specs.Steps.{IsTurned, TellsOf}
use Rattle.step_core.specs.Worlds.{IsClientOf, IsSeenAs, IsLaneOf, IsPortRow, AreShown}
use Rattle.step_core.specs.declared.cluster.Cluster.{Cluster}
use Rattle.step_core.specs.declared.port.Port.{Port}
use Rattle.step_core.proofs.Carrying.{AreCarried, can_carry, are_carried}
use Rattle.step_core.proofs.ClientMoves.{IsCounted, Turns, counted, turns, later_of, moved_in}
use Rattle.step_core.proofs.Fits.{view_fits}
use Rattle.step_core.proofs.Lanes.{lanes_one}

-- what the step answers
abbrev pub answer_in : ℕ → Result ClientMoved OutOfMemory → Result Move OutOfMemory
answer_in number (Ok m) = Ok (ClientMove number m)
answer_in number (Err error) = Err error

module _ (scene : Scene) (l : Layout) (depth number : ℕ) (before : Cluster) (w : Model) (r : Result ClientMoved OutOfMemory) (clients : Vec ClientCore Global)
    (ports1 : List (Vec Port Global)) (requests : Vec (PlainLane Request) Global) (v : IsSeenAs scene l depth before w)
    (low : number < client_total scene)
    (s : IsClientStepped number r before.clients.items clients.items before.ports.items ports1 before.requests.items requests.items) where
  core_is : IsClientOf scene l number (w.clients number) s.core
  core_is = subst (λ (x : ClientCore). IsClientOf scene l number (w.clients number) x) (s.cores_changed.was s.core) (v.clients.at number s.core low)

  lane_is : IsLaneOf depth (w.requests number) s.lane
  lane_is = subst (λ (x : PlainLane Request). IsLaneOf depth (w.requests number) x) (s.lanes_changed.was s.lane) (v.requests.at number s.lane low)

  row_is : IsPortRow depth (tile_count l) (w.parcels number) s.row.items
  row_is = subst (λ (x : Vec Port Global). IsPortRow depth (tile_count l) (w.parcels number) x.items) (s.ports_changed.was s.row)
      (v.ports.at number s.row low)

  whose_after : client_issue.IsClientOf s.core' scene number l
  whose_after = record {
    decl = s.step.step.same.decl ∙ core_is.whose.decl;
    stream = s.step.step.same.stream ∙ core_is.whose.stream;
    layout = s.step.step.same.layout ∙ core_is.whose.layout;
  }

  done : Turns scene l depth number w s.core s.core' s.row.items s.row'.items s.lane s.lane' core_is row_is lane_is r
  done = turns scene l depth number w s.core s.core' s.row.items s.row'.items s.lane s.lane' core_is row_is lane_is s.deed r s.answered whose_after s.step

  row_count : length s.row'.items ≡ tile_count l
  row_count = s.step.same_ports.count ∙ row_is.count

  counts : (i : ℕ) (d : Port) → i < tile_count l → IsCounted depth (w.parcels number i) (slice_index_or s.row'.items i d)
  counts = counted scene l depth number w s.core s.core' s.row.items s.row'.items s.lane s.lane' core_is row_is lane_is s.step.same_ports s.step.lane_depth

  pub carries : where_appended (moved_in r) (λ t. CanCarry number t ports1 before.parcels.items) (Unit {0})
  carries = can_carry depth (client_total scene) (tile_count l) number w.parcels before.parcels.items before.ports.items ports1 s.row s.row' low
      v.parcels v.ports s.ports_changed row_count counts (moved_in r) done.own.parcels done.ports

  abbrev later : Model
  later = later_of w number done.own

  core_after : IsClientOf scene l number done.own.client s.core'
  core_after = subst (λ (x : Client). IsClientOf scene l number x s.core') (sym done.client) record {
    whose = whose_after;
    short = refl;
    left = refl;
    tallies = λ tile. refl;
  }

  client_turns : IsStepOf scene l depth w (ClientTurn number r) later
  client_turns = done.turn low record {
    clients = λ i lt ne. with_other w.clients number done.own.client i ne;
    manager = refl;
    tiles = λ tile lt. refl;
    parcels = λ i tile low lt ne. ap (λ (f : ℕ → List Parcel). f tile) (with_other w.parcels number done.own.parcels i ne);
    requests = λ i lt ne. with_other w.requests number done.own.requests i ne;
    grants = λ tile lt. refl;
  }

  module _ (ports : Vec (Vec Port Global) Global) (parcels : Vec (Vec (PlainLane Parcel) Global) Global)
      (k : where_appended (moved_in r) (λ t. IsCarried number t ports1 ports.items before.parcels.items parcels.items)
      ((ports.items ≡ ports1) × (parcels.items ≡ before.parcels.items))) where
    abbrev after : Cluster
    after = record before { clients = clients; ports = ports; parcels = parcels; requests = requests }

    all : AreCarried depth (client_total scene) (tile_count l) number w.parcels before.parcels.items before.ports.items ports1 s.row s.row' low
        v.parcels v.ports s.ports_changed row_count counts done.own.parcels parcels.items ports.items
    all = are_carried depth (client_total scene) (tile_count l) number w.parcels before.parcels.items before.ports.items ports1 s.row s.row' low
        v.parcels v.ports s.ports_changed row_count counts (moved_in r) done.own.parcels parcels.items ports.items done.ports k

    view_after : IsSeenAs scene l depth after later
    view_after = record {
      clients = record {
        count = s.cores_changed.count ∙ v.clients.count;
        at = at_one_or_other (λ i. (d : ClientCore) → i < client_total scene → IsClientOf scene l i (later.clients i) (slice_index_or clients.items i d)) number
            (λ d lt. subst (λ (x : Client). IsClientOf scene l number x (slice_index_or clients.items number d))
            (sym (with_here w.clients number done.own.client))
            (subst (λ (x : ClientCore). IsClientOf scene l number done.own.client x) (sym (s.cores_changed.is d)) core_after))
            (λ i ne d lt. subst (λ (x : Client). IsClientOf scene l i x (slice_index_or clients.items i d))
            (sym (with_other w.clients number done.own.client i ne))
            (subst (λ (x : ClientCore). IsClientOf scene l i (w.clients i) x) (sym (s.cores_changed.others i d ne)) (v.clients.at i d lt)));
      };
      manager = v.manager;
      tiles = v.tiles;
      parcels = all.rows_are;
      ports = all.ports_are;
      requests = lanes_one depth (client_total scene) number w.requests done.own.requests s.lane s.lane' before.requests.items
          requests.items v.requests s.lanes_changed done.requests;
      grants = v.grants;
      lists = v.lists;
    }

    tells : (r : Result ClientMoved OutOfMemory) → TellsOf (answer_in number r) (ClientTurn number r)
    tells (Ok m) = refl
    tells (Err error) = λ rest. rest

    keeps : (o : Result Move OutOfMemory) → IfOk o (λ move. AreAmple scene l w → AreShown scene l w.tiles before.parts.items → AreShown scene l later.tiles after.parts.items)
    keeps (Ok move) = λ ample shown. shown
    keeps (Err error) = tt

    pub client_steps : IsTurned scene l depth number w (answer_in number r) before after
    client_steps = record {
      turn = ClientTurn number r;
      later = later;
      turned = record { step = client_turns; fit = view_fits scene l depth after later view_after };
      actor = refl;
      tells = tells r;
      view = view_after;
      parts = keeps (answer_in number r);
    }

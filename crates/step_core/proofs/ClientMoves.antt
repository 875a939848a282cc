-- A step of a client's core over its ports, with what it appended carried to the tile's end, is a turn of the client, whether it is short, becomes so, or isn't.
use Rattle.std.proofs.Common.{◌≡◌, ◌≢◌, ℕ, ◌<◌, List, [], ◌∷◌, ◌++◌, length, Option, None, Some, Ok, Err, refl, sym, ap, ◌∙◌, subst, arith}
use Rattle.std.specs.Prelude.{option_to_list, slice_index_or, Result}
use Rattle.rc_base.specs.declared.out_of_memory.OutOfMemory.{OutOfMemory}
use Rattle.rc_base.specs.Cluster.Lanes.{EachLane}
use Rattle.rc_base.specs.Cluster.PlainLanes.{held, depth_of}
use Rattle.rc_base.specs.Cluster.Sending.{ToTile, ToManager}
use Rattle.rc_base.specs.Cluster.Tiles.{tile_count}
use Rattle.rc_base.specs.declared.cluster.ClientMoved.{ClientMoved}
use Rattle.rc_base.specs.declared.cluster.ClientMoved.TheVariants as moved
use Rattle.rc_base.specs.declared.plain_lane.PlainLane.{PlainLane}
use Rattle.rc_base.specs.declared.scene.Scene.{Scene}
use Rattle.rc_base.specs.declared.state.Parcel.{Parcel}
use Rattle.rc_base.specs.declared.sync.Request.{Request}
use Rattle.rc_base.specs.declared.window.Layout.{Layout}
use Rattle.client_issue.specs.Cores.{left_in, layout_of, short_of, tally_of_tile, tally_after}
use Rattle.client_issue.specs.Cores as client_issue
use Rattle.client_issue.specs.Deeds.{ClientDeed, answer_of}
use Rattle.client_issue.specs.Deeds.ClientDeed.{Appends, Requests, FindsTileFull, FindsManagerFull, Finishes, Loses}
use Rattle.client_issue.specs.Steps.{HasGot, IsFoundFull, IsLaneAlone, ComesNext}
use Rattle.client_issue.specs.declared.client.ClientCore.{ClientCore}
use Rattle.tile_model.specs.Items.{with_at}
use Rattle.world_model.specs.Moves.{IsClientStep, IsIdle, OnlyClient}
use Rattle.world_model.specs.Turns.{IsStepOf}
use Rattle.world_model.specs.Turns.Turn.{ClientTurn}
use Rattle.world_model.specs.World.{Client, client_total}
use Rattle.world_model.specs.World.{World as Model}
use Rattle.client_issue.proofs.Tallies.{looks_are}
use Rattle.scene_lemmas.proofs.Numbered.{with_here, with_other}
use Rattle.rc_base.proofs.Paired.{some_item}
use Rattle.plain_lemmas.proofs.Numbers.{at_one_or_other}
use Rattle.step_core.specs.Changes.{IsClientCoreStep, IsSameDepth}
use Rattle.step_core.specs.Ports.{waiting, HasNoRoom, IsSamePort, where_appended}
use Rattle.step_core.specs.Worlds.{IsClientOf, IsLaneOf, IsPortRow}
use Rattle.step_core.specs.declared.port.Port.{Port}
use Rattle.step_core.proofs.Lanes.{lane_full, lane_so}

-- ---- what a client and its lanes are after a step

-- the client, what its lanes to the tiles hold, and what its lane to the manager holds
pub record Own : Type 0 where
  pub client : Client
  pub parcels : ℕ → List Parcel
  pub requests : List Request

abbrev pub later_of : Model → ℕ → Own → Model
later_of w number own = record w {
  clients = with_at w.clients number own.client;
  parcels = with_at w.parcels number own.parcels;
  requests = with_at w.requests number own.requests;
}

abbrev pub seen : ClientCore → Client
seen core = record { left = left_in core; tallies = tally_of_tile core; short = short_of core }

none_waits : {T : Type 0} (o : Option T) → option_to_list o ≡ [] → o ≡ None
none_waits None e = refl
none_waits (Some x) e = absurd cc

one_waits : {T : Type 0} (o : Option T) (x : T) → option_to_list o ≡ x ∷ [] → o ≡ Some x
one_waits None x e = absurd cc
one_waits (Some y) x e = cc

nothing_waits : {T : Type 0} (o : Option T) → o ≡ None → option_to_list o ≡ []
nothing_waits None e = refl
nothing_waits (Some x) e = absurd cc

first_same : (a b c d : ℕ) → ◌≡◌ {A = List ℕ} (a ∷ b ∷ []) (c ∷ d ∷ []) → a ≡ c
first_same a b c d e = cc

second_same : (a b c d : ℕ) → ◌≡◌ {A = List ℕ} (a ∷ b ∷ []) (c ∷ d ∷ []) → b ≡ d
second_same a b c d e = cc

-- what is appended in a step in which memory lacks is what is appended where nothing is left: nothing
abbrev pub moved_in : Result ClientMoved OutOfMemory → ClientMoved
moved_in (Ok m) = m
moved_in (Err error) = moved.Ended

-- as many items stand at the tile, and at most so many may
pub record IsCounted (depth : ℕ) (items : List Parcel) (port : Port) : Type 0 where
  pub count : port.count ≡ length items
  pub most : port.depth ≡ depth

-- the port of the tile has the parcel that its lane is to hold behind these items, and the other ports have nothing
pub record HasAppended (tiles : ℕ) (items now : ℕ → List Parcel) (row : List Port) (t : ℕ) : Type 0 where
  pub low_tile : t < tiles
  pub parcel : Parcel
  pub now_is : now ≡ with_at items t (items t ++ parcel ∷ [])
  pub here : (d : Port) → (slice_index_or row t d).sent ≡ Some parcel
  pub others : (i : ℕ) (d : Port) → i < tiles → i ≢ t → (slice_index_or row i d).sent ≡ None

-- no port has anything
pub record HasNotAppended (tiles : ℕ) (items now : ℕ → List Parcel) (row : List Port) : Type 0 where
  pub now_is : now ≡ items
  pub none : (i : ℕ) (d : Port) → i < tiles → (slice_index_or row i d).sent ≡ None

module _ (scene : Scene) (l : Layout) (depth number : ℕ) (w : Model) (core core' : ClientCore) (row row' : List Port)
    (lane lane' : PlainLane Request)
    (c : IsClientOf scene l number (w.clients number) core) (h : IsPortRow depth (tile_count l) (w.parcels number) row)
    (k : IsLaneOf depth (w.requests number) lane) where
  low : (i : ℕ) → i < tile_count l → i < length row
  low i lt = let e = h.count in omega arith

  client_now : (own : Own) → own.client ≡ seen core' → ((later_of w number own).clients number).left ≡ left_in core'
  client_now own e = ap (λ (x : Client). x.left) (with_here w.clients number own.client ∙ e)

  tallies_now : (own : Own) → own.client ≡ seen core' → (tile : ℕ) → ((later_of w number own).clients number).tallies tile ≡ tally_of_tile core' tile
  tallies_now own e tile = ap (λ (x : Client). x.tallies tile) (with_here w.clients number own.client ∙ e)

  same_tallies : (own : Own) → own.client ≡ seen core' → client_issue.AreSameTallies core core' → (tile : ℕ)
      → ((later_of w number own).clients number).tallies tile ≡ (w.clients number).tallies tile
  same_tallies own e same tile = tallies_now own e tile ∙ same tile ∙ c.tallies tile

  -- nothing is sent, and the lanes hold what they held
  idle : (own : Own) → own ≡ record { client = seen core'; parcels = w.parcels number; requests = w.requests number } → left_in core' ≡ left_in core
      → client_issue.AreSameTallies core core' → IsIdle w number (later_of w number own)
  idle own e left same = record {
    sent = record {
      left = client_now own (ap (λ (o : Own). o.client) e) ∙ left ∙ c.left;
      parcels = λ tile. ap (λ (f : ℕ → List Parcel). f tile) (with_here w.parcels number own.parcels ∙ ap (λ (o : Own). o.parcels) e);
      requests = with_here w.requests number own.requests ∙ ap (λ (o : Own). o.requests) e;
    };
    tallies = same_tallies own (ap (λ (o : Own). o.client) e) same;
  }

  -- what an answer leaves of the client and its lanes is a step of the model
  pub record Does (m : ClientMoved) : Type 0 where
    pub own : Own
    pub client : own.client ≡ seen core'
    pub requests : IsLaneOf depth own.requests lane'
    pub ports : where_appended m (HasAppended (tile_count l) (w.parcels number) own.parcels row') (HasNotAppended (tile_count l) (w.parcels number) own.parcels row')
    pub step : IsClientStep scene l depth w number m (later_of w number own)

  module _ (s : EachLane (λ i x y. IsSamePort x y) row row') (lane_depth : IsSameDepth lane lane') where
    pub counted : (i : ℕ) (d : Port) → i < tile_count l → IsCounted depth (w.parcels number i) (slice_index_or row' i d)
    counted i d lt =
        let e = s.at i d (low i lt) in
        let was = h.at i d lt in
        record { count = second_same _ _ _ _ e ∙ was.count; most = first_same _ _ _ _ e ∙ was.most }

    same_lane : lane' ≡ lane → IsLaneOf depth (w.requests number) lane'
    same_lane e = subst (λ (x : PlainLane Request). IsLaneOf depth (w.requests number) x) (sym e) k

    none_sent : row' ≡ row → (i : ℕ) (d : Port) → i < tile_count l → (slice_index_or row' i d).sent ≡ None
    none_sent e i d lt = ap (λ (xs : List Port). (slice_index_or xs i d).sent) e ∙ (h.at i d lt).empty

    others_empty : (t : ℕ) → EachLane (λ i x y. i ≢ t → y ≡ x) row row' → (i : ℕ) (d : Port) → i < tile_count l → i ≢ t
        → (slice_index_or row' i d).sent ≡ None
    others_empty t o i d lt ne = ap (λ (x : Port). x.sent) (o.at i d (low i lt) ne) ∙ (h.at i d lt).empty

    was_empty : (t : ℕ) (d : Port) → t < tile_count l → waiting (slice_index_or row t d) ≡ []
    was_empty t d lt = nothing_waits (slice_index_or row t d).sent (h.at t d lt).empty

    low_tile : (t : ℕ) → t < tile_count (layout_of core) → t < tile_count l
    low_tile t lt = subst (λ (x : Layout). t < tile_count x) c.whose.layout lt

    appends : (t : ℕ) (p : Parcel) → t < tile_count (layout_of core) → left_in core ≡ ToTile t p ∷ left_in core' → client_issue.IsTallied core core' t p
        → IsLaneAlone t (HasGot waiting (λ x. x.full_seen) HasNoRoom p) row row' → lane' ≡ lane → Does (moved.Appended t)
    appends t p lt next tallied sent same =
        let lt : t < tile_count l = low_tile t lt in
        let own : Own = record {
          client = seen core';
          parcels = with_at (w.parcels number) t (w.parcels number t ++ p ∷ []);
          requests = w.requests number;
        } in
        record {
          own = own;
          client = refl;
          requests = same_lane same;
          ports = record {
            low_tile = lt;
            parcel = p;
            now_is = refl;
            here = λ d. one_waits (slice_index_or row' t d).sent p
                ((sent.here.at t d (low t lt) refl).appended ∙ ap (λ (xs : List Parcel). xs ++ p ∷ []) (was_empty t d lt));
            others = others_empty t sent.others;
          };
          step = record {
            low = lt;
            sent = record {
              parcel = p;
              next = sym c.left ∙ next ∙ ap (λ xs. ToTile t p ∷ xs) (sym (client_now own refl));
              appended = ap (λ (f : ℕ → List Parcel). f t) (with_here w.parcels number own.parcels) ∙ with_here (w.parcels number) t _;
              others = λ other ne. ap (λ (f : ℕ → List Parcel). f other) (with_here w.parcels number own.parcels)
                  ∙ with_other (w.parcels number) t _ other ne;
              requests = with_here w.requests number own.requests;
            };
            tallied = tallies_now own refl t ∙ tallied.counted ∙ (λ i. tally_after (c.tallies t i) p (looks_are core scene number l c.whose t p i));
            others = λ other ne. tallies_now own refl other ∙ tallied.others other ne ∙ c.tallies other;
          };
        }

    requests : (r : Request) → left_in core ≡ ToManager r ∷ left_in core' → client_issue.AreSameTallies core core' → row' ≡ row
        → HasGot held (λ x. x.full_seen) (λ x. length (held x) ≡ depth_of x) r lane lane' → Does moved.Requested
    requests r next tallies same got =
        let own : Own = record { client = seen core'; parcels = w.parcels number; requests = w.requests number ++ r ∷ [] } in
        record {
          own = own;
          client = refl;
          requests = lane_so depth (w.requests number) own.requests lane lane' k lane_depth (got.appended ∙ ap (λ xs. xs ++ r ∷ []) k.holds);
          ports = record { now_is = refl; none = none_sent same };
          step = record {
            sent = record {
              request = r;
              next = sym c.left ∙ next ∙ ap (λ xs. ToManager r ∷ xs) (sym (client_now own refl));
              parcels = λ tile. ap (λ (f : ℕ → List Parcel). f tile) (with_here w.parcels number own.parcels);
              appended = with_here w.requests number own.requests;
            };
            tallies = same_tallies own refl tallies;
          };
        }

    blocked_tile : (t : ℕ) (p : Parcel) → t < tile_count (layout_of core) → ComesNext (ToTile t p) core → left_in core' ≡ left_in core
        → client_issue.AreSameTallies core core'
        → IsLaneAlone t (IsFoundFull waiting (λ x. x.full_seen) HasNoRoom) row row' → lane' ≡ lane → Does (moved.BlockedTile t)
    blocked_tile t p lt comes left tallies sent same =
        let lt : t < tile_count l = low_tile t lt in
        let still : (d : Port) → (slice_index_or row' t d).sent ≡ None =
        λ d. none_waits (slice_index_or row' t d).sent ((sent.here.at t d (low t lt) refl).same ∙ was_empty t d lt) in
        let d = some_item row t (low t lt) in
        let now = counted t d lt in
        record {
          own = record { client = seen core'; parcels = w.parcels number; requests = w.requests number };
          client = refl;
          requests = same_lane same;
          ports = record {
            now_is = refl;
            none = λ i e li. at_one_or_other (λ j. (d : Port) → j < tile_count l → (slice_index_or row' j d).sent ≡ None) t (λ d ly. still d)
                (λ j ne d lj. others_empty t sent.others j d lj ne) i e li;
          };
          step = record {
            low = lt;
            parcel = p;
            rest = comes.rest;
            next = sym c.left ∙ comes.next;
            full = sym now.count ∙ (sent.here.at t d (low t lt) refl).full_is (still d) ∙ now.most;
            idle = idle _ refl left tallies;
          };
        }

    blocked_request : (r : Request) → ComesNext (ToManager r) core → left_in core' ≡ left_in core → client_issue.AreSameTallies core core'
        → row' ≡ row → IsFoundFull held (λ x. x.full_seen) (λ x. length (held x) ≡ depth_of x) lane lane' → Does moved.BlockedRequest
    blocked_request r comes left tallies same found =
        let now : IsLaneOf depth (w.requests number) lane' = lane_so depth (w.requests number) (w.requests number) lane lane' k lane_depth
        (found.same ∙ k.holds) in
        record {
          own = record { client = seen core'; parcels = w.parcels number; requests = w.requests number };
          client = refl;
          requests = now;
          ports = record { now_is = refl; none = none_sent same };
          step = record {
            request = r;
            rest = comes.rest;
            next = sym c.left ∙ comes.next;
            full = lane_full depth (w.requests number) lane' now found.full_is;
            idle = idle _ refl left tallies;
          };
        }

    ends : left_in core ≡ [] → left_in core' ≡ [] → client_issue.AreSameTallies core core' → row' ≡ row → lane' ≡ lane → Does moved.Ended
    ends nothing still tallies same_row same = record {
      own = record { client = seen core'; parcels = w.parcels number; requests = w.requests number };
      client = refl;
      requests = same_lane same;
      ports = record { now_is = refl; none = none_sent same_row };
      step = (sym c.left ∙ nothing, idle _ refl (still ∙ sym nothing) tallies);
    }

  -- ---- answered or not

  short_now : (own : Own) → own.client ≡ seen core' → ((later_of w number own).clients number).short ≡ short_of core'
  short_now own e = ap (λ (x : Client). x.short) (with_here w.clients number own.client ∙ e)

  -- what a step leaves of the client and its lanes is a turn of the model, where nothing else is changed
  pub record Turns (r : Result ClientMoved OutOfMemory) : Type 0 where
    pub own : Own
    pub client : own.client ≡ seen core'
    pub requests : IsLaneOf depth own.requests lane'
    pub ports : where_appended (moved_in r) (HasAppended (tile_count l) (w.parcels number) own.parcels row')
        (HasNotAppended (tile_count l) (w.parcels number) own.parcels row')
    pub turn : number < client_total scene → OnlyClient scene l w number (later_of w number own)
        → IsStepOf scene l depth w (ClientTurn number r) (later_of w number own)

  answered : (m : ClientMoved) → short_of core' ≡ short_of core → Does m → Turns (Ok m)
  answered m still d = record {
    own = d.own;
    client = d.client;
    requests = d.requests;
    ports = d.ports;
    turn = λ low only. record { low = low; step = d.step; short = short_now d.own d.client ∙ still ∙ c.short; only = only };
  }

  -- memory lacks, and nothing is sent
  loses : (whose : client_issue.IsClientOf core' scene number l) → IsClientCoreStep Loses core core' row row' lane lane' → Turns (Err (record {}))
  loses whose s =
      let own : Own = record { client = seen core'; parcels = w.parcels number; requests = w.requests number } in
      let left = s.step.next.ends scene number l whose in
      record {
        own = own;
        client = refl;
        requests = same_lane s.same_ports s.lane_depth s.requested;
        ports = record { now_is = refl; none = none_sent s.same_ports s.lane_depth s.sent };
        turn = λ low only. record {
          low = low;
          ample = sym c.short ∙ (s.step.ample refl).ample;
          short = short_now own refl ∙ s.step.short;
          dropped = s.step.next.dropped;
          before = sym c.left ∙ s.step.next.left ∙ ap (λ xs. s.step.next.dropped ++ xs) left;
          left = client_now own refl ∙ left;
          parcels = λ tile lt. ap (λ (f : ℕ → List Parcel). f tile) (with_here w.parcels number own.parcels);
          requests = with_here w.requests number own.requests;
          only = only;
        };
      }

  turns_by : (deed : ClientDeed) → client_issue.IsClientOf core' scene number l → IsClientCoreStep deed core core' row row' lane lane' → Turns (answer_of deed)
  turns_by (Appends t p) whose s =
      answered (moved.Appended t) s.step.short (appends s.same_ports s.lane_depth t p s.step.next.0 s.step.next.1 s.step.tallied s.sent s.requested)
  turns_by (Requests r) whose s = answered moved.Requested s.step.short (requests s.same_ports s.lane_depth r s.step.next s.step.tallied s.sent s.requested)
  turns_by (FindsTileFull t p) whose s = answered (moved.BlockedTile t) s.step.short
      (blocked_tile s.same_ports s.lane_depth t p s.step.next.0 s.step.next.1 s.step.next.2 s.step.tallied s.sent s.requested)
  turns_by (FindsManagerFull r) whose s = answered moved.BlockedRequest s.step.short
      (blocked_request s.same_ports s.lane_depth r s.step.next.0 s.step.next.1 s.step.tallied s.sent s.requested)
  turns_by Finishes whose s = answered moved.Ended s.step.short (ends s.same_ports s.lane_depth s.step.next.0 s.step.next.1 s.step.tallied s.sent s.requested)
  turns_by Loses whose s = loses whose s

  pub turns : (deed : ClientDeed) (r : Result ClientMoved OutOfMemory) → answer_of deed ≡ r → client_issue.IsClientOf core' scene number l
      → IsClientCoreStep deed core core' row row' lane lane' → Turns r
  turns deed r e whose s = subst Turns e (turns_by deed whose s)

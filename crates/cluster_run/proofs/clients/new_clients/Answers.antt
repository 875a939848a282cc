use Rattle.std.proofs.Common.{◌≡◌, List, [], ◌∷◌, ◌++◌, length, ◌+◌, refl, sym, ap, ◌∙◌, subst, append-nil, length-append, arith}
use Rattle.std.proofs.lemmas.Grind.{common_steps}
use Rattle.std.specs.Prelude.{Vec}
use Rattle.std.specs.Global.{Global}
use Rattle.std.specs.Vec.Iter.{into_iter_items}
use Rattle.rc_base.proofs.Paired.{goes_on, is_next, next_within}
use Rattle.rc_base.specs.Contexts.Issue.{stream_of}
use Rattle.rc_base.specs.declared.state.Parcel.{Parcel}
use Rattle.rc_base.specs.declared.sync.Request.{Request}
use Rattle.tile_queues.specs.Grids.{IsFresh}
use Rattle.tile_queues.specs.declared.ends.LaneIn.{LaneIn}
use Rattle.tile_queues.specs.declared.ends.LaneOut.{LaneOut}
use Rattle.cluster_run.specs.NewWorkers.{IsNewClient, AreNewClients}
use Rattle.cluster_run.specs.declared.workers.ClientWorker.{ClientWorker}
use Rattle.cluster_run.proofs.NewClients.{no_clients, one_more_client}
use Rattle.cluster_run.proofs.clients.new_clients.Goals as goal
use Rattle.cluster_run.proofs.clients.new_clients.Goals.{In-Some-next}

pub loop-tiles-init : goal.loop-tiles-init
loop-tiles-init g c = record {
  whole = sym c.into_iter-tiles-iterator.ensures.into_iter_gives.0;
  given = [];
  count = refl;
  streams_are = sym c.into_parts-decl.ensures.streams ∙ sym c.into_vec.ensures ∙ sym c.into_iter-streams.ensures.rest;
  made = subst (λ (both : List (ClientWorker g.row.R.Denot) × List (LaneOut Request g.row.R.Denot)). AreNewClients c.args.scene c.args.layout.now c.args.depth [] both.0 both.1)
      (λ i. (sym c.new-workers.ensures.items i, sym c.new-requests.ensures.items i)) (no_clients c.args.scene c.args.layout.now c.args.depth);
}

-- the stream that is taken is the client's
taken : (g : _) (c : In-Some-next g) → c.in-Some-next.stream ≡ stream_of c.args.scene (length c.loop-tiles.invariant.given)
taken g c =
    let was = c.loop-tiles.invariant in
    sym (is_next c.args.scene.streams was.given (into_iter_items c.loop-tiles.streams) (into_iter_items c.next-in-loop-tiles.new.self) c.in-Some-next.stream [] was.streams_are
    c.in-Some-next.ensures.cases.0)

pub new_client-requires-clause-within : goal.new_client-requires-clause-within
new_client-requires-clause-within g c = record {
  scene = c.args.scene;
  client = length c.loop-tiles.invariant.given;
  depth = c.requires.layout.0;
  is_stream = record { decl_is = c.into_parts-decl.ensures.decl; stream_is = taken g (goal.at.new_client-requires-clause-within g c).In-Some-next };
  within = c.requires.within;
  fits = c.requires.layout.1;
}

pub new_client-requires-clause-lanes : goal.new_client-requires-clause-lanes
new_client-requires-clause-lanes g c =
    let was = c.loop-tiles.invariant in
    let rows = c.args.rows.items in
    let done = c.loop-tiles.yielded in
    let rest = into_iter_items c.loop-tiles.tiles-iterator in
    let more = into_iter_items c.next.new.self in
    let ends = c.in-Some.tiles in
    ap (λ (v : Vec (LaneIn Parcel g.row.R.Denot) Global). length v.items) (sym (is_next rows done rest more ends ends was.whole c.in-Some.ensures.steps.0))
    ∙ c.requires.lanes (length done) ends (next_within rows done rest more ends was.whole c.in-Some.ensures.steps.0)

pub loop-tiles-preserved : goal.loop-tiles-preserved
loop-tiles-preserved g c =
    let was = c.loop-tiles.invariant in
    let scene = c.args.scene in
    let done = c.loop-tiles.yielded in
    let workers = c.loop-tiles.workers in
    let ends = c.in-Some.tiles in
    let stream = c.in-Some-next.stream in
    let lane = c.in_ok-sender.ensures in
    let worker = c.in_ok-worker.worker in
    let number : c.len-number.result ≡ length workers.items = c.len-number.ensures ∙ workers.ok.0 in
    let place : length was.given ≡ c.len-number.result = was.count ∙ sym was.made.workers_are.count ∙ sym number in
    let is_stream = subst (λ n. stream ≡ stream_of scene n) place (taken g (goal.at.loop-tiles-preserved g c).In-Some-next) in
    record {
      whole = goes_on c.args.rows.items done (into_iter_items c.loop-tiles.tiles-iterator) (into_iter_items c.next.new.self) ends was.whole c.in-Some.ensures.steps.0;
      given = was.given ++ stream ∷ [];
      count = length-append was.given (stream ∷ []) ∙ ap (λ n. n + 1) was.count ∙ sym (length-append done (ends ∷ []));
      streams_are = goes_on scene.streams was.given (into_iter_items c.loop-tiles.streams) (into_iter_items c.next-in-loop-tiles.new.self) stream was.streams_are
          c.in-Some-next.ensures.cases.0;
      made = subst (λ (both : List (ClientWorker g.row.R.Denot) × List (LaneOut Request g.row.R.Denot)). AreNewClients scene c.args.layout.now c.args.depth (done ++ ends ∷ []) both.0 both.1)
          (λ i. (sym c.in_ok-push.ensures.items i, sym c.in_ok-push-2.ensures.items i))
          (one_more_client scene c.args.layout.now c.args.depth done workers.items c.loop-tiles.requests.items ends worker c.in_ok-sender.receiver was.made
          (subst (λ n. IsNewClient scene c.args.layout.now n ends worker) number
          (c.in_ok-worker.ensures.new scene (record { decl_is = c.into_parts-decl.ensures.decl; stream_is = is_stream })))
          (subst (λ (a : LaneIn Request g.row.R.Denot). IsFresh c.args.depth a c.in_ok-sender.receiver) (sym c.in_ok-worker.ensures.requests)
          (record { lane = lane.pair; deep = lane.depth; unsent = lane.empty.0; untaken = lane.empty.1 })));
    }

pub returns-clause-new : goal.returns-clause-new
returns-clause-new g c =
    let was = c.loop-tiles.invariant in
    let done = c.loop-tiles.yielded in
    let none : into_iter_items c.loop-tiles.tiles-iterator ≡ [] = let s = c.in-None.ensures.steps in grind (arith, common_steps) in
    let all : done ≡ c.args.rows.items = sym (was.whole ∙ ap (λ rest. done ++ rest) none ∙ append-nil done) in
    subst (λ (ends : List (Vec (LaneIn Parcel g.row.R.Denot) Global)). AreNewClients c.args.scene c.args.layout.now c.args.depth ends c.loop-tiles.workers.items
    c.loop-tiles.requests.items) all was.made

use Rattle.std.proofs.Common.{◌≡◌, ℕ, List, [], ◌∷◌, ◌++◌, length, sym, ap, ◌∙◌, subst, append-nil, arith}
use Rattle.std.proofs.lemmas.Grind.{common_steps}
use Rattle.std.specs.Prelude.{Vec}
use Rattle.std.specs.Global.{Global}
use Rattle.std.specs.Vec.Iter.{into_iter_items}
use Rattle.rc_base.proofs.Paired.{goes_on, is_next, next_within}
use Rattle.rc_base.specs.declared.cluster.TilePart.{TilePart}
use Rattle.rc_base.specs.declared.scene.Scene.{Scene}
use Rattle.rc_base.specs.declared.state.Parcel.{Parcel}
use Rattle.rc_base.specs.declared.sync.Grant.{Grant}
use Rattle.rc_base.specs.declared.window.Layout.{Layout}
use Rattle.tile_queues.specs.Grids.{IsFresh}
use Rattle.tile_queues.specs.declared.ends.LaneIn.{LaneIn}
use Rattle.tile_queues.specs.declared.ends.LaneOut.{LaneOut}
use Rattle.cluster_run.specs.NewWorkers.{IsNewTile, AreNewTiles}
use Rattle.cluster_run.specs.declared.workers.TileWorker.{TileWorker}
use Rattle.cluster_run.proofs.NewTiles.{no_tiles, one_more_tile}
use Rattle.cluster_run.proofs.tiles.new_tiles.Goals as goal

-- the workers and the other ends of these ends
abbrev Made : {R : Type 0} → Scene → Layout → ℕ → List (Vec (LaneOut Parcel R) Global) → List (TileWorker R) × List (LaneIn Grant R) × List (LaneOut TilePart R) → Type 0
Made scene l depth ends all = AreNewTiles scene l depth ends all.0 all.1 all.2

pub loop-clients-init : goal.loop-clients-init
loop-clients-init g c = record {
  whole = sym c.into_iter-clients-iterator.ensures.into_iter_gives.0;
  made = subst (Made c.args.scene.now c.args.layout.now c.args.depth [])
      (λ i. (sym c.new-workers.ensures.items i, sym c.new-grants.ensures.items i, sym c.new-parts.ensures.items i))
      (no_tiles c.args.scene.now c.args.layout.now c.args.depth);
}

pub new_tile-requires-clause-lanes : goal.new_tile-requires-clause-lanes
new_tile-requires-clause-lanes g c =
    let was = c.loop-clients.invariant in
    let columns = c.args.columns.items in
    let done = c.loop-clients.yielded in
    let rest = into_iter_items c.loop-clients.clients-iterator in
    let more = into_iter_items c.next.new.self in
    let ends = c.in-Some.clients in
    ap (λ (v : Vec (LaneOut Parcel g.row.R.Denot) Global). length v.items) (sym (is_next columns done rest more ends ends was.whole c.in-Some.ensures.steps.0))
    ∙ c.requires.lanes (length done) ends (next_within columns done rest more ends was.whole c.in-Some.ensures.steps.0)

pub loop-clients-preserved : goal.loop-clients-preserved
loop-clients-preserved g c =
    let was = c.loop-clients.invariant in
    let scene = c.args.scene.now in
    let l = c.args.layout.now in
    let done = c.loop-clients.yielded in
    let workers = c.loop-clients.workers in
    let ends = c.in-Some.clients in
    let worker = c.in_ok-worker.worker in
    let heard = c.in_ok-sender.ensures in
    let shown = c.in_ok-showing.ensures in
    let number : c.len-number.result ≡ length workers.items = c.len-number.ensures ∙ workers.ok.0 in
    record {
      whole = goes_on c.args.columns.items done (into_iter_items c.loop-clients.clients-iterator) (into_iter_items c.next.new.self) ends was.whole
          c.in-Some.ensures.steps.0;
      made = subst (Made scene l c.args.depth (done ++ ends ∷ []))
          (λ i. (sym c.in_ok-push.ensures.items i, sym c.in_ok-push-2.ensures.items i, sym c.in_ok-push-3.ensures.items i))
          (one_more_tile scene l c.args.depth done workers.items c.loop-clients.grants.items c.loop-clients.parts.items ends worker
          c.in_ok-sender.sender c.in_ok-showing.receiver was.made
          (subst (λ n. IsNewTile scene l n ends worker) number c.in_ok-worker.ensures.new)
          (subst (λ (b : LaneOut Grant g.row.R.Denot). IsFresh c.args.depth c.in_ok-sender.sender b) (sym c.in_ok-worker.ensures.grants)
          (record { lane = heard.pair; deep = heard.depth; unsent = heard.empty.0; untaken = heard.empty.1 }))
          (subst (λ (a : LaneIn TilePart g.row.R.Denot). IsFresh c.args.depth a c.in_ok-showing.receiver) (sym c.in_ok-worker.ensures.parts)
          (record { lane = shown.pair; deep = shown.depth; unsent = shown.empty.0; untaken = shown.empty.1 })));
    }

pub returns : goal.returns
returns g c =
    let was = c.loop-clients.invariant in
    let done = c.loop-clients.yielded in
    let none : into_iter_items c.loop-clients.clients-iterator ≡ [] = let s = c.in-None.ensures.steps in grind (arith, common_steps) in
    let all : done ≡ c.args.columns.items = sym (was.whole ∙ ap (λ rest. done ++ rest) none ∙ append-nil done) in
    subst (λ (ends : List (Vec (LaneOut Parcel g.row.R.Denot) Global)).
    Made c.args.scene.now c.args.layout.now c.args.depth ends (c.loop-clients.workers.items, c.loop-clients.grants.items, c.loop-clients.parts.items))
    all was.made

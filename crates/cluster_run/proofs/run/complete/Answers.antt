use Rattle.std.proofs.Common.{◌<◌, subst, arith}
use Rattle.rc_base.specs.Cluster.Tiles.{tile_count}
use Rattle.run_record.specs.Collected.{AreCollected}
use Rattle.sync_manager.specs.declared.manager.ManagerCore.{ManagerCore}
use Rattle.cluster_run.specs.Serving.{shown_in_lanes}
use Rattle.cluster_run.proofs.Runs.{text_written}
use Rattle.cluster_run.proofs.ShownSoFar.{gave_shown_of}
use Rattle.cluster_run.proofs.run.complete.Goals as goal

pub cores_of-clients-requires-clause-ended : goal.cores_of-clients-requires-clause-ended
cores_of-clients-requires-clause-ended g c = let e = c.requires.ended in (e.0, c.args.layout.now, e.1, e.2.cluster)

pub finish-requires-clause-some : goal.finish-requires-clause-some
finish-requires-clause-some g c =
    let e = c.requires.ended in
    let into = c.cores_of-clients.ensures.parts e.0 c.args.layout.now e.1 e.2.cluster in
    let n = into.size in
    let m = e.2.cluster.tiles in
    let k = c.args.ended.tiles.ok.0 in
    let some = c.requires.some.1 in
    omega (arith, n, m, k, some)

pub finish-requires-clause-paired : goal.finish-requires-clause-paired
finish-requires-clause-paired g c =
    let e = c.requires.ended in
    c.named_ends_are_paired.ensures _ e.1.parts _ _ (c.cores_of-clients.ensures.parts e.0 c.args.layout.now e.1 e.2.cluster) e.2.parts_are

pub returns-clause-run : goal.returns-clause-run
returns-clause-run g c scene names e =
    let shown = shown_in_lanes c.cores_of-clients.result.parts.items in
    (c.in_ok-kept.ensures.whole scene shown e.within e.decl_is (c.cores_of-clients.ensures.closed c.if-short.false scene c.args.layout.now names e.cluster)).run

pub returns-clause-written : goal.returns-clause-written
returns-clause-written g c scene names start e on =
    let shown = shown_in_lanes c.cores_of-clients.result.parts.items in
    let whole = c.in_ok-kept.ensures.whole scene shown e.within e.decl_is (c.cores_of-clients.ensures.closed c.if-short.false scene c.args.layout.now names e.cluster) in
    let m = e.cluster.tiles in
    let k = c.args.ended.tiles.ok.0 in
    let some = c.requires.some.1 in
    let tiles : 0 < tile_count c.args.layout.now = omega (arith, m, k, some) in
    text_written c.whole_runs_are_written.ensures c.frames_of_scenes_are_writable.ensures scene c.args.layout.now _ _ _ _ shown _ _
    e.within e.window tiles whole (c.in_ok-written.ensures.finished c.args.layout.now start on)

pub returns-clause-orderly : goal.returns-clause-orderly
returns-clause-orderly g c scene names e = c.cores_of-clients.ensures.orderly scene c.args.layout.now names e.cluster

pub returns-clause-left : goal.returns-clause-left
returns-clause-left g c =
    let cores = c.cores_of-clients.result in
    let are = c.cores_of-clients.ensures.cores c.if-short.false in
    let left = c.in_ok-kept.field-0 in
    record {
      clients = cores.clients.items;
      tiles = cores.tiles.items;
      cores = are.1;
      collected = subst (λ (core : ManagerCore). AreCollected c.args.decl.now cores.clients.items core cores.tiles.items left.kept left.tallies left.waiting left.faults) are.0
          c.in_ok-kept.ensures.collected;
    }

pub abandon-requires-clause-some : goal.abandon-requires-clause-some
abandon-requires-clause-some g c =
    let e = c.requires.ended in
    let into = c.cores_of-clients.ensures.parts e.0 c.args.layout.now e.1 e.2.cluster in
    let n = into.size in
    let m = e.2.cluster.tiles in
    let k = c.args.ended.tiles.ok.0 in
    let some = c.requires.some.1 in
    omega (arith, n, m, k, some)

pub abandon-requires-clause-paired : goal.abandon-requires-clause-paired
abandon-requires-clause-paired g c =
    let e = c.requires.ended in
    c.named_ends_are_paired.ensures _ e.1.parts _ _ (c.cores_of-clients.ensures.parts e.0 c.args.layout.now e.1 e.2.cluster) e.2.parts_are

pub returns-then-short-clause-shown : goal.returns-then-short-clause-shown
returns-then-short-clause-shown g c start on =
    gave_shown_of c.args.layout.now c.args.ended c.cores_of-clients.result.parts.items _ c.cores_of-clients.ensures.shown c.requires.ended.2.cluster.tiles (c.abandon.ensures c.args.layout.now start on)

pub returns-in_err-written-clause-shown : goal.returns-in_err-written-clause-shown
returns-in_err-written-clause-shown g c start on =
    gave_shown_of c.args.layout.now c.args.ended c.cores_of-clients.result.parts.items _ c.cores_of-clients.ensures.shown c.requires.ended.2.cluster.tiles (c.in_err-written.ensures.shown c.args.layout.now start on)

pub returns-in_err-kept-clause-shown : goal.returns-in_err-kept-clause-shown
returns-in_err-kept-clause-shown g c start on =
    gave_shown_of c.args.layout.now c.args.ended c.cores_of-clients.result.parts.items _ c.cores_of-clients.ensures.shown c.requires.ended.2.cluster.tiles (c.in_ok-written.ensures.shown c.args.layout.now start on)

pub returns-clause-shown : goal.returns-clause-shown
returns-clause-shown g c start on =
    gave_shown_of c.args.layout.now c.args.ended c.cores_of-clients.result.parts.items _ c.cores_of-clients.ensures.shown c.requires.ended.2.cluster.tiles (c.in_ok-written.ensures.shown c.args.layout.now start on)

pub returns-then-short-clause-orderly : goal.returns-then-short-clause-orderly
returns-then-short-clause-orderly g c scene names e = c.cores_of-clients.ensures.orderly scene c.args.layout.now names e.cluster

pub returns-in_err-written-clause-orderly : goal.returns-in_err-written-clause-orderly
returns-in_err-written-clause-orderly g c scene names e = c.cores_of-clients.ensures.orderly scene c.args.layout.now names e.cluster

pub returns-in_err-kept-clause-orderly : goal.returns-in_err-kept-clause-orderly
returns-in_err-kept-clause-orderly g c scene names e = c.cores_of-clients.ensures.orderly scene c.args.layout.now names e.cluster

use Rattle.std.proofs.Common.{◌≡◌, arith, ap, refl, subst, vec_len}
use Rattle.std.proofs.lemmas.Result.{IfOk-weaker}
use Rattle.run_record.proofs.FrameParts.{some_columns, some_rows}
use Rattle.frame_out.proofs.Prefixes.{on_err}
use Rattle.rc_base.specs.declared.scene.Decl.{Decl}
use Rattle.cluster_run.specs.Clusters.{IsEndedRun}
use Rattle.cluster_run.specs.Rooms.{IsRoomFor}
use Rattle.cluster_run.specs.Serving.{IsSince}
use Rattle.cluster_run.specs.Workers.{IsLeftBy}
use Rattle.cluster_run.proofs.Runs.{is_small, is_window}
use Rattle.cluster_run.proofs.Serving.{out_still, since_then}
use Rattle.cluster_run.proofs.ShownSoFar.{gave_front_of_run, nothing_given_of_run}
use Rattle.cluster_run.proofs.WorkersTurned.{have_turned}
use Rattle.cluster_run.proofs.run.run_stored.Goals as goal
use Rattle.cluster_run.proofs.run.run_stored.Goals.{In_ok-ended}

pub new-requires-2-clause-columns : goal.new-requires-2-clause-columns
new-requires-2-clause-columns g c =
    let l = c.args.layout.now in
    some_columns l.columns l.rows (c.scenes_within_limits.ensures.runnable c.args.scene l c.args.depth c.requires.within c.requires.layout).some_tiles

pub new-requires-2-clause-rows : goal.new-requires-2-clause-rows
new-requires-2-clause-rows g c =
    let l = c.args.layout.now in
    some_rows l.columns l.rows (c.scenes_within_limits.ensures.runnable c.args.scene l c.args.depth c.requires.within c.requires.layout).some_tiles

pub new-requires-2-clause-window : goal.new-requires-2-clause-window
new-requires-2-clause-window g c =
    is_window c.args.scene c.args.layout.now c.requires.layout.width c.requires.layout.height (c.scenes_within_limits.ensures.drawable c.args.scene c.requires.within)

pub new-requires-2-clause-lanes : goal.new-requires-2-clause-lanes
new-requires-2-clause-lanes g c = c.in_ok-crew.ensures.new.untaken.named.size

pub complete-requires-clause-some : goal.complete-requires-clause-some
complete-requires-clause-some g c =
    let scene = c.args.scene in
    let l = c.args.layout.now in
    let can = c.scenes_within_limits.ensures.runnable scene l c.args.depth c.requires.within c.requires.layout in
    let made = c.in_ok-crew.ensures.new in
    let is = c.clusters_end.ensures scene l made.names c.in_ok-crew.field-0.crew c.in_ok-ended.ended made.cluster c.in_ok-ended.ensures.ended in
    let clients = c.in_ok-ended.ended.clients.ok.0 in
    let tiles = c.in_ok-ended.ended.tiles.ok.0 in
    (omega (arith, clients, is.clients, can.some), omega (arith, tiles, is.tiles, can.some_tiles))

-- the crew that has run is the scene's
ended_run : (g : _) (c : In_ok-ended g)
    → IsEndedRun c.args.scene c.in_ok-crew.field-0.decl c.args.layout.now c.in_ok-crew.ensures.new.names c.in_ok-ended.ended c.run_crew.new.frames.lanes.items
ended_run g c =
    let l = c.args.layout.now in
    let made = c.in_ok-crew.ensures.new in
    record {
      within = c.requires.within;
      decl_is = c.in_ok-crew.ensures.decl;
      window = record { width = c.requires.layout.width; height = c.requires.layout.height };
      cluster = c.clusters_end.ensures c.args.scene l made.names c.in_ok-crew.field-0.crew c.in_ok-ended.ended made.cluster c.in_ok-ended.ensures.ended;
      parts_are = out_still g.K.Sink.held g.K.Sink.faults l c.new_writers_are_on_the_way.ensures c.args.image.now c.in_ok-frames.frames c.in_ok-frames.ensures.new made.names.parts _
          (ap (λ v. v.items) c.in_ok-frames.ensures.lanes) made.untaken c.run_crew.new.frames c.run_crew.new.image c.in_ok-ended.ensures.served;
    }

-- and its frames are on the way since the run began
since : (g : _) (c : In_ok-ended g) → IsSince g.K.Sink.held g.K.Sink.faults c.args.layout.now c.args.image.now c.run_crew.new.frames c.run_crew.new.image
since g c =
    let made = c.in_ok-crew.ensures.new in
    since_then g.K.Sink.held g.K.Sink.faults c.args.layout.now c.new_writers_are_on_the_way.ensures c.args.image.now c.in_ok-frames.frames c.in_ok-frames.ensures.new
    made.names.parts _ (ap (λ v. v.items) c.in_ok-frames.ensures.lanes) made.untaken c.run_crew.new.frames c.run_crew.new.image c.in_ok-ended.ensures.served

pub complete-requires-clause-ended : goal.complete-requires-clause-ended
complete-requires-clause-ended g c =
    (c.args.scene, c.in_ok-crew.ensures.new.names, ended_run g (goal.at.complete-requires-clause-ended g c).In_ok-ended)

pub returns-clause-run : goal.returns-clause-run
returns-clause-run g c = c.complete.ensures.run c.args.scene c.in_ok-crew.ensures.new.names (ended_run g (goal.at.returns-clause-run g c).In_ok-ended)

pub returns-clause-written : goal.returns-clause-written
returns-clause-written g c =
    let at = (goal.at.returns-clause-written g c).In_ok-ended in
    IfOk-weaker c.complete.result _ _ (λ r h. h.is)
    (c.complete.ensures.written c.args.scene c.in_ok-crew.ensures.new.names c.args.image.now (ended_run g at) (since g at))

pub returns-clause-counted : goal.returns-clause-counted
returns-clause-counted g c =
    let at = (goal.at.returns-clause-counted g c).In_ok-ended in
    IfOk-weaker c.complete.result _ _ (λ r h. h.count)
    (c.complete.ensures.written c.args.scene c.in_ok-crew.ensures.new.names c.args.image.now (ended_run g at) (since g at))

pub returns-clause-workers : goal.returns-clause-workers
returns-clause-workers g c =
    let scene = c.args.scene in
    let l = c.args.layout.now in
    let made = c.in_ok-crew.ensures.new in
    let crew = c.in_ok-crew.field-0.crew in
    let tasks = c.in_ok-ended.ended in
    let ended = ended_run g (goal.at.returns-clause-workers g c).In_ok-ended in
    IfOk-weaker c.complete.result _ _ (λ r left.
    record {
      names = made.names;
      deep = made.deep;
      crew = crew;
      begins = made.cluster;
      tasks = tasks;
      ends = ended.cluster;
      turned = have_turned scene l made.names crew tasks made.cluster made.unused c.in_ok-ended.ensures.turned;
      orderly = c.complete.ensures.orderly scene made.names ended;
      left = subst (λ (decl : Decl). IsLeftBy decl tasks r.kept r.tallies r.waiting r.faults) c.in_ok-crew.ensures.decl left;
    }) c.complete.ensures.left

pub returns-in_err-crew-clause-front : goal.returns-in_err-crew-clause-front
returns-in_err-crew-clause-front g c =
    on_err c.from_residual.result (nothing_given_of_run g.K.Sink.held g.K.Sink.faults c.unfinished_runs_go_on.ensures c.args.scene c.args.layout.now
    (c.scenes_within_limits.ensures.drawable c.args.scene c.requires.within).formed c.args.image.now c.args.image.now refl)

pub returns-in_err-room-clause-front : goal.returns-in_err-room-clause-front
returns-in_err-room-clause-front g c =
    on_err c.from_residual-in_err-room.result (nothing_given_of_run g.K.Sink.held g.K.Sink.faults c.unfinished_runs_go_on.ensures c.args.scene c.args.layout.now
    (c.scenes_within_limits.ensures.drawable c.args.scene c.requires.within).formed c.args.image.now c.args.image.now refl)

pub returns-in_err-frames-clause-front : goal.returns-in_err-frames-clause-front
returns-in_err-frames-clause-front g c =
    on_err c.from_residual-in_err-frames.result (nothing_given_of_run g.K.Sink.held g.K.Sink.faults c.unfinished_runs_go_on.ensures c.args.scene c.args.layout.now
    (c.scenes_within_limits.ensures.drawable c.args.scene c.requires.within).formed c.args.image.now c.args.image.now refl)

pub returns-in_err-ended-clause-front : goal.returns-in_err-ended-clause-front
returns-in_err-ended-clause-front g c =
    on_err c.from_residual-in_err-ended.result (nothing_given_of_run g.K.Sink.held g.K.Sink.faults c.unfinished_runs_go_on.ensures c.args.scene c.args.layout.now
    (c.scenes_within_limits.ensures.drawable c.args.scene c.requires.within).formed c.args.image.now c.run_crew.new.image c.in_err-ended.ensures.untouched)

pub returns-clause-front : goal.returns-clause-front
returns-clause-front g c =
    let scene = c.args.scene in
    let l = c.args.layout.now in
    let can = c.scenes_within_limits.ensures.drawable scene c.requires.within in
    let runs = c.scenes_within_limits.ensures.runnable scene l c.args.depth c.requires.within c.requires.layout in
    let made = c.in_ok-crew.ensures.new in
    let at = (goal.at.returns-clause-front g c).In_ok-ended in
    let ended = ended_run g at in
    on_err c.complete.result
    (gave_front_of_run
    (record {
      new = c.tiles_go_on_showing.ensures.first;
      go_on = c.tiles_go_on_showing.ensures.step;
      parts = c.shown_parts_begin_a_whole_run.ensures;
      images = c.shown_frames_are_of_the_run.ensures;
    })
    scene l made.names c.in_ok-crew.field-0.crew c.in_ok-ended.ended can.some runs.some_tiles can.commands can.sides made.cluster made.unused made.begun c.in_ok-ended.ensures.turned
    ended.cluster (c.complete.ensures.orderly scene made.names ended) c.args.depth _ c.requires.layout can.formed (is_small scene can)
    (c.complete.ensures.shown c.args.image.now (since g at)))

pub complete-requires-clause-room : goal.complete-requires-clause-room
complete-requires-clause-room g c =
    let scene = c.args.scene in
    let l = c.args.layout.now in
    let made = c.in_ok-crew.ensures.new in
    let crew = c.in_ok-crew.field-0.crew in
    let tasks = c.in_ok-ended.ended in
    let room = c.in_ok-room.room in
    let is = c.clusters_end.ensures scene l made.names crew tasks made.cluster c.in_ok-ended.ensures.ended in
    let clients : c.len.result ≡ vec_len tasks.clients = omega (arith, c.len.ensures, crew.clients.ok.0, made.cluster.clients, tasks.clients.ok.0, is.clients) in
    let tiles : c.len-2.result ≡ vec_len tasks.tiles = omega (arith, c.len-2.ensures, crew.tiles.ok.0, made.cluster.tiles, tasks.tiles.ok.0, is.tiles) in
    subst (λ n. IsRoomFor n (vec_len tasks.tiles) room) clients (subst (λ n. IsRoomFor c.len.result n room) tiles c.in_ok-room.ensures)

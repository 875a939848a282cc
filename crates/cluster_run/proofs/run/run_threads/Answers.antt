use Rattle.std.proofs.Common.{refl}
use Rattle.frame_out.proofs.Prefixes.{on_err}
use Rattle.cluster_run.proofs.Runs.{are_short}
use Rattle.cluster_run.proofs.ShownSoFar.{nothing_given_of_run}
use Rattle.cluster_run.proofs.run.run_threads.Goals as goal

pub of-requires : goal.of-requires
of-requires g c = are_short c.args.scene.now.streams (c.scenes_within_limits.ensures.drawable c.args.scene.now c.requires.within).short

pub returns-in_err-stored-clause-front : goal.returns-in_err-stored-clause-front
returns-in_err-stored-clause-front g c =
    on_err c.from_residual.result (nothing_given_of_run g.K.Sink.held g.K.Sink.faults c.unfinished_runs_go_on.ensures c.args.scene.now c.args.layout.now
    (c.scenes_within_limits.ensures.drawable c.args.scene.now c.requires.within).formed c.args.image.now c.args.image.now refl)

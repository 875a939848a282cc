use Rattle.std.proofs.Common.{subst}
use Rattle.std.proofs.lemmas.Result.{IfOk-weaker}
use Rattle.rc_base.specs.declared.scene.Decl.{Decl}
use Rattle.run_record.specs.Collected.{AreCollected}
use Rattle.cluster_run.proofs.Runs.{is_small}
use Rattle.cluster_run.proofs.run.gather.Goals as goal

pub returns-clause-whole : goal.returns-clause-whole
returns-clause-whole c scene shown within is closed =
    let can = c.scenes_within_limits.ensures.drawable scene within in
    let clients = c.args.clients.items in
    let tiles = c.args.tiles.items in
    IfOk-weaker c.collect.result _ _
    (λ x h. c.closed_runs_are_lawful.ensures scene c.args.layout.now clients c.args.manager tiles shown
    x.kept x.tallies x.waiting x.faults (is_small scene can) can.commands can.sides closed
    (subst (λ (decl : Decl). AreCollected decl clients c.args.manager tiles x.kept x.tallies x.waiting x.faults) is h)) c.collect.ensures

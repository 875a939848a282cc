use Rattle.std.proofs.Common.{◌≡◌, None, subst}
use Rattle.run_words.specs.Asked.{cluster_limit}
use Rattle.render_core.specs.Stored.{work_in}
use Rattle.render_core.specs.declared.work.AnyWork.{AnyWork}
use Rattle.render_core.proofs.Recorded.{layout_fits}
use Rattle.render_core.proofs.steps.run_work.Goals as goal

pub run_threads-requires-clause-layout : goal.run_threads-requires-clause-layout
run_threads-requires-clause-layout g c κs within =
    layout_fits c.args.cluster c.in-Whole.field-0.scene c.tiles_of-layout.result
    (subst (λ (work : AnyWork). cluster_limit c.args.cluster (work_in work).scene ≡ None) c.in-Whole.is c.requires.tiles) c.tiles_of-layout.ensures

pub run_stored-requires-clause-layout : goal.run_stored-requires-clause-layout
run_stored-requires-clause-layout g c κs within =
    layout_fits c.args.cluster c.in-Stored.scene c.stored_tiles-layout.result
    (subst (λ (work : AnyWork). cluster_limit c.args.cluster (work_in work).scene ≡ None) c.in-Stored.is c.requires.tiles) c.stored_tiles-layout.ensures

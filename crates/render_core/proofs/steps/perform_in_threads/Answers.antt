use Rattle.std.proofs.Common.{◌∙◌, sym}
use Rattle.render_core.proofs.Threaded.{draws_apart}
use Rattle.render_core.proofs.steps.perform_in_threads.Goals as goal

pub perform_apart-requires-clause-apart : goal.perform_apart-requires-clause-apart
perform_apart-requires-clause-apart g c κs within = draws_apart c.args.job c.requires.threaded (sym c.threads.ensures ∙ c.in-None.is)

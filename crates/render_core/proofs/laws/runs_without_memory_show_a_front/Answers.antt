use Rattle.render_core.proofs.LackingRuns.{runs_show_a_front}
use Rattle.render_core.proofs.laws.runs_without_memory_show_a_front.Goals as goal

pub returns : goal.returns
returns c = runs_show_a_front c.ordered_records_show_one_image.ensures c.records_are_foreseen.ensures

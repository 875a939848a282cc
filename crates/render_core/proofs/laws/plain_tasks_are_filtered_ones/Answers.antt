use Rattle.render_core.proofs.BehindFilters.{plain_is_filtered}
use Rattle.render_core.proofs.laws.plain_tasks_are_filtered_ones.Goals as goal

pub returns : goal.returns
returns c =
    plain_is_filtered c.leading_words_have_one_reading.ensures.one c.lines_begin_no_filter.ensures.empty c.lines_begin_no_filter.ensures.jobs

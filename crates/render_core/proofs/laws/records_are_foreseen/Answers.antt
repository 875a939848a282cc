use Rattle.render_core.proofs.DefaultJournals.{foreseen}
use Rattle.render_core.proofs.laws.records_are_foreseen.Goals as goal

pub returns : goal.returns
returns c =
    foreseen c.scene_lists_are_well_formed.ensures c.generated_scenes_are_within_limits.ensures c.filtered_scenes_stay.ensures.within c.default_journal_is_maximal.ensures
    c.maximal_journals_agree.ensures.ends c.maximal_journals_agree.ensures.orders c.ordered_records_show_one_image.ensures

use Rattle.render_core.proofs.OneImage.{one_image}
use Rattle.render_core.proofs.laws.ordered_records_show_one_image.Goals as goal

pub returns : goal.returns
returns c = one_image c.scene_lists_are_well_formed.ensures c.generated_scenes_are_within_limits.ensures c.filtered_scenes_stay.ensures.within c.runs_show_one_image.ensures.permitted c.runs_show_one_image.ensures.default

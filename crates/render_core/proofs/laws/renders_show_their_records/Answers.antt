use Rattle.render_core.proofs.RecordsShown.{records_shown}
use Rattle.render_core.proofs.laws.renders_show_their_records.Goals as goal

pub returns : goal.returns
returns c =
    records_shown c.bytes_spell_one_scene.ensures c.bytes_spell_one_list_scene.ensures c.forms_are_apart.ensures c.texts_spell_one_scene.ensures
    c.lines_have_one_reading.ensures c.members_follow.ensures c.chains_follow.ensures c.ordered_records_show_one_image.ensures

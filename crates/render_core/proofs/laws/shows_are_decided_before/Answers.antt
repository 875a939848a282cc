use Rattle.render_core.proofs.DecidedBefore.{decided_before, dealt_before}
use Rattle.render_core.proofs.laws.shows_are_decided_before.Goals as goal

pub returns-clause-shows : goal.returns-clause-shows
returns-clause-shows c =
    decided_before c.bytes_spell_one_scene.ensures c.bytes_spell_one_list_scene.ensures c.forms_are_apart.ensures c.texts_spell_one_scene.ensures
    c.records_are_foreseen.ensures c.what_is_before_stands_before.ensures.ordered c.lines_have_one_reading.ensures c.leading_words_have_one_reading.ensures.one

pub returns-clause-dealt : goal.returns-clause-dealt
returns-clause-dealt c =
    dealt_before c.bytes_spell_one_scene.ensures c.bytes_spell_one_list_scene.ensures c.forms_are_apart.ensures c.texts_spell_one_scene.ensures
    c.records_are_foreseen.ensures c.what_is_before_stands_before.ensures.ordered c.lines_have_one_reading.ensures c.leading_words_have_one_reading.ensures.one

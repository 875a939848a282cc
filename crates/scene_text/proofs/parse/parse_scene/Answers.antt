use Rattle.scene_file.proofs.WrittenSpells.{if_ok_map}
use Rattle.scene_text.proofs.WholePictures.{whole_pictures}
use Rattle.scene_text.proofs.AnswersForced.{only, told, limited}
use Rattle.scene_text.proofs.parse.parse_scene.Goals as goal

pub returns-clause-whole : goal.returns-clause-whole
returns-clause-whole c = if_ok_map c.parse_within.result (λ s h. whole_pictures c.args.text.now s h.0) c.parse_within.ensures.found

pub returns-clause-only : goal.returns-clause-only
returns-clause-only c = only c.args.text.now c.parse_within.result c.parse_within.ensures.found c.parse_within.ensures.fails

pub returns-clause-told : goal.returns-clause-told
returns-clause-told c = told c.args.text.now c.parse_within.result c.parse_within.ensures.found c.parse_within.ensures.fails

pub returns-clause-limited : goal.returns-clause-limited
returns-clause-limited c = limited c.args.text.now c.parse_within.result c.parse_within.ensures.found c.parse_within.ensures.fails

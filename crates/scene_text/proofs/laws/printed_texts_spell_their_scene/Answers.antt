use Rattle.scene_text.proofs.PrintedSpells.{printed_spells}
use Rattle.scene_text.proofs.laws.printed_texts_spell_their_scene.Goals as goal

pub returns : goal.returns
returns c = printed_spells

use Rattle.scene_text.proofs.OneScene.{one_scene}
use Rattle.scene_text.proofs.laws.texts_spell_one_scene.Goals as goal

pub returns : goal.returns
returns c = one_scene

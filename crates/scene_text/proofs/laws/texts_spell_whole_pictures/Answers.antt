use Rattle.scene_text.proofs.WholePictures.{whole_pictures}
use Rattle.scene_text.proofs.laws.texts_spell_whole_pictures.Goals as goal

pub returns : goal.returns
returns c = whole_pictures

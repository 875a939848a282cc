use Rattle.scene_file.proofs.WrittenSpells.{written_read}
use Rattle.scene_file.proofs.laws.written_is_read.Goals as goal

pub returns : goal.returns
returns c = written_read

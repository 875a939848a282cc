use Rattle.dirty_bits.proofs.Levels.{without_bit}
use Rattle.dirty_bits.proofs.bits.without.Goals as goal

pub returns : goal.returns
returns c = λ s low. without_bit c.args.word c.args.server s c.requires low

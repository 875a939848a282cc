use Rattle.std.proofs.Common.{arith, [], ◌∷◌}
use Rattle.rc_base.specs.Formats.Spelling.{IsSize}
use Rattle.scene_file.proofs.WrittenSpells.{all_from}
use Rattle.scene_file.proofs.writing.put_sizes.Goals as goal

pub returns-clause-fits : goal.returns-clause-fits
returns-clause-fits c = all_from IsSize c.args.sizes.now (0 ∷ 0 ∷ []) (λ k lt. c.loop-size.invariant.fits k (omega arith))

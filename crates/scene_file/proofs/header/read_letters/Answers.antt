use Rattle.std.proofs.Common.{refl}
use Rattle.scene_file.proofs.LettersAtFront.{letters_cut, letters_differ}
use Rattle.scene_file.proofs.header.read_letters.Goals as goal

pub returns-in-empty-clause-fails : goal.returns-in-empty-clause-fails
returns-in-empty-clause-fails c = (letters_cut c.args.letters.now c.args.bytes.now c.loop-letter.rest.now c.loop-letter.letter-index c.loop-letter.invariant c.in-empty.len_below c.loop-letter-test.true, refl)

pub returns-then-first-letter-clause-fails : goal.returns-then-first-letter-clause-fails
returns-then-first-letter-clause-fails c =
    letters_differ c.args.letters.now c.args.bytes.now c.loop-letter.rest.now c.loop-letter.letter-index c.loop-letter.invariant c.loop-letter-test.true c.in-len1-up.len_at_least c.if-first-letter.true

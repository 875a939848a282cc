use Rattle.std.proofs.Common.{◌≡◌, take, ◌++◌}
use Rattle.scene_file.proofs.header.read_letters.Given as goal

abbrev pub invariant-loop-letter : goal.invariant-loop-letter
invariant-loop-letter l = l.bytes ≡ take l.letter-index l.letters ++ l.rest

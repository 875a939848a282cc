use Rattle.std.proofs.Common.{◌≡◌, drop}
use Rattle.scene_text.specs.Text.Read.{words_of}
use Rattle.scene_text.proofs.words.skip_words.Given as goal

abbrev pub invariant-loop-skipped : goal.invariant-loop-skipped
invariant-loop-skipped l = words_of l.rest ≡ drop l.skipped (words_of l.line)

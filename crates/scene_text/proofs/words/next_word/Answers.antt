use Rattle.std.proofs.Common.{◌<◌, length, sym, ◌∙◌, arith}
use Rattle.std.proofs.lemmas.List.{take_rest}
use Rattle.scene_text.proofs.CutLinesAndWords.{word_before}
use Rattle.scene_text.proofs.words.next_word.Goals as goal

pub returns-in-Some-clause-words : goal.returns-in-Some-clause-words
returns-in-Some-clause-words c =
    let some : 0 < length c.skip_spaces-from.result.now = omega arith in
    rw (take_rest, ← c.skip_spaces-from.ensures.words)
    (word_before c.skip_spaces-from.result.now c.in-Some.end some (c.skip_spaces-from.ensures.word some) (sym c.find_byte.ensures ∙ c.in-Some.is))

use Rattle.std.proofs.Common.{◌∙◌, sym, ap, arith, drop}
use Rattle.std.proofs.lemmas.List.{drop-drop}
use Rattle.scene_text.specs.Text.Read.{words_of}
use Rattle.command_table.proofs.Search.{drop_end}
use Rattle.scene_text.proofs.words.skip_words.Goals as goal

pub returns-in-None : goal.returns-in-None
returns-in-None c =
    let none = c.in-None.ensures.words in
    none ∙ sym (drop_end (words_of c.args.line.now) c.loop-skipped.skipped c.args.count (sym c.loop-skipped.invariant ∙ none) (omega arith))

pub loop-skipped-preserved : goal.loop-skipped-preserved
loop-skipped-preserved c = ap (drop 1) (sym c.in-Some.ensures.words ∙ c.loop-skipped.invariant) ∙ drop-drop 1 c.loop-skipped.skipped (words_of c.args.line.now)

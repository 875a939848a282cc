use Rattle.std.proofs.Common.{sym, ◌∙◌}
use Rattle.std.proofs.lemmas.List.{take_rest}
use Rattle.scene_text.proofs.CutLinesAndWords.{line_before}
use Rattle.scene_text.proofs.lines.first_line.Goals as goal

pub returns-in-Some-clause-first : goal.returns-in-Some-clause-first
returns-in-Some-clause-first c =
    rw (take_rest, c.without_return.ensures) (line_before c.args.text.now c.in-Some.end (sym c.find_byte.ensures ∙ c.in-Some.is))

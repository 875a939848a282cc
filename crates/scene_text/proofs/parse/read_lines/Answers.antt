use Rattle.std.proofs.Common.{arith, sym, ◌∙◌, ◌+◌}
use Rattle.std.specs.Str.Lines.{lines}
use Rattle.scene_text.proofs.LinesInTurn.{begin, onward}
use Rattle.scene_text.proofs.RestCounted.{judged_rest}
use Rattle.scene_text.proofs.parse.read_lines.Goals as goal

pub loop-rest-init : goal.loop-rest-init
loop-rest-init c = record {
  count = omega arith;
  progress = begin c.args.text.now c.empty_draft-draft.result c.empty_draft-draft.ensures.draft c.empty_draft-draft.ensures.said c.empty_draft-draft.ensures.rank;
}

pub returns-then-is_over-clause-fails : goal.returns-then-is_over-clause-fails
returns-then-is_over-clause-fails c =
    let after = c.first_line.result.1.now in
    judged_rest c.args.text.now c.read_line.new.draft (c.loop-rest.line + 1) after c.judge_rest.result
    (onward c.args.text.now c.loop-rest.draft c.read_line.new.draft c.loop-rest.line c.first_line.result.0.now (lines after) (lines c.loop-rest.rest.now)
    c.first_line.ensures.first c.loop-rest.invariant.progress c.in-Ok.ensures)
    (sym c.is_over.ensures ∙ c.if-is_over.true) c.judge_rest.ensures

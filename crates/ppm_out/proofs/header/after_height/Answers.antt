use Rattle.std.proofs.Common.{sym, ◌∙◌, arith}
use Rattle.ppm_out.specs.Rest.{Blank, Blanks, Maximum, height_of}
use Rattle.ppm_out.proofs.Steps.{under}
use Rattle.ppm_out.proofs.Turns.{gap_goes_on, side_begins, no_side_begins}
use Rattle.ppm_out.proofs.header.after_height.Goals as goal

pub returns-then-is_blank : goal.returns-then-is_blank
returns-then-is_blank c = (c.requires, λ xs m. under (gap_goes_on (Blank (Blanks Maximum)) m c.args.byte xs height_of (sym c.is_blank.ensures ∙ c.if-is_blank.true)))

pub returns-in-Some : goal.returns-in-Some
returns-in-Some c = (
  (c.requires, (omega (arith, c.in-Some.ensures), omega (arith, c.in-Some.ensures))),
  λ xs m. under (side_begins (Blank (Blanks Maximum)) m c.args.byte xs height_of (sym c.is_blank.ensures ∙ c.if-is_blank.false) c.in-Some.height c.in-Some.ensures),
)

pub returns-in-None : goal.returns-in-None
returns-in-None c = λ xs m h. no_side_begins (Blank (Blanks Maximum)) m c.args.byte xs height_of (sym c.is_blank.ensures ∙ c.if-is_blank.false) c.in-None.ensures h.1

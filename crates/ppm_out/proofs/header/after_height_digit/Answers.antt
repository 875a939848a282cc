use Rattle.std.proofs.Common.{sym, ◌∙◌, arith}
use Rattle.ppm_out.specs.Rest.{Blanks, Maximum, height_of}
use Rattle.ppm_out.proofs.Steps.{under}
use Rattle.ppm_out.proofs.Turns.{side_ends, side_goes_on, side_is_wrong}
use Rattle.ppm_out.proofs.header.after_height_digit.Goals as goal

pub returns-then-is_blank : goal.returns-then-is_blank
returns-then-is_blank c = (
  (c.requires.width, c.requires.height),
  λ xs m. under (side_ends (Blanks Maximum) m c.args.byte xs height_of c.args.height c.requires.height (sym c.is_blank.ensures ∙ c.if-is_blank.true)),
)

pub returns-in-Some : goal.returns-in-Some
returns-in-Some c = (
  (c.requires.width, (omega (arith, c.in-Some.ensures, c.requires.height), omega (arith, c.in-Some.ensures))),
  λ xs m. under (side_goes_on (Blanks Maximum) m c.args.byte xs height_of c.args.height c.requires.height (sym c.is_blank.ensures ∙ c.if-is_blank.false) c.in-Some.height c.in-Some.ensures),
)

pub returns-in-None : goal.returns-in-None
returns-in-None c = λ xs m h.
    side_is_wrong (Blanks Maximum) m c.args.byte xs height_of c.args.height c.requires.height (sym c.is_blank.ensures ∙ c.if-is_blank.false) c.in-None.ensures h.1

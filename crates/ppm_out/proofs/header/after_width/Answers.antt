use Rattle.std.proofs.Common.{sym, ◌∙◌, arith}
use Rattle.ppm_out.specs.Rest.{Blank, Blanks, Height, width_of}
use Rattle.ppm_out.proofs.Turns.{gap_goes_on, side_begins, no_side_begins}
use Rattle.ppm_out.proofs.header.after_width.Goals as goal

pub returns-then-is_blank : goal.returns-then-is_blank
returns-then-is_blank c = (tt, λ xs m. gap_goes_on (Blank (Blanks Height)) m c.args.byte xs width_of (sym c.is_blank.ensures ∙ c.if-is_blank.true))

pub returns-in-Some : goal.returns-in-Some
returns-in-Some c = (
  (omega (arith, c.in-Some.ensures), omega (arith, c.in-Some.ensures)),
  λ xs m. side_begins (Blank (Blanks Height)) m c.args.byte xs width_of (sym c.is_blank.ensures ∙ c.if-is_blank.false) c.in-Some.width c.in-Some.ensures,
)

pub returns-in-None : goal.returns-in-None
returns-in-None c = λ xs m. no_side_begins (Blank (Blanks Height)) m c.args.byte xs width_of (sym c.is_blank.ensures ∙ c.if-is_blank.false) c.in-None.ensures

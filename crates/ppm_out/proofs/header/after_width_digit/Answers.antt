use Rattle.std.proofs.Common.{sym, ◌∙◌, arith}
use Rattle.ppm_out.specs.Rest.{Blanks, Height, width_of}
use Rattle.ppm_out.proofs.Turns.{side_ends, side_goes_on, side_is_wrong}
use Rattle.ppm_out.proofs.header.after_width_digit.Goals as goal

pub returns-then-is_blank : goal.returns-then-is_blank
returns-then-is_blank c = (c.requires, λ xs m. side_ends (Blanks Height) m c.args.byte xs width_of c.args.width c.requires (sym c.is_blank.ensures ∙ c.if-is_blank.true))

pub returns-in-Some : goal.returns-in-Some
returns-in-Some c = (
  (omega (arith, c.in-Some.ensures, c.requires), omega (arith, c.in-Some.ensures)),
  λ xs m. side_goes_on (Blanks Height) m c.args.byte xs width_of c.args.width c.requires (sym c.is_blank.ensures ∙ c.if-is_blank.false) c.in-Some.width c.in-Some.ensures,
)

pub returns-in-None : goal.returns-in-None
returns-in-None c = λ xs m. side_is_wrong (Blanks Height) m c.args.byte xs width_of c.args.width c.requires (sym c.is_blank.ensures ∙ c.if-is_blank.false) c.in-None.ensures

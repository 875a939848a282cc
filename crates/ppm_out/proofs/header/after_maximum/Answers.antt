use Rattle.std.proofs.Common.{sym, ◌∙◌, arith}
use Rattle.ppm_out.specs.declared.header.Due.TheVariants as due
use Rattle.ppm_out.specs.Rest.{Byte, Blank, Pixels, Maximum}
use Rattle.ppm_out.proofs.Steps.{under, joined, byte_off, blanks_on, blanks_end, blank_no_digit}
use Rattle.ppm_out.proofs.Turns.{byte_goes_on, expected}
use Rattle.ppm_out.proofs.header.after_maximum.Goals as goal

pub returns-then-is_blank : goal.returns-then-is_blank
returns-then-is_blank c =
    let blank = sym c.is_blank.ensures ∙ c.if-is_blank.true in (
      (c.requires.width, c.requires.height),
      λ xs m. under (under (blanks_on Maximum m c.args.byte xs blank
          (λ h. let is = byte_off (Byte 53 (Byte 53 (Blank Pixels))) m c.args.byte xs 50 h in omega (arith, is, blank_no_digit c.args.byte blank)))),
    )

pub returns : goal.returns
returns c =
    let w = c.args.width in
    let h = c.args.height in
    let b = c.args.byte in
    let plain = sym c.is_blank.ensures ∙ c.if-is_blank.false in
    let rest = Byte 53 (Byte 53 (Blank Pixels)) in
    expected (due.Maximum w h) b 50 (due.FirstFive w h) c.expect.result c.expect.ensures (c.requires.width, c.requires.height)
    (λ xs m is. under (under (joined (blanks_end Maximum m b xs plain) (byte_goes_on rest m b 50 xs is))))
    (λ xs m ends. byte_off rest m b xs 50 ((blanks_end Maximum m b xs plain).0 ends.1.1))

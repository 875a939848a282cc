use Rattle.std.proofs.Common.{sym, ◌∙◌, ap, ◌≡◌, true}
use Rattle.command_line.specs.Values.{is_plain}
use Rattle.command_line.proofs.Numbers.{number_told, decimal_plain}
use Rattle.command_line.proofs.number.number.Goals as goal

pub returns-then-not-is_plain : goal.returns-then-not-is_plain
returns-then-not-is_plain c = λ n small e.
    let plain : is_plain c.as_bytes.result.now ≡ true = ap is_plain (c.as_bytes.ensures.value ∙ e) ∙ decimal_plain n small in
    cc

pub returns : goal.returns
returns c =
    let plain : is_plain c.args.text.now ≡ true = ap is_plain (sym c.as_bytes.ensures.value) ∙ sym c.if-not-is_plain.ensures in
    rw (c.ok.ensures.value) (number_told _ c.args.text.now c.parse.result c.parse.ensures.value.0 plain)

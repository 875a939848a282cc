use Rattle.std.proofs.Common.{◌≡◌, refl, arith}
use Rattle.std.proofs.lemmas.Bool.Decides.{nat_tests}
use Rattle.rc_base.specs.Contexts.Elements.{values_of}
use Rattle.element_table.proofs.Rows.{code_rows}
use Rattle.element_table.proofs.setting.set_code.Goals as goal

pub returns-in_default : goal.returns-in_default
unfolding values_of
returns-in_default c =
    let rows = code_rows c.args.element c.requires in
    let last : c.args.element ≡ 12 = grind (arith, nat_tests, rows, c.in_default) in
    rw last refl

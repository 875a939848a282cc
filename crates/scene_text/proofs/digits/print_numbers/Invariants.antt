use Rattle.std.proofs.Common.{◌≡◌, ◌++◌, map, drop}
use Rattle.std.specs.List.{flat_map}
use Rattle.scene_text.specs.Text.Printed.{after_space}
use Rattle.std.specs.Fmt.{signed_decimal}
use Rattle.scene_text.proofs.digits.print_numbers.Given as goal

-- what is printed so far, and then what is left, is the whole
abbrev pub invariant-loop-number : goal.invariant-loop-number
invariant-loop-number l = l.text ++ flat_map after_space (map signed_decimal (drop l.number-index l.numbers)) ≡ l.fn.text ++ flat_map after_space (map signed_decimal l.numbers)

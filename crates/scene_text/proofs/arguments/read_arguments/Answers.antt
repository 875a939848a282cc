use Rattle.std.proofs.Common.{length, take, subst}
use Rattle.command_table.specs.Ranges.{AreIn}
use Rattle.scene_text.proofs.NumbersReadInRange.{numbers_in}
use Rattle.scene_text.proofs.arguments.read_arguments.Goals as goal

pub has_version-requires : goal.has_version-requires
has_version-requires c =
    let ranges = c.line_ranges-ranges.result.now in
    subst (λ rs. AreIn rs (take (length ranges) c.read_numbers.new.numbers)) c.line_ranges-ranges.ensures (numbers_in ranges _ _ c.in-Some.ensures.0)

pub read_statement-requires-clause-numbers : goal.read_statement-requires-clause-numbers
read_statement-requires-clause-numbers c =
    let ranges = c.line_ranges-ranges.result.now in
    subst (λ rs. AreIn rs (take (length ranges) c.read_numbers.new.numbers)) c.line_ranges-ranges.ensures (numbers_in ranges _ _ c.in-Some.ensures.0)

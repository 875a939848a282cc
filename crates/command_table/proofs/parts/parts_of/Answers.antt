use Rattle.std.proofs.Common.{arith}
use Rattle.command_table.specs.Ranges.{FrontHasPartsOf}
use Rattle.command_table.proofs.FieldsAndParts.{known}
use Rattle.command_table.proofs.parts.parts_of.Goals as goal

pub shared_ref_as_front-result : goal.shared_ref_as_front-result
shared_ref_as_front-result c =
    let front = known (λ x. FrontHasPartsOf x c.put_parts-count.new.room c.put_parts-count.result.0 c.put_parts-count.result.1.now) c.args.command.now c.put_parts-count.ensures in
    omega (arith, front.most, c.put_parts-count.array_long)

pub returns : goal.returns
returns c =
    let front = known (λ x. FrontHasPartsOf x c.put_parts-count.new.room c.put_parts-count.result.0 c.put_parts-count.result.1.now) c.args.command.now c.put_parts-count.ensures in
    record { numbers_are = front.numbers_are; texels_are = front.texels_are; in_range = front.in_range }

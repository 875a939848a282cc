use Rattle.std.proofs.Common.{◌≡◌, ◌∙◌, pos, ◌+ℤ◌, to_z, of_z, to_z-of_z, w32, FitsSigned}
use Rattle.raster.proofs.BitsToSpan.{bits_empty, bits_span}
use Rattle.raster.proofs.lanes.narrow_places.Goals as goal

pub returns-clause-none : goal.returns-clause-none
returns-clause-none c h =
    let f : FitsSigned w32 c.column_after.result = record { sfits = c.column_after.type_inv } in
    let g : FitsSigned w32 c.column_after-2.result = record { sfits = c.column_after-2.type_inv } in
    let ew : c.args.x1 ≡ c.args.x0 +ℤ pos c.width-most.result = rw (to_z-of_z c.ranges.x0, to_z-of_z c.ranges.x1) at c.width-most.ensures in
    let ea : to_z w32 (of_z w32 c.column_after.result) ≡ c.args.x0 +ℤ pos c.before_first.result = to_z-of_z f ∙ (rw (to_z-of_z c.ranges.x0) at c.column_after.ensures) in
    let eb : to_z w32 (of_z w32 c.column_after-2.result) ≡ c.args.x0 +ℤ pos c.up_to_last.result = to_z-of_z g ∙ (rw (to_z-of_z c.ranges.x0) at c.column_after-2.ensures) in
    bits_empty c.args.tri.now.v c.args.x0 c.args.x1 c.args.y c.covered_bits-bits.result c.width-most.result c.before_first.result c.up_to_last.result _ _
    (rw (to_z-of_z c.ranges.x0, to_z-of_z c.ranges.y) at c.covered_bits-bits.ensures) ew c.requires.few c.before_first.ensures c.up_to_last.ensures ea eb h

pub returns-clause-some : goal.returns-clause-some
returns-clause-some c h =
    let f : FitsSigned w32 c.column_after.result = record { sfits = c.column_after.type_inv } in
    let g : FitsSigned w32 c.column_after-2.result = record { sfits = c.column_after-2.type_inv } in
    let ew : c.args.x1 ≡ c.args.x0 +ℤ pos c.width-most.result = rw (to_z-of_z c.ranges.x0, to_z-of_z c.ranges.x1) at c.width-most.ensures in
    let ea : to_z w32 (of_z w32 c.column_after.result) ≡ c.args.x0 +ℤ pos c.before_first.result = to_z-of_z f ∙ (rw (to_z-of_z c.ranges.x0) at c.column_after.ensures) in
    let eb : to_z w32 (of_z w32 c.column_after-2.result) ≡ c.args.x0 +ℤ pos c.up_to_last.result = to_z-of_z g ∙ (rw (to_z-of_z c.ranges.x0) at c.column_after-2.ensures) in
    bits_span c.args.tri.now.v c.args.x0 c.args.x1 c.args.y c.covered_bits-bits.result c.width-most.result c.before_first.result c.up_to_last.result _ _
    (rw (to_z-of_z c.ranges.x0, to_z-of_z c.ranges.y) at c.covered_bits-bits.ensures) ew c.requires.few c.before_first.ensures c.up_to_last.ensures ea eb h

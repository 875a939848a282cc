use Rattle.std.proofs.Common.{◌≡◌, refl, sym, ap, ◌∙◌, w32, to_z-of_z, FitsSigned, rules}
use Rattle.rc_base.specs.Contexts.Elements.{values_of}
use Rattle.element_table.specs.Kinds.{kind_of_value}
use Rattle.element_table.proofs.Rows.{range_row, mask_row, color_row, depth_row, mode_row, only}
use Rattle.element_table.proofs.setting.set.Goals as goal

pub returns-in-Range : goal.returns-in-Range
unfolding values_of
returns-in-Range c =
    let at : c.args.element ≡ 3 = only c.args.element 3 (range_row c.args.element (sym c.requires ∙ ap kind_of_value c.in-Range.is)) in
    rw at (rw c.in-Range.is refl)

pub returns-in-Mask : goal.returns-in-Mask
unfolding values_of
returns-in-Mask c =
    let at : c.args.element ≡ 16 = only c.args.element 16 (mask_row c.args.element (sym c.requires ∙ ap kind_of_value c.in-Mask.is)) in
    rw at (rw c.in-Mask.is refl)

pub returns-in-Color : goal.returns-in-Color
unfolding values_of
returns-in-Color c =
    let at : c.args.element ≡ 17 = only c.args.element 17 (color_row c.args.element (sym c.requires ∙ ap kind_of_value c.in-Color.is)) in
    rw at (rw c.in-Color.is refl)

pub returns-in-Depth : goal.returns-in-Depth
unfolding values_of
returns-in-Depth c =
    let at : c.args.element ≡ 18 = only c.args.element 18 (depth_row c.args.element (sym c.requires ∙ ap kind_of_value c.in-Depth.is)) in
    let fits : FitsSigned w32 c.in-Depth.depth = search rules in
    rw at (rw c.in-Depth.is (rw (to_z-of_z fits) refl))

pub returns-in-Mode : goal.returns-in-Mode
unfolding values_of
returns-in-Mode c =
    let at : c.args.element ≡ 21 = only c.args.element 21 (mode_row c.args.element (sym c.requires ∙ ap kind_of_value c.in-Mode.is)) in
    rw at (rw c.in-Mode.is refl)

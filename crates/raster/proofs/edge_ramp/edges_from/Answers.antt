use Rattle.std.proofs.Common.{◌∙◌, to_z-of_z, w64, FitsSigned}
use Rattle.raster.proofs.edge_ramp.edges_from.Goals as goal

pub returns : goal.returns
returns c =
    let a : FitsSigned w64 c.value_at.result = record { sfits = c.value_at.type_inv } in
    let b : FitsSigned w64 c.value_at-2.result = record { sfits = c.value_at-2.type_inv } in
    let d : FitsSigned w64 c.value_at-3.result = record { sfits = c.value_at-3.type_inv } in
    let f : FitsSigned w64 c.step_of.result = record { sfits = c.step_of.type_inv } in
    let g : FitsSigned w64 c.step_of-2.result = record { sfits = c.step_of-2.type_inv } in
    let h : FitsSigned w64 c.step_of-3.result = record { sfits = c.step_of-3.type_inv } in
    record {
      first = to_z-of_z a ∙ (rw (to_z-of_z c.ranges.x, to_z-of_z c.ranges.y) at c.value_at.ensures);
      second = to_z-of_z b ∙ (rw (to_z-of_z c.ranges.x, to_z-of_z c.ranges.y) at c.value_at-2.ensures);
      third = to_z-of_z d ∙ (rw (to_z-of_z c.ranges.x, to_z-of_z c.ranges.y) at c.value_at-3.ensures);
      first_gain = to_z-of_z f ∙ c.step_of.ensures.value;
      second_gain = to_z-of_z g ∙ c.step_of-2.ensures.value;
      third_gain = to_z-of_z h ∙ c.step_of-3.ensures.value;
    }

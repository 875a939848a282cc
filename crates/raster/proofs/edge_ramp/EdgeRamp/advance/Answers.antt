use Rattle.std.proofs.Common.{◌∙◌, to_z-of_z, w64, FitsSigned}
use Rattle.raster.proofs.edge_ramp.EdgeRamp.advance.Goals as goal

pub returns : goal.returns
returns c =
    let a : FitsSigned w64 c.value_after-self.result = record { sfits = c.value_after-self.type_inv } in
    let b : FitsSigned w64 c.value_after-self-2.result = record { sfits = c.value_after-self-2.type_inv } in
    let d : FitsSigned w64 c.value_after-self-3.result = record { sfits = c.value_after-self-3.type_inv } in
    record {
      first = to_z-of_z a ∙ (rw (to_z-of_z c.ranges.x, to_z-of_z c.ranges.y) at c.value_after-self.ensures);
      second = to_z-of_z b ∙ (rw (to_z-of_z c.ranges.x, to_z-of_z c.ranges.y) at c.value_after-self-2.ensures);
      third = to_z-of_z d ∙ (rw (to_z-of_z c.ranges.x, to_z-of_z c.ranges.y) at c.value_after-self-3.ensures);
      first_gain = c.requires.first_gain;
      second_gain = c.requires.second_gain;
      third_gain = c.requires.third_gain;
    }

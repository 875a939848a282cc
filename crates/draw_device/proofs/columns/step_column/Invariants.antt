use Rattle.std.proofs.Common.{ℕ}
use Rattle.draw_device.specs.Columns.{column_fragment, IsColumnColored, IsRiseAt}
use Rattle.draw_device.proofs.columns.step_column.Given as goal

abbrev pub invariant-loop-y : goal.invariant-loop-y
invariant-loop-y l =
    record {
      done : IsColumnColored (λ (k : ℕ). (column_fragment l.tri.v l.fn.run k).color) l.fn.run l.y l.fn.colors l.colors;
      ramp : IsRiseAt l.tri.v l.fn.run l.y l.ramp;
    }

use Rattle.std.proofs.Common.{ℕ}
use Rattle.draw_device.specs.Columns.{IsColumnColored}
use Rattle.draw_device.proofs.columns.fill_column.Given as goal

abbrev pub invariant-loop-y : goal.invariant-loop-y
invariant-loop-y l =
    record {
      done : IsColumnColored (λ (k : ℕ). l.color) l.fn.run l.y l.fn.colors l.colors;
    }

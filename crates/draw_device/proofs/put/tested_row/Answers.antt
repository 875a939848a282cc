use Rattle.std.proofs.Common.{◌∙◌}
use Rattle.draw_device.specs.Pixels.{color_at}
use Rattle.draw_device.proofs.put.tested_row.Goals as goal

pub test_run-requires-clause-written : goal.test_run-requires-clause-written
test_run-requires-clause-written c k low high = (λ i. color_at (c.as_slice.ensures.value i) k) ∙ c.write_row.ensures.written k low high

use Rattle.std.proofs.Common.{◌∙◌}
use Rattle.draw_device.specs.Pixels.{flag_at}
use Rattle.draw_device.proofs.put.any_row.Goals as goal

pub any_run-requires-clause-flags : goal.any_run-requires-clause-flags
any_run-requires-clause-flags c k low high = (λ i. flag_at (c.write_row.ensures.flags i).items k) ∙ c.flag_row.ensures.flagged k low high

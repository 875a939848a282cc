use Rattle.order_model.proofs.laws.scenes_within_limits.Goals as goal
use Rattle.order_model.proofs.ScenesWithinLimits.{within_is_drawable, within_is_runnable}

pub returns-clause-drawable : goal.returns-clause-drawable
returns-clause-drawable c = within_is_drawable

pub returns-clause-runnable : goal.returns-clause-runnable
returns-clause-runnable c = within_is_runnable

use Rattle.tile_server.proofs.TileSteps.{finished_step, rested_step}
use Rattle.tile_server.proofs.tile_core.TileCore.rest.Goals as goal

pub returns-then-is_finished-clause-step : goal.returns-then-is_finished-clause-step
returns-then-is_finished-clause-step c = finished_step c.args.self.now c.requires (c.is_finished.ensures.yes c.if-is_finished.true)

pub returns-else-is_finished-clause-step : goal.returns-else-is_finished-clause-step
returns-else-is_finished-clause-step c = rested_step c.args.self.now c.requires (c.is_finished.ensures.no c.if-is_finished.false)

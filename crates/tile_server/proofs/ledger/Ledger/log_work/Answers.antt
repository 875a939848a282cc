use Rattle.std.proofs.Common.{refl}
use Rattle.tile_server.proofs.LedgersGoOn.{worked_step}
use Rattle.tile_server.proofs.ledger.Ledger.log_work.Goals as goal

pub returns-clause-done : goal.returns-clause-done
returns-clause-done c = worked_step c.args.self.now _ c.args.client c.args.place refl refl refl refl refl c.in_ok-push.ensures.items

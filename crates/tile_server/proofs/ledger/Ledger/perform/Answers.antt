use Rattle.std.proofs.Common.{refl}
use Rattle.tile_server.proofs.LedgersGoOn.{performed_step}
use Rattle.tile_server.proofs.ledger.Ledger.perform.Goals as goal

pub returns-clause-done : goal.returns-clause-done
returns-clause-done c = performed_step c.args.self.now _ c.args.entry refl refl refl c.requires.known refl c.in_ok-push.ensures.items c.release.ensures.held

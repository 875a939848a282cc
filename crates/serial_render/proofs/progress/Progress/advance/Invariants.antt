use Rattle.sync_manager.specs.Books.{journal_in}
use Rattle.serial_render.proofs.TurnsOfClients.{AreAdvanced}
use Rattle.serial_render.proofs.progress.Progress.advance.Given as goal

abbrev pub invariant-loop-client : goal.invariant-loop-client
invariant-loop-client l = AreAdvanced l.syncs (journal_in l.fn.self.book) l.fn.self.order l.client l.self

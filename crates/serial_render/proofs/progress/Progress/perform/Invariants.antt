use Rattle.serial_render.proofs.TurnsOfClients.{ArePerformed}
use Rattle.serial_render.proofs.progress.Progress.perform.Given as goal

abbrev pub invariant-loop-client : goal.invariant-loop-client
invariant-loop-client l = ArePerformed l.syncs l.fn.self l.client l.self

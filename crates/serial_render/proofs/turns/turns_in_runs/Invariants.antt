use Rattle.sync_manager.specs.Books.{journal_in}
use Rattle.serial_render.specs.Turns.{IsBetweenTurns, left_after}
use Rattle.serial_render.proofs.turns.turns_in_runs.Given as goal

abbrev pub invariant-loop-progress : goal.invariant-loop-progress
invariant-loop-progress l = IsBetweenTurns l.syncs l.progress

abbrev pub decreases-loop-progress : goal.decreases-loop-progress
decreases-loop-progress l = left_after l.syncs (journal_in l.progress.book)

use Rattle.run_record.specs.Frames.{AreTakenBelow}
use Rattle.run_record.proofs.frames.take_frame.Given as goal

abbrev pub invariant-loop-tile : goal.invariant-loop-tile
invariant-loop-tile l = AreTakenBelow l.tile l.fn.queues l.fn.parts.items l.queues l.parts.items

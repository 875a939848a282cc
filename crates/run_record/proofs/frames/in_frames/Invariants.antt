use Rattle.run_record.specs.Frames.{AreTurned}
use Rattle.run_record.proofs.frames.in_frames.Given as goal

abbrev pub invariant-loop : goal.invariant-loop
invariant-loop l = AreTurned l.counter l.fn.lists.items l.queues.items l.parts.items

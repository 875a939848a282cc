use Rattle.tile_queues.proofs.Keeps.{takes_next, is_left, drained}
use Rattle.tile_queues.proofs.lanes.drain.Goals as goal

pub pop_as-requires-clause-rule : goal.pop_as-requires-clause-rule
pop_as-requires-clause-rule g c = (takes_next _ _ c.requires.both.0 c.requires.both.1, is_left _ _ c.requires.both.0 c.requires.both.1)

pub returns-clause-both : goal.returns-clause-both
returns-clause-both g c = let d = drained _ _ _ c.requires.both.0 c.requires.both.1 c.requires.ordered c.pop_as.ensures.rule in (d.0, d.1)

pub returns-clause-ordered : goal.returns-clause-ordered
returns-clause-ordered g c = let d = drained _ _ _ c.requires.both.0 c.requires.both.1 c.requires.ordered c.pop_as.ensures.rule in d.2

pub returns-clause-some : goal.returns-clause-some
returns-clause-some g c = let d = drained _ _ _ c.requires.both.0 c.requires.both.1 c.requires.ordered c.pop_as.ensures.rule in d.3

pub returns-clause-none : goal.returns-clause-none
returns-clause-none g c = let d = drained _ _ _ c.requires.both.0 c.requires.both.1 c.requires.ordered c.pop_as.ensures.rule in d.4

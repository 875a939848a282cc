use Rattle.world_model.proofs.EndedWorlds.{frames_shown, waits_alike, tallies_whole}
use Rattle.world_model.proofs.laws.ended_worlds_are_whole.Goals as goal

pub returns-clause-frames : goal.returns-clause-frames
returns-clause-frames c scene l w kept sound ended is = frames_shown scene l w sound ended kept is

pub returns-clause-waiting : goal.returns-clause-waiting
returns-clause-waiting c scene l w range sound ended = waits_alike scene l w sound ended c.over_books_are_maximal.ensures.waiting range

pub returns-clause-tallies : goal.returns-clause-tallies
returns-clause-tallies c scene l w sound ended = tallies_whole scene l w sound ended

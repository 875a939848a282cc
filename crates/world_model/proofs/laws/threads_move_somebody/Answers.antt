use Rattle.world_model.proofs.TilesHavePixels.{have_pixels}
use Rattle.world_model.proofs.ThreadsMoveSomebody.{new_threads_flow, threads_keep, all_threads_keep, threads_move, no_thread_stands_still}
use Rattle.world_model.proofs.laws.threads_move_somebody.Goals as goal

pub returns-clause-pixels : goal.returns-clause-pixels
returns-clause-pixels c = have_pixels

pub returns-clause-first : goal.returns-clause-first
returns-clause-first c = new_threads_flow c.turns_keep_worlds_flowing.ensures.first

pub returns-clause-next : goal.returns-clause-next
returns-clause-next c = threads_keep c.turns_keep_worlds_flowing.ensures.next

pub returns-clause-all : goal.returns-clause-all
returns-clause-all c = all_threads_keep c.turns_keep_worlds_flowing.ensures.next

pub returns-clause-some : goal.returns-clause-some
returns-clause-some c = threads_move c.entries_have_clients.ensures.members

pub returns-clause-run : goal.returns-clause-run
returns-clause-run c = no_thread_stands_still have_pixels (new_threads_flow c.turns_keep_worlds_flowing.ensures.first) (all_threads_keep c.turns_keep_worlds_flowing.ensures.next)
    (threads_move c.entries_have_clients.ensures.members)

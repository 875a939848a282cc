use Rattle.draw_device.proofs.put.put_row.Goals as goal

pub untested_row-requires-clause-tests : goal.untested_row-requires-clause-tests
untested_row-requires-clause-tests c = rw c.in-Off.is at c.requires.tests

pub chosen_row-requires-clause-tests : goal.chosen_row-requires-clause-tests
chosen_row-requires-clause-tests c = rw c.in-Alpha.is at c.requires.tests

pub tested_row-requires-clause-tests : goal.tested_row-requires-clause-tests
tested_row-requires-clause-tests c = rw c.in-Depth.is at c.requires.tests

pub any_row-requires-clause-plane : goal.any_row-requires-clause-plane
any_row-requires-clause-plane c = (rw c.in-Both.is at c.requires.tests).plane

pub any_row-requires-in-Any-clause-plane : goal.any_row-requires-in-Any-clause-plane
any_row-requires-in-Any-clause-plane c = rw c.in-Any.is at c.requires.tests

use Rattle.draw_device.proofs.rows.first_visible.Goals as goal

pub first_passing-requires-clause-depths : goal.first_passing-requires-clause-depths
first_passing-requires-clause-depths c = rw c.in-Both.is at c.requires.tests

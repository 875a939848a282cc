use Rattle.draw_device.proofs.short_rows.laid_by.Goals as goal

pub returns-in-Plain : goal.returns-in-Plain
returns-in-Plain c = rw c.in-Plain.is at c.args.setup.now.planned.write

pub returns-in-Over : goal.returns-in-Over
returns-in-Over c = rw c.in-Over.is at c.args.setup.now.planned.write

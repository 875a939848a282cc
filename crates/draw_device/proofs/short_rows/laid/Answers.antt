use Rattle.std.proofs.Common.{sym}
use Rattle.draw_device.proofs.short_rows.laid.Goals as goal

pub returns-then-over : goal.returns-then-over
returns-then-over c = c.blend_over.ensures.written c.args.setup.now.state.now (rw c.if-over.true at c.requires)

pub returns-else-over : goal.returns-else-over
returns-else-over c = sym ((rw c.if-over.false at c.requires) c.args.color c.args.stored)

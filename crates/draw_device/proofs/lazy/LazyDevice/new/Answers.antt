use Rattle.std.proofs.Common.{ap}
use Rattle.draw_device.specs.Grids.{blank_view}
use Rattle.draw_device.specs.declared.grid.Extent.{Extent}
use Rattle.draw_device.proofs.Places.{blank_in}
use Rattle.draw_device.proofs.lazy.LazyDevice.new.Goals as goal

pub returns-clause-blank : goal.returns-clause-blank
returns-clause-blank c =
    blank_in c.of.result (blank_view c.in_ok-room.room.extent) c.args.rect (ap (λ (g : Extent). blank_view g) c.in_ok-room.ensures) c.of.ensures.rect

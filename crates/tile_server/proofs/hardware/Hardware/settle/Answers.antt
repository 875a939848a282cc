use Rattle.std.proofs.Common.{sym, subst}
use Rattle.rc_base.specs.declared.window.Rect.{Rect}
use Rattle.draw_device.specs.Prepared.{IsPreparedFor}
use Rattle.tile_server.proofs.hardware.Hardware.settle.Goals as goal

pub invariant_of-self : goal.invariant_of-self
invariant_of-self c = record { settled = subst (λ (r : Rect). IsPreparedFor c.switch.new.hw r c.prepare-self.result) (sym c.requires.rect) c.prepare-self.ensures }

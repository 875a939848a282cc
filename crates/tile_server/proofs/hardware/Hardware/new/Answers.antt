use Rattle.std.proofs.Common.{sym, subst}
use Rattle.rc_base.specs.declared.window.Rect.{Rect}
use Rattle.draw_device.specs.Prepared.{IsPreparedFor}
use Rattle.tile_server.proofs.hardware.Hardware.new.Goals as goal

pub invariant_of-result : goal.invariant_of-result
invariant_of-result c = record { settled = subst (λ (r : Rect). IsPreparedFor c.args.state r c.prepare.result) (sym c.rect.ensures) c.prepare.ensures }

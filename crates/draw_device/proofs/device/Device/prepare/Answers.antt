use Rattle.std.proofs.Common.{subst}
use Rattle.draw_device.specs.Devices.{DeviceView}
use Rattle.draw_device.specs.Prepared.{IsPreparedFor}
use Rattle.draw_device.proofs.device.Device.prepare.Goals as goal

pub returns : goal.returns
returns c = subst (λ (v : DeviceView). IsPreparedFor c.args.state.now v.rect c.prepare.result) c.self.view_is c.prepare.ensures

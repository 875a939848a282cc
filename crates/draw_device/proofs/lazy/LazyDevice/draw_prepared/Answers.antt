use Rattle.std.proofs.Common.{◌≡◌, ◌∙◌, ap, sym, subst}
use Rattle.geometry.specs.Listed.{listed_block}
use Rattle.draw_device.specs.Conditions.{TakesBlock}
use Rattle.draw_device.specs.Devices.{DeviceView}
use Rattle.draw_device.specs.Lazy.{memory_view}
use Rattle.draw_device.specs.declared.lazy.Memory.{Memory}
use Rattle.draw_device.proofs.lazy.LazyDevice.draw_prepared.Goals as goal

pub returns-clause-drawn : goal.returns-clause-drawn
returns-clause-drawn c =
    let same : c.in-Written.device ≡ c.args.self.now =
    ap (λ (m : Memory). memory_view m) (sym c.in-Written.is) ∙ c.write.ensures.same ∙ c.self.view_is in
    subst (λ (d : DeviceView). TakesBlock c.args.state.now (listed_block c.args.block.now) c.args.privates.now c.args.shareds.now d c.draw_prepared.new.self) same
    c.draw_prepared.ensures.drawn

use Rattle.std.proofs.Common.{◌≡◌, true, false, sym, subst}
use Rattle.std.specs.Prelude.{OnOk, OnErr}
use Rattle.tile_server.specs.Cores.{is_short}
use Rattle.tile_server.proofs.TileSteps.{err_short, ok_short}
use Rattle.tile_server.proofs.tile_core.TileCore.step.Goals as goal

pub returns-clause-out_of_memory : goal.returns-clause-out_of_memory
returns-clause-out_of_memory g c =
    subst (λ r. OnErr r ((is_short c.args.self.now ≡ false) × (is_short c.act.new.self ≡ true))) (sym c.answer.ensures) (err_short c.args.self.now c.act.new.self c.act.result c.act.ensures.step)

pub returns-clause-ample : goal.returns-clause-ample
returns-clause-ample g c =
    subst (λ r. OnOk r (is_short c.act.new.self ≡ is_short c.args.self.now)) (sym c.answer.ensures) (ok_short c.args.self.now c.act.new.self c.act.result c.act.ensures.step)

use Rattle.std.proofs.Common.{subst, sym}
use Rattle.rc_base.specs.declared.state.Effect.{Effect}
use Rattle.tile_server.specs.Works.{MayStore, TakesEffect}
use Rattle.tile_server.proofs.work.work.Goals as goal

pub perform-requires-clause-writable : goal.perform-requires-clause-writable
perform-requires-clause-writable c = subst (λ (e : Effect). MayStore e c.args.shared.now) (sym c.effect_of-effect.ensures) c.requires.writable

pub returns-clause-drawn : goal.returns-clause-drawn
returns-clause-drawn c =
    subst (λ (e : Effect). TakesEffect c.args.kept.now c.args.shared.now e c.args.device.now c.perform.new.device) c.effect_of-effect.ensures c.perform.ensures.drawn

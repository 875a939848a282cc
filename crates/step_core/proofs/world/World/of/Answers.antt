use Rattle.std.proofs.Common.{sym, subst}
use Rattle.rc_base.specs.declared.scene.Scene.{Scene}
use Rattle.step_core.specs.Runs.{IsUnderWay}
use Rattle.step_core.proofs.world.World.of.Goals as goal

pub invariant_of-result : goal.invariant_of-result
invariant_of-result c = subst (λ (scene : Scene). IsUnderWay scene c.args.layout.now c.args.depth c.in_ok-decl.decl c.args.moves.items c.args.cluster)
    (sym c.of.ensures) record { decl_is = c.in_ok-decl.ensures; runnable = c.requires.runnable; run = c.requires.run }

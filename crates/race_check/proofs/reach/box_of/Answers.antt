use Rattle.std.proofs.Common.{subst, sym}
use Rattle.rc_base.specs.declared.state.Effect.{Effect}
use Rattle.bounds_bucket.specs.Boxes.{HoldsTouched}
use Rattle.race_check.proofs.Reaches.{none_touched}
use Rattle.race_check.proofs.reach.box_of.Goals as goal

pub returns-in-Block : goal.returns-in-Block
returns-in-Block c = subst (λ (e : Effect). HoldsTouched c.args.state.now e c.args.window c.block_box.result) (sym c.in-Block.is) c.block_box.ensures.touched

pub returns-in-Clear : goal.returns-in-Clear
returns-in-Clear c =
    subst (λ (e : Effect). HoldsTouched c.args.state.now e c.args.window c.clear_box.result) (sym c.in-Clear.is) (c.clear_box.ensures.touched c.in-Clear.field-0)

pub returns-in_default : goal.returns-in_default
returns-in_default c x y w t = none_touched c.args.state.now c.args.effect.now c.in_default.not-Block c.in_default.not-Clear x y t

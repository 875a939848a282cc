use Rattle.std.proofs.Common.{List, Option, subst}
use Rattle.rc_base.specs.Pictures.{Picture}
use Rattle.rc_base.specs.declared.state.Block.{Block}
use Rattle.rc_base.specs.declared.state.State.{State}
use Rattle.draw_device.specs.Conditions.{TakesBlock}
use Rattle.serial_render.proofs.drawing.draw.Goals as goal

pub returns-clause-drawn : goal.returns-clause-drawn
returns-clause-drawn c =
    let old = c.args.device.now in
    let new = c.draw_prepared.new.self in
    let shareds = c.args.shared.now in
    subst (λ (s : State). TakesBlock s c.args.block.now c.args.client.now.context.images shareds old new) c.state-state.ensures
    (subst (λ (v : List (Option Picture)). TakesBlock c.state-state.result.now c.args.block.now v shareds old new) c.private.ensures
    (subst (λ (b : Block). TakesBlock c.state-state.result.now b c.private.result.now shareds old new) c.listed-listed.ensures c.draw_prepared.ensures.drawn))

use Rattle.std.proofs.Common.{◌≡◌, ◌==◌, ◌&&◌, not, ℕ, arith, sym, ap, ◌∙◌}
use Rattle.std.specs.declared.option.Option.{Option}
use Rattle.rc_base.specs.Contexts.Elements.{scalar_count}
use Rattle.dirty_bits.specs.Bits.{is_dirty}
use Rattle.state_update.specs.Knowledge.{is_examined}
use Rattle.state_update.proofs.Clearing.{image_cleared, next_cleared, none_cleared}
use Rattle.state_update.proofs.tracker.clear_examined.Goals as goal

pub loop-element-init : goal.loop-element-init
loop-element-init c = none_cleared c.args.dirty.now c.args.tile

pub loop-element-preserved : goal.loop-element-preserved
loop-element-preserved c =
    next_cleared c.args.dirty.now c.loop-element.dirty c.clear.new.self c.args.tile c.loop-element.element c.loop-element.invariant c.clear.ensures.cleared

pub returns-in-Some : goal.returns-in-Some
returns-in-Some c = λ e t low.
    let all : c.loop-element.element ≡ scalar_count = omega (arith, c.loop-element-test.false, c.loop-element.auto.element-end) in
    (image_cleared c.args.dirty.now c.loop-element.dirty c.clear-in-Some.new.self c.args.tile c.loop-element.element c.in-Some.name _
    all c.loop-element.invariant c.image_element.ensures c.clear-in-Some.ensures.cleared).bits e t low
    ∙ ap (λ (o : Option ℕ). is_dirty c.args.dirty.now e t && not (t == c.args.tile && is_examined o e)) (sym c.in-Some.is)

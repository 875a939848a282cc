use Rattle.std.proofs.Common.{Bool, List, ◌∙◌, subst, sym}
use Rattle.std.proofs.lemmas.List.{with_items_is}
use Rattle.rc_base.specs.declared.command.Rgba.{Rgba}
use Rattle.draw_device.specs.Loops.{AreColors, AreFlags}
use Rattle.draw_device.proofs.Steps.{flags_are}
use Rattle.draw_device.proofs.put.flag_row.Goals as goal

pub returns-clause-flagged : goal.returns-clause-flagged
returns-clause-flagged c =
    let s = c.args.setup.now in
    let r = c.args.run in
    let new = c.flag_passing.new.flags in
    let colored = subst (λ (l : List Rgba). AreColors s.state.now s.texture.now s.tri.now.v r l) (sym c.as_slice.ensures.value) c.requires.colored in
    let same = with_items_is c.args.spare.now.flags new (c.flag_passing.ensures.size ∙ c.as_mut_slice.ensures.len) in
    subst (λ (l : List Bool). AreFlags s.state.now s.texture.now s.tri.now.v r l) (sym same)
    (flags_are s.state.now s.texture.now s.tri.now.v r s.plan.now.alpha c.as_slice.result.now _ new s.planned.alpha colored c.flag_passing.ensures)

use Rattle.std.proofs.Common.{List, ◌∙◌, subst, sym}
use Rattle.std.proofs.lemmas.List.{with_items_is}
use Rattle.rc_base.specs.declared.command.Rgba.{Rgba}
use Rattle.draw_device.specs.Loops.{AreWritten}
use Rattle.draw_device.proofs.put.write_row.Goals as goal

pub returns-clause-written : goal.returns-clause-written
returns-clause-written c =
    let s = c.args.setup.now in
    let new = c.write_colors.new.colors in
    let same = with_items_is c.args.spare.now.colors new (c.write_colors.ensures.size ∙ c.as_mut_slice.ensures.len) in
    subst (λ (l : List Rgba). AreWritten s.state.now s.texture.now s.tri.now.v c.args.run c.args.stored.now l) (sym same) c.write_colors.ensures.written

use Rattle.std.proofs.Common.{refl, sym, ◌∙◌, subst}
use Rattle.rc_base.specs.Contexts.Context.{ClientContext}
use Rattle.format_tests.specs.Told.{AreTold}
use Rattle.format_tests.proofs.Told.{told_after_note}
use Rattle.format_tests.proofs.updates.Client.is_issued.Goals as goal

pub returns : goal.returns
returns c =
    let mode = c.if-not-has_plain_mark.ensures.mode refl c.args.self.now.context.matrix_mode in
    subst (λ (x : ClientContext). AreTold c.note.new.self x) (sym (c.if-not-was_issued.ensures.issued refl))
    (told_after_note c.commands_set_one_element.ensures.one c.args.self.now.tracker c.note.new.self c.args.self.now.context 0 c.args.command.now c.in-Some.element
    c.requires c.note.ensures.told (mode ∙ sym c.marks.ensures.element ∙ c.in-Some.is) c.note.ensures.marked)

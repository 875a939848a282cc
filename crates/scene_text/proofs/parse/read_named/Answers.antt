use Rattle.std.proofs.Common.{sym, ◌∙◌}
use Rattle.scene_text.specs.Text.Read.{words_of}
use Rattle.scene_text.proofs.LinesInTurn.{named_ok}
use Rattle.scene_text.proofs.parse.read_named.Goals as goal

pub returns-in-Ok : goal.returns-in-Ok
returns-in-Ok c =
    named_ok c.args.draft.now c.read_arguments.new.draft c.in-Ok.field-0 c.args.name (words_of c.args.words.now)
    (sym c.may_stand.ensures ∙ c.if-not-may_stand.false) c.in-Ok.ensures

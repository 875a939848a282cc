use Rattle.std.proofs.Common.{◌≡◌, List, [], ◌∷◌, Result, Ok, Err, refl, ap, ◌∙◌}
use Rattle.std.specs.Prelude.{IfOk}
use Rattle.rc_base.specs.declared.command.Command.{Command}
use Rattle.rc_base.specs.declared.list_command.ListCommand.{ListCommand}
use Rattle.call_lists.specs.Expansion.{called, expansion_of, met, stored}
use Rattle.call_lists.specs.declared.answer.ExpandFault.{ExpandFault}
use Rattle.call_lists.specs.declared.answer.Expansion.{Expansion}
use Rattle.uses.specs.Formats.{recorded_anew}
use Rattle.uses.proofs.formats.called_anew.Goals as goal

the_last : (first last : Command) → (expansion_of (recorded_anew first last) 0).commands ≡ last ∷ []
unfolding called expansion_of met stored
the_last first last = refl

gives : (r : Result Expansion ExpandFault) (stream : List ListCommand) (first last : Command) → IfOk r (λ x. x ≡ expansion_of stream 0)
    → stream ≡ recorded_anew first last → IfOk r (λ (x : Expansion). x.commands ≡ last ∷ [])
gives (Ok x) stream first last is written =
    ap (λ (e : Expansion). e.commands) is ∙ ap (λ (s : List ListCommand). (expansion_of s 0).commands) written ∙ the_last first last
gives (Err e) stream first last is written = tt

pub returns : goal.returns
returns c first last written = gives c.expand.result c.args.stream.now first last c.expand.ensures.expanded written

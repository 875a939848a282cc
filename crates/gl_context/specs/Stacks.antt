-- What a push and a pop leave.
use Rattle.std.specs.Prelude.{◌≡◌, ℕ, None}
use Rattle.rc_base.specs.Contexts.Context.{ClientContext}
use Rattle.rc_base.specs.Contexts.Faults.{fault_of}
use Rattle.rc_base.specs.Contexts.Issue.{issued}
use Rattle.rc_base.specs.declared.command.Command.TheVariants as cmd

-- an accepted PushMatrix and a PopMatrix after it leave the context as it was
abbrev pub PopUndoesPush : Type 0
PopUndoesPush =
    (x : ClientContext) (place next : ℕ) → fault_of x cmd.PushMatrix ≡ None → issued (issued x place cmd.PushMatrix) next cmd.PopMatrix ≡ x

-- What refused commands leave.
use Rattle.std.specs.Prelude.{◌≡◌, ℕ, [], ◌∷◌, ◌++◌, Some}
use Rattle.rc_base.specs.Contexts.Context.{ClientContext}
use Rattle.rc_base.specs.Contexts.Faults.{fault_of}
use Rattle.rc_base.specs.Contexts.Issue.{issued, effect_of}
use Rattle.rc_base.specs.declared.command.Command.{Command}
use Rattle.rc_base.specs.declared.state.Fault.{Fault}
use Rattle.rc_base.specs.declared.state.Effect.TheVariants as eff

-- the context is as before, with one more fault noted, and the fault is all that the command does
abbrev pub RefusedCommandsChangeNothing : Type 0
RefusedCommandsChangeNothing =
    (x : ClientContext) (place : ℕ) (c : Command) (f : Fault) → fault_of x c ≡ Some f
    → (issued x place c ≡ record x { faults = x.faults ++ (place, f) ∷ [] }) × (effect_of x c ≡ eff.Refused f)

-- The operation that a command is, and the element that it sets.
use Rattle.std.specs.Prelude.{ℕ, ◌&&◌, not, nat_eq, Bool, true, false, Option, Some, None}
use Rattle.std.specs.Option.{option_map_or}
use Rattle.rc_base.specs.Contexts.Elements.{marks}
use Rattle.rc_base.specs.declared.command.Command.{Command}
use Rattle.rc_base.specs.declared.state.Effect.{Effect}
use Rattle.rc_base.specs.declared.state.Effect.TheVariants as eff
use Rattle.rc_base.specs.declared.sync.WaitAt.{WaitAt}

-- the operation of synchronisation that the effect is, if it is one
abbrev pub wait_in : ℕ → Effect → Option WaitAt
wait_in place eff.Quiet = None
wait_in place (eff.Refused fault) = None
wait_in place (eff.Block block) = None
wait_in place (eff.Clear mask) = None
wait_in place (eff.Shared part) = None
wait_in place (eff.Sync op) = Some (record { place = place; op = op })

abbrev pub is_refused : Effect → Bool
is_refused eff.Quiet = false
is_refused (eff.Refused fault) = true
is_refused (eff.Block block) = false
is_refused (eff.Clear mask) = false
is_refused (eff.Shared part) = false
is_refused (eff.Sync op) = false

-- a command with this effect sets the element, by the matrix mode before it
abbrev pub sets_element : Command → ℕ → Effect → ℕ → Bool
sets_element c mode effect e = not (is_refused effect) && option_map_or (nat_eq e) (marks c mode) false

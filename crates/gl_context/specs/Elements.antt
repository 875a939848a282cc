-- Which commands set an element, and what it holds along a stream.
use Rattle.std.specs.Prelude.{◌≡◌, ◌≢◌, ℕ, ◌+◌, ◌<◌, ◌≤◌, None, Some}
use Rattle.rc_base.specs.Contexts.Context.{ClientContext}
use Rattle.rc_base.specs.Contexts.Elements.{marks, value_in, default_value}
use Rattle.rc_base.specs.Contexts.Faults.{fault_of}
use Rattle.rc_base.specs.Contexts.Issue.{carried_out, command_at, context_after}
use Rattle.rc_base.specs.declared.command.Command.{Command}
use Rattle.rc_base.specs.declared.scene.Scene.{Scene}

-- each element, scalar or an image, keeps its value but the one that the command marks
abbrev pub CommandsSetOneElement : Type 0
CommandsSetOneElement = (x : ClientContext) (c : Command) (e : ℕ) → marks c x.matrix_mode ≢ Some e → value_in (carried_out x c) e ≡ value_in x e

-- the command at a place is accepted, and sets the element
abbrev pub SetsAt : Scene → ℕ → ℕ → ℕ → Type 0
SetsAt scene client place e =
    (c : Command) × (command_at scene client place ≡ Some c) × (fault_of (context_after scene client place) c ≡ None)
    × (marks c (context_after scene client place).matrix_mode ≡ Some e)

-- Along commands of which none sets it an element keeps its value. So it is that which its last accepted setter left, or else the default.
abbrev pub ElementsKeepTheirLastSet : Type 0
ElementsKeepTheirLastSet =
    (scene : Scene) (client a n e : ℕ) → ((k : ℕ) → a ≤ k → k < a + n → SetsAt scene client k e → ⊥)
    → value_in (context_after scene client (a + n)) e ≡ value_in (context_after scene client a) e

abbrev pub ElementsBeginWithDefaults : Type 0
ElementsBeginWithDefaults = (scene : Scene) (client e : ℕ) → value_in (context_after scene client 0) e ≡ default_value scene.decl e

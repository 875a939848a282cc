-- Contexts along a stream: each comes from the one before it by one command.
use Rattle.std.specs.Prelude.{◌≡◌, ℕ, ◌+◌, ◌≤◌, Some}
use Rattle.rc_base.specs.Contexts.Context.{default_context, edit_of}
use Rattle.rc_base.specs.Contexts.Issue.{issued, effect_of, command_at, context_after, effect_at}
use Rattle.rc_base.specs.declared.command.Command.{Command}
use Rattle.rc_base.specs.declared.scene.Scene.{Scene}

-- before the first command
abbrev pub StreamsBeginWithDefaults : Type 0
StreamsBeginWithDefaults = (scene : Scene) (client : ℕ) → context_after scene client 0 ≡ default_context scene.decl

-- after one more
abbrev pub StreamsGoOnByIssue : Type 0
StreamsGoOnByIssue =
    (scene : Scene) (client n : ℕ) (c : Command) → command_at scene client n ≡ Some c
    → (context_after scene client (n + 1) ≡ issued (context_after scene client n) n c) × (effect_at scene client n ≡ effect_of (context_after scene client n) c)

-- no texture was written more often than there were commands
abbrev pub EditsAreAtMostCommands : Type 0
EditsAreAtMostCommands = (scene : Scene) (client n name : ℕ) → edit_of (context_after scene client n) name ≤ n

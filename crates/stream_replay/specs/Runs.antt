-- Runs of commands that do nothing beyond their client's context.
use Rattle.std.specs.Prelude.{◌≡◌, ℕ, ◌<◌, ◌≤◌, Bool, true, false, is_none}
use Rattle.std.specs.Option.{option_map_or}
use Rattle.rc_base.specs.Contexts.Context.{ClientContext}
use Rattle.rc_base.specs.Contexts.Faults.{fault_of}
use Rattle.rc_base.specs.Contexts.Issue.{command_at, context_after}
use Rattle.rc_base.specs.declared.command.Command.{Command}
use Rattle.rc_base.specs.declared.command.Command.TheVariants as cmd
use Rattle.rc_base.specs.declared.scene.Scene.{Scene}

-- the context gathers the command for a block: a vertex, a colour, a texture coordinate, and a Begin that breaks no rule
abbrev pub is_gathered : ClientContext → Command → Bool
is_gathered x (cmd.Begin kind) = is_none (fault_of x (cmd.Begin kind))
is_gathered x (cmd.Vertex p) = true
is_gathered x (cmd.Color c) = true
is_gathered x (cmd.TexCoord s t) = true
is_gathered x other = false

abbrev pub is_gathered_at : Scene → ℕ → ℕ → Bool
is_gathered_at scene client place = option_map_or (is_gathered (context_after scene client place)) (command_at scene client place) false

-- of a client's commands from a place on, below another one, those before the one that is reached are gathered, and that one isn't
pub record IsGatheredRun (scene : Scene) (client from to reached : ℕ) : Type 0 where
  pub low : from ≤ reached
  pub high : reached ≤ to
  pub gathered : (place : ℕ) → from ≤ place → place < reached → is_gathered_at scene client place ≡ true
  pub stops : reached < to → is_gathered_at scene client reached ≡ false

-- the context behind them
pub record IsBehindRun (scene : Scene) (client from to : ℕ) (after : ClientContext) (reached : ℕ) : Type 0 where
  pub context : after ≡ context_after scene client reached
  pub run : IsGatheredRun scene client from to reached

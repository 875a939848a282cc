-- The commands of blocks, issued apart from all others.
use Rattle.std.specs.Prelude.{◌≡◌, ℕ, ◌+◌, Bool, true, false, List, is_none, is_some}
use Rattle.std.specs.Option.{option_map_or}
use Rattle.rc_base.specs.Contexts.Context.{ClientContext}
use Rattle.rc_base.specs.Contexts.Faults.{fault_of}
use Rattle.rc_base.specs.Contexts.Issue.{command_at, context_after, effect_at}
use Rattle.rc_base.specs.declared.command.Command.{Command}
use Rattle.rc_base.specs.declared.command.Command.TheVariants as cmd
use Rattle.rc_base.specs.declared.scene.Scene.{Scene}
use Rattle.rc_base.specs.declared.state.Effect.TheVariants as eff
use Rattle.rc_base.specs.declared.sync.Name.{Name}
use Rattle.stream_replay.specs.Clients.{IsStill, client_after, issued_by}
use Rattle.stream_replay.specs.declared.client.Client.{Client}
use Rattle.stream_replay.specs.declared.in_block.InBlock.{InBlock}
use Rattle.stream_replay.specs.declared.in_block.InBlock.TheVariants.{Quiet, Draws, Left}

-- the command is one of a block: a vertex, a colour, a texture coordinate, and a Begin or an End that breaks no rule
abbrev pub is_of_block : ClientContext → Command → Bool
is_of_block x (cmd.Begin kind) = is_none (fault_of x (cmd.Begin kind))
is_of_block x cmd.End = is_some x.block
is_of_block x (cmd.Vertex p) = true
is_of_block x (cmd.Color c) = true
is_of_block x (cmd.TexCoord s t) = true
is_of_block x other = false

abbrev pub is_of_block_at : Scene → ℕ → ℕ → Bool
is_of_block_at scene client place = option_map_or (is_of_block (context_after scene client place)) (command_at scene client place) false

-- it was issued
abbrev pub was_issued : InBlock → Bool
was_issued Quiet = true
was_issued (Draws block) = true
was_issued Left = false

-- the context behind a command of a block, which leaves the state as it is, and what the command does; or the context that was left
pub record IsBehind (scene : Scene) (client place : ℕ) (after : ClientContext) : Type 0 where
  pub context : after ≡ context_after scene client (place + 1)
  pub state : after.state ≡ (context_after scene client place).state

abbrev pub IsIssuedInBlock : Scene → ℕ → ℕ → ClientContext → InBlock → Type 0
IsIssuedInBlock scene client place after Quiet = IsBehind scene client place after × IsStill (effect_at scene client place)
IsIssuedInBlock scene client place after (Draws block) = IsBehind scene client place after × (effect_at scene client place ≡ eff.Block block)
IsIssuedInBlock scene client place after Left = after ≡ context_after scene client place

-- the same of the client, and of all clients behind a command of one of them
abbrev pub ClientIsBehind : Scene → ℕ → ℕ → Client → Client → InBlock → Type 0
ClientIsBehind scene client place before after Quiet = (after ≡ client_after scene client (place + 1)) × IsStill (effect_at scene client place)
    × (after.context.state ≡ before.context.state)
ClientIsBehind scene client place before after (Draws block) = (after ≡ client_after scene client (place + 1)) × (effect_at scene client place ≡ eff.Block block)
    × (after.context.state ≡ before.context.state)
ClientIsBehind scene client place before after Left = after ≡ before

abbrev pub KeepsState : Scene → Name → Type 0
KeepsState scene n = (context_after scene n.client (n.place + 1)).state ≡ (context_after scene n.client n.place).state

abbrev pub ClientsAreBehind : Scene → Name → List Client → List Client → InBlock → Type 0
ClientsAreBehind scene n before after Quiet = (after ≡ issued_by scene before n) × IsStill (effect_at scene n.client n.place) × KeepsState scene n
ClientsAreBehind scene n before after (Draws block) = (after ≡ issued_by scene before n) × (effect_at scene n.client n.place ≡ eff.Block block) × KeepsState scene n
ClientsAreBehind scene n before after Left = after ≡ before

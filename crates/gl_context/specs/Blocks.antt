-- The block that an `End` draws, told by the commands before it.
use Rattle.std.specs.Prelude.{◌≡◌, ℕ, zero, suc, ◌+◌, ◌<◌, List, [], ◌∷◌, ◌++◌, Option, Some, None, is_none, if◌then◌else◌}
use Rattle.rc_base.specs.Contexts.Context.{ClientContext}
use Rattle.rc_base.specs.Contexts.Faults.{fault_of}
use Rattle.rc_base.specs.Contexts.Issue.{context_after, command_at, effect_at, block_mode}
use Rattle.rc_base.specs.declared.command.Command.{Command}
use Rattle.rc_base.specs.declared.command.Command.TheVariants as cmd
use Rattle.rc_base.specs.declared.state.Block.{Block}
use Rattle.rc_base.specs.declared.state.Effect.TheVariants as eff
use Rattle.rc_base.specs.declared.state.Vertex.{Vertex}
use Rattle.rc_base.specs.declared.scene.Scene.{Scene}

-- the command stands at the place, and breaks no rule there
abbrev pub IsAccepted : Scene → ℕ → ℕ → Command → Type 0
IsAccepted scene client place c = (command_at scene client place ≡ Some c) × (fault_of (context_after scene client place) c ≡ None)

-- the vertex of an accepted Vertex, with the colour and the coordinate that are current
abbrev pub vertex_by : ClientContext → Command → List Vertex
vertex_by x (cmd.Vertex p) =
    if is_none (fault_of x (cmd.Vertex p)) then record { pos = p; color = x.color; s = x.s; t = x.t } ∷ [] else []
vertex_by x _ = []

abbrev pub vertex_if : ClientContext → Option Command → List Vertex
vertex_if x None = []
vertex_if x (Some c) = vertex_by x c

-- the vertices of the accepted Vertex commands among n commands from a place on
abbrev pub vertices_from : Scene → ℕ → ℕ → ℕ → List Vertex
vertices_from scene client place zero = []
vertices_from scene client place (suc n) =
    vertices_from scene client place n ++ vertex_if (context_after scene client (place + n)) (command_at scene client (place + n))

-- The block is that of the last accepted Begin before a place: its mode, which is 16 more in a scene of version 2, and the vertices that were
-- accepted since.
pub record IsBlockBefore (scene : Scene) (client place : ℕ) (block : Block) : Type 0 where
  pub begin : ℕ
  pub count : ℕ
  pub before : begin + 1 + count ≡ place
  pub kind : ℕ
  pub opened : IsAccepted scene client begin (cmd.Begin kind)
  pub mode : block.mode ≡ block_mode scene.decl.version kind
  pub last : (k mode : ℕ) → begin < k → k < place → IsAccepted scene client k (cmd.Begin mode) → ⊥
  pub vertices : block.vertices ≡ vertices_from scene client (begin + 1) count

-- the open block of every context is so
abbrev pub OpenBlocksAreOfTheirCommands : Type 0
OpenBlocksAreOfTheirCommands =
    (scene : Scene) (client place : ℕ) (block : Block) → (context_after scene client place).block ≡ Some block
    → IsBlockBefore scene client place block

-- an accepted End draws such a block
abbrev pub DrawnBlocksAreOfTheirCommands : Type 0
DrawnBlocksAreOfTheirCommands =
    (scene : Scene) (client place : ℕ) → IsAccepted scene client place cmd.End
    → (block : Block) × (effect_at scene client place ≡ eff.Block block) × IsBlockBefore scene client place block

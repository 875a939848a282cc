-- The rules that a command can break, in the order in which they are tried, by OpenGL's names of the faults.
use Rattle.std.specs.Prelude.{ℕ, ◌+◌, ◌&&◌, not, Bool, true, nat_lt, nat_le, int_le, ◌==◌, List, [], ◌∷◌, length, Option, Some, None, is_some, ℤ, pos, negsuc, if◌then◌else◌, slice_index}
use Rattle.std.specs.Option.{option_map_or}
use Rattle.rc_base.specs.Numbers.{entry, is_between, product_fits}
use Rattle.rc_base.specs.Pictures.{Picture}
use Rattle.rc_base.specs.Formats.Commands.{Placement, table_row, opcode_of, has_codes}
use Rattle.rc_base.specs.Formats.Commands.Placement.{Inside, Outside, Anywhere}
use Rattle.rc_base.specs.Contexts.Context.{ClientContext, top, below, private_image, shared_sides, private_count}
use Rattle.rc_base.specs.declared.command.Part.{Part}
use Rattle.rc_base.specs.declared.state.Fault.{Fault}
use Rattle.rc_base.specs.declared.state.Fault.TheVariants.{InvalidEnum, InvalidValue, InvalidOperation, StackOverflow, StackUnderflow}
use Rattle.rc_base.specs.declared.command.Command.{Command}
use Rattle.rc_base.specs.declared.command.Command.TheVariants as cmd

-- ---- where a command may stand

-- where a block is open, or where none is
abbrev pub may_stand_in : Placement → Bool → Bool
may_stand_in Inside open_block = open_block
may_stand_in Outside open_block = not open_block
may_stand_in Anywhere open_block = true

-- inside an open block only Vertex, Color, TexCoord and End, and outside one neither Vertex nor End
abbrev pub is_in_place : ClientContext → Command → Bool
is_in_place x c = may_stand_in (table_row (opcode_of c)).placement (is_some x.block)

-- ---- ranges of values

-- a name from 1 to n
abbrev pub is_name : ℕ → ℕ → Bool
is_name name n = nat_lt 0 name && nat_le name n

-- the corner of a viewport has 16 bits and its sides are 0 to 2048
abbrev pub is_viewport : List ℤ → Bool
is_viewport area =
    (is_between (negsuc 32767) (pos 32767) (entry area 0) && is_between (negsuc 32767) (pos 32767) (entry area 1))
    && (is_between (pos 0) (pos 2048) (entry area 2) && is_between (pos 0) (pos 2048) (entry area 3))

-- the most vertices of a block
abbrev pub vertex_most : ℕ
vertex_most = 16383

-- the longest side of a private texture
abbrev pub image_side_most : ℕ
image_side_most = 256

-- each argument has one of its values
abbrev pub has_values : ClientContext → Command → Bool
has_values x (cmd.Begin _) = true
has_values x cmd.End = true
has_values x (cmd.Vertex _) = option_map_or (λ b. nat_lt (length b.vertices) vertex_most) x.block true
has_values x (cmd.Color _) = true
has_values x (cmd.TexCoord _ _) = true
has_values x (cmd.Enable _) = true
has_values x (cmd.Disable _) = true
has_values x (cmd.MatrixMode _) = true
has_values x cmd.LoadIdentity = true
has_values x (cmd.LoadMatrix _) = true
has_values x (cmd.MultMatrix m) = product_fits (top x).m m.m
has_values x cmd.PushMatrix = true
has_values x cmd.PopMatrix = true
has_values x (cmd.Viewport area) = is_viewport area
has_values x (cmd.DepthRange _ _) = true
has_values x (cmd.Scissor area) = int_le (pos 0) (entry area 2) && int_le (pos 0) (entry area 3)
has_values x (cmd.AlphaFunc _ _) = true
has_values x (cmd.DepthFunc _) = true
has_values x (cmd.DepthMask _) = true
has_values x (cmd.BlendFunc _ _) = true
has_values x (cmd.ColorMask _) = true
has_values x (cmd.ClearColor _) = true
has_values x (cmd.ClearDepth _) = true
has_values x (cmd.Clear mask) = nat_lt mask 4
has_values x (cmd.CullFace _) = true
has_values x (cmd.FrontFace _) = true
has_values x (cmd.BindTexture kind name) = is_name name (if kind == 0 then private_count else length x.shared)
has_values x (cmd.TexEnv _) = true
has_values x (cmd.TexWrap _ _) = true
has_values x (cmd.TexImage name w h _) = is_name name private_count && (is_name w image_side_most && is_name h image_side_most)
has_values x (cmd.TexPart part) = is_name part.name private_count
has_values x (cmd.SharedImage part) = is_name part.name (length x.shared)
has_values x (cmd.Barrier name) = is_name name x.barriers
has_values x (cmd.SemP name) = is_name name x.semaphores
has_values x (cmd.SemV name) = is_name name x.semaphores
has_values x cmd.Swap = true

-- ---- parts of textures

-- the part lies inside a texture of these sides
abbrev pub lies_inside : Part → ℕ → ℕ → Bool
lies_inside part w h = nat_le (part.x + part.w) w && nat_le (part.y + part.h) h

-- the texture that a TexPart names has an image
abbrev pub has_image : ClientContext → Command → Bool
has_image x (cmd.TexPart part) = is_some (private_image x part.name)
has_image x _ = true

-- a part lies inside its texture
abbrev pub part_fits : ClientContext → Command → Bool
part_fits x (cmd.TexPart part) = option_map_or (λ (image : Picture). lies_inside part image.w image.h) (private_image x part.name) true
part_fits x (cmd.SharedImage part) = lies_inside part (slice_index (shared_sides x.shared part.name) 0) (slice_index (shared_sides x.shared part.name) 1)
part_fits x _ = true

-- ---- the depth of the stacks

-- the most matrices of a stack
abbrev pub stack_most : ℕ
stack_most = 32

-- PushMatrix finds fewer than that
abbrev pub has_room : ClientContext → Command → Bool
has_room x cmd.PushMatrix = nat_lt (length (below x) + 1) stack_most
has_room x _ = true

-- PopMatrix finds another below the top
abbrev pub has_below : ClientContext → Command → Bool
has_below x cmd.PopMatrix = nat_lt 0 (length (below x))
has_below x _ = true

-- ---- the rules

-- a rule, and the fault of a command that breaks it
pub record Rule : Type 0 where
  pub keeps : ClientContext → Command → Bool
  pub fault : Fault

abbrev rule : (ClientContext → Command → Bool) → Fault → Rule
rule keeps fault = record { keeps = keeps; fault = fault }

abbrev pub rules : List Rule
rules =
    rule is_in_place InvalidOperation
    ∷ rule (λ x c. has_codes c) InvalidEnum
    ∷ rule has_values InvalidValue
    ∷ rule has_image InvalidOperation
    ∷ rule part_fits InvalidValue
    ∷ rule has_room StackOverflow
    ∷ rule has_below StackUnderflow
    ∷ []

abbrev pub first_broken : List Rule → ClientContext → Command → Option Fault
first_broken [] x c = None
first_broken (r ∷ rs) x c = if r.keeps x c then first_broken rs x c else Some r.fault

-- the first rule that a command breaks, or none
abbrev pub fault_of : ClientContext → Command → Option Fault
fault_of x c = first_broken rules x c

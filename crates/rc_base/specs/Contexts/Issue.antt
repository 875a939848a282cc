-- What a command makes of its client's context, what it does beyond it, and the contexts along a stream.
use Rattle.std.specs.Prelude.{ℕ, zero, suc, ◌+◌, ◌-◌, Bool, true, false, nat_lt, ◌==◌, List, [], ◌∷◌, ◌++◌, length, Option, Some, None, ℤ, pos, map, if◌then◌else◌, slice_get, slice_index, slice_index_or, take}
use Rattle.std.specs.Int.{int_min, int_max}
use Rattle.std.specs.Option.{option_map_or, option_and_then}
use lib.ListN.{get_or}
use Rattle.rc_base.specs.Numbers.{fixed_one, product_of}
use Rattle.rc_base.specs.Lists.{with_name}
use Rattle.rc_base.specs.Pictures.{Picture, with_part}
use Rattle.rc_base.specs.Contexts.Context.{ClientContext, identity, default_context, top, below, private_image, edit_of}
use Rattle.rc_base.specs.Contexts.Faults.{fault_of}
use Rattle.rc_base.specs.Drawing.Triangles.{cut_modes}
use Rattle.rc_base.specs.declared.command.Mat4.{Mat4}
use Rattle.rc_base.specs.declared.state.Block.{Block}
use Rattle.rc_base.specs.declared.state.State.{State}
use Rattle.rc_base.specs.declared.state.Fault.{Fault}
use Rattle.rc_base.specs.declared.state.Effect.{Effect}
use Rattle.rc_base.specs.declared.state.Effect.TheVariants as eff
use Rattle.rc_base.specs.declared.sync.SyncOp.TheVariants as op
use Rattle.rc_base.specs.declared.scene.Scene.{Scene}
use Rattle.rc_base.specs.declared.command.Command.{Command}
use Rattle.rc_base.specs.declared.command.Command.TheVariants as cmd

-- ---- scalar elements

-- the context with other scalar elements
abbrev pub with_state : ClientContext → State → ClientContext
with_state x s = record x { state = s }

-- the state with a capability on or off: SCISSOR (0), ALPHA (1), DEPTH (2), BLEND (3), CULL (4), TEXTURE (5)
abbrev pub with_capability : State → ℕ → Bool → State
with_capability s capability on =
    if capability == 0 then record s { scissor_on = on }
    else if capability == 1 then record s { alpha_on = on }
    else if capability == 2 then record s { depth_on = on }
    else if capability == 3 then record s { blend_on = on }
    else if capability == 4 then record s { cull_on = on }
    else record s { texture_on = on }

-- a number held to 0 to one
abbrev pub held : ℤ → ℤ
held z = int_max (pos 0) (int_min z (pos fixed_one))

abbrev pub is_on : ℕ → Bool
is_on flag = nat_lt 0 flag

-- the texture mode is the environment and the wraps in s and in t
abbrev pub with_environment : State → ℕ → State
with_environment s environment = record s { tex_mode = environment ∷ slice_index s.tex_mode 1 ∷ slice_index s.tex_mode 2 ∷ [] }

abbrev pub with_wraps : State → ℕ → ℕ → State
with_wraps s along_s along_t = record s { tex_mode = slice_index s.tex_mode 0 ∷ along_s ∷ along_t ∷ [] }

-- ---- matrices

-- the context with another top of the stack that is meant, and with another list below it
abbrev pub with_top : ClientContext → Mat4 → ClientContext
with_top x m =
    if x.matrix_mode == 0 then with_state x (record x.state { modelview = m })
    else with_state x (record x.state { projection = m })

abbrev pub with_below : ClientContext → List Mat4 → ClientContext
with_below x ms = if x.matrix_mode == 0 then record x { modelviews = ms } else record x { projections = ms }

-- the matrix that was pushed last, and the others
abbrev pub last_of : List Mat4 → Mat4
last_of ms = get_or ms (length ms - 1) identity

abbrev pub front_of : List Mat4 → List Mat4
front_of ms = take (length ms - 1) ms

-- ---- vertices and private textures

-- the block with one more vertex, with the colour and the coordinate that are current
abbrev pub with_vertex : ClientContext → List ℤ → Block → Block
with_vertex x p b = record b { vertices = b.vertices ++ record { pos = p; color = x.color; s = x.s; t = x.t } ∷ [] }

-- the context with an image of a private texture, and one more edit of it
abbrev pub with_image : ClientContext → ℕ → Picture → ClientContext
with_image x name image = record x { images = with_name x.images name (Some image); edits = with_name x.edits name (edit_of x name + 1) }

-- the mode of a block that Begin opens: its argument, and 16 more in a scene of version 2
abbrev pub block_mode : ℕ → ℕ → ℕ
block_mode version kind = if version == 2 then kind + cut_modes else kind

-- ---- one command

-- The context after an accepted command. Clear, SharedImage and the operations of synchronisation leave it as it is.
abbrev pub carried_out : ClientContext → Command → ClientContext
carried_out x (cmd.Begin kind) = record x { block = Some (record { mode = block_mode x.version kind; vertices = [] }) }
carried_out x cmd.End = record x { block = None }
carried_out x (cmd.Vertex p) = record x { block = option_map_or (λ b. Some (with_vertex x p b)) x.block None }
carried_out x (cmd.Color c) = record x { color = c }
carried_out x (cmd.TexCoord u v) = record x { s = u; t = v }
carried_out x (cmd.Enable capability) = with_state x (with_capability x.state capability true)
carried_out x (cmd.Disable capability) = with_state x (with_capability x.state capability false)
carried_out x (cmd.MatrixMode kind) = record x { matrix_mode = kind }
carried_out x cmd.LoadIdentity = with_top x identity
carried_out x (cmd.LoadMatrix m) = with_top x m
carried_out x (cmd.MultMatrix m) = with_top x (record { m = product_of (top x).m m.m })
carried_out x cmd.PushMatrix = with_below x (below x ++ top x ∷ [])
carried_out x cmd.PopMatrix = with_below (with_top x (last_of (below x))) (front_of (below x))
carried_out x (cmd.Viewport area) = with_state x (record x.state { viewport = area })
carried_out x (cmd.DepthRange near far) = with_state x (record x.state { depth_range = held near ∷ held far ∷ [] })
carried_out x (cmd.Scissor area) = with_state x (record x.state { scissor = area })
carried_out x (cmd.AlphaFunc function reference) = with_state x (record x.state { alpha = function ∷ reference ∷ [] })
carried_out x (cmd.DepthFunc function) = with_state x (record x.state { depth_func = function })
carried_out x (cmd.DepthMask flag) = with_state x (record x.state { depth_mask = is_on flag })
carried_out x (cmd.BlendFunc source destination) = with_state x (record x.state { blend = source ∷ destination ∷ [] })
carried_out x (cmd.ColorMask flags) = with_state x (record x.state { color_mask = map is_on flags })
carried_out x (cmd.ClearColor color) = with_state x (record x.state { clear_color = color })
carried_out x (cmd.ClearDepth depth) = with_state x (record x.state { clear_depth = held depth })
carried_out x (cmd.Clear mask) = x
carried_out x (cmd.CullFace face) = with_state x (record x.state { cull_face = face })
carried_out x (cmd.FrontFace direction) = with_state x (record x.state { front_face = direction })
carried_out x (cmd.BindTexture kind name) = with_state x (record x.state { binding = kind ∷ name ∷ [] })
carried_out x (cmd.TexEnv environment) = with_state x (with_environment x.state environment)
carried_out x (cmd.TexWrap along_s along_t) = with_state x (with_wraps x.state along_s along_t)
carried_out x (cmd.TexImage name wide high bytes) = with_image x name (record { w = wide; h = high; texels = bytes })
carried_out x (cmd.TexPart part) = option_map_or (λ (image : Picture). with_image x part.name (with_part image part)) (private_image x part.name) x
carried_out x (cmd.SharedImage part) = x
carried_out x (cmd.Barrier name) = x
carried_out x (cmd.SemP name) = x
carried_out x (cmd.SemV name) = x
carried_out x cmd.Swap = x

-- What an accepted command does beyond the context: End draws the open block, Clear clears, SharedImage writes, and Barrier, SemP, SemV and Swap
-- are operations of synchronisation. All others set what the context holds.
abbrev pub done_by : ClientContext → Command → Effect
done_by x (cmd.Begin kind) = eff.Quiet
done_by x cmd.End = option_map_or (λ b. eff.Block b) x.block eff.Quiet
done_by x (cmd.Vertex p) = eff.Quiet
done_by x (cmd.Color c) = eff.Quiet
done_by x (cmd.TexCoord u v) = eff.Quiet
done_by x (cmd.Enable capability) = eff.Quiet
done_by x (cmd.Disable capability) = eff.Quiet
done_by x (cmd.MatrixMode kind) = eff.Quiet
done_by x cmd.LoadIdentity = eff.Quiet
done_by x (cmd.LoadMatrix m) = eff.Quiet
done_by x (cmd.MultMatrix m) = eff.Quiet
done_by x cmd.PushMatrix = eff.Quiet
done_by x cmd.PopMatrix = eff.Quiet
done_by x (cmd.Viewport area) = eff.Quiet
done_by x (cmd.DepthRange near far) = eff.Quiet
done_by x (cmd.Scissor area) = eff.Quiet
done_by x (cmd.AlphaFunc function reference) = eff.Quiet
done_by x (cmd.DepthFunc function) = eff.Quiet
done_by x (cmd.DepthMask flag) = eff.Quiet
done_by x (cmd.BlendFunc source destination) = eff.Quiet
done_by x (cmd.ColorMask flags) = eff.Quiet
done_by x (cmd.ClearColor color) = eff.Quiet
done_by x (cmd.ClearDepth depth) = eff.Quiet
done_by x (cmd.Clear mask) = eff.Clear mask
done_by x (cmd.CullFace face) = eff.Quiet
done_by x (cmd.FrontFace direction) = eff.Quiet
done_by x (cmd.BindTexture kind name) = eff.Quiet
done_by x (cmd.TexEnv environment) = eff.Quiet
done_by x (cmd.TexWrap along_s along_t) = eff.Quiet
done_by x (cmd.TexImage name wide high bytes) = eff.Quiet
done_by x (cmd.TexPart part) = eff.Quiet
done_by x (cmd.SharedImage part) = eff.Shared part
done_by x (cmd.Barrier name) = eff.Sync (op.Barrier name)
done_by x (cmd.SemP name) = eff.Sync (op.SemP name)
done_by x (cmd.SemV name) = eff.Sync (op.SemV name)
done_by x cmd.Swap = eff.Sync op.Swap

abbrev pub refused : ClientContext → ℕ → Fault → ClientContext
refused x place f = record x { faults = x.faults ++ (place, f) ∷ [] }

-- a command at a place is carried out, or refused: then it is skipped, and its fault noted
unfoldable pub issued : ClientContext → ℕ → Command → ClientContext
issued x place c = option_map_or (refused x place) (fault_of x c) (carried_out x c)

unfoldable pub effect_of : ClientContext → Command → Effect
effect_of x c = option_map_or (λ f. eff.Refused f) (fault_of x c) (done_by x c)

-- ---- streams

abbrev pub stream_of : Scene → ℕ → List Command
stream_of scene client = slice_index_or scene.streams client []

abbrev pub command_at : Scene → ℕ → ℕ → Option Command
command_at scene client place = slice_get (stream_of scene client) place

abbrev pub issued_next : ClientContext → ℕ → Option Command → ClientContext
issued_next x place c = option_map_or (issued x place) c x

-- the context of a client after its first n commands
unfoldable pub context_after : Scene → ℕ → ℕ → ClientContext
context_after scene client zero = default_context scene.decl
context_after scene client (suc n) = issued_next (context_after scene client n) n (command_at scene client n)

-- the fault of a command, where it is refused
unfoldable pub fault_at : Scene → ℕ → ℕ → Option Fault
fault_at scene client place = option_and_then (fault_of (context_after scene client place)) (command_at scene client place)

-- what a command does beyond its context: nothing where there is no command
unfoldable pub effect_at : Scene → ℕ → ℕ → Effect
effect_at scene client place = option_map_or (effect_of (context_after scene client place)) (command_at scene client place) eff.Quiet

-- the faults of a client's whole stream, each refused command's place and fault, places rising
abbrev pub faults_of : Scene → ℕ → List (ℕ × Fault)
faults_of scene client = (context_after scene client (length (stream_of scene client))).faults

-- The scenes of the examples.
use Rattle.std.specs.Prelude.{ℕ, ℤ, List, [], ◌∷◌, ◌++◌, Option, codes, pos, negsuc, replicate, ◌*◌, true}
use Rattle.rc_base.specs.declared.command.Command.{Command}
use Rattle.rc_base.specs.declared.command.Mat4.{Mat4}
use Rattle.rc_base.specs.declared.state.ElementSet.{ElementSet}
use Rattle.rc_base.specs.declared.state.Fault.{Fault}
use Rattle.rc_base.specs.declared.state.ElementValue.TheVariants as val
use Rattle.rc_base.specs.declared.command.Command.TheVariants as cmd
use Rattle.rc_base.specs.declared.scene.Scene.{Scene}
use Rattle.rc_base.specs.declared.sync.Name.{Name}
use Rattle.rc_base.specs.declared.window.Layout.{Layout}
use Rattle.rc_base.specs.Cluster.Looks.{tally_of}
use Rattle.rc_base.specs.Cluster.Parcels.{parcels_of}
use Rattle.rc_base.specs.Colors.{rgba}
use Rattle.rc_base.specs.Contexts.Context.{ClientContext}
use Rattle.rc_base.specs.Contexts.Issue.{context_after, fault_at}
use Rattle.rc_base.specs.Numbers.{fixed_one}
use Rattle.rc_base.specs.declared.cluster.Tally.{Tally}
use Rattle.rc_base.specs.declared.state.Act.TheVariants as act
use Rattle.rc_base.specs.declared.state.Parcel.{Parcel}
use Rattle.rc_base.specs.declared.sync.SyncOp.TheVariants as op
use Rattle.rc_base.specs.Orders.Order.{names_from}

-- a scene that declares nothing but its window
abbrev pub scene_of : ℕ → ℕ → List (List Command) → Scene
scene_of width height streams = record {
  decl = record { version = 1; width = width; height = height; shared = []; barriers = []; semaphores = [] };
  streams = streams;
}

abbrev pub layout_with : ℕ → ℕ → ℕ → ℕ → Layout
layout_with width height columns rows = record { width = width; height = height; columns = columns; rows = rows }

-- the position x, y, 0, w
abbrev pub at : ℤ → ℤ → ℤ → Command
at x y w = cmd.Vertex (x ∷ y ∷ pos 0 ∷ w ∷ [])

abbrev pub one : ℤ
one = pos fixed_one

-- -1 in 16.16 fixed point
abbrev pub minus_one : ℤ
minus_one = negsuc 65535

-- a triangle that covers the whole window, whatever its size
abbrev pub full : List Command
full = cmd.Begin 0 ∷ at minus_one minus_one one ∷ at (pos 196608) minus_one one ∷ at minus_one (pos 196608) one ∷ cmd.End ∷ []

-- ClearColor 255 0 0 255; Clear 1; Swap
abbrev pub red_clear : Scene
red_clear = scene_of 2 2 ((cmd.ClearColor (rgba 255 0 0 255) ∷ cmd.Clear 1 ∷ cmd.Swap ∷ []) ∷ [])

-- a triangle of half the window, whose slanted edge runs through two centres
abbrev pub half_triangle : Scene
half_triangle = scene_of 2 2 ((cmd.Color (rgba 0 255 0 255) ∷ cmd.Begin 0 ∷ at minus_one minus_one one ∷ at one minus_one one ∷ at minus_one one one ∷ cmd.End ∷ cmd.Swap ∷ []) ∷ [])

-- the same without its third vertex
abbrev pub two_vertices : Scene
two_vertices = scene_of 2 2 ((cmd.Color (rgba 0 255 0 255) ∷ cmd.Begin 0 ∷ at minus_one minus_one one ∷ at one minus_one one ∷ cmd.End ∷ cmd.Swap ∷ []) ∷ [])

-- a strip of two triangles over the whole window, added to what is there
abbrev pub added_strip : Scene
added_strip = scene_of 4 4 ((cmd.Enable 3 ∷ cmd.BlendFunc 1 1 ∷ cmd.Color (rgba 100 100 100 100) ∷ cmd.Begin 1
    ∷ at minus_one minus_one one ∷ at one minus_one one ∷ at minus_one one one ∷ at one one one ∷ cmd.End ∷ cmd.Swap ∷ []) ∷ [])

-- one corner stands in the eye
abbrev pub corner_in_eye : Scene
corner_in_eye = scene_of 1 1 ((cmd.Begin 0 ∷ at minus_one minus_one one ∷ at (pos 196608) minus_one one ∷ at minus_one (pos 196608) (pos 0) ∷ cmd.End ∷ cmd.Swap ∷ []) ∷ [])

-- the same scene in version 2
abbrev pub version_2 : Scene → Scene
version_2 scene = record scene { decl = record scene.decl { version = 2 } }

abbrev pub cut_corner : Scene
cut_corner = version_2 corner_in_eye

-- a triangle whose front is culled, in version 2
abbrev pub culled_front : Scene
culled_front = version_2 (scene_of 1 1 ((cmd.FrontFace 1 ∷ cmd.Enable 4 ∷ [] ++ full ++ cmd.Swap ∷ []) ∷ []))

-- red, then green behind LESS, then blue behind LEQUAL, all of one depth, a frame each
abbrev pub three_depths : Scene
three_depths = scene_of 1 1 (
    (cmd.Enable 2 ∷ cmd.Color (rgba 255 0 0 255) ∷ [] ++ full ++ cmd.Swap ∷ cmd.Color (rgba 0 255 0 255) ∷ [] ++ full
    ++ cmd.Swap ∷ cmd.DepthFunc 3 ∷ cmd.Color (rgba 0 0 255 255) ∷ [] ++ full ++ cmd.Swap ∷ []) ∷ [])

-- a texture of a red and a green texel, at coordinate -1 / 65536
abbrev pub textured_with : List Command → Scene
textured_with before = scene_of 1 1 (
    (cmd.TexImage 1 2 1 (255 ∷ 0 ∷ 0 ∷ 255 ∷ 0 ∷ 255 ∷ 0 ∷ 255 ∷ []) ∷ cmd.Enable 5 ∷ cmd.TexEnv 1 ∷ cmd.TexCoord (negsuc 0) (pos 0) ∷ []
    ++ before ++ full ++ cmd.Swap ∷ []) ∷ [])

-- Enable SCISSOR; Scissor 3 1 2 2; ClearColor 0 255 0 255; Clear 1; Swap
abbrev pub scissored_clear : Scene
scissored_clear = scene_of 5 3 ((cmd.Enable 0 ∷ cmd.Scissor (pos 3 ∷ pos 1 ∷ pos 2 ∷ pos 2 ∷ []) ∷ cmd.ClearColor (rgba 0 255 0 255) ∷ cmd.Clear 1 ∷ cmd.Swap ∷ []) ∷ [])

-- two clients, each blends a half transparent triangle over the window
abbrev pub half_transparent : ℕ → ℕ → List Command
half_transparent red blue = cmd.Enable 3 ∷ cmd.BlendFunc 6 7 ∷ cmd.Color (rgba red 0 blue 128) ∷ [] ++ full ++ cmd.Swap ∷ []

abbrev pub two_blended : Scene
two_blended = scene_of 1 1 (half_transparent 255 0 ∷ half_transparent 0 255 ∷ [])

-- the names of a client's first nine commands
abbrev pub all_of : ℕ → List Name
all_of client = names_from client 0 9

abbrev pub first_client_first : List Name
first_client_first = all_of 0 ++ all_of 1

abbrev pub second_client_first : List Name
second_client_first = all_of 1 ++ all_of 0

-- one tile's share is told less than the other's: the second draw sets and sets back, the third is scissored to the left tile
abbrev pub lazy_state : Scene
lazy_state = scene_of 2 1 (
    (full ++ cmd.Enable 3 ∷ cmd.Disable 3 ∷ [] ++ full ++ cmd.Enable 0 ∷ cmd.Scissor (pos 0 ∷ pos 0 ∷ pos 1 ∷ pos 1 ∷ []) ∷ [] ++ full
    ++ cmd.Disable 0 ∷ [] ++ full ++ cmd.Swap ∷ []) ∷ [])

-- a private texture that is told when a draw samples it
abbrev pub lazy_texture : Scene
lazy_texture = scene_of 1 1 ((cmd.TexImage 1 1 1 (0 ∷ 255 ∷ 0 ∷ 255 ∷ []) ∷ cmd.Clear 1 ∷ cmd.Enable 5 ∷ [] ++ full ++ full ++ cmd.Swap ∷ []) ∷ [])

-- a blue triangle over nine tiles, none of whose vertices lies in most of them
abbrev pub full_blue : Scene
full_blue = scene_of 6 6 ((cmd.Color (rgba 0 0 255 255) ∷ [] ++ full ++ cmd.Swap ∷ []) ∷ [])

-- a Barrier inside a block, of two clients
abbrev pub barrier_in_block : Scene
barrier_in_block = record {
  decl = record { version = 1; width = 1; height = 1; shared = []; barriers = 2 ∷ []; semaphores = [] };
  streams = (cmd.Begin 0 ∷ at minus_one minus_one one ∷ cmd.Barrier 1 ∷ at (pos 196608) minus_one one ∷ at minus_one (pos 196608) one ∷ cmd.End ∷ cmd.Swap ∷ [])
      ∷ (cmd.Swap ∷ []) ∷ [];
}

-- one client that does nothing but these
abbrev pub only : List Command → Scene
only commands = scene_of 1 1 (commands ∷ [])

-- why the command at that place of such a client is refused, where it is
abbrev pub fault_in : List Command → ℕ → Option Fault
fault_in commands place = fault_at (only commands) 0 place

-- the context of such a client after its first n commands
abbrev pub reached : List Command → ℕ → ClientContext
reached commands n = context_after (only commands) 0 n

abbrev pub viewport : ℤ → ℤ → ℕ → ℕ → Command
viewport x y w h = cmd.Viewport (x ∷ y ∷ pos w ∷ pos h ∷ [])

-- one client that swaps n times, and nothing else, in the largest window
abbrev pub largest_swapped : ℕ → Scene
largest_swapped n = scene_of 2048 2048 (replicate n cmd.Swap ∷ [])

-- ---- matrices, images and parts of the examples

-- entry 0 is as large as it can be, and all others are 0
abbrev pub wide : Mat4
wide = record { m = pos 2147483647 ∷ replicate 15 (pos 0) }

abbrev pub image : ℕ → ℕ → ℕ → Command
image name w h = cmd.TexImage name w h (replicate (4 * (w * h)) 0)

abbrev pub part : ℕ → ℕ → ℕ → ℕ → ℕ → Command
part name x y w h = cmd.TexPart (record { name = name; x = x; y = y; w = w; h = h; texels = replicate (4 * (w * h)) 255 })

-- one texel of a shared texture
abbrev pub shared_texel : List ℕ → Command
shared_texel texel = cmd.SharedImage (record { name = 1; x = 0; y = 0; w = 1; h = 1; texels = texel })

-- a shared texture of one texel over red, as it is at first and green, a frame each
abbrev pub shared_green : Scene
shared_green = record {
  decl = record { version = 1; width = 1; height = 1; shared = (1 ∷ 1 ∷ []) ∷ []; barriers = []; semaphores = [] };
  streams = (cmd.TexEnv 1 ∷ cmd.Enable 5 ∷ cmd.BindTexture 1 1 ∷ cmd.ClearColor (rgba 255 0 0 255) ∷ cmd.Clear 1 ∷ [] ++ full
      ++ cmd.Swap ∷ shared_texel (0 ∷ 255 ∷ 0 ∷ 255 ∷ []) ∷ [] ++ full ++ cmd.Swap ∷ []) ∷ [];
}

-- what the scissored clear sets
abbrev pub scissor_sets : List ElementSet
scissor_sets =
    record { element = 4; value = val.Flag true }
    ∷ record { element = 5; value = val.Area (pos 3 ∷ pos 1 ∷ pos 2 ∷ pos 2 ∷ []) }
    ∷ record { element = 17; value = val.Color (rgba 0 255 0 255) } ∷ []

-- the bytes of the red clear
abbrev pub red_clear_bytes : List ℕ
red_clear_bytes =
    0x52 ∷ 0x43 ∷ 0x53 ∷ 0x31 ∷ 0x02 ∷ 0x00 ∷ 0x02 ∷ 0x00 ∷ 0x01 ∷ 0x00 ∷ 0x00 ∷ 0x00 ∷ 0x0a ∷ 0x00 ∷ 0x00 ∷ 0x00
    ∷ 0x03 ∷ 0x00 ∷ 0x16 ∷ 0x18 ∷ 0x24 ∷ 0xff ∷ 0x00 ∷ 0x00 ∷ 0xff ∷ 0x01 ∷ []

-- client 0 does nothing, and client 1 swaps
abbrev pub lone_swap : Scene
lone_swap = scene_of 1 1 ([] ∷ (cmd.Swap ∷ []) ∷ [])

-- ---- what client 0 sends to a tile, as numbers

-- the scene's window in these columns and rows of tiles
abbrev pub tiled : Scene → ℕ → ℕ → Layout
tiled scene columns rows = layout_with scene.decl.width scene.decl.height columns rows

-- the parcels to a tile of the window in these columns and rows
abbrev pub parcels_to : Scene → ℕ → ℕ → ℕ → List Parcel
parcels_to scene columns rows tile = parcels_of scene (tiled scene columns rows) 0 tile

abbrev pub tally : Scene → ℕ → ℕ → ℕ → Tally
tally scene columns rows tile = tally_of scene (tiled scene columns rows) 0 tile (parcels_to scene columns rows tile)

-- a tile in the scissor box gets the clear with what it sets, the swap and the end
abbrev pub scissored_parcels : List Parcel
scissored_parcels =
    record { place = 3; sets = scissor_sets; act = act.Clear 1 }
    ∷ record { place = 4; sets = []; act = act.Sync op.Swap }
    ∷ record { place = 5; sets = []; act = act.End } ∷ []

-- ---- texts

-- a scene of one client whose commands are these lines
abbrev pub client_text : List ℕ → List ℕ
client_text lines = codes "scene 1 1 1\nclient\n" ++ lines

-- a carriage return before the end of a line
abbrev pub crlf : List ℕ
crlf = 13 ∷ 10 ∷ []

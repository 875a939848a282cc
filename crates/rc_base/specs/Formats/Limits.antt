-- The quantities of a scene that are limited, in one table. Each has a number, by which it is named and in whose order it is judged.
use Rattle.std.specs.Prelude.{ℕ, ◌*◌, ◌&&◌, not, nat_le, min, Bool, true, false, List, [], ◌∷◌, ◌++◌, length, map, sum_by, count_by, slice_index, Option, Some, None, Result, Ok, Err, unwrap_or, codes, if◌then◌else◌}
use Rattle.std.specs.List.{flat_map}
use Rattle.rc_base.specs.Lists.{at_name}
use Rattle.rc_base.specs.declared.command.Command.{Command}
use Rattle.rc_base.specs.declared.command.Command.TheVariants as cmd
use Rattle.rc_base.specs.declared.list_command.ListCommand.{ListCommand}
use Rattle.rc_base.specs.declared.scene.Decl.{Decl}
use Rattle.rc_base.specs.declared.scene.Scene.{Scene}
use Rattle.rc_base.specs.declared.scene.Limit.{Limit}

-- a quantity: its number in the table, its value, and the least and greatest value that is allowed
pub record Quantity : Type 0 where
  pub what : ℕ
  pub value : ℕ
  pub least : ℕ
  pub most : ℕ

abbrev pub quantity : ℕ → ℕ → ℕ → ℕ → Quantity
quantity what value least most = record { what = what; value = value; least = least; most = most }

abbrev pub is_outside : Quantity → Bool
is_outside q = not (nat_le q.least q.value && nat_le q.value q.most)

-- the first quantity outside its range
abbrev pub first_outside : List Quantity → Option Limit
first_outside [] = None
first_outside (q ∷ qs) = if is_outside q then Some (record { what = q.what; value = q.value }) else first_outside qs

-- the quantity that was found outside its range
abbrev pub judged : Result (Unit {0}) Limit → Option Limit
judged (Ok _) = None
judged (Err limit) = Some limit

-- ---- quantities of a declaration

abbrev pub size_area : List ℕ → ℕ
size_area size = slice_index size 0 * slice_index size 1

abbrev pub side : ℕ → Quantity
side n = quantity 6 n 1 65535

abbrev pub barrier_count : ℕ → Quantity
barrier_count n = quantity 9 n 1 8

-- ---- quantities of the streams

abbrev pub is_swap_command : Command → Bool
is_swap_command cmd.Swap = true
is_swap_command _ = false

-- the Swap commands of a stream, refused ones too
abbrev pub swaps_in : List Command → ℕ
swaps_in stream = count_by is_swap_command stream

-- the least number of Swap commands in a stream
abbrev pub least_swaps : List (List Command) → ℕ
least_swaps [] = 0
least_swaps (s ∷ []) = swaps_in s
least_swaps (s ∷ (t ∷ ts)) = min (swaps_in s) (least_swaps (t ∷ ts))

abbrev pub commands_in : List (List Command) → ℕ
commands_in streams = sum_by length streams

-- the pixels of all frames
abbrev pub frame_pixels : Scene → ℕ
frame_pixels s = least_swaps s.streams * (s.decl.width * s.decl.height)

-- ---- the table

-- a declaration, so many streams and so many commands, and then the rest
abbrev pub quantities_with : Decl → ℕ → ℕ → List Quantity → List Quantity
quantities_with d clients commands rest =
    (quantity 2 d.width 1 2048 ∷ quantity 3 d.height 1 2048 ∷ quantity 4 clients 1 8 ∷ quantity 5 (length d.shared) 0 16 ∷ [])
    ++ (map side (flat_map (λ size. size) d.shared)
    ++ (quantity 7 (sum_by size_area d.shared) 0 1048576 ∷ quantity 8 (length d.barriers) 0 64 ∷ (map barrier_count d.barriers
    ++ (quantity 10 (length d.semaphores) 0 64 ∷ quantity 11 commands 0 1048576 ∷ rest))))

-- the frames and their pixels
abbrev pub frame_quantities : Scene → List Quantity
frame_quantities s = quantity 12 (least_swaps s.streams) 0 1048576 ∷ quantity 13 (frame_pixels s) 0 2147483648 ∷ []

abbrev pub quantities : Scene → List Quantity
quantities s = quantities_with s.decl (length s.streams) (commands_in s.streams) (frame_quantities s)

-- the same pixels where all frames are held at once
unfoldable pub held_limit : Scene → Option Limit
held_limit s = first_outside (quantity 19 (frame_pixels s) 0 33554432 ∷ [])

-- the first quantity of a scene outside its range, or none
unfoldable pub limit_of : Scene → Option Limit
limit_of s = first_outside (quantities s)

-- ---- quantities of a scene with call lists

-- the first quantity outside its range of what is read: the declaration, the streams and the commands as they stand
unfoldable pub read_limit : Decl → List (List ListCommand) → Option Limit
read_limit d streams = first_outside (quantities_with d (length streams) (sum_by length streams) [])

-- the costs of its expansion
unfoldable pub expansion_limit : ℕ → Option Limit
expansion_limit costs = first_outside (quantity 20 costs 0 67108864 ∷ [])

-- the first of the quantities that the streams of a scene have, whatever it declares
unfoldable pub stream_limit : Scene → Option Limit
stream_limit s = first_outside (quantity 11 (commands_in s.streams) 0 1048576 ∷ frame_quantities s)

-- ---- quantities of a command line

-- the columns and rows of tiles, which are no more than those of the window's pixels, their number, and the depth of the lanes
abbrev pub layout_quantities : ℕ → ℕ → ℕ → ℕ → ℕ → List Quantity
layout_quantities width height columns rows depth =
    quantity 14 columns 1 (min 8 width) ∷ quantity 15 rows 1 (min 8 height) ∷ quantity 16 (columns * rows) 1 32 ∷ quantity 17 depth 1 16 ∷ []

-- the first of them outside its range, or none
unfoldable pub layout_limit : ℕ → ℕ → ℕ → ℕ → ℕ → Option Limit
layout_limit width height columns rows depth = first_outside (layout_quantities width height columns rows depth)

-- the rounds of a generated scene
unfoldable pub size_limit : ℕ → Option Limit
size_limit size = first_outside (quantity 18 size 1 4096 ∷ [])

-- ---- names

-- the names of the quantities, by their numbers from 1
abbrev pub limit_names : List (List ℕ)
limit_names =
    codes "scene bytes" ∷ codes "width" ∷ codes "height" ∷ codes "clients" ∷ codes "shared textures" ∷ codes "shared side" ∷ codes "shared texels"
    ∷ codes "barriers" ∷ codes "barrier count" ∷ codes "semaphores" ∷ codes "commands" ∷ codes "frames" ∷ codes "pixels"
    ∷ codes "tile columns" ∷ codes "tile rows" ∷ codes "tiles" ∷ codes "depth" ∷ codes "size" ∷ codes "held pixels"
    ∷ codes "expansion" ∷ []

abbrev pub limit_name : ℕ → List ℕ
limit_name what = unwrap_or (at_name limit_names what) []

-- Reading a parcel from the left, with the first fault that is met.
use Rattle.std.specs.Prelude.{ℕ, ℤ, zero, suc, ◌==◌, ◌*◌, nat_lt, Bool, true, false, List, [], length, Option, Some, None, Result, Ok, Err, if◌then◌else◌}
use Rattle.std.specs.Int.{w16, w32}
use Rattle.rc_base.specs.Contexts.Elements.{element_count}
use Rattle.rc_base.specs.declared.command.Part.{Part}
use Rattle.rc_base.specs.declared.command.Rgba.{Rgba}
use Rattle.rc_base.specs.declared.state.Act.{Act}
use Rattle.rc_base.specs.declared.state.Act.TheVariants as act
use Rattle.rc_base.specs.declared.state.ElementSet.{ElementSet}
use Rattle.rc_base.specs.declared.state.ElementValue.{ElementValue}
use Rattle.rc_base.specs.declared.state.ElementValue.TheVariants as val
use Rattle.rc_base.specs.declared.state.Parcel.{Parcel}
use Rattle.rc_base.specs.declared.state.Vertex.{Vertex}
use Rattle.rc_base.specs.declared.sync.SyncOp.{SyncOp}
use Rattle.rc_base.specs.declared.sync.SyncOp.TheVariants as sync
use Rattle.byte_codec.specs.declared.fault.Form.{Form}
use Rattle.byte_codec.specs.Reading.{◌>>=◌, sized, both, convert, known, cons, read_byte, read_unsigned, read_word, take_bytes}
use Rattle.element_table.specs.Kinds.{kind_of}
use Rattle.element_table.specs.declared.kind.ValueKind.{ValueKind}
use Rattle.element_table.specs.declared.kind.ValueKind.TheVariants.{Matrix, Area, Range, Flag, Code, Pair, Mask, Color, Depth, Mode, Image}

-- ---- tags: bytes that stand for one of several things

-- a byte that stands for something
abbrev pub read_tag : {L : Type 0} → (ℕ → Option L) → List ℕ → Result (L × List ℕ) Form
read_tag from bytes = read_byte bytes >>= λ b. known (from b.0) (length bytes) >>= λ l. Ok (l, b.1)

abbrev pub second : {A B : Type 0} → A × B → B
second x = x.1

-- so many of one thing, one after the other
unfoldable pub read_times : {A : Type 0} → (List ℕ → Result (A × List ℕ) Form) → ℕ → List ℕ → Result (List A × List ℕ) Form
read_times p zero bytes = Ok ([], bytes)
read_times p (suc n) bytes = convert cons (both p (read_times p n)) bytes

-- their number first
abbrev pub read_counted : {A : Type 0} → (List ℕ → Result (ℕ × List ℕ) Form) → (List ℕ → Result (A × List ℕ) Form) → List ℕ → Result (List A × List ℕ) Form
read_counted count p = convert second (sized count (read_times p))

-- ---- values

abbrev pub flag_from : ℕ → Option Bool
flag_from b = if b == 0 then Some false else if b == 1 then Some true else None

unfoldable pub read_flag : List ℕ → Result (Bool × List ℕ) Form
read_flag = read_tag flag_from

abbrev pub make_color : ℕ × (ℕ × (ℕ × ℕ)) → Rgba
make_color x = record { r = x.0; g = x.1.0; b = x.1.1.0; a = x.1.1.1 }

unfoldable pub read_color : List ℕ → Result (Rgba × List ℕ) Form
read_color = convert make_color (both read_byte (both read_byte (both read_byte read_byte)))

-- sides and texels
abbrev pub read_texels : List ℕ → Result (((ℕ × ℕ) × List ℕ) × List ℕ) Form
read_texels = sized (both (read_unsigned w16) (read_unsigned w16)) (λ s. take_bytes (4 * (s.0 * s.1)))

abbrev pub make_image : ℕ × ((ℕ × ℕ) × List ℕ) → ElementValue
make_image x = val.Image x.0 x.1.0.0 x.1.0.1 x.1.1

abbrev pub make_matrix : List ℤ → ElementValue
make_matrix zs = val.Matrix (record { m = zs })

-- the value of a kind
unfoldable pub read_value : ValueKind → List ℕ → Result (ElementValue × List ℕ) Form
read_value Matrix = convert make_matrix (read_times read_word 16)
read_value Area = convert val.Area (read_times read_word 4)
read_value Range = convert val.Range (read_times read_word 2)
read_value Flag = convert val.Flag read_flag
read_value Code = convert val.Code read_byte
read_value Pair = convert val.Pair (take_bytes 2)
read_value Mask = convert val.Mask (read_times read_flag 4)
read_value Color = convert val.Color read_color
read_value Depth = convert val.Depth read_word
read_value Mode = convert val.Mode (take_bytes 3)
read_value Image = convert make_image (both (read_unsigned w32) read_texels)

-- the element of a number, if there is one
abbrev pub element_from : ℕ → Option ℕ
element_from e = if nat_lt e element_count then Some e else None

abbrev pub make_set : ℕ × ElementValue → ElementSet
make_set x = record { element = x.0; value = x.1 }

unfoldable pub read_set : List ℕ → Result (ElementSet × List ℕ) Form
read_set = convert make_set (sized (read_tag element_from) (λ e. read_value (kind_of e)))

-- ---- acts

abbrev pub make_vertex : List ℤ × (Rgba × (ℤ × ℤ)) → Vertex
make_vertex x = record { pos = x.0; color = x.1.0; s = x.1.1.0; t = x.1.1.1 }

unfoldable pub read_vertex : List ℕ → Result (Vertex × List ℕ) Form
read_vertex = convert make_vertex (both (read_times read_word 4) (both read_color (both read_word read_word)))

abbrev pub make_part : ℕ × (ℕ × (ℕ × ((ℕ × ℕ) × List ℕ))) → Part
make_part x = record { name = x.0; x = x.1.0; y = x.1.1.0; w = x.1.1.1.0.0; h = x.1.1.1.0.1; texels = x.1.1.1.1 }

unfoldable pub read_part : List ℕ → Result (Part × List ℕ) Form
read_part = convert make_part (both read_byte (both (read_unsigned w16) (both (read_unsigned w16) read_texels)))

-- the kinds of operations
pub data OpKind : Type 0 where
  BarrierKind : OpKind
  SemPKind : OpKind
  SemVKind : OpKind
  SwapKind : OpKind

abbrev pub op_from : ℕ → Option OpKind
op_from b = if b == 0 then Some BarrierKind else if b == 1 then Some SemPKind else if b == 2 then Some SemVKind else if b == 3 then Some SwapKind else None

-- a Swap's name is 0
abbrev pub zero_from : ℕ → Option (Unit {0})
zero_from b = if b == 0 then Some tt else None

abbrev pub make_swap : Unit {0} → SyncOp
make_swap x = sync.Swap

unfoldable pub read_op_name : OpKind → List ℕ → Result (SyncOp × List ℕ) Form
read_op_name BarrierKind = convert sync.Barrier read_byte
read_op_name SemPKind = convert sync.SemP read_byte
read_op_name SemVKind = convert sync.SemV read_byte
read_op_name SwapKind = convert make_swap (read_tag zero_from)

unfoldable pub read_op : List ℕ → Result (SyncOp × List ℕ) Form
read_op = convert second (sized (read_tag op_from) read_op_name)

-- the tags of acts
pub data ActTag : Type 0 where
  DrawTag : ActTag
  ClearTag : ActTag
  SharedTag : ActTag
  SyncTag : ActTag
  EndTag : ActTag

abbrev pub act_tag_from : ℕ → Option ActTag
act_tag_from b =
    if b == 0 then Some DrawTag else if b == 1 then Some ClearTag else if b == 2 then Some SharedTag else if b == 3 then Some SyncTag else if b == 4 then Some EndTag else None

abbrev pub make_draw : ℕ × List Vertex → Act
make_draw x = act.Draw (record { mode = x.0; vertices = x.1 })

unfoldable pub read_vertices : List ℕ → Result (List Vertex × List ℕ) Form
read_vertices = read_counted (read_unsigned w16) read_vertex

abbrev pub nothing : List ℕ → Result (Unit {0} × List ℕ) Form
nothing bytes = Ok (tt, bytes)

abbrev pub make_end : Unit {0} → Act
make_end x = act.End

unfoldable pub read_act_body : ActTag → List ℕ → Result (Act × List ℕ) Form
read_act_body DrawTag = convert make_draw (both read_byte read_vertices)
read_act_body ClearTag = convert act.Clear read_byte
read_act_body SharedTag = convert act.Shared read_part
read_act_body SyncTag = convert act.Sync read_op
read_act_body EndTag = convert make_end nothing

unfoldable pub read_act : List ℕ → Result (Act × List ℕ) Form
read_act = convert second (sized (read_tag act_tag_from) read_act_body)

-- ---- parcels

abbrev pub make_parcel : ℕ × (List ElementSet × Act) → Parcel
make_parcel x = record { place = x.0; sets = x.1.0; act = x.1.1 }

unfoldable pub read_sets : List ℕ → Result (List ElementSet × List ℕ) Form
read_sets = read_counted read_byte read_set

unfoldable pub read_parcel : List ℕ → Result (Parcel × List ℕ) Form
read_parcel = convert make_parcel (both (read_unsigned w32) (both read_sets read_act))

-- the parcel that was read, and an End where none was
abbrev pub parcel_or_end : Result (Parcel × List ℕ) Form → Parcel
parcel_or_end (Ok x) = x.0
parcel_or_end (Err f) = record { place = 0; sets = []; act = act.End }

-- the parcel at the front of the bytes
unfoldable pub parcel_in : List ℕ → Parcel
parcel_in bytes = parcel_or_end (read_parcel bytes)

-- The table of the commands: each one's opcode, its name in a text, the kinds of its fields, and where it may stand. Both formats of a scene
-- and the rules on places and on argument codes are read off it.
use Rattle.std.specs.Prelude.{ℕ, ℤ, pos, ◌^◌, ◌*◌, ◌-◌, ◌<◌, ◌≡◌, ◌&&◌, nat_lt, Bool, true, false, List, [], ◌∷◌, ◌++◌, length, map, replicate, codes, slice_index, unsigned_abs, FitsSigned}
use Rattle.std.specs.List.{AllByRecursion, flat_map}
use Rattle.std.specs.Int.{w32}
use Rattle.rc_base.specs.Numbers.{entry, is_between, fits_i32}
use Rattle.rc_base.specs.Pictures.{Picture}
use Rattle.rc_base.specs.declared.command.Command.{Command}
use Rattle.rc_base.specs.declared.command.Command.TheVariants as cmd
use Rattle.rc_base.specs.declared.command.Opcode.{Opcode}
use Rattle.rc_base.specs.declared.command.Opcode.TheVariants as op
use Rattle.rc_base.specs.declared.command.NumberRange.{NumberRange}
use Rattle.rc_base.specs.declared.command.NumberRange.TheVariants as range

-- what stands in a field of a payload
pub data Kind : Type 0 where
  -- a number of 8 bits, of 16 bits, and a signed one of 32 bits
  Byte : Kind
  Half : Kind
  Word : Kind
  -- a number of 8 bits that has one of so many codes, from 0
  Code : (count : ℕ) → Kind
  -- so many numbers of one kind
  Bytes : (count : ℕ) → Kind
  Words : (count : ℕ) → Kind
  -- width, height and texels of a picture
  Image : Kind

-- the values of a field
abbrev pub Value : Kind → Type 0
Value Byte = ℕ
Value Half = ℕ
Value Word = ℤ
Value (Code count) = ℕ
Value (Bytes count) = List ℕ
Value (Words count) = List ℤ
Value Image = Picture

-- numbers of 8 bits
abbrev pub AreBytes : List ℕ → Type 0
AreBytes bytes = (i : ℕ) → slice_index bytes i < 256

-- a value of a field is in its range
abbrev pub IsValue : (k : Kind) → Value k → Type 0
IsValue Byte n = n < 256
IsValue Half n = n < 2 ^ 16
IsValue Word z = FitsSigned w32 z
IsValue (Code count) n = n < 256
IsValue (Bytes count) ns = (length ns ≡ count) × AreBytes ns
IsValue (Words count) zs = (length zs ≡ count) × AllByRecursion (FitsSigned w32) zs
IsValue Image p = (p.w < 2 ^ 16) × (p.h < 2 ^ 16) × (length p.texels ≡ 4 * (p.w * p.h)) × AreBytes p.texels

-- a value of each field of a payload
abbrev pub Fields : List Kind → Type 0
Fields [] = Unit {0}
Fields (k ∷ ks) = Value k × Fields ks

abbrev pub AreValues : (ks : List Kind) → Fields ks → Type 0
AreValues [] x = Unit {0}
AreValues (k ∷ ks) x = IsValue k x.0 × AreValues ks x.1

-- where a command may stand: in an open block alone, outside one alone, or in both places
pub data Placement : Type 0 where
  Inside : Placement
  Outside : Placement
  Anywhere : Placement

-- a row of the table
pub record Row : Type 0 where
  pub number : ℕ
  pub name : List ℕ
  pub kinds : List Kind
  pub placement : Placement

abbrev row : ℕ → List ℕ → List Kind → Placement → Row
row number name kinds placement = record { number = number; name = name; kinds = kinds; placement = placement }

-- ---- the table

-- how many blend factors there are
abbrev pub blend_factors : ℕ
blend_factors = 10

abbrev pub table_row : Opcode → Row
table_row op.Begin = row 0x01 (codes "Begin") (Code 3 ∷ []) Outside
table_row op.End = row 0x02 (codes "End") [] Inside
table_row op.Vertex = row 0x03 (codes "Vertex") (Words 4 ∷ []) Inside
table_row op.Color = row 0x04 (codes "Color") (Byte ∷ Byte ∷ Byte ∷ Byte ∷ []) Anywhere
table_row op.TexCoord = row 0x05 (codes "TexCoord") (Word ∷ Word ∷ []) Anywhere
table_row op.Enable = row 0x06 (codes "Enable") (Code 6 ∷ []) Outside
table_row op.Disable = row 0x07 (codes "Disable") (Code 6 ∷ []) Outside
table_row op.MatrixMode = row 0x08 (codes "MatrixMode") (Code 2 ∷ []) Outside
table_row op.LoadIdentity = row 0x09 (codes "LoadIdentity") [] Outside
table_row op.LoadMatrix = row 0x0a (codes "LoadMatrix") (Words 16 ∷ []) Outside
table_row op.MultMatrix = row 0x0b (codes "MultMatrix") (Words 16 ∷ []) Outside
table_row op.PushMatrix = row 0x0c (codes "PushMatrix") [] Outside
table_row op.PopMatrix = row 0x0d (codes "PopMatrix") [] Outside
table_row op.Viewport = row 0x0e (codes "Viewport") (Words 4 ∷ []) Outside
table_row op.DepthRange = row 0x0f (codes "DepthRange") (Word ∷ Word ∷ []) Outside
table_row op.Scissor = row 0x10 (codes "Scissor") (Words 4 ∷ []) Outside
table_row op.AlphaFunc = row 0x11 (codes "AlphaFunc") (Code 8 ∷ Byte ∷ []) Outside
table_row op.DepthFunc = row 0x12 (codes "DepthFunc") (Code 8 ∷ []) Outside
table_row op.DepthMask = row 0x13 (codes "DepthMask") (Byte ∷ []) Outside
table_row op.BlendFunc = row 0x14 (codes "BlendFunc") (Code blend_factors ∷ Code blend_factors ∷ []) Outside
table_row op.ColorMask = row 0x15 (codes "ColorMask") (Bytes 4 ∷ []) Outside
table_row op.ClearColor = row 0x16 (codes "ClearColor") (Byte ∷ Byte ∷ Byte ∷ Byte ∷ []) Outside
table_row op.ClearDepth = row 0x17 (codes "ClearDepth") (Word ∷ []) Outside
table_row op.Clear = row 0x18 (codes "Clear") (Byte ∷ []) Outside
table_row op.CullFace = row 0x19 (codes "CullFace") (Code 3 ∷ []) Outside
table_row op.FrontFace = row 0x1a (codes "FrontFace") (Code 2 ∷ []) Outside
table_row op.BindTexture = row 0x1b (codes "BindTexture") (Code 2 ∷ Byte ∷ []) Outside
table_row op.TexEnv = row 0x1c (codes "TexEnv") (Code 2 ∷ []) Outside
table_row op.TexWrap = row 0x1d (codes "TexWrap") (Code 2 ∷ Code 2 ∷ []) Outside
table_row op.TexImage = row 0x1e (codes "TexImage") (Byte ∷ Image ∷ []) Outside
table_row op.TexPart = row 0x1f (codes "TexPart") (Byte ∷ Half ∷ Half ∷ Image ∷ []) Outside
table_row op.SharedImage = row 0x20 (codes "SharedImage") (Byte ∷ Half ∷ Half ∷ Image ∷ []) Outside
table_row op.Barrier = row 0x21 (codes "Barrier") (Byte ∷ []) Outside
table_row op.SemP = row 0x22 (codes "SemP") (Byte ∷ []) Outside
table_row op.SemV = row 0x23 (codes "SemV") (Byte ∷ []) Outside
table_row op.Swap = row 0x24 (codes "Swap") [] Outside

-- all opcodes, in the order of their numbers
abbrev pub opcodes : List Opcode
opcodes =
    op.Begin ∷ op.End ∷ op.Vertex ∷ op.Color ∷ op.TexCoord ∷ op.Enable ∷
    op.Disable ∷ op.MatrixMode ∷ op.LoadIdentity ∷ op.LoadMatrix ∷ op.MultMatrix ∷ op.PushMatrix ∷
    op.PopMatrix ∷ op.Viewport ∷ op.DepthRange ∷ op.Scissor ∷ op.AlphaFunc ∷ op.DepthFunc ∷
    op.DepthMask ∷ op.BlendFunc ∷ op.ColorMask ∷ op.ClearColor ∷ op.ClearDepth ∷ op.Clear ∷
    op.CullFace ∷ op.FrontFace ∷ op.BindTexture ∷ op.TexEnv ∷ op.TexWrap ∷ op.TexImage ∷
    op.TexPart ∷ op.SharedImage ∷ op.Barrier ∷ op.SemP ∷ op.SemV ∷ op.Swap ∷ []

-- ---- the commands

-- the opcode of a command
abbrev pub opcode_of : Command → Opcode
opcode_of (cmd.Begin _) = op.Begin
opcode_of cmd.End = op.End
opcode_of (cmd.Vertex _) = op.Vertex
opcode_of (cmd.Color _) = op.Color
opcode_of (cmd.TexCoord _ _) = op.TexCoord
opcode_of (cmd.Enable _) = op.Enable
opcode_of (cmd.Disable _) = op.Disable
opcode_of (cmd.MatrixMode _) = op.MatrixMode
opcode_of cmd.LoadIdentity = op.LoadIdentity
opcode_of (cmd.LoadMatrix _) = op.LoadMatrix
opcode_of (cmd.MultMatrix _) = op.MultMatrix
opcode_of cmd.PushMatrix = op.PushMatrix
opcode_of cmd.PopMatrix = op.PopMatrix
opcode_of (cmd.Viewport _) = op.Viewport
opcode_of (cmd.DepthRange _ _) = op.DepthRange
opcode_of (cmd.Scissor _) = op.Scissor
opcode_of (cmd.AlphaFunc _ _) = op.AlphaFunc
opcode_of (cmd.DepthFunc _) = op.DepthFunc
opcode_of (cmd.DepthMask _) = op.DepthMask
opcode_of (cmd.BlendFunc _ _) = op.BlendFunc
opcode_of (cmd.ColorMask _) = op.ColorMask
opcode_of (cmd.ClearColor _) = op.ClearColor
opcode_of (cmd.ClearDepth _) = op.ClearDepth
opcode_of (cmd.Clear _) = op.Clear
opcode_of (cmd.CullFace _) = op.CullFace
opcode_of (cmd.FrontFace _) = op.FrontFace
opcode_of (cmd.BindTexture _ _) = op.BindTexture
opcode_of (cmd.TexEnv _) = op.TexEnv
opcode_of (cmd.TexWrap _ _) = op.TexWrap
opcode_of (cmd.TexImage _ _ _ _) = op.TexImage
opcode_of (cmd.TexPart _) = op.TexPart
opcode_of (cmd.SharedImage _) = op.SharedImage
opcode_of (cmd.Barrier _) = op.Barrier
opcode_of (cmd.SemP _) = op.SemP
opcode_of (cmd.SemV _) = op.SemV
opcode_of cmd.Swap = op.Swap

-- the byte that stands for an opcode
abbrev pub opcode_number : Opcode → ℕ
opcode_number o = (table_row o).number

abbrev pub kinds_of : Opcode → List Kind
kinds_of o = (table_row o).kinds

-- the fields of a command, in the order of its row
abbrev pub fields_of : (c : Command) → Fields (kinds_of (opcode_of c))
fields_of (cmd.Begin mode) = (mode, tt)
fields_of cmd.End = tt
fields_of (cmd.Vertex p) = (p, tt)
fields_of (cmd.Color c) = (c.r, (c.g, (c.b, (c.a, tt))))
fields_of (cmd.TexCoord s t) = (s, (t, tt))
fields_of (cmd.Enable capability) = (capability, tt)
fields_of (cmd.Disable capability) = (capability, tt)
fields_of (cmd.MatrixMode mode) = (mode, tt)
fields_of cmd.LoadIdentity = tt
fields_of (cmd.LoadMatrix m) = (m.m, tt)
fields_of (cmd.MultMatrix m) = (m.m, tt)
fields_of cmd.PushMatrix = tt
fields_of cmd.PopMatrix = tt
fields_of (cmd.Viewport area) = (area, tt)
fields_of (cmd.DepthRange near far) = (near, (far, tt))
fields_of (cmd.Scissor area) = (area, tt)
fields_of (cmd.AlphaFunc function reference) = (function, (reference, tt))
fields_of (cmd.DepthFunc function) = (function, tt)
fields_of (cmd.DepthMask flag) = (flag, tt)
fields_of (cmd.BlendFunc source destination) = (source, (destination, tt))
fields_of (cmd.ColorMask flags) = (flags, tt)
fields_of (cmd.ClearColor c) = (c.r, (c.g, (c.b, (c.a, tt))))
fields_of (cmd.ClearDepth depth) = (depth, tt)
fields_of (cmd.Clear mask) = (mask, tt)
fields_of (cmd.CullFace face) = (face, tt)
fields_of (cmd.FrontFace direction) = (direction, tt)
fields_of (cmd.BindTexture kind name) = (kind, (name, tt))
fields_of (cmd.TexEnv environment) = (environment, tt)
fields_of (cmd.TexWrap s t) = (s, (t, tt))
fields_of (cmd.TexImage name w h texels) = (name, (record { w = w; h = h; texels = texels }, tt))
fields_of (cmd.TexPart p) = (p.name, (p.x, (p.y, (record { w = p.w; h = p.h; texels = p.texels }, tt))))
fields_of (cmd.SharedImage p) = (p.name, (p.x, (p.y, (record { w = p.w; h = p.h; texels = p.texels }, tt))))
fields_of (cmd.Barrier name) = (name, tt)
fields_of (cmd.SemP name) = (name, tt)
fields_of (cmd.SemV name) = (name, tt)
fields_of cmd.Swap = tt

-- each field of a command is in its range
abbrev pub IsCommand : Command → Type 0
IsCommand c = AreValues (kinds_of (opcode_of c)) (fields_of c)

-- each argument with codes has one of its codes
abbrev pub has_code : (k : Kind) → Value k → Bool
has_code (Code count) n = nat_lt n count
has_code Byte _ = true
has_code Half _ = true
has_code Word _ = true
has_code (Bytes _) _ = true
has_code (Words _) _ = true
has_code Image _ = true

abbrev pub have_codes : (ks : List Kind) → Fields ks → Bool
have_codes [] x = true
have_codes (k ∷ ks) x = has_code k x.0 && have_codes ks x.1

abbrev pub has_codes : Command → Bool
has_codes c = have_codes (kinds_of (opcode_of c)) (fields_of c)

-- ---- the numbers of a command, and the texels of its picture

-- the ranges of a field's numbers
abbrev pub kind_ranges : Kind → List NumberRange
kind_ranges Byte = range.Byte ∷ []
kind_ranges Half = range.Half ∷ []
kind_ranges Word = range.Word ∷ []
kind_ranges (Code count) = range.Byte ∷ []
kind_ranges (Bytes count) = replicate count range.Byte
kind_ranges (Words count) = replicate count range.Word
kind_ranges Image = range.Half ∷ range.Half ∷ []

-- the range of each number of a command
abbrev pub ranges_of : Opcode → List NumberRange
ranges_of o = flat_map kind_ranges (kinds_of o)

abbrev pub is_in_range : NumberRange → ℤ → Bool
is_in_range range.Byte z = is_between (pos 0) (pos 255) z
is_in_range range.Half z = is_between (pos 0) (pos 65535) z
is_in_range range.Word z = fits_i32 z

abbrev pub is_picture : Kind → Bool
is_picture Byte = false
is_picture Half = false
is_picture Word = false
is_picture (Code count) = false
is_picture (Bytes count) = false
is_picture (Words count) = false
is_picture Image = true

abbrev pub ends_in_picture : List Kind → Bool
ends_in_picture [] = false
ends_in_picture (k ∷ []) = is_picture k
ends_in_picture (k ∷ (l ∷ ks)) = ends_in_picture (l ∷ ks)

-- a picture is the last field of its command
abbrev pub has_picture : Opcode → Bool
has_picture o = ends_in_picture (kinds_of o)

-- width times height: the last two numbers of a command with a picture
abbrev pub picture_area : List ℤ → ℕ
picture_area numbers = unsigned_abs (entry numbers (length numbers - 2)) * unsigned_abs (entry numbers (length numbers - 1))

-- the numbers of a field
abbrev pub value_numbers : (k : Kind) → Value k → List ℤ
value_numbers Byte n = pos n ∷ []
value_numbers Half n = pos n ∷ []
value_numbers Word z = z ∷ []
value_numbers (Code count) n = pos n ∷ []
value_numbers (Bytes count) ns = map pos ns
value_numbers (Words count) zs = zs
value_numbers Image p = pos p.w ∷ pos p.h ∷ []

abbrev pub field_numbers : (ks : List Kind) → Fields ks → List ℤ
field_numbers [] x = []
field_numbers (k ∷ ks) x = value_numbers k x.0 ++ field_numbers ks x.1

-- the texels of a field
abbrev pub value_texels : (k : Kind) → Value k → List ℕ
value_texels Byte n = []
value_texels Half n = []
value_texels Word z = []
value_texels (Code count) n = []
value_texels (Bytes count) ns = []
value_texels (Words count) zs = []
value_texels Image p = p.texels

abbrev pub field_texels : (ks : List Kind) → Fields ks → List ℕ
field_texels [] x = []
field_texels (k ∷ ks) x = value_texels k x.0 ++ field_texels ks x.1

-- the parts that a command is told by
pub record CommandParts : Type 0 where
  pub opcode : Opcode
  pub numbers : List ℤ
  pub texels : List ℕ

abbrev pub command_parts : Opcode → List ℤ → List ℕ → CommandParts
command_parts opcode numbers texels = record { opcode = opcode; numbers = numbers; texels = texels }

-- the parts of some fields
abbrev pub field_parts : (o : Opcode) → Fields (kinds_of o) → CommandParts
field_parts o x = command_parts o (field_numbers (kinds_of o) x) (field_texels (kinds_of o) x)

-- a command's opcode, its numbers in the order of its fields, and its texels
abbrev pub parts_of : Command → CommandParts
parts_of c = field_parts (opcode_of c) (fields_of c)

-- How bytes spell a parcel: its place, its sets with their number, and its act behind the act's tag.
use Rattle.std.specs.Prelude.{◌≡◌, ℕ, ℤ, ◌*◌, ◌<◌, ◌≤◌, ◌^◌, Bool, true, false, List, [], ◌∷◌, ◌++◌, length, FitsSigned}
use Rattle.std.specs.List.{flat_map, AllByRecursion}
use Rattle.std.specs.Int.{w32}
use Rattle.rc_base.specs.Formats.Spelling.{half, long, word}
use Rattle.rc_base.specs.Contexts.Elements.{element_count}
use Rattle.rc_base.specs.declared.command.Part.{Part}
use Rattle.rc_base.specs.declared.command.Rgba.{Rgba}
use Rattle.rc_base.specs.declared.state.Act.{Act}
use Rattle.rc_base.specs.declared.state.Act.TheVariants as act
use Rattle.rc_base.specs.declared.state.ElementSet.{ElementSet}
use Rattle.rc_base.specs.declared.state.ElementValue.{ElementValue}
use Rattle.rc_base.specs.declared.state.ElementValue.TheVariants as val
use Rattle.rc_base.specs.declared.state.Parcel.{Parcel}
use Rattle.rc_base.specs.declared.state.Vertex.{Vertex}
use Rattle.rc_base.specs.declared.sync.SyncOp.{SyncOp}
use Rattle.rc_base.specs.declared.sync.SyncOp.TheVariants as sync
use Rattle.element_table.specs.Kinds.{kind_of, kind_of_value}
use Rattle.byte_codec.specs.NumberCodecs.{IsRun}

-- ---- values

-- 1 is on, 0 off
abbrev pub flag_byte : Bool → ℕ
flag_byte true = 1
flag_byte false = 0

abbrev pub flag_bytes : Bool → List ℕ
flag_bytes flag = flag_byte flag ∷ []

abbrev pub color_bytes : Rgba → List ℕ
color_bytes c = c.r ∷ c.g ∷ c.b ∷ c.a ∷ []

-- what stands for a value, by its kind; an image is its edit number, its sides and its texels
abbrev pub value_bytes : ElementValue → List ℕ
value_bytes (val.Matrix m) = flat_map word m.m
value_bytes (val.Area area) = flat_map word area
value_bytes (val.Range range) = flat_map word range
value_bytes (val.Flag flag) = flag_bytes flag
value_bytes (val.Code code) = code ∷ []
value_bytes (val.Pair pair) = pair
value_bytes (val.Mask mask) = flat_map flag_bytes mask
value_bytes (val.Color color) = color_bytes color
value_bytes (val.Depth depth) = word depth
value_bytes (val.Mode mode) = mode
value_bytes (val.Image edit w h texels) = long edit ++ (half w ++ (half h ++ texels))

-- the element and its value
abbrev pub set_bytes : ElementSet → List ℕ
set_bytes set = set.element ∷ value_bytes set.value

-- ---- acts

-- position, colour, texture coordinate: 28 bytes
abbrev pub vertex_bytes : Vertex → List ℕ
vertex_bytes v = flat_map word v.pos ++ (color_bytes v.color ++ (word v.s ++ word v.t))

-- name, corner and sides, texels
abbrev pub part_bytes : Part → List ℕ
part_bytes part = part.name ∷ (half part.x ++ (half part.y ++ (half part.w ++ (half part.h ++ part.texels))))

-- the kind of the operation and its name, which is 0 for a Swap
abbrev pub op_bytes : SyncOp → List ℕ
op_bytes (sync.Barrier name) = 0 ∷ name ∷ []
op_bytes (sync.SemP name) = 1 ∷ name ∷ []
op_bytes (sync.SemV name) = 2 ∷ name ∷ []
op_bytes sync.Swap = 3 ∷ 0 ∷ []

-- the tag of the act and what follows it
abbrev pub act_bytes : Act → List ℕ
act_bytes (act.Draw block) = 0 ∷ (block.mode ∷ (half (length block.vertices) ++ flat_map vertex_bytes block.vertices))
act_bytes (act.Clear mask) = 1 ∷ mask ∷ []
act_bytes (act.Shared part) = 2 ∷ part_bytes part
act_bytes (act.Sync op) = 3 ∷ op_bytes op
act_bytes act.End = 4 ∷ []

-- ---- parcels

-- the place, the number of the sets, the sets, the act
unfoldable pub parcel_bytes : Parcel → List ℕ
parcel_bytes p = long p.place ++ ((length p.sets ∷ flat_map set_bytes p.sets) ++ act_bytes p.act)

-- ---- which parcels are spelled

-- so many numbers of 32 bits
abbrev pub AreWords : ℕ → List ℤ → Type 0
AreWords n zs = (length zs ≡ n) × AllByRecursion (FitsSigned w32) zs

-- each channel is a byte
abbrev pub IsColor : Rgba → Type 0
IsColor c = (c.r < 256) × (c.g < 256) × (c.b < 256) × (c.a < 256)

-- each number is in the range of its type, and an image has four bytes for each texel
abbrev pub IsValue : ElementValue → Type 0
IsValue (val.Matrix m) = AreWords 16 m.m
IsValue (val.Area area) = AreWords 4 area
IsValue (val.Range range) = AreWords 2 range
IsValue (val.Flag flag) = Unit {0}
IsValue (val.Code code) = code < 256
IsValue (val.Pair pair) = IsRun 2 pair
IsValue (val.Mask mask) = length mask ≡ 4
IsValue (val.Color color) = IsColor color
IsValue (val.Depth depth) = FitsSigned w32 depth
IsValue (val.Mode mode) = IsRun 3 mode
IsValue (val.Image edit w h texels) = (edit < 2 ^ 32) × (w < 2 ^ 16) × (h < 2 ^ 16) × IsRun (4 * (w * h)) texels

-- an element with a value of its kind
pub record IsSet (set : ElementSet) : Type 0 where
  pub element : set.element < element_count
  pub kind : kind_of_value set.value ≡ kind_of set.element
  pub value : IsValue set.value

-- the same of a vertex, of a part of a texture, of an operation, and of an act, whose vertices are fewer than 65,536
abbrev pub IsVertex : Vertex → Type 0
IsVertex v = AreWords 4 v.pos × IsColor v.color × FitsSigned w32 v.s × FitsSigned w32 v.t

abbrev pub IsPart : Part → Type 0
IsPart part = (part.name < 256) × (part.x < 2 ^ 16) × (part.y < 2 ^ 16) × (part.w < 2 ^ 16) × (part.h < 2 ^ 16) × IsRun (4 * (part.w * part.h)) part.texels

abbrev pub IsOp : SyncOp → Type 0
IsOp (sync.Barrier name) = name < 256
IsOp (sync.SemP name) = name < 256
IsOp (sync.SemV name) = name < 256
IsOp sync.Swap = Unit {0}

abbrev pub IsAct : Act → Type 0
IsAct (act.Draw block) = (block.mode < 256) × (length block.vertices < 2 ^ 16) × AllByRecursion IsVertex block.vertices
IsAct (act.Clear mask) = mask < 256
IsAct (act.Shared part) = IsPart part
IsAct (act.Sync op) = IsOp op
IsAct act.End = Unit {0}

-- each number in its range, each value of its element's kind, four bytes for each texel, at most 255 sets and 65,535 vertices
pub record IsParcel (p : Parcel) : Type 0 where
  pub place : p.place < 2 ^ 32
  pub few : length p.sets < 256
  pub sets : AllByRecursion IsSet p.sets
  pub act : IsAct p.act

-- The bytes spell the parcel.
pub record SpellsParcel (bytes : List ℕ) (p : Parcel) : Type 0 where
  pub is_parcel : IsParcel p
  pub parts : bytes ≡ parcel_bytes p

-- ---- what the types don't tell

-- an image has four bytes for each texel
abbrev pub IsWholeValue : ElementValue → Type 0
IsWholeValue (val.Matrix m) = Unit {0}
IsWholeValue (val.Area area) = Unit {0}
IsWholeValue (val.Range range) = Unit {0}
IsWholeValue (val.Flag flag) = Unit {0}
IsWholeValue (val.Code code) = Unit {0}
IsWholeValue (val.Pair pair) = Unit {0}
IsWholeValue (val.Mask mask) = Unit {0}
IsWholeValue (val.Color color) = Unit {0}
IsWholeValue (val.Depth depth) = Unit {0}
IsWholeValue (val.Mode mode) = Unit {0}
IsWholeValue (val.Image edit w h texels) = length texels ≡ 4 * (w * h)

-- the value is of the element's kind, and whole
pub record IsWholeSet (set : ElementSet) : Type 0 where
  pub element : set.element < element_count
  pub kind : kind_of_value set.value ≡ kind_of set.element
  pub texels : IsWholeValue set.value

-- the vertices can be counted by 16 bits, and a part has four bytes for each texel
abbrev pub IsWholeAct : Act → Type 0
IsWholeAct (act.Draw block) = length block.vertices ≤ 65535
IsWholeAct (act.Clear mask) = Unit {0}
IsWholeAct (act.Shared part) = length part.texels ≡ 4 * (part.w * part.h)
IsWholeAct (act.Sync op) = Unit {0}
IsWholeAct act.End = Unit {0}

-- sets that a parcel may have: at most 255, each with a value of its element's kind
pub record ArePackable (sets : List ElementSet) : Type 0 where
  pub few : length sets ≤ 255
  pub whole : AllByRecursion IsWholeSet sets

-- A parcel that can be packed: at most 255 sets, each value of its element's kind, at most 65,535 vertices, four bytes for each texel.
pub record IsPackable (p : Parcel) : Type 0 where
  pub few : length p.sets ≤ 255
  pub sets : AllByRecursion IsWholeSet p.sets
  pub act : IsWholeAct p.act

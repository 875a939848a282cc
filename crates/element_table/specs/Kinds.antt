-- The table of the elements: what kind of value each has.
use Rattle.std.specs.Prelude.{ℕ, Bool, true, false, List, [], ◌∷◌, slice_index_or}
use Rattle.rc_base.specs.declared.state.ElementValue.{ElementValue}
use Rattle.rc_base.specs.declared.state.ElementValue.TheVariants as val
use Rattle.element_table.specs.declared.kind.ValueKind.{ValueKind}
use Rattle.element_table.specs.declared.kind.ValueKind.TheVariants.{Matrix, Area, Range, Flag, Code, Pair, Mask, Color, Depth, Mode, Image}

-- the scalar elements, in the order of their numbers
abbrev pub scalar_kinds : List ValueKind
scalar_kinds =
    Matrix ∷ Matrix ∷ Area ∷ Range ∷ Flag ∷ Area ∷ Flag ∷ Code ∷ Code ∷ Flag ∷ Pair
    ∷ Flag ∷ Code ∷ Flag ∷ Flag ∷ Pair ∷ Mask ∷ Color ∷ Depth ∷ Flag ∷ Pair ∷ Mode ∷ []

-- the kind of an element's value: all others are images
unfoldable pub kind_of : ℕ → ValueKind
kind_of e = slice_index_or scalar_kinds e Image

-- the kind of a value
abbrev pub kind_of_value : ElementValue → ValueKind
kind_of_value (val.Matrix m) = Matrix
kind_of_value (val.Area area) = Area
kind_of_value (val.Range range) = Range
kind_of_value (val.Flag flag) = Flag
kind_of_value (val.Code code) = Code
kind_of_value (val.Pair pair) = Pair
kind_of_value (val.Mask mask) = Mask
kind_of_value (val.Color color) = Color
kind_of_value (val.Depth depth) = Depth
kind_of_value (val.Mode mode) = Mode
kind_of_value (val.Image edit w h texels) = Image

-- a value is of a kind
abbrev pub has_kind : ElementValue → ValueKind → Bool
has_kind (val.Matrix m) Matrix = true
has_kind (val.Area area) Area = true
has_kind (val.Range range) Range = true
has_kind (val.Flag flag) Flag = true
has_kind (val.Code code) Code = true
has_kind (val.Pair pair) Pair = true
has_kind (val.Mask mask) Mask = true
has_kind (val.Color color) Color = true
has_kind (val.Depth depth) Depth = true
has_kind (val.Mode mode) Mode = true
has_kind (val.Image edit w h texels) Image = true
has_kind v k = false

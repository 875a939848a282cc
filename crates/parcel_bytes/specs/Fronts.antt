-- Where the act of a parcel begins among its bytes.
use Rattle.std.specs.Prelude.{◌≡◌, ℕ, List, ◌∷◌, ◌++◌, length}
use Rattle.std.specs.List.{flat_map}
use Rattle.rc_base.specs.Formats.Spelling.{long}
use Rattle.rc_base.specs.declared.state.Parcel.{Parcel}
use Rattle.parcel_bytes.specs.Spelling.{SpellsParcel, set_bytes}

-- what stands before the act: the place, the number of the sets, the sets
abbrev pub front_bytes : Parcel → List ℕ
front_bytes p = long p.place ++ (length p.sets ∷ flat_map set_bytes p.sets)

-- The bytes spell the parcel, whose act begins there.
pub record IsWritten (bytes : List ℕ) (act : ℕ) (p : Parcel) : Type 0 where
  pub spells : SpellsParcel bytes p
  pub begins : act ≡ length (front_bytes p)

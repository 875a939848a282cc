-- What is wrong with bytes that spell no parcel, and at which place.
use Rattle.std.specs.Prelude.{◌≡◌, ℕ, ◌-◌, ◌<◌, ◌⊎◌, List, [], ◌∷◌, ◌++◌, length}
use Rattle.rc_base.specs.declared.state.Parcel.{Parcel}
use Rattle.rc_base.specs.Formats.Commands.{AreBytes}
use Rattle.parcel_bytes.specs.Spelling.{IsParcel, parcel_bytes, SpellsParcel}
use Rattle.byte_codec.specs.declared.fault.Form.TheVariants.{BadCount, Unknown, Truncated}
use Rattle.byte_codec.specs.declared.fault.ReadError.{ReadError}
use Rattle.byte_codec.specs.declared.fault.ReadError.TheVariants as errors
use Rattle.parcel_bytes.specs.declared.fault.ParcelFault.{ParcelFault}
use Rattle.parcel_bytes.specs.declared.fault.ParcelFault.TheVariants as faults

-- a parcel's bytes go on from these, or are these
pub record BeginsParcel (bytes : List ℕ) : Type 0 where
  pub parcel : Parcel
  pub more : List ℕ
  pub is_parcel : IsParcel parcel
  pub whole : bytes ++ more ≡ parcel_bytes parcel

-- a part of a parcel's bytes, and not the whole
pub record IsCutParcel (bytes : List ℕ) : Type 0 where
  pub begins : BeginsParcel bytes
  pub some : 0 < length begins.more

-- a part of a parcel's bytes, and then a byte with which no parcel goes on
pub record HasUnknownTag (bytes : List ℕ) (at : ℕ) : Type 0 where
  pub front : List ℕ
  pub byte : ℕ
  pub rest : List ℕ
  pub parts : bytes ≡ front ++ byte ∷ rest
  pub place : at ≡ length front
  pub cut : IsCutParcel front
  pub unknown : BeginsParcel (front ++ byte ∷ []) → ⊥

-- a parcel's bytes, and then more
pub record HasTrailing (bytes : List ℕ) (at : ℕ) : Type 0 where
  pub front : List ℕ
  pub rest : List ℕ
  pub parcel : Parcel
  pub spells : SpellsParcel front parcel
  pub parts : bytes ≡ front ++ rest
  pub some : 0 < length rest
  pub place : at ≡ length front

-- The fault of bytes that spell no parcel: the first one from the left. Want of memory says nothing of the bytes.
abbrev pub FailsAsParcel : List ℕ → ParcelFault → Type 0
FailsAsParcel bytes (faults.Truncated at) = IsCutParcel bytes × (at ≡ length bytes)
FailsAsParcel bytes (faults.UnknownTag at) = HasUnknownTag bytes at
FailsAsParcel bytes (faults.Trailing at) = HasTrailing bytes at
FailsAsParcel bytes faults.OutOfMemory = Unit {0}

-- the fault with its place, in bytes of which there are so many; no count of a parcel is a bad one
abbrev pub parcel_fault : ReadError → ℕ → ParcelFault
parcel_fault errors.Memory len = faults.OutOfMemory
parcel_fault (errors.Form (BadCount left)) len = faults.OutOfMemory
parcel_fault (errors.Form (Unknown left)) len = faults.UnknownTag (len - left)
parcel_fault (errors.Form Truncated) len = faults.Truncated len

-- a fault of the bytes
abbrev pub IsParcelFault : ParcelFault → Type 0
IsParcelFault (faults.Truncated at) = Unit {0}
IsParcelFault (faults.UnknownTag at) = Unit {0}
IsParcelFault (faults.Trailing at) = Unit {0}
IsParcelFault faults.OutOfMemory = ⊥

-- ---- laws

-- no bytes spell two parcels
abbrev pub SpellsOneParcel : Type 0
SpellsOneParcel = (bytes : List ℕ) (one other : Parcel) → SpellsParcel bytes one → SpellsParcel bytes other → one ≡ other

-- a parcel that is spelled has no fault
abbrev pub FaultsSpellNoParcel : Type 0
FaultsSpellNoParcel = (bytes : List ℕ) (fault : ParcelFault) (p : Parcel) → FailsAsParcel bytes fault → IsParcelFault fault → SpellsParcel bytes p → ⊥

-- bytes have one fault at most
abbrev pub ParcelFaultsAreOne : Type 0
ParcelFaultsAreOne =
    (bytes : List ℕ) (one other : ParcelFault) → FailsAsParcel bytes one → FailsAsParcel bytes other → IsParcelFault one → IsParcelFault other → one ≡ other

-- bytes spell a parcel, or they have a fault
abbrev pub SpellsParcelOrFails : Type 0
SpellsParcelOrFails =
    (bytes : List ℕ) → AreBytes bytes → ((p : Parcel) × SpellsParcel bytes p) ⊎ ((fault : ParcelFault) × IsParcelFault fault × FailsAsParcel bytes fault)

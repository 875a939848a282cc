-- Parcels of one place and act with other sets.
use Rattle.std.proofs.Common.{◌≡◌, ℕ, ◌<◌, ◌≤◌, ◌^◌, List, ◌∷◌, ◌++◌, length, take, drop, refl, sym, ap, ◌∙◌, subst, arith, append_assoc, length-append}
use Rattle.std.specs.List.{flat_map, AllByRecursion}
use Rattle.std.proofs.lemmas.List.{take-append-drop}
use Rattle.std.proofs.Math.Seq.{take-append_seam, drop-append_seam}
use Rattle.rc_base.specs.Formats.Spelling.{long}
use Rattle.rc_base.specs.declared.state.ElementSet.{ElementSet}
use Rattle.rc_base.specs.declared.state.Parcel.{Parcel}
use Rattle.parcel_bytes.specs.Spelling.{IsAct, IsSet, act_bytes, parcel_bytes, set_bytes}
use Rattle.parcel_bytes.specs.Fronts.{front_bytes, IsWritten}
use Rattle.parcel_bytes.specs.Reading.{parcel_in}
use Rattle.parcel_bytes.proofs.ParcelsAreRead.{is_in}

-- the bytes are what stands before the act, and the act
pub apart : (p : Parcel) → parcel_bytes p ≡ front_bytes p ++ act_bytes p.act
unfolding parcel_bytes
apart p = sym (append_assoc (long p.place) (length p.sets ∷ flat_map set_bytes p.sets) (act_bytes p.act))

pub whole_is : (bytes : List ℕ) (at : ℕ) (p : Parcel) → IsWritten bytes at p → bytes ≡ front_bytes p ++ act_bytes p.act
whole_is bytes at p w = w.spells.parts ∙ apart p

pub front_is : (bytes : List ℕ) (at : ℕ) (p : Parcel) → IsWritten bytes at p → take at bytes ≡ front_bytes p
front_is bytes at p w =
    ap (λ (n : ℕ). take n bytes) w.begins ∙ ap (take (length (front_bytes p))) (whole_is bytes at p w) ∙ take-append_seam (front_bytes p) (act_bytes p.act)

pub act_is : (bytes : List ℕ) (at : ℕ) (p : Parcel) → IsWritten bytes at p → drop at bytes ≡ act_bytes p.act
act_is bytes at p w =
    ap (λ (n : ℕ). drop n bytes) w.begins ∙ ap (drop (length (front_bytes p))) (whole_is bytes at p w) ∙ drop-append_seam (front_bytes p) (act_bytes p.act)

pub place_is : (bytes : List ℕ) (at : ℕ) (p : Parcel) → IsWritten bytes at p → take 4 bytes ≡ long p.place
place_is bytes at p w = ap (take 4) (whole_is bytes at p w)

pub begins_within : (bytes : List ℕ) (at : ℕ) (p : Parcel) → IsWritten bytes at p → at ≤ length bytes
begins_within bytes at p w =
    let e = ap length (whole_is bytes at p w) in
    let b = w.begins in
    omega (arith, e, b, length-append (front_bytes p) (act_bytes p.act))

pub place_within : (bytes : List ℕ) (at : ℕ) (p : Parcel) → IsWritten bytes at p → 4 ≤ length bytes
place_within bytes at p w =
    let e = ap length (whole_is bytes at p w) in
    let long_is : length (long p.place) ≡ 4 = refl in
    omega (arith, e, long_is, length-append (front_bytes p) (act_bytes p.act), length-append (long p.place) (length p.sets ∷ flat_map set_bytes p.sets))

-- a front and an act are a parcel
pub written_whole : (p : Parcel) (front out : List ℕ) (at : ℕ) → p.place < 2 ^ 32 → length p.sets ≤ 255 → AllByRecursion IsSet p.sets → IsAct p.act
    → front ≡ front_bytes p → at ≡ length front → out ≡ front ++ act_bytes p.act → IsWritten out at p
written_whole p front out at place few are act is begins whole = record {
  spells = record {
    is_parcel = record { place = place; few = omega (arith, few); sets = are; act = act };
    parts = whole ∙ ap (λ (l : List ℕ). l ++ act_bytes p.act) is ∙ sym (apart p);
  };
  begins = begins ∙ ap length is;
}

-- where the bytes spell a parcel, it is the one in them
pub in_bytes : (bytes : List ℕ) (at : ℕ) (p : Parcel) → IsWritten bytes at p → IsWritten bytes at (parcel_in bytes)
in_bytes bytes at p w = subst (IsWritten bytes at) (sym (is_in bytes p w.spells)) w

-- ---- other sets

module _ (bytes : List ℕ) (at : ℕ) (p : Parcel) (sets : List ElementSet) (front : List ℕ) (w : IsWritten bytes at p)
    (few : length sets ≤ 255) (are : AllByRecursion IsSet sets) (is : front ≡ take 4 bytes ++ (length sets ∷ flat_map set_bytes sets)) where
  abbrev pub other : Parcel
  other = record p { sets = sets }

  front_now : front ≡ front_bytes other
  front_now = is ∙ ap (λ (l : List ℕ). l ++ (length sets ∷ flat_map set_bytes sets)) (place_is bytes at p w)

  -- the act's bytes are the same
  pub with_sets : (out : List ℕ) (begins : ℕ) → out ≡ front ++ drop at bytes → begins ≡ length front → IsWritten out begins other
  with_sets out begins whole place =
      written_whole other front out begins w.spells.is_parcel.place few are w.spells.is_parcel.act front_now place
      (whole ∙ ap (λ (l : List ℕ). front ++ l) (act_is bytes at p w))

  -- where the fronts are the same, so are the parcels
  pub same_sets : front ≡ take at bytes → p ≡ other
  same_sets same =
      let whole : bytes ≡ front ++ drop at bytes = sym (take-append-drop at bytes) ∙ ap (λ (l : List ℕ). l ++ drop at bytes) (sym same) in
      sym (is_in bytes p w.spells) ∙ is_in bytes other (with_sets bytes (length front) whole refl).spells

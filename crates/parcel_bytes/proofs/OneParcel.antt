-- Bytes spell one parcel at most, have one fault at most, and one of the two.
use Rattle.std.proofs.Common.{◌≡◌, ℕ, ◌-◌, ◌<◌, ◌≤◌, ◌⊎◌, inl, inr, List, [], ◌∷◌, ◌++◌, length, Result, Ok, Err, IfOk, IfErr, refl, sym, ap, subst, ◌∙◌, append_assoc, arith, length-append}
use Rattle.std.proofs.lemmas.Bool.{cases_lt}
use Rattle.std.proofs.lemmas.List.{append-nil}
use Rattle.rc_base.specs.Formats.Commands.{AreBytes}
use Rattle.rc_base.specs.declared.state.Parcel.{Parcel}
use Rattle.byte_codec.specs.declared.fault.Form.{Form}
use Rattle.byte_codec.specs.declared.fault.Form.TheVariants.{BadCount, Unknown, Truncated}
use Rattle.byte_codec.specs.declared.fault.ReadError.TheVariants as errors
use Rattle.parcel_bytes.specs.declared.fault.ParcelFault.{ParcelFault}
use Rattle.parcel_bytes.specs.declared.fault.ParcelFault.TheVariants as faults
use Rattle.parcel_bytes.specs.Spelling.{SpellsParcel}
use Rattle.parcel_bytes.specs.Reading.{read_parcel}
use Rattle.parcel_bytes.specs.Faults.{BeginsParcel, IsCutParcel, HasUnknownTag, HasTrailing, FailsAsParcel, IsParcelFault, parcel_fault}
use Rattle.parcel_bytes.proofs.ParcelParsers.{parcel_parser}
use Rattle.parcel_bytes.proofs.ParcelsAreRead.{front_is_read, is_in, begun_is_read, is_spelled, is_trailing, reading_fails}

pub one_parcel : (bytes : List ℕ) (p q : Parcel) → SpellsParcel bytes p → SpellsParcel bytes q → p ≡ q
one_parcel bytes p q s t = sym (is_in bytes p s) ∙ is_in bytes q t

-- what two readings leave
abbrev left_of : Result (Parcel × List ℕ) Form → List ℕ
left_of (Ok x) = x.1
left_of (Err f) = []

same_left : (p q : Parcel) (xs ys : List ℕ) → (let r : Result (Parcel × List ℕ) Form = Ok (p, xs) in r) ≡ Ok (q, ys) → xs ≡ ys
same_left p q xs ys e = ap left_of e

-- a parcel that is spelled doesn't go on to one
no_more : (bytes : List ℕ) (p : Parcel) → SpellsParcel bytes p → IsCutParcel bytes → ⊥
no_more bytes p s c =
    let left = same_left _ _ c.begins.more [] (sym (front_is_read bytes p c.begins.more s) ∙ begun_is_read bytes c.begins) in
    omega (arith, c.some, ap length left)

-- nor does it begin one with bytes behind it
no_other : (front rest : List ℕ) (p : Parcel) → SpellsParcel front p → 0 < length rest → BeginsParcel (front ++ rest) → ⊥
no_other front rest p s some b =
    no_more front p s (record {
      begins = record { parcel = b.parcel; more = rest ++ b.more; is_parcel = b.is_parcel; whole = sym (append_assoc front rest b.more) ∙ b.whole };
      some = omega (arith, some, length-append rest b.more);
    })

-- whole bytes begin as their parcel
whole_begins : (bytes : List ℕ) (p : Parcel) → SpellsParcel bytes p → BeginsParcel bytes
whole_begins bytes p s = record { parcel = p; more = []; is_parcel = s.is_parcel; whole = append-nil bytes ∙ s.parts }

-- what begins a parcel has fronts that do
front_begins : (front rest : List ℕ) → BeginsParcel (front ++ rest) → BeginsParcel front
front_begins front rest b = record { parcel = b.parcel; more = rest ++ b.more; is_parcel = b.is_parcel; whole = sym (append_assoc front rest b.more) ∙ b.whole }

past_unknown : (bytes : List ℕ) (at : ℕ) → HasUnknownTag bytes at → BeginsParcel bytes → ⊥
past_unknown bytes at h b =
    h.unknown (front_begins (h.front ++ h.byte ∷ []) h.rest (subst BeginsParcel (h.parts ∙ sym (append_assoc h.front (h.byte ∷ []) h.rest)) b))

past_trailing : (bytes : List ℕ) (at : ℕ) → HasTrailing bytes at → BeginsParcel bytes → ⊥
past_trailing bytes at h b = no_other h.front h.rest h.parcel h.spells h.some (subst BeginsParcel h.parts b)

pub no_fault : (bytes : List ℕ) (fault : ParcelFault) (p : Parcel) → FailsAsParcel bytes fault → IsParcelFault fault → SpellsParcel bytes p → ⊥
no_fault bytes (faults.Truncated at) p h is s = no_more bytes p s h.0
no_fault bytes (faults.UnknownTag at) p h is s = past_unknown bytes at h (whole_begins bytes p s)
no_fault bytes (faults.Trailing at) p h is s = past_trailing bytes at h (whole_begins bytes p s)
no_fault bytes faults.OutOfMemory p h is s = is

-- ---- one fault

-- two ways to part a list: one front goes on to the other
abbrev Further : List ℕ → List ℕ → Type 0
Further front other = (x : List ℕ) × (other ≡ front ++ x)

parted : (f r g s : List ℕ) → f ++ r ≡ g ++ s → length f ≤ length g → Further f g
parted [] r g s e le = (g, refl)
parted (x ∷ f) r [] s e le = absurd (omega (arith, le))
parted (x ∷ f) r (y ∷ g) s e le =
    let head : x ≡ y = cc in
    let tail : f ++ r ≡ g ++ s = cc in
    let more = parted f r g s tail (omega (arith, le)) in
    (more.0, ap (λ (l : List ℕ). y ∷ l) more.1 ∙ ap (λ (k : ℕ). k ∷ (f ++ more.0)) (sym head))

-- a front that begins a parcel ends at an unknown tag or before it
unknown_last : (bytes : List ℕ) (at : ℕ) (g s : List ℕ) (h : HasUnknownTag bytes at) → bytes ≡ g ++ s → BeginsParcel g → length h.front < length g → ⊥
unknown_last bytes at g s h e b lt =
    let whole : (h.front ++ h.byte ∷ []) ++ h.rest ≡ g ++ s = append_assoc h.front (h.byte ∷ []) h.rest ∙ sym h.parts ∙ e in
    let more = parted (h.front ++ h.byte ∷ []) h.rest g s whole (omega (arith, length-append h.front (h.byte ∷ []), lt)) in
    h.unknown (front_begins (h.front ++ h.byte ∷ []) more.0 (subst BeginsParcel more.1 b))

unknown_once : (bytes : List ℕ) (at other : ℕ) → HasUnknownTag bytes at → HasUnknownTag bytes other → at ≤ other
unknown_once bytes at other h k =
    elim (cases_lt other at) [
      | inl lt ↦ absurd (unknown_last bytes other h.front (h.byte ∷ h.rest) k h.parts h.cut.begins (omega (arith, lt, h.place, k.place)))
      | inr le ↦ le
    ]

-- a parcel doesn't end before an unknown tag
unknown_no_trailing : (bytes : List ℕ) (at other : ℕ) → HasUnknownTag bytes at → HasTrailing bytes other → ⊥
unknown_no_trailing bytes at other h k =
    elim (cases_lt (length h.front) (length k.front)) [
      | inl lt ↦ unknown_last bytes at k.front k.rest h k.parts (whole_begins k.front k.parcel k.spells) lt
      | inr le ↦
          let more = parted k.front k.rest h.front (h.byte ∷ h.rest) (sym k.parts ∙ h.parts) le in
          no_more k.front k.parcel k.spells (record {
            begins = record {
              parcel = h.cut.begins.parcel;
              more = more.0 ++ h.cut.begins.more;
              is_parcel = h.cut.begins.is_parcel;
              whole = sym (append_assoc k.front more.0 h.cut.begins.more) ∙ ap (λ (l : List ℕ). l ++ h.cut.begins.more) (sym more.1) ∙ h.cut.begins.whole;
            };
            some = omega (arith, h.cut.some, length-append more.0 h.cut.begins.more);
          })
    ]

trailing_once : (bytes : List ℕ) (at other : ℕ) → HasTrailing bytes at → HasTrailing bytes other → at ≡ other
trailing_once bytes at other h k =
    let one : read_parcel bytes ≡ Ok (h.parcel, h.rest) = ap read_parcel h.parts ∙ front_is_read h.front h.parcel h.rest h.spells in
    let two : read_parcel bytes ≡ Ok (k.parcel, k.rest) = ap read_parcel k.parts ∙ front_is_read k.front k.parcel k.rest k.spells in
    let left = same_left h.parcel k.parcel h.rest k.rest (sym one ∙ two) in
    omega (arith, h.place, k.place, ap length left, ap length h.parts, ap length k.parts, length-append h.front h.rest, length-append k.front k.rest)

pub one_fault : (bytes : List ℕ) (one other : ParcelFault) → FailsAsParcel bytes one → FailsAsParcel bytes other → IsParcelFault one → IsParcelFault other → one ≡ other
one_fault bytes (faults.Truncated at) (faults.Truncated other) h k is also = ap faults.Truncated (h.1 ∙ sym k.1)
one_fault bytes (faults.Truncated at) (faults.UnknownTag other) h k is also = absurd (past_unknown bytes other k h.0.begins)
one_fault bytes (faults.Truncated at) (faults.Trailing other) h k is also = absurd (past_trailing bytes other k h.0.begins)
one_fault bytes (faults.Truncated at) faults.OutOfMemory h k is also = absurd also
one_fault bytes (faults.UnknownTag at) (faults.Truncated other) h k is also = absurd (past_unknown bytes at h k.0.begins)
one_fault bytes (faults.UnknownTag at) (faults.UnknownTag other) h k is also =
    let same : at ≡ other = omega (arith, unknown_once bytes at other h k, unknown_once bytes other at k h) in
    ap faults.UnknownTag same
one_fault bytes (faults.UnknownTag at) (faults.Trailing other) h k is also = absurd (unknown_no_trailing bytes at other h k)
one_fault bytes (faults.UnknownTag at) faults.OutOfMemory h k is also = absurd also
one_fault bytes (faults.Trailing at) (faults.Truncated other) h k is also = absurd (past_trailing bytes at h k.0.begins)
one_fault bytes (faults.Trailing at) (faults.UnknownTag other) h k is also = absurd (unknown_no_trailing bytes other at k h)
one_fault bytes (faults.Trailing at) (faults.Trailing other) h k is also = ap faults.Trailing (trailing_once bytes at other h k)
one_fault bytes (faults.Trailing at) faults.OutOfMemory h k is also = absurd also
one_fault bytes faults.OutOfMemory other h k is also = absurd is

-- ---- one of the two

abbrev pub SpelledOrFaulty : List ℕ → Type 0
SpelledOrFaulty bytes = ((p : Parcel) × SpellsParcel bytes p) ⊎ ((fault : ParcelFault) × IsParcelFault fault × FailsAsParcel bytes fault)

failed : (bytes : List ℕ) (f : Form) → AreBytes bytes → read_parcel bytes ≡ Err f → SpelledOrFaulty bytes
failed bytes (BadCount left) fits e = absurd (parcel_parser.reader.fails bytes (BadCount left) fits e)
failed bytes (Unknown left) fits e = inr (parcel_fault (errors.Form (Unknown left)) (length bytes), tt, reading_fails bytes (errors.Form (Unknown left)) fits e)
failed bytes Truncated fits e = inr (parcel_fault (errors.Form Truncated) (length bytes), tt, reading_fails bytes (errors.Form Truncated) fits e)

was_read : (bytes : List ℕ) (p : Parcel) (rest : List ℕ) → AreBytes bytes → read_parcel bytes ≡ Ok (p, rest) → SpelledOrFaulty bytes
was_read bytes p [] fits e = inl (p, is_spelled bytes p fits e)
was_read bytes p (b ∷ rest) fits e = inr (faults.Trailing (length bytes - length (b ∷ rest)), tt, is_trailing bytes p (b ∷ rest) fits e (omega arith))

pub spelled_or_faulty : (bytes : List ℕ) → AreBytes bytes → SpelledOrFaulty bytes
spelled_or_faulty bytes fits = next (read_parcel bytes) refl
  where
    next : (r : Result (Parcel × List ℕ) Form) → read_parcel bytes ≡ r → SpelledOrFaulty bytes
    next (Err f) e = failed bytes f fits e
    next (Ok x) e = was_read bytes x.0 x.1 fits e

-- ---- what an answer says

-- a parcel that is spelled is the answer, unless memory runs out
pub only : (bytes : List ℕ) (result : Result Parcel ParcelFault) → IfOk result (SpellsParcel bytes) → IfErr result (FailsAsParcel bytes)
    → (p : Parcel) → SpellsParcel bytes p → (result ≡ Ok p) ⊎ (result ≡ Err faults.OutOfMemory)
only bytes (Ok q) found fails p s = inl (ap Ok (one_parcel bytes q p found s))
only bytes (Err (faults.Truncated at)) found fails p s = absurd (no_fault bytes (faults.Truncated at) p fails tt s)
only bytes (Err (faults.UnknownTag at)) found fails p s = absurd (no_fault bytes (faults.UnknownTag at) p fails tt s)
only bytes (Err (faults.Trailing at)) found fails p s = absurd (no_fault bytes (faults.Trailing at) p fails tt s)
only bytes (Err faults.OutOfMemory) found fails p s = inr refl

pub ends_here : (bytes : List ℕ) (p : Parcel) (rest : List ℕ) → AreBytes bytes → read_parcel bytes ≡ Ok (p, rest) → length rest ≡ 0 → SpellsParcel bytes p
ends_here bytes p [] fits e none = is_spelled bytes p fits e
ends_here bytes p (b ∷ rest) fits e none = absurd (omega (arith, none))

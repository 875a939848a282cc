-- Whole parcels: what is spelled so is read, and what isn't read has its fault.
use Rattle.std.proofs.Common.{◌≡◌, ℕ, ◌-◌, ◌<◌, List, [], ◌∷◌, ◌++◌, length, Result, Ok, Err, refl, sym, ap, ◌∙◌, append_assoc, arith, length-append}
use Rattle.std.proofs.lemmas.List.{append-nil}
use Rattle.rc_base.specs.Formats.Commands.{AreBytes}
use Rattle.rc_base.specs.declared.state.Parcel.{Parcel}
use Rattle.byte_codec.specs.declared.fault.Form.{Form}
use Rattle.byte_codec.specs.declared.fault.Form.TheVariants.{BadCount, Unknown, Truncated}
use Rattle.byte_codec.specs.declared.fault.ReadError.{ReadError}
use Rattle.byte_codec.specs.declared.fault.ReadError.TheVariants as errors
use Rattle.byte_codec.specs.Reading.{Fails}
use Rattle.parcel_bytes.specs.Spelling.{IsParcel, SpellsParcel, parcel_bytes}
use Rattle.parcel_bytes.specs.Reading.{read_parcel, parcel_in, parcel_or_end}
use Rattle.parcel_bytes.specs.Faults.{BeginsParcel, IsCutParcel, HasUnknownTag, HasTrailing, FailsAsParcel, parcel_fault}
use Rattle.byte_codec.specs.Codec.{CutOff}
use Rattle.parcel_bytes.proofs.Parsers.{HasUnknownByte}
use Rattle.parcel_bytes.proofs.ParcelParsers.{parcel_parser}

-- the parcel at the front is read
pub front_is_read : (bytes : List ℕ) (p : Parcel) (rest : List ℕ) → SpellsParcel bytes p → read_parcel (bytes ++ rest) ≡ Ok (p, rest)
front_is_read bytes p rest s = ap (λ (l : List ℕ). read_parcel (l ++ rest)) s.parts ∙ parcel_parser.again p rest s.is_parcel

pub whole_is_read : (bytes : List ℕ) (p : Parcel) → SpellsParcel bytes p → read_parcel bytes ≡ Ok (p, [])
whole_is_read bytes p s = ap read_parcel (sym (append-nil bytes)) ∙ front_is_read bytes p [] s

pub is_in : (bytes : List ℕ) (p : Parcel) → SpellsParcel bytes p → parcel_in bytes ≡ p
unfolding parcel_in
is_in bytes p s = ap parcel_or_end (whole_is_read bytes p s)

-- bytes that go on to a parcel are read as it
pub begun_is_read : (bytes : List ℕ) (b : BeginsParcel bytes) → read_parcel (bytes ++ b.more) ≡ Ok (b.parcel, [])
begun_is_read bytes b = whole_is_read (bytes ++ b.more) b.parcel (record { is_parcel = b.is_parcel; parts = b.whole })

-- ---- what reading says

pub is_spelled : (bytes : List ℕ) (p : Parcel) → AreBytes bytes → read_parcel bytes ≡ Ok (p, []) → SpellsParcel bytes p
is_spelled bytes p fits e =
    let t = parcel_parser.reader.takes bytes p [] fits e in
    record { is_parcel = t.1; parts = t.0 ∙ append-nil (parcel_bytes p) }

pub is_trailing : (bytes : List ℕ) (p : Parcel) (rest : List ℕ) → AreBytes bytes → read_parcel bytes ≡ Ok (p, rest) → 0 < length rest → HasTrailing bytes (length bytes - length rest)
is_trailing bytes p rest fits e some =
    let t = parcel_parser.reader.takes bytes p rest fits e in
    record {
      front = parcel_bytes p;
      rest = rest;
      parcel = p;
      spells = record { is_parcel = t.1; parts = refl };
      parts = t.0;
      some = some;
      place = omega (arith, length-append (parcel_bytes p) rest, ap length t.0);
    }

cut_is_cut : (bytes : List ℕ) → CutOff parcel_bytes IsParcel bytes → IsCutParcel bytes
cut_is_cut bytes c = record { begins = record { parcel = c.value; more = c.more; is_parcel = c.fits; whole = c.whole }; some = c.some }

err_no_ok : {A : Type 0} {x : A} {d : Form} → (let r : Result A Form = Err d in r) ≡ Ok x → ⊥
err_no_ok e = cc

unknown_is_tag : (bytes : List ℕ) (left : ℕ) → HasUnknownByte read_parcel parcel_bytes IsParcel bytes left → HasUnknownTag bytes (length bytes - left)
unknown_is_tag bytes left s = record {
  front = s.front;
  byte = s.byte;
  rest = s.rest;
  parts = s.parts;
  place = omega (arith, s.left_is, ap length s.parts, length-append s.front (s.byte ∷ s.rest));
  cut = cut_is_cut s.front s.begins;
  unknown = λ b. err_no_ok (sym (s.firm b.more) ∙ ap read_parcel (sym (append_assoc s.front (s.byte ∷ []) b.more)) ∙ begun_is_read (s.front ++ s.byte ∷ []) b);
}

pub reading_fails : (bytes : List ℕ) (e : ReadError) → AreBytes bytes → Fails e (read_parcel bytes) → FailsAsParcel bytes (parcel_fault e (length bytes))
reading_fails bytes errors.Memory fits h = tt
reading_fails bytes (errors.Form (BadCount left)) fits h = tt
reading_fails bytes (errors.Form (Unknown left)) fits h = unknown_is_tag bytes left (parcel_parser.reader.fails bytes (Unknown left) fits h)
reading_fails bytes (errors.Form Truncated) fits h = (cut_is_cut bytes (parcel_parser.reader.fails bytes Truncated fits h), refl)

-- The codecs of bytes, numbers and runs of bytes.
use Rattle.std.proofs.Common.{◌≡◌, ℕ, ◌-◌, ◌^◌, ◌<◌, ◌≤◌, Bool, true, false, cond, ltb, List, [], ◌∷◌, ◌++◌, length, take, drop, replicate, Result, Ok, Err, refl, sym, ap, subst, ◌∙◌, arith, length-append, length-take}
use Rattle.std.specs.Int.{Width, w16, w32, byte_len, from_le_bytes, to_le_bytes, cast_unsigned, cast_signed}
use Rattle.std.specs.Prelude.{FitsSigned}
use Rattle.std.proofs.Math.Facts.{Fits-of_lt, Fits-of_z, Fits-lt-pow, sfits_to_z}
use Rattle.std.proofs.lemmas.Int.{of_z-to_z, to_z-of_z}
use Rattle.std.proofs.lemmas.Bool.{ltb-false, ltb-true, le-ltb}
use Rattle.std.proofs.lemmas.List.{take_at, drop_at, take-append-drop, length-replicate}
use Rattle.std.proofs.lemmas.Nat.{le_bytes_2, le_bytes_4, from_le_bytes-to_le_bytes_2, from_le_bytes-to_le_bytes_4}
use Rattle.rc_base.specs.Formats.Commands.{AreBytes}
use Rattle.rc_base.specs.Formats.Spelling.{word}
use Rattle.byte_codec.specs.declared.fault.Form.{Form}
use Rattle.byte_codec.specs.declared.fault.Form.TheVariants.{Truncated}
use Rattle.byte_codec.specs.Reading.{read_byte, read_unsigned, read_word, take_bytes}
use Rattle.byte_codec.specs.Codec.{AreBytes-take, AreBytes-zeros, AreBytes-both, Codec, CutOff, convert_codec}

abbrev pub one_byte : ℕ → List ℕ
one_byte b = b ∷ []

abbrev pub IsByte : ℕ → Type 0
IsByte b = b < 256

byte_takes : (bytes : List ℕ) (a : ℕ) (rest : List ℕ) → AreBytes bytes → read_byte bytes ≡ Ok (a, rest) → (bytes ≡ one_byte a ++ rest) × IsByte a
byte_takes [] a rest fits e = absurd cc
byte_takes (b ∷ bs) a rest fits e =
    let same : (let v : ℕ × List ℕ = (b, bs) in v) ≡ (a, rest) = cc in
    subst (λ (v : ℕ × List ℕ). (b ∷ bs ≡ one_byte v.0 ++ v.1) × IsByte v.0) same (refl, fits 0)

byte_cut : (bytes : List ℕ) (f : Form) → AreBytes bytes → read_byte bytes ≡ Err f → (f ≡ Truncated) × CutOff one_byte IsByte bytes
byte_cut [] f fits e = (cc, record { more = 0 ∷ []; value = 0; fits = omega arith; whole = refl; some = omega arith })
byte_cut (b ∷ bs) f fits e = absurd cc

pub byte_codec : Codec read_byte one_byte IsByte
byte_codec = record { maker = record { takes = byte_takes; cut = byte_cut; some = (0, omega arith) }; again = λ a rest fits. refl }

-- ---- numbers

pub record IsWide (w : Width) (limit : ℕ) : Type 0 where
  pub len : (n : ℕ) → length (to_le_bytes w n) ≡ byte_len w
  pub back : (bytes : List ℕ) → length bytes ≡ byte_len w → AreBytes bytes → to_le_bytes w (from_le_bytes w bytes) ≡ bytes
  pub again : (n : ℕ) → n < limit → from_le_bytes w (to_le_bytes w n) ≡ n
  pub below : (bytes : List ℕ) → AreBytes bytes → from_le_bytes w bytes < limit

pub wide16 : IsWide w16 (2 ^ 16)
wide16 = record {
  len = λ n. refl;
  back = λ bytes len fits. le_bytes_2 bytes _ len fits refl;
  again = λ n lt. from_le_bytes-to_le_bytes_2 n lt;
  below = λ bytes fits. omega (arith, fits 0, fits 1);
}

pub wide32 : IsWide w32 (2 ^ 32)
wide32 = record {
  len = λ n. refl;
  back = λ bytes len fits. le_bytes_4 bytes _ len fits refl;
  again = λ n lt. from_le_bytes-to_le_bytes_4 n lt;
  below = λ bytes fits. omega (arith, fits 0, fits 1, fits 2, fits 3);
}

-- a test that did not fail, and one that did
guard_ok : {A : Type 0} (b : Bool) (d : Form) (x y : A) → cond b (Err d) (Ok x) ≡ Ok y → (b ≡ false) × (x ≡ y)
guard_ok true d x y e = absurd cc
guard_ok false d x y e = (refl, cc)

pub guard_err : {A : Type 0} (b : Bool) (c d : Form) (x : A) → cond b (let r : Result A Form = Err c in r) (Ok x) ≡ Err d → (b ≡ true) × (c ≡ d)
guard_err true c d x e = (refl, cc)
guard_err false c d x e = absurd cc

pub number_codec : (w : Width) (limit : ℕ) → IsWide w limit → Codec (read_unsigned w) (to_le_bytes w) (λ n. n < limit)
number_codec w limit wide = record {
  maker = record {
    takes = λ bytes n rest fits e.
        let g = guard_ok (ltb (length bytes) (byte_len w)) Truncated (from_le_bytes w (take (byte_len w) bytes), drop (byte_len w) bytes) (n, rest) e in
        let long : byte_len w ≤ length bytes = ltb-false _ _ g.0 in
        let front_bytes : AreBytes (take (byte_len w) bytes) = AreBytes-take (byte_len w) bytes fits in
        let front = wide.back (take (byte_len w) bytes) (omega (arith, length-take (byte_len w) bytes)) front_bytes in
        subst (λ (v : ℕ × List ℕ). (bytes ≡ to_le_bytes w v.0 ++ v.1) × (v.0 < limit)) g.1
        (sym (take-append-drop (byte_len w) bytes) ∙ ap (λ (l : List ℕ). l ++ drop (byte_len w) bytes) (sym front), wide.below (take (byte_len w) bytes) front_bytes);
    cut = λ bytes f fits e.
        let g = guard_err (ltb (length bytes) (byte_len w)) Truncated f (from_le_bytes w (take (byte_len w) bytes), drop (byte_len w) bytes) e in
        let short : length bytes < byte_len w = ltb-true _ _ g.0 in
        let more = replicate (byte_len w - length bytes) 0 in
        let size : length more ≡ byte_len w - length bytes = length-replicate (byte_len w - length bytes) 0 in
        let whole_fits : AreBytes (bytes ++ more) = AreBytes-both bytes more fits (AreBytes-zeros (byte_len w - length bytes)) in (
          sym g.1,
          record {
            more = more;
            value = from_le_bytes w (bytes ++ more);
            fits = wide.below (bytes ++ more) whole_fits;
            whole = sym (wide.back (bytes ++ more) (omega (arith, length-append bytes more)) whole_fits);
            some = omega arith;
          },
        );
    some = (from_le_bytes w [], wide.below [] (AreBytes-zeros 0));
  };
  again = λ n rest lt.
      let len = wide.len n in
      let long : ltb (length (to_le_bytes w n ++ rest)) (byte_len w) ≡ false = le-ltb _ _ (omega (arith, length-append (to_le_bytes w n) rest)) in
      rw (long, take_at (to_le_bytes w n) rest (byte_len w) len, drop_at (to_le_bytes w n) rest (byte_len w) len, wide.again n lt) refl;
}

-- ---- signed words

pub word_codec : Codec read_word word (FitsSigned w32)
word_codec =
    convert_codec (cast_signed w32) word (FitsSigned w32) (number_codec w32 (2 ^ 32) wide32)
    (λ n lt. (ap (to_le_bytes w32) (of_z-to_z w32 n lt), sfits_to_z {w = w32} {n = n} (Fits-of_lt lt)))
    (λ z fits. (cast_unsigned w32 z, Fits-lt-pow {w = w32} (Fits-of_z {w = w32} {z = z} fits), to_z-of_z w32 z fits))

-- ---- runs of bytes

-- so many bytes
abbrev pub IsRun : ℕ → List ℕ → Type 0
IsRun n bytes = (length bytes ≡ n) × AreBytes bytes

pub run_codec : (n : ℕ) → Codec (take_bytes n) (λ bytes. bytes) (IsRun n)
run_codec n = record {
  maker = record {
    takes = λ bytes run rest fits e.
        let g = guard_ok (ltb (length bytes) n) Truncated (take n bytes, drop n bytes) (run, rest) e in
        let long : n ≤ length bytes = ltb-false _ _ g.0 in
        subst (λ (v : List ℕ × List ℕ). (bytes ≡ v.0 ++ v.1) × IsRun n v.0) g.1
        (sym (take-append-drop n bytes), (omega (arith, length-take n bytes), AreBytes-take n bytes fits));
    cut = λ bytes f fits e.
        let g = guard_err (ltb (length bytes) n) Truncated f (take n bytes, drop n bytes) e in
        let short : length bytes < n = ltb-true _ _ g.0 in
        let more = replicate (n - length bytes) 0 in
        let size : length more ≡ n - length bytes = length-replicate (n - length bytes) 0 in (
          sym g.1,
          record {
            more = more;
            value = bytes ++ more;
            fits = (omega (arith, length-append bytes more), AreBytes-both bytes more fits (AreBytes-zeros (n - length bytes)));
            whole = refl;
            some = omega arith;
          },
        );
    some = (replicate n 0, (length-replicate n 0, AreBytes-zeros n));
  };
  again = λ run rest fits.
      let long : ltb (length (run ++ rest)) n ≡ false = le-ltb _ _ (omega (arith, length-append run rest, fits.0)) in
      rw (long, take_at run rest n fits.0, drop_at run rest n fits.0) refl;
}

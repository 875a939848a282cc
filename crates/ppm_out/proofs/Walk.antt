-- A header is read byte by byte.
use Rattle.std.proofs.Common.{◌≡◌, ℕ, suc, ◌+◌, ◌-◌, ◌<◌, ◌≤◌, inl, inr, List, [], ◌∷◌, ◌++◌, length, take, drop, get_or, sym, ap, ◌∙◌, subst, arith, append_assoc, take-append-drop}
use Rattle.std.specs.Prelude.{◌↔◌}
use Rattle.std.proofs.lemmas.Bool.{cases_lt}
use Rattle.std.proofs.Math.Seq.{take-append-add}
use Rattle.std.proofs.lemmas.List.{append-nil, take_more, drop_more, take_all, length-take-le}
use Rattle.rc_base.specs.Formats.Netpbm.{SpellsImage, IsNoImage}
use Rattle.rc_base.specs.declared.image.Image.{Image}
use Rattle.ppm_out.specs.declared.header.Due.{Due}
use Rattle.ppm_out.specs.declared.header.Due.TheVariants as due
use Rattle.ppm_out.specs.declared.header.Next.TheVariants as next
use Rattle.ppm_out.specs.declared.header.Header.{Header}
use Rattle.ppm_out.specs.Rest.{KnownSides, Pixels, Ends, HasReadSides, Follows}
use Rattle.ppm_out.specs.Headers.{IsHeader}
use Rattle.ppm_out.proofs.Steps.{joined}
use Rattle.ppm_out.proofs.Ending.{unended, pixels_unended, can_end}
use Rattle.ppm_out.proofs.Spelled.{spelled}

-- a front was read: it is an image exactly with what ends it, and no shorter front is one
pub record Reads (bytes : List ℕ) (i : ℕ) (d : Due) : Type 0 where
  pub sound : HasReadSides d
  pub goes_on : (xs : List ℕ) (m : Image) → SpellsImage (take i bytes ++ xs) m ↔ Ends d xs m
  pub none : (n : ℕ) (m : Image) → n ≤ i → SpellsImage (take n bytes) m → ⊥

pub begins : (bytes : List ℕ) → Reads bytes 0 due.Letter
begins bytes = record {
  sound = tt;
  goes_on = λ xs m. spelled xs m;
  none = λ n m few h. let zero : n ≡ 0 = omega arith in unended due.Letter m ((spelled [] m).0 (subst (λ (k : ℕ). SpellsImage (take k bytes) m) zero h));
}

along : (xs ys : List ℕ) (m : Image) → xs ≡ ys → SpellsImage xs m ↔ SpellsImage ys m
along xs ys m e = (λ h. subst (λ (l : List ℕ). SpellsImage l m) e h, λ h. subst (λ (l : List ℕ). SpellsImage l m) (sym e) h)

module _ (bytes : List ℕ) (i : ℕ) (d : Due) (reads : Reads bytes i d) where
  module _ (within : i < length bytes) where
    abbrev byte : ℕ
    byte = get_or bytes i 0

    one_more : (xs : List ℕ) → take (i + 1) bytes ++ xs ≡ take i bytes ++ byte ∷ xs
    one_more xs = ap (λ (l : List ℕ). l ++ xs) (take_more bytes i 0 within) ∙ append_assoc (take i bytes) (byte ∷ []) xs

    abbrev behind : ℕ → List ℕ
    behind n = take (n - i - 1) (drop (i + 1) bytes)

    longer : (n : ℕ) → i < n → take n bytes ≡ take i bytes ++ byte ∷ behind n
    longer n above =
        let size : n ≡ length (take i bytes) + suc (n - i - 1) = omega (arith, length-take-le i bytes (omega (arith, within)), above) in
        let rest : drop i bytes ≡ byte ∷ drop (i + 1) bytes = drop_more bytes i 0 within in
        ap (take n) (sym (take-append-drop i bytes)) ∙ ap (λ (k : ℕ). take k (take i bytes ++ drop i bytes)) size
        ∙ take-append-add (take i bytes) (drop i bytes) (suc (n - i - 1)) ∙ ap (λ (l : List ℕ). take i bytes ++ take (suc (n - i - 1)) l) rest

    goes_along : (K : List ℕ → Image → Type 0) → ((xs : List ℕ) (m : Image) → Ends d (byte ∷ xs) m ↔ K xs m)
        → (xs : List ℕ) (m : Image) → SpellsImage (take (i + 1) bytes ++ xs) m ↔ K xs m
    goes_along K on xs m = joined (along (take (i + 1) bytes ++ xs) (take i bytes ++ byte ∷ xs) m (one_more xs)) (joined (reads.goes_on (byte ∷ xs) m) (on xs m))

    still_none : (K : List ℕ → Image → Type 0) → ((xs : List ℕ) (m : Image) → Ends d (byte ∷ xs) m ↔ K xs m) → ((m : Image) → K [] m → ⊥)
        → (n : ℕ) (m : Image) → n ≤ i + 1 → SpellsImage (take n bytes) m → ⊥
    still_none K on empty n m few h = elim (cases_lt i n) [
      | inl above ↦
          let same : n ≡ i + 1 = omega arith in
          empty m ((goes_along K on [] m).0 (subst (λ (l : List ℕ). SpellsImage l m) (ap (λ (k : ℕ). take k bytes) same ∙ sym (append-nil (take (i + 1) bytes))) h))
      | inr most ↦ reads.none n m most h
    ]

    pub reads_on : (after : Due) → Follows d byte (next.Header after) → Reads bytes (i + 1) after
    reads_on after follows = record { sound = follows.0; goes_on = goes_along (Ends after) follows.1; none = still_none (Ends after) follows.1 (unended after) }

    pub reads_header : (h : Header) → h.len ≡ i + 1 → Follows d byte (next.Pixels h.width h.height) → IsHeader bytes h
    reads_header h len follows = record {
      width = follows.0;
      height = follows.1;
      most = omega (arith, len, within);
      goes_on = λ xs m. subst (λ (k : ℕ). SpellsImage (take k bytes ++ xs) m ↔ KnownSides h.width h.height Pixels xs m) (sym len)
          (goes_along (KnownSides h.width h.height Pixels) follows.2 xs m);
      none = λ n m few spells. still_none (KnownSides h.width h.height Pixels) follows.2 (λ image. pixels_unended h.width h.height image follows.0 follows.1) n m (omega (arith, few, len)) spells;
    }

    pub stops : Follows d byte next.Nothing → IsNoImage bytes i
    stops follows = record {
      none = λ n m h. elim (cases_lt i n) [
        | inl above ↦ follows (behind n) m ((reads.goes_on (byte ∷ behind n) m).0 (subst (λ (l : List ℕ). SpellsImage l m) (longer n above) h))
        | inr most ↦ reads.none n m most h
      ];
      most = omega (arith, within);
      begins = let e = can_end d reads.sound in record { more = e.bytes; image = e.image; spelled = (reads.goes_on e.bytes e.image).1 e.ends };
      longest = λ n above most b.
          let xs = behind n ++ b.more in
          follows xs b.image ((reads.goes_on (byte ∷ xs) b.image).0
          (subst (λ (l : List ℕ). SpellsImage l b.image) (ap (λ (l : List ℕ). l ++ b.more) (longer n above) ∙ append_assoc (take i bytes) (byte ∷ behind n) b.more) b.spelled));
    }

  pub ends_early : length bytes ≤ i → i ≤ length bytes → IsNoImage bytes i
  ends_early least most = record {
    none = λ n m h. elim (cases_lt i n) [
      | inl above ↦ reads.none i m (omega arith) (subst (λ (l : List ℕ). SpellsImage l m) (take_all n bytes (omega (arith, least, above)) ∙ sym (take_all i bytes least)) h)
      | inr few ↦ reads.none n m few h
    ];
    most = most;
    begins = let e = can_end d reads.sound in record { more = e.bytes; image = e.image; spelled = (reads.goes_on e.bytes e.image).1 e.ends };
    longest = λ n above within b. omega (arith, above, within, least);
  }

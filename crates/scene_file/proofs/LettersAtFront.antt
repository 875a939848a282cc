-- Letters that stand at the front of bytes, or don't.
use Rattle.std.proofs.Common.{◌≡◌, ℕ, suc, ◌+◌, ◌<◌, ◌≤◌, ◌⊎◌, inl, inr, List, [], ◌∷◌, ◌++◌, length, take, drop, get_or, refl, sym, ap, ◌∙◌, append_assoc, arith, length-append, length-take, length-drop}
use Rattle.std.proofs.lemmas.Bool.{cases_eq}
use Rattle.std.proofs.lemmas.List.{append-nil, drop_more, take-append-drop}
use Rattle.scene_file.specs.Faults.{IsProperPrefix, Differs}

pub letters_cut : (letters bytes rest : List ℕ) (i : ℕ) → bytes ≡ take i letters ++ rest → length rest < 1 → i < length letters → IsProperPrefix letters bytes
letters_cut letters bytes (b ∷ rest) i parts short lt = absurd (omega arith)
letters_cut letters bytes [] i parts short lt = record {
  more = drop i letters;
  parts = ap (λ (l : List ℕ). l ++ drop i letters) (parts ∙ append-nil (take i letters)) ∙ take-append-drop i letters;
  some = omega (arith, length-drop i letters);
}

pub letters_differ : (letters bytes rest : List ℕ) (i : ℕ) → bytes ≡ take i letters ++ rest → i < length letters → 1 ≤ length rest → (get_or rest 0 0 ≡ get_or letters i 0 → ⊥)
    → (at : ℕ) × Differs letters bytes at × (at + length rest ≡ length bytes)
letters_differ letters bytes [] i parts lt some differs = absurd (omega arith)
letters_differ letters bytes (b ∷ rest) i parts lt some differs = (
  i,
  record {
    front = take i letters;
    letter = get_or letters i 0;
    others = drop (i + 1) letters;
    byte = b;
    rest = rest;
    letters_are = sym (take-append-drop i letters) ∙ ap (λ (l : List ℕ). take i letters ++ l) (drop_more letters i 0 lt);
    parts = parts;
    differs = differs;
    place = omega (arith, length-take i letters);
  },
  omega (arith, ap length parts, length-append (take i letters) (b ∷ rest), length-take i letters),
)

-- ---- more letters

pub part_before : (whole bytes more : List ℕ) → IsProperPrefix whole bytes → IsProperPrefix (whole ++ more) bytes
part_before whole bytes more h = record {
  more = h.more ++ more;
  parts = sym (append_assoc bytes h.more more) ∙ ap (λ (l : List ℕ). l ++ more) h.parts;
  some = omega (arith, length-append h.more more, h.some);
}

-- what differs from letters differs from these and more
pub differs_longer : (ls more bytes : List ℕ) (at : ℕ) → Differs ls bytes at → Differs (ls ++ more) bytes at
differs_longer ls more bytes at d = record {
  front = d.front;
  letter = d.letter;
  others = d.others ++ more;
  byte = d.byte;
  rest = d.rest;
  letters_are = ap (λ (l : List ℕ). l ++ more) d.letters_are ∙ append_assoc d.front (d.letter ∷ d.others) more;
  parts = d.parts;
  differs = d.differs;
  place = d.place;
}

-- ---- where the letters end

-- the letters stand at the front, or the bytes end among them, or differ from them
pub begins : (letters bytes : List ℕ) → ((body : List ℕ) × (bytes ≡ letters ++ body)) ⊎ (IsProperPrefix letters bytes ⊎ ((at : ℕ) × Differs letters bytes at))
begins [] bytes = inl (bytes, refl)
begins (l ∷ ls) [] = inr (inl (record { more = l ∷ ls; parts = refl; some = omega arith }))
begins (l ∷ ls) (b ∷ bs) = elim (cases_eq b l) [
  | inr ne ↦ inr (inr (0, record { front = []; letter = l; others = ls; byte = b; rest = bs; letters_are = refl; parts = refl; differs = ne; place = refl }))
  | inl e ↦ elim (begins ls bs) [
    | inl x ↦ inl (x.0, λ i. e i ∷ x.1 i)
    | inr y ↦ inr (elim y [
      | inl part ↦ inl (record { more = part.more; parts = λ i. e i ∷ part.parts i; some = part.some })
      | inr d ↦ inr (
        suc d.0,
        record {
          front = l ∷ d.1.front;
          letter = d.1.letter;
          others = d.1.others;
          byte = d.1.byte;
          rest = d.1.rest;
          letters_are = ap (λ x. l ∷ x) d.1.letters_are;
          parts = λ i. e i ∷ d.1.parts i;
          differs = d.1.differs;
          place = ap suc d.1.place;
        },
      )
    ])
  ]
]

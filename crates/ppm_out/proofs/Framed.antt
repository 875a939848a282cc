-- The pixels behind a header.
use Rattle.std.proofs.Common.{◌≡◌, ℕ, ◌+◌, ◌-◌, ◌*◌, ◌<◌, ◌≤◌, inl, inr, List, [], ◌∷◌, ◌++◌, length, take, drop, get_or, refl, sym, ap, ◌∙◌, subst, arith, append_assoc, take-append-drop, length-append}
use Rattle.std.specs.Prelude.{replicate}
use Rattle.std.proofs.lemmas.Bool.{cases_lt}
use Rattle.std.proofs.lemmas.List.{length-replicate, length-take-le, get_or-append-add, get_or_append_left, get_or_past, take-append-le, append_cancel_left}
use Rattle.std.proofs.Math.Seq.{take-append-add, take-append_seam, take-length}
use Rattle.rc_base.specs.Formats.Commands.{AreBytes}
use Rattle.rc_base.specs.Formats.Netpbm.{p6_text, SpellsImage, IsNoImage}
use Rattle.rc_base.specs.declared.image.Image.{Image}
use Rattle.ppm_out.specs.declared.header.Header.{Header}
use Rattle.ppm_out.specs.Pictures.{IsWholeImage}
use Rattle.ppm_out.specs.Headers.{IsHeader}
use Rattle.ppm_out.proofs.Ending.{zeros_are_bytes}

-- ---- lists of bytes

both_are_bytes : (xs ys : List ℕ) → AreBytes xs → AreBytes ys → AreBytes (xs ++ ys)
both_are_bytes xs ys x y i = elim (cases_lt i (length xs)) [
  | inl below ↦ let is = get_or_append_left xs ys 0 i below in let small = x i in omega (arith, is, small)
  | inr past ↦
      let place : i ≡ length xs + (i - length xs) = omega (arith, past) in
      let is = ap (λ (k : ℕ). get_or (xs ++ ys) k 0) place ∙ get_or-append-add xs ys (i - length xs) 0 in
      let small = y (i - length xs) in
      omega (arith, is, small)
]

left_are_bytes : (xs ys : List ℕ) → AreBytes (xs ++ ys) → AreBytes xs
left_are_bytes xs ys both i = elim (cases_lt i (length xs)) [
  | inl below ↦ let is = get_or_append_left xs ys 0 i below in let small = both i in omega (arith, is, small)
  | inr past ↦ let is : get_or xs i 0 ≡ 0 = get_or_past {X = ℕ} xs i 0 past in omega (arith, is)
]

right_are_bytes : (xs ys : List ℕ) → AreBytes (xs ++ ys) → AreBytes ys
right_are_bytes xs ys both i = let is = get_or-append-add xs ys i 0 in let small = both (length xs + i) in omega (arith, is, small)

same_image : (m : Image) (w h : ℕ) (rgb : List ℕ) → m.width ≡ w → m.height ≡ h → rgb ≡ m.rgb → m ≡ record { width = w; height = h; rgb = rgb }
same_image m w h rgb wide high pixels =
    let sides : m ≡ record { width = w; height = h; rgb = m.rgb } =
    ap (λ (n : ℕ). record { width = n; height = m.height; rgb = m.rgb }) wide ∙ ap (λ (n : ℕ). record { width = w; height = n; rgb = m.rgb }) high in
    sides ∙ ap (λ (l : List ℕ). record { width = w; height = h; rgb = l }) (sym pixels)

module _ (bytes : List ℕ) where
  -- where no front is an image, none that is followed by more is one
  pub no_front : (at : ℕ) → IsNoImage bytes at → (front behind : List ℕ) (m : Image) → bytes ≡ front ++ behind → SpellsImage front m → ⊥
  no_front at is front behind m e spells =
      is.none (length front) m (subst (λ (l : List ℕ). SpellsImage l m) (sym (ap (take (length front)) e ∙ take-append_seam front behind)) spells)

  module _ (h : Header) (is : IsHeader bytes h) where
    abbrev rest : List ℕ
    rest = drop h.len bytes

    abbrev size : ℕ
    size = 3 * (h.width * h.height)

    abbrev pub framed : Image
    framed = record { width = h.width; height = h.height; rgb = take size rest }

    pub record Framed (front : List ℕ) (m : Image) : Type 0 where
      pub enough : size ≤ length rest
      pub image : m ≡ framed
      pub ends : length front ≡ h.len + size

    -- an image at the front is the header and its pixels
    pub only_framed : (front behind : List ℕ) (m : Image) → bytes ≡ front ++ behind → SpellsImage front m → Framed front m
    only_framed front behind m e spells = elim (cases_lt h.len (length front)) [
      | inr short ↦ absurd (is.none (length front) m short (subst (λ (l : List ℕ). SpellsImage l m) (sym (ap (take (length front)) e ∙ take-append_seam front behind)) spells))
      | inl long ↦
          let xs = drop h.len front in
          let same : take h.len bytes ≡ take h.len front = ap (take h.len) e ∙ take-append-le h.len front behind (omega (arith, long)) in
          let apart : front ≡ take h.len bytes ++ xs = sym (ap (λ (l : List ℕ). l ++ xs) same ∙ take-append-drop h.len front) in
          let ends = (is.goes_on xs m).0 (subst (λ (l : List ℕ). SpellsImage l m) apart spells) in
          let front_size : length (take h.len bytes) ≡ h.len = length-take-le h.len bytes is.most in
          let parts : take h.len bytes ++ rest ≡ take h.len bytes ++ (xs ++ behind) =
          take-append-drop h.len bytes ∙ e ∙ ap (λ (l : List ℕ). l ++ behind) apart ∙ append_assoc (take h.len bytes) xs behind in
          let left : rest ≡ xs ++ behind = append_cancel_left (take h.len bytes) rest (xs ++ behind) parts in
          let count : length xs ≡ size = ap length ends.1.1.rgb ∙ ends.1.1.pixels ∙ ap (λ (n : ℕ). 3 * (n * m.height)) ends.0 ∙ ap (λ (n : ℕ). 3 * (h.width * n)) ends.1.0 in
          let pixels : take size rest ≡ m.rgb = ap (λ (n : ℕ). take n rest) (sym count) ∙ ap (take (length xs)) left ∙ take-append_seam xs behind ∙ ends.1.1.rgb in
          record {
            enough = omega (arith, ap length left, length-append xs behind, count);
            image = same_image m h.width h.height (take size rest) ends.0 ends.1.0 pixels;
            ends = omega (arith, ap length apart, length-append (take h.len bytes) xs, front_size, count);
          }
    ]

    module _ (channels : AreBytes bytes) where
      rest_are_bytes : AreBytes rest
      rest_are_bytes = right_are_bytes (take h.len bytes) rest (subst AreBytes (sym (take-append-drop h.len bytes)) channels)

      pub spells_framed : size ≤ length rest → SpellsImage (take (h.len + size) bytes) framed
      spells_framed enough =
          let front_size : length (take h.len bytes) ≡ h.len = length-take-le h.len bytes is.most in
          let parts : take (h.len + size) bytes ≡ take h.len bytes ++ take size rest =
          ap (take (h.len + size)) (sym (take-append-drop h.len bytes)) ∙ ap (λ (n : ℕ). take (n + size) (take h.len bytes ++ rest)) (sym front_size)
          ∙ take-append-add (take h.len bytes) rest size in
          let small : AreBytes (take size rest) = left_are_bytes (take size rest) (drop size rest) (subst AreBytes (sym (take-append-drop size rest)) rest_are_bytes) in
          subst (λ (l : List ℕ). SpellsImage l framed) (sym parts)
          ((is.goes_on (take size rest) framed).1 (refl, (refl, record { rgb = refl; pixels = length-take-le size rest enough; channels = small })))

      pub too_few : length rest < size → IsNoImage bytes (length bytes)
      too_few few =
          let more = replicate (size - length rest) 0 in
          let padded : Image = record { width = h.width; height = h.height; rgb = rest ++ more } in
          let count : length (rest ++ more) ≡ size = omega (arith, length-append rest more, length-replicate {A = ℕ} (size - length rest) 0, few) in
          let parts : take (length bytes) bytes ++ more ≡ take h.len bytes ++ (rest ++ more) =
          ap (λ (l : List ℕ). l ++ more) (take-length bytes ∙ sym (take-append-drop h.len bytes)) ∙ append_assoc (take h.len bytes) rest more in
          record {
            none = λ n m spells. let f = only_framed (take n bytes) (drop n bytes) m (sym (take-append-drop n bytes)) spells in omega (arith, few, f.enough);
            most = omega arith;
            begins = record {
              more = more;
              image = padded;
              spelled = subst (λ (l : List ℕ). SpellsImage l padded) (sym parts) ((is.goes_on (rest ++ more) padded).1
                  (refl, (refl, record { rgb = refl; pixels = count; channels = both_are_bytes rest more rest_are_bytes (zeros_are_bytes (size - length rest)) })));
            };
            longest = λ n above most b. omega (arith, above, most);
          }

-- ---- what is written

pub written_is_spelled : (m : Image) → IsWholeImage m → AreBytes m.rgb → SpellsImage (p6_text m) m
written_is_spelled m whole channels = record {
  first = 10 ∷ [];
  second = 32 ∷ [];
  third = 10 ∷ [];
  last = 10;
  gaps = (record { some = omega arith; each = refl }, record { some = omega arith; each = refl }, record { some = omega arith; each = refl }, refl);
  width = whole.width;
  height = whole.height;
  pixels = whole.pixels;
  channels = channels;
  parts = simp append_assoc;
}

-- An image is spelled exactly by what ends it from its first letter on.
use Rattle.std.proofs.Common.{◌≡◌, ℕ, ◌<◌, List, [], ◌∷◌, ◌++◌, refl, sym, ap, ◌∙◌, subst, arith}
use Rattle.std.specs.Prelude.{◌↔◌, codes}
use Rattle.std.specs.List.{list_all}
use Rattle.std.specs.Fmt.{decimal}
use Rattle.std.proofs.lemmas.Bool.{and_parts, and_from}
use Rattle.rc_base.specs.Formats.Netpbm.{is_whitespace, IsGap, SpellsImage}
use Rattle.rc_base.specs.declared.image.Image.{Image}
use Rattle.ppm_out.specs.declared.header.Due.TheVariants as due
use Rattle.ppm_out.specs.Rest.{Blank, Blanks, Byte, Pixels, Maximum, Height, Width, Ends}

module _ (K : List ℕ → Image → Type 0) (m : Image) where
  from_gap : (gap ys : List ℕ) → IsGap gap → K ys m → Blank (Blanks K) (gap ++ ys) m
  from_gap [] ys is k = let some : 0 < 0 = is.some in absurd (omega (arith, some))
  from_gap (g ∷ gap) ys is k = let parts = and_parts (is_whitespace g) (list_all is_whitespace gap) is.each in (g, gap ++ ys, refl, parts.0, (gap, ys, refl, parts.1, k))

  -- whitespace, and what stands behind it
  to_gap : (xs : List ℕ) → Blank (Blanks K) xs m → (gap : List ℕ) × (ys : List ℕ) × IsGap gap × (xs ≡ gap ++ ys) × K ys m
  to_gap xs h =
      let gap = h.4 in (
        h.0 ∷ gap.0,
        gap.1,
        record { some = omega arith; each = and_from (is_whitespace h.0) (list_all is_whitespace gap.0) h.3 gap.3 },
        h.2 ∙ ap (λ (l : List ℕ). h.0 ∷ l) gap.2,
        gap.4,
      )

pub from_spelled : (bytes : List ℕ) (m : Image) → SpellsImage bytes m → Ends due.Letter bytes m
from_spelled bytes m s =
    let last : Blank Pixels (s.last ∷ m.rgb) m = (s.last, m.rgb, refl, s.gaps.3, record { rgb = refl; pixels = s.pixels; channels = s.channels }) in
    let second : Byte 53 (Blank Pixels) (53 ∷ s.last ∷ m.rgb) m = (s.last ∷ m.rgb, refl, last) in
    let first : Byte 53 (Byte 53 (Blank Pixels)) (53 ∷ 53 ∷ s.last ∷ m.rgb) m = (53 ∷ s.last ∷ m.rgb, refl, second) in
    let maximum : Maximum (codes "255" ++ s.last ∷ m.rgb) m = (53 ∷ 53 ∷ s.last ∷ m.rgb, refl, first) in
    let third = from_gap Maximum m s.third (codes "255" ++ s.last ∷ m.rgb) s.gaps.2 maximum in
    let height : Height (decimal m.height ++ (s.third ++ (codes "255" ++ s.last ∷ m.rgb))) m = (s.third ++ (codes "255" ++ s.last ∷ m.rgb), refl, s.height, third) in
    let between = from_gap Height m s.second (decimal m.height ++ (s.third ++ (codes "255" ++ s.last ∷ m.rgb))) s.gaps.1 height in
    let width : Width (decimal m.width ++ (s.second ++ (decimal m.height ++ (s.third ++ (codes "255" ++ s.last ∷ m.rgb))))) m =
    (s.second ++ (decimal m.height ++ (s.third ++ (codes "255" ++ s.last ∷ m.rgb))), refl, s.width, between) in
    let front = from_gap Width m s.first (decimal m.width ++ (s.second ++ (decimal m.height ++ (s.third ++ (codes "255" ++ s.last ∷ m.rgb))))) s.gaps.0 width in
    let rest = s.first ++ (decimal m.width ++ (s.second ++ (decimal m.height ++ (s.third ++ (codes "255" ++ s.last ∷ m.rgb))))) in
    let whole : Ends due.Letter (codes "P6" ++ rest) m = (54 ∷ rest, refl, (rest, refl, front)) in
    subst (λ (l : List ℕ). Ends due.Letter l m) (sym s.parts) whole

pub to_spelled : (bytes : List ℕ) (m : Image) → Ends due.Letter bytes m → SpellsImage bytes m
to_spelled bytes m h =
    let six = h.2 in
    let first = to_gap Width m six.0 six.2 in
    let width = first.4 in
    let second = to_gap Height m width.0 width.3 in
    let height = second.4 in
    let third = to_gap Maximum m height.0 height.3 in
    let maximum = third.4 in
    let last = maximum.2.2.2 in
    let end : third.1 ≡ codes "255" ++ last.0 ∷ m.rgb =
    maximum.1 ∙ ap (λ (l : List ℕ). 50 ∷ l) (maximum.2.1 ∙ ap (λ (l : List ℕ). 53 ∷ l) (maximum.2.2.1 ∙ ap (λ (l : List ℕ). 53 ∷ l) (last.2 ∙ ap (λ (l : List ℕ). last.0 ∷ l) last.4.rgb))) in
    let behind : second.1 ≡ decimal m.height ++ (third.0 ++ (codes "255" ++ last.0 ∷ m.rgb)) =
    height.1 ∙ ap (λ (l : List ℕ). decimal m.height ++ l) (third.3 ∙ ap (λ (l : List ℕ). third.0 ++ l) end) in
    let wide : first.1 ≡ decimal m.width ++ (second.0 ++ (decimal m.height ++ (third.0 ++ (codes "255" ++ last.0 ∷ m.rgb)))) =
    width.1 ∙ ap (λ (l : List ℕ). decimal m.width ++ l) (second.3 ∙ ap (λ (l : List ℕ). second.0 ++ l) behind) in
    record {
      first = first.0;
      second = second.0;
      third = third.0;
      last = last.0;
      gaps = (first.2, second.2, third.2, last.3);
      width = width.2;
      height = height.2;
      pixels = last.4.pixels;
      channels = last.4.channels;
      parts = h.1 ∙ ap (λ (l : List ℕ). 80 ∷ l) (six.1 ∙ ap (λ (l : List ℕ). 54 ∷ l) (first.3 ∙ ap (λ (l : List ℕ). first.0 ++ l) wide));
    }

pub spelled : (bytes : List ℕ) (m : Image) → SpellsImage bytes m ↔ Ends due.Letter bytes m
spelled bytes m = (from_spelled bytes m, to_spelled bytes m)

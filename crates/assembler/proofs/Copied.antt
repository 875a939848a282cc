-- The bytes of one pixel more.
use Rattle.std.proofs.Common.{◌≡◌, ℕ, ◌+◌, ◌*◌, ◌<◌, ◌≤◌, List, [], ◌∷◌, ◌++◌, length, take, set, get_or, ap, sym, ◌∙◌, arith, append_assoc, length-set}
use Rattle.std.specs.List.{flat_map}
use Rattle.std.proofs.lemmas.Grind.{flat_map-append}
use Rattle.std.proofs.lemmas.List.{take_more, take_more_set}
use Rattle.rc_base.specs.Drawing.Images.{rgb_of}
use Rattle.rc_base.specs.declared.window.Pixel.{Pixel}

-- the three bytes of one pixel more
three_more : (out : List ℕ) (i r g b : ℕ) → 3 * i + 3 ≤ length out
    → take (3 * (i + 1)) (set (set (set out (3 * i) r) (3 * i + 1) g) (3 * i + 2) b) ≡ take (3 * i) out ++ r ∷ g ∷ b ∷ []
three_more out i r g b room =
    let first = set out (3 * i) r in
    let second = set first (3 * i + 1) g in
    let e : 3 * (i + 1) ≡ (3 * i + 2) + 1 = omega arith in
    let k : 3 * i + 2 ≡ (3 * i + 1) + 1 = omega arith in
    let one : length first ≡ length out = length-set out (3 * i) r in
    let two : length second ≡ length first = length-set first (3 * i + 1) g in
    ap (λ (n : ℕ). take n (set second (3 * i + 2) b)) e
    ∙ take_more_set second (3 * i + 2) b (omega (arith, room, one, two))
    ∙ ap (λ (n : ℕ). take n second ++ b ∷ []) k
    ∙ ap (λ (l : List ℕ). l ++ b ∷ []) (take_more_set first (3 * i + 1) g (omega (arith, room, one)))
    ∙ ap (λ (l : List ℕ). (l ++ g ∷ []) ++ b ∷ []) (take_more_set out (3 * i) r (omega (arith, room)))
    ∙ append_assoc (take (3 * i) out ++ r ∷ []) (g ∷ []) (b ∷ [])
    ∙ append_assoc (take (3 * i) out) (r ∷ []) (g ∷ b ∷ [])

pub copied : (out : List ℕ) (pixels : List Pixel) (i : ℕ) (p : Pixel) → i < length pixels → length out ≡ 3 * length pixels → p ≡ get_or pixels i p
    → take (3 * i) out ≡ flat_map rgb_of (take i pixels)
    → take (3 * (i + 1)) (set (set (set out (3 * i) p.color.r) (3 * i + 1) p.color.g) (3 * i + 2) p.color.b) ≡ flat_map rgb_of (take (i + 1) pixels)
copied out pixels i p low size read done =
    three_more out i p.color.r p.color.g p.color.b (omega (arith, low, size))
    ∙ ap (λ (l : List ℕ). l ++ rgb_of p) done
    ∙ sym (ap (flat_map rgb_of) (take_more pixels i p low ∙ ap (λ (q : Pixel). take i pixels ++ q ∷ []) (sym read)) ∙ flat_map-append rgb_of (take i pixels) (p ∷ []))

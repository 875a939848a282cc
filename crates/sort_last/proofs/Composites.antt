-- Layers are put together pixel by pixel, so what holds of pixels holds of layers.
use Rattle.std.proofs.Common.{◌≡◌, ℕ, ◌<◌, ◌≤◌, List, [], Some, length, max, inl, inr, sym, ap, ◌∙◌, arith}
use Rattle.std.specs.Prelude.{slice_get}
use Rattle.std.proofs.lemmas.Bool.{cases_lt}
use Rattle.std.proofs.lemmas.List.{ext_get_or, get_or_past}
use Rattle.std.proofs.lemmas.List.FromFn.{length-map-range_with_len, get_or-map-range_with_len}
use Rattle.std.proofs.lemmas.Option.{slice_get-get_or, get_or_from_slice_get}
use Rattle.rc_base.specs.Drawing.Serial.{blank_pixel}
use Rattle.rc_base.specs.Drawing.Window.{depth_most}
use Rattle.rc_base.specs.declared.window.Pixel.{Pixel}
use Rattle.rc_base.specs.Drawing.Nearer.{nearer}
use Rattle.scene_lemmas.proofs.Triangles.{nearer_is_first}
use Rattle.sort_last.specs.Layers.{pixel_in, composite_of}
use Rattle.sort_last.specs.Laws.{IsLayer}
use Rattle.sort_last.proofs.Nearer.{nearer_associative, nearer_depth, blank_behind, blank_before, behind_is}

pub composite_length : (a b : List Pixel) → length (composite_of a b) ≡ max (length a) (length b)
unfolding composite_of
composite_length a b = length-map-range_with_len (λ k. nearer (pixel_in a k) (pixel_in b k)) 0 (max (length a) (length b))

pub composite_pixel : (a b : List Pixel) (k : ℕ) → pixel_in (composite_of a b) k ≡ nearer (pixel_in a k) (pixel_in b k)
unfolding composite_of
composite_pixel a b k = elim (cases_lt k (max (length a) (length b))) [
  | inl lt ↦ get_or-map-range_with_len (λ k. nearer (pixel_in a k) (pixel_in b k)) 0 (max (length a) (length b)) k k blank_pixel lt (omega arith)
  | inr ge ↦
      let at : length a ≤ k = omega (arith, ge) in
      let bt : length b ≤ k = omega (arith, ge) in
      get_or_past (composite_of a b) k blank_pixel (omega (arith, ge, composite_length a b))
      ∙ sym (ap (λ p. nearer p (pixel_in b k)) (get_or_past a k blank_pixel at) ∙ ap (nearer blank_pixel) (get_or_past b k blank_pixel bt))
]

-- lists of one length with the same pixels are the same
pub same_pixels : (a b : List Pixel) → length a ≡ length b → ((k : ℕ) → k < length a → pixel_in a k ≡ pixel_in b k) → a ≡ b
same_pixels a b = ext_get_or blank_pixel a b

pub composite_associative : (a b c : List Pixel) → composite_of (composite_of a b) c ≡ composite_of a (composite_of b c)
composite_associative a b c =
    same_pixels (composite_of (composite_of a b) c) (composite_of a (composite_of b c))
    (omega (arith, composite_length (composite_of a b) c, composite_length a b, composite_length a (composite_of b c), composite_length b c))
    (λ k lt.
    composite_pixel (composite_of a b) c k ∙ ap (λ p. nearer p (pixel_in c k)) (composite_pixel a b k)
    ∙ nearer_associative (pixel_in a k) (pixel_in b k) (pixel_in c k)
    ∙ sym (composite_pixel a (composite_of b c) k ∙ ap (nearer (pixel_in a k)) (composite_pixel b c k)))

-- ---- pixels of layers

layer_near : (a : List Pixel) → IsLayer a → (k : ℕ) → (pixel_in a k).depth ≤ depth_most
layer_near a h k = elim (cases_lt k (length a)) [
  | inl lt ↦ h.near k (pixel_in a k) (slice_get-get_or a k blank_pixel lt)
  | inr ge ↦ omega (arith, ap (λ (p : Pixel). p.depth) (get_or_past a k blank_pixel ge))
]

layer_blank : (a : List Pixel) → IsLayer a → (k : ℕ) → (pixel_in a k).depth ≡ depth_most → pixel_in a k ≡ blank_pixel
layer_blank a h k far = elim (cases_lt k (length a)) [
  | inl lt ↦ h.blank k (pixel_in a k) (slice_get-get_or a k blank_pixel lt) far
  | inr ge ↦ get_or_past a k blank_pixel ge
]

pub unit_before : (b : List Pixel) → IsLayer b → composite_of [] b ≡ b
unit_before b h =
    same_pixels (composite_of [] b) b (omega (arith, composite_length [] b))
    (λ k lt. composite_pixel [] b k ∙ blank_before (pixel_in b k) (layer_near b h k) (layer_blank b h k))

pub unit_behind_near : (a : List Pixel) → ((k : ℕ) → (pixel_in a k).depth ≤ depth_most) → composite_of a [] ≡ a
unit_behind_near a h =
    same_pixels (composite_of a []) a (omega (arith, composite_length a []))
    (λ k lt. composite_pixel a [] k ∙ blank_behind (pixel_in a k) (h k))

pub unit_behind : (a : List Pixel) → IsLayer a → composite_of a [] ≡ a
unit_behind a h = unit_behind_near a (layer_near a h)

pub composite_near : (a b : List Pixel) → ((k : ℕ) → (pixel_in a k).depth ≤ depth_most) → (k : ℕ) → (pixel_in (composite_of a b) k).depth ≤ depth_most
composite_near a b h k = omega (arith, h k, nearer_depth (pixel_in a k) (pixel_in b k), ap (λ (p : Pixel). p.depth) (composite_pixel a b k))

nearer_blank : (a b : Pixel) → (a.depth ≡ depth_most → a ≡ blank_pixel) → (b.depth ≡ depth_most → b ≡ blank_pixel) → (nearer a b).depth ≡ depth_most → nearer a b ≡ blank_pixel
nearer_blank a b ha hb far = elim (cases_lt b.depth a.depth) [
  | inl lt ↦ let is = behind_is a b lt in is ∙ hb (ap (λ (p : Pixel). p.depth) (sym is) ∙ far)
  | inr le ↦ let is = nearer_is_first a b le in is ∙ ha (ap (λ (p : Pixel). p.depth) (sym is) ∙ far)
]

pub composite_layer : (a b : List Pixel) → IsLayer a → IsLayer b → IsLayer (composite_of a b)
composite_layer a b ha hb =
    let is = λ (k : ℕ) (p : Pixel) (e : slice_get (composite_of a b) k ≡ Some p). sym (get_or_from_slice_get (composite_of a b) k p blank_pixel e) in
    record {
      near = λ k p e. omega (arith, composite_near a b (layer_near a ha) k, ap (λ (q : Pixel). q.depth) (is k p e));
      blank = λ k p e far.
          let at : p ≡ nearer (pixel_in a k) (pixel_in b k) = is k p e ∙ composite_pixel a b k in
          at ∙ nearer_blank (pixel_in a k) (pixel_in b k) (layer_blank a ha k) (layer_blank b hb k) (ap (λ (q : Pixel). q.depth) (sym at) ∙ far);
    }

-- ---- pixels that were written over the longer list

pub composite_behind : (a b r : List Pixel) → length r ≡ length a → length b ≤ length a
    → ((k : ℕ) → k < length a → pixel_in r k ≡ nearer (pixel_in a k) (pixel_in b k)) → r ≡ composite_of a b
composite_behind a b r size le each =
    same_pixels r (composite_of a b) (omega (arith, size, le, composite_length a b)) (λ k lt. each k (omega (arith, lt, size)) ∙ sym (composite_pixel a b k))

pub composite_before : (a b r : List Pixel) → length r ≡ length b → length a ≤ length b
    → ((k : ℕ) → k < length b → pixel_in r k ≡ nearer (pixel_in a k) (pixel_in b k)) → r ≡ composite_of a b
composite_before a b r size le each =
    same_pixels r (composite_of a b) (omega (arith, size, le, composite_length a b)) (λ k lt. each k (omega (arith, lt, size)) ∙ sym (composite_pixel a b k))

-- The frames of a scene within the limits can be written.
use Rattle.std.proofs.Common.{◌≡◌, ℕ, ◌*◌, ◌-◌, ◌≤◌, List, [], ◌∷◌, length, map, refl, sym, subst, ap, ◌∙◌, arith, length-append}
use Rattle.std.specs.Prelude.{pos}
use Rattle.std.specs.List.{flat_map, range_with_len, AllByRecursion}
use Rattle.std.proofs.Math.Nat.{mul_assoc}
use Rattle.std.proofs.lemmas.List.FromFn.{length-range_with_len, length-map-range_with_len}
use Rattle.rc_base.specs.Drawing.Images.{Pixels, rgb_of, row_bytes, rgb_bytes}
use Rattle.rc_base.specs.declared.window.Layout.{Layout}
use Rattle.rc_base.proofs.WithinLimits.{width_within, height_within, clients_within, few_commands}
use Rattle.ppm_out.specs.Pictures.{IsWholeImage}
use Rattle.order_model.specs.Laws.{SwapsAreFew}
use Rattle.order_model.specs.Report.{frame_count}
use Rattle.frame_out.specs.Frames.{window_image}
use Rattle.frame_out.specs.Laws.{FramesOfScenesAreWritable}

-- ---- pictures have all their bytes

length_alike : (f : ℕ → List ℕ) (k : ℕ) → ((x : ℕ) → length (f x) ≡ k) → (xs : List ℕ) → length (flat_map f xs) ≡ k * length xs
length_alike f k each [] = omega arith
length_alike f k each (x ∷ xs) = omega (arith, length-append (f x) (flat_map f xs), each x, length_alike f k each xs)

rows_whole : (pixels : Pixels) (w y : ℕ) → length (row_bytes pixels w y) ≡ 3 * w
unfolding row_bytes
rows_whole pixels w y =
    length_alike (λ x. rgb_of (pixels (pos x) (pos y))) 3 (λ x. refl) (range_with_len 0 w) ∙ ap (λ (n : ℕ). 3 * n) (length-range_with_len 0 w)

pub pixels_whole : (pixels : Pixels) (w h : ℕ) → length (rgb_bytes pixels w h) ≡ 3 * (w * h)
unfolding rgb_bytes
pixels_whole pixels w h =
    let rows = length_alike (λ row. row_bytes pixels w (h - 1 - row)) (3 * w) (λ row. rows_whole pixels w (h - 1 - row)) (range_with_len 0 h) in
    let count : 3 * w * length (range_with_len 0 h) ≡ 3 * w * h = ap (λ (n : ℕ). 3 * w * n) (length-range_with_len 0 h) in
    rows ∙ count ∙ mul_assoc 3 w h

module _ (l : Layout) (width : (1 ≤ l.width) × (l.width ≤ 2048)) (height : (1 ≤ l.height) × (l.height ≤ 2048)) (pixels : ℕ → Pixels) where
  pictures_whole : (ks : List ℕ) → AllByRecursion IsWholeImage (map (λ (k : ℕ). window_image l (pixels k)) ks)
  pictures_whole [] = tt
  pictures_whole (k ∷ ks) = (record { width = width; height = height; pixels = pixels_whole (pixels k) l.width l.height }, pictures_whole ks)

pub frames_writable : SwapsAreFew → FramesOfScenesAreWritable
frames_writable few scene l journal pixels within window legal =
    let width = subst (λ (n : ℕ). (1 ≤ n) × (n ≤ 2048)) (sym window.width) (width_within scene within) in
    let height = subst (λ (n : ℕ). (1 ≤ n) × (n ≤ 2048)) (sym window.height) (height_within scene within) in
    let clients = (clients_within scene within).0 in
    let swaps = few scene journal (omega (arith, clients)) legal in
    let count = length-map-range_with_len (λ (k : ℕ). window_image l (pixels k)) 1 (frame_count journal) in
    record {
      whole = pictures_whole l width height pixels (range_with_len 1 (frame_count journal));
      few = omega (arith, count, swaps, few_commands scene within 0);
    }

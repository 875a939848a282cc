-- Where the part of each tile stands among the bytes, they are those of the image.
use Rattle.std.proofs.Common.{◌≡◌, ℕ, ◌+◌, ◌-◌, ◌*◌, ◌<◌, List, length, map, take, drop, Some, pos, sym, ap, ◌∙◌, arith, length-drop}
use Rattle.std.specs.Prelude.{slice_index_or, None}
use Rattle.std.specs.declared.option.Option.{Option}
use Rattle.std.proofs.Math.Seq.{length-take-le}
use Rattle.std.proofs.lemmas.Option.{get_or_from_slice_get}
use Rattle.rc_base.specs.Drawing.Images.{Pixels, rgb_of, rgb_bytes, row_bytes}
use Rattle.rc_base.specs.Drawing.Serial.{blank_pixel}
use Rattle.rc_base.specs.declared.cluster.TilePart.{TilePart}
use Rattle.rc_base.specs.declared.window.Layout.{Layout}
use Rattle.rc_base.specs.declared.window.Pixel.{Pixel}
use Rattle.plain_lemmas.proofs.Lists.{item_within}
use Rattle.plain_lemmas.proofs.Places.{next_row}
use Rattle.assembler.specs.Drawn.{bytes_at, AreDrawn}
use Rattle.assembler.specs.Parts.{ArePartsOf, ShowPixels, place_in_part, shown}
use Rattle.assembler.proofs.Fitting.{tile_with}
use Rattle.assembler.proofs.Pieces.{in_pieces, inner_piece, same_in_turn}
use Rattle.assembler.proofs.Shown.{parts_show}
use Rattle.assembler.proofs.Waiting.{stands_in}

-- bytes of which each pixel has its own are those of the picture
module _ (l : Layout) (bytes : List ℕ) (pixels : Pixels) (size : length bytes ≡ 3 * l.width * l.height)
    (each : (x y : ℕ) → x < l.width → y < l.height → bytes_at l bytes x y ≡ rgb_of (pixels (pos x) (pos y))) where
  row_is : (r : ℕ) → r < l.height → take (l.width * 3) (drop (r * (l.width * 3)) bytes) ≡ row_bytes pixels l.width (l.height - 1 - r)
  unfolding row_bytes
  row_is r low =
      let y = l.height - 1 - r in
      let from = r * (l.width * 3) in
      let above = next_row (l.width * 3) r l.height low in
      let rest = length-drop from bytes in
      in_pieces (λ (x : ℕ). rgb_of (pixels (pos x) (pos y))) 3 0 l.width (take (l.width * 3) (drop from bytes))
      (length-take-le (l.width * 3) (drop from bytes) (omega (arith, above, rest, size)))
      (λ x lt.
      let z : x ≡ 0 + x = omega arith in
      let u : r ≡ l.height - 1 - y = omega (arith, low) in
      let v : r * l.width ≡ (l.height - 1 - y) * l.width = ap (λ (n : ℕ). n * l.width) u in
      let place : from + x * 3 ≡ 3 * ((l.height - 1 - y) * l.width + x) = omega (arith, v) in
      inner_piece bytes from (l.width * 3) (x * 3) 3 (omega (arith, lt))
      ∙ ap (λ (n : ℕ). take 3 (drop n bytes)) place
      ∙ each x y lt (omega (arith, low))
      ∙ ap (λ (n : ℕ). rgb_of (pixels (pos n) (pos y))) z)

  picture_is : bytes ≡ rgb_bytes pixels l.width l.height
  unfolding rgb_bytes
  picture_is =
      in_pieces (λ (r : ℕ). row_bytes pixels l.width (l.height - 1 - r)) (l.width * 3) 0 l.height bytes (omega (arith, size))
      (λ r lt. let z : r ≡ 0 + r = omega arith in row_is r lt ∙ ap (λ (n : ℕ). row_bytes pixels l.width (l.height - 1 - n)) z)

some_once : {a b : Pixel} → Some a ≡ Some b → a ≡ b
some_once e = cc

module _ (l : Layout) (parts : List TilePart) (columns : 0 < l.columns) (rows : 0 < l.rows) (are : ArePartsOf l parts) where
  -- the bytes of the parts
  pub all_drawn : (places : List (Option TilePart)) (bytes : List ℕ) → places ≡ map (λ p. Some p) parts → length bytes ≡ 3 * l.width * l.height
      → AreDrawn l places bytes → bytes ≡ rgb_bytes (shown l parts) l.width l.height
  all_drawn places bytes all size drawn =
      picture_is l bytes (shown l parts) size
      (λ x y in_width in_height.
      let found = tile_with l x y columns rows in_width in_height in
      let part = item_within parts found.0 (let n = are.count in let k = found.1 in omega (arith, n, k)) in
      let there = parts_show l parts columns rows are found.0 x y part.0 part.1 found.2 in
      drawn found.0 part.0 (ap (λ (os : List (Option TilePart)). slice_index_or os found.0 None) all ∙ stands_in parts found.0 part.0 part.1) x y found.2
      ∙ ap rgb_of (get_or_from_slice_get part.0.pixels (place_in_part l found.0 x y) _ blank_pixel there))

  -- a pixel that parts show is one alone
  same_pixel : (pixels : Pixels) → ShowPixels l parts pixels → (x y : ℕ) → x < l.width → y < l.height → shown l parts (pos x) (pos y) ≡ pixels (pos x) (pos y)
  same_pixel pixels show x y in_width in_height =
      let found = tile_with l x y columns rows in_width in_height in
      let part = item_within parts found.0 (let n = are.count in let k = found.1 in omega (arith, n, k)) in
      let a = parts_show l parts columns rows are found.0 x y part.0 part.1 found.2 in
      let b = show found.0 x y part.0 part.1 found.2 in
      some_once (sym a ∙ b)

  -- parts show one picture alone
  pub one_picture : (pixels : Pixels) → ShowPixels l parts pixels → rgb_bytes (shown l parts) l.width l.height ≡ rgb_bytes pixels l.width l.height
  unfolding rgb_bytes row_bytes
  one_picture pixels show =
      same_in_turn (λ (r : ℕ). row_bytes (shown l parts) l.width (l.height - 1 - r)) (λ (r : ℕ). row_bytes pixels l.width (l.height - 1 - r)) 0 l.height
      (λ r low.
      let y = l.height - 1 - (0 + r) in
      same_in_turn (λ (x : ℕ). rgb_of (shown l parts (pos x) (pos y))) (λ (x : ℕ). rgb_of (pixels (pos x) (pos y))) 0 l.width
      (λ x lt.
      let z : 0 + x < l.width = omega (arith, lt) in
      ap rgb_of (same_pixel pixels show (0 + x) y z (omega (arith, low)))))

-- A part that is written into a picture row by row.
use Rattle.std.proofs.Common.{◌≡◌, ℕ, ◌+◌, ◌-◌, ◌*◌, ◌/◌, ◌%◌, ◌<◌, ◌≤◌, List, length, get_or, take, drop, refl, ap, sym, ◌∙◌, arith, Bool, true, false, if◌then◌else◌, ◌⊎◌, inl, inr}
use Rattle.std.proofs.lemmas.List.{ext_get_or, get_or-take, get_or-drop}
use Rattle.std.proofs.lemmas.Bool.{cases_lt}
use Rattle.std.proofs.lemmas.Nat.{div-add-mod', mul-le, mod_below}
use Rattle.std.proofs.lemmas.Grind.{common_steps}
use Rattle.std.proofs.lemmas.Bool.Decides.{nat_tests}
use Rattle.rc_base.specs.Pictures.{Picture}
use Rattle.rc_base.specs.Pictures.{texel_at, picture_of, is_in_part, written_texel, with_part}
use Rattle.rc_base.specs.declared.command.Part.{Part}
use Rattle.textures.specs.Images.{Fits, first_rows, part}
use Rattle.textures.proofs.Pieces.{AreFours, length_pieces, piece_at, length_four, four_at, spliced, length_spliced, spliced_before, spliced_in, spliced_after}

-- ---- tests

pub true_false : true ≡ false → ⊥
true_false e = absurd (cc)

pub in_of : (part : Part) (c r : ℕ) → is_in_part part c r ≡ true → (part.x ≤ c) × (c < part.x + part.w) × (part.y ≤ r) × (r < part.y + part.h)
in_of part c r e = (grind (arith, nat_tests), grind (arith, nat_tests), grind (arith, nat_tests), grind (arith, nat_tests))

pub in_is : (part : Part) (c r : ℕ) → part.x ≤ c → c < part.x + part.w → part.y ≤ r → r < part.y + part.h → is_in_part part c r ≡ true
in_is part c r a b d e = grind (arith, nat_tests)

-- ---- places of texels

-- texel (c, r) of a picture of these sides is one of its texels
pub place_below : (c r w h : ℕ) → c < w → r < h → r * w + c < h * w
place_below c r w h a b =
    let m : (r + 1) * w ≤ h * w = mul-le (r + 1) w h w (omega arith) (omega arith) in
    omega (arith, m)

texel_fits : (p : Picture) (part : Part) → Fits p part → (k : ℕ) → k < p.w * p.h → length (texel_at p (k % p.w) (k / p.w)) ≡ 4
texel_fits p part f k l =
    let whole = f.whole in
    let place = div-add-mod' k p.w in
    length_four p.texels (4 * (k / p.w * p.w + k % p.w)) (omega (arith, whole, place))

part_fits : (p : Picture) (part : Part) → Fits p part → (c r : ℕ) → is_in_part part c r ≡ true → 4 * ((r - part.y) * part.w + (c - part.x)) + 4 ≤ length part.texels
part_fits p part f c r e =
    let i = in_of part c r e in
    let i0 = i.0 in let i1 = i.1 in let i2 = i.2 in let i3 = i.3 in
    let b = place_below (c - part.x) (r - part.y) part.w part.h (omega arith) (omega arith) in
    let room = f.room in
    let t : part.h * part.w ≡ part.w * part.h = omega arith in
    omega (arith, b, room, t)

-- byte i of the picture after the part was written
abbrev byte_by : Picture → Part → ℕ → Bool → ℕ
byte_by p part i b =
    if b then get_or part.texels (4 * ((i / 4 / p.w - part.y) * part.w + (i / 4 % p.w - part.x)) + i % 4) 0
    else get_or p.texels i 0

fours : (p : Picture) (part : Part) → Fits p part → AreFours (λ k. written_texel p part (k % p.w) (k / p.w)) 0 (p.w * p.h)
fours p part f k s l = by (is_in_part part (k % p.w) (k / p.w)) refl
  where
    by : (b : Bool) → is_in_part part (k % p.w) (k / p.w) ≡ b → length (if b then texel_at (picture_of part) (k % p.w - part.x) (k / p.w - part.y) else texel_at p (k % p.w) (k / p.w)) ≡ 4
    by true e = length_four part.texels (4 * ((k / p.w - part.y) * part.w + (k % p.w - part.x))) (part_fits p part f (k % p.w) (k / p.w) e)
    by false e = texel_fits p part f k (omega (arith, l))

pub length_written : (p : Picture) (part : Part) → Fits p part → length (with_part p part).texels ≡ 4 * (p.w * p.h)
unfolding with_part
length_written p part f = length_pieces (λ k. written_texel p part (k % p.w) (k / p.w)) 0 (p.w * p.h) (fours p part f)

pub byte_written : (p : Picture) (part : Part) → Fits p part → (i : ℕ) → i < 4 * (p.w * p.h) → get_or (with_part p part).texels i 0 ≡ byte_by p part i (is_in_part part (i / 4 % p.w) (i / 4 / p.w))
unfolding with_part
byte_written p part f i l =
    piece_at (λ k. written_texel p part (k % p.w) (k / p.w)) 0 (p.w * p.h) (fours p part f) i l
    ∙ ap (λ n. get_or (written_texel p part (n % p.w) (n / p.w)) (i % 4) 0) from_0 ∙ by (is_in_part part (i / 4 % p.w) (i / 4 / p.w))
  where
    place : i / 4 / p.w * p.w + i / 4 % p.w ≡ i / 4
    place = div-add-mod' (i / 4) p.w

    from_0 : 0 + i / 4 ≡ i / 4
    from_0 = omega arith

    small : i % 4 < 4
    small = omega arith

    by : (b : Bool) → get_or (if b then texel_at (picture_of part) (i / 4 % p.w - part.x) (i / 4 / p.w - part.y) else texel_at p (i / 4 % p.w) (i / 4 / p.w)) (i % 4) 0 ≡ byte_by p part i b
    by true = four_at part.texels (4 * ((i / 4 / p.w - part.y) * part.w + (i / 4 % p.w - part.x))) (i % 4) small
    by false =
        four_at p.texels (4 * (i / 4 / p.w * p.w + i / 4 % p.w)) (i % 4) small
        ∙ ap (λ n. get_or p.texels n 0) (omega (arith, place))

-- ---- rows

out_of_none : (part : Part) (c r : ℕ) → is_in_part (first_rows part 0) c r ≡ false
out_of_none part c r = grind (arith, nat_tests)

-- before a row is written there is the old picture
pub none_written : (p : Picture) (part : Part) → Fits p (first_rows part 0) → (with_part p (first_rows part 0)).texels ≡ p.texels
none_written p part f =
    ext_get_or 0 (with_part p (first_rows part 0)).texels p.texels (length_written p (first_rows part 0) f ∙ sym f.whole) (λ i l.
    byte_written p (first_rows part 0) f i (rw (sym (length_written p (first_rows part 0) f)) l)
    ∙ ap (byte_by p (first_rows part 0) i) (out_of_none part (i / 4 % p.w) (i / 4 / p.w)))

-- where the bytes of a row of the part begin, in the picture and in the part
abbrev pub row_at : Picture → Part → ℕ → ℕ
row_at p part row = 4 * ((part.y + row) * p.w + part.x)

abbrev pub row_bytes : Part → ℕ → List ℕ
row_bytes part row = take (4 * part.w) (drop (4 * (row * part.w)) part.texels)

module _ (p : Picture) (part : Part) (row : ℕ) (f : Fits p (first_rows part (row + 1))) where
  fewer : Fits p (first_rows part row)
  fewer =
      let room = f.room in let up = f.up in
      record { whole = f.whole; room = omega (arith, room); across = f.across; up = omega (arith, up) }

  pub length_row : length (row_bytes part row) ≡ 4 * part.w
  length_row =
      let room = f.room in
      let e : 4 * (row * part.w) + 4 * part.w ≤ length part.texels = omega (arith, room) in
      grind (arith, common_steps, e)

  pub row_inside : row_at p part row + 4 * part.w ≤ length (with_part p (first_rows part row)).texels
  row_inside =
      let up = f.up in let across = f.across in
      let m : (part.y + row + 1) * p.w ≤ p.h * p.w = mul-le (part.y + row + 1) p.w p.h p.w (omega (arith, up)) (omega arith) in
      rw (length_written p (first_rows part row) fewer) (omega (arith, m, across))

-- ---- one byte of the next row's picture

module _ (p : Picture) (part : Part) (row : ℕ) (f : Fits p (first_rows part (row + 1))) (i : ℕ) (l : i < 4 * (p.w * p.h)) where
  abbrev old : List ℕ
  old = (with_part p (first_rows part row)).texels

  abbrev at : ℕ
  at = row_at p part row

  abbrev column : ℕ
  column = i / 4 % p.w

  abbrev line : ℕ
  line = i / 4 / p.w

  wide : 0 < p.w
  wide = by (cases_lt 0 p.w)
    where
      by : (0 < p.w) ⊎ (p.w ≤ 0) → 0 < p.w
      by (inl a) = a
      by (inr b) = let m : p.w * p.h ≤ 0 * p.h = mul-le p.w p.h 0 p.h b (omega arith) in absurd (omega (arith, l, m))

  place : line * p.w + column ≡ i / 4
  place = div-add-mod' (i / 4) p.w

  narrow : column < p.w
  narrow = mod_below (i / 4) p.w wide

  -- on a line before the row
  before_line : line < part.y + row → i < at
  before_line a =
      let m : (line + 1) * p.w ≤ (part.y + row) * p.w = mul-le (line + 1) p.w (part.y + row) p.w (omega (arith, a)) (omega arith) in
      let e = place in let n = narrow in
      omega (arith, m, e, n)

  -- on a line after it
  after_line : part.y + row < line → at + 4 * part.w ≤ i
  after_line a =
      let m : (part.y + row + 1) * p.w ≤ line * p.w = mul-le (part.y + row + 1) p.w line p.w (omega (arith, a)) (omega arith) in
      let e = place in let across = f.across in
      omega (arith, m, e, across)

  -- on its line, left and right of it
  left_of : line ≡ part.y + row → column < part.x → i < at
  left_of e a = let m = ap (λ n. n * p.w) e in let s = place in omega (arith, m, s, a)

  right_of : line ≡ part.y + row → part.x + part.w ≤ column → at + 4 * part.w ≤ i
  right_of e a = let m = ap (λ n. n * p.w) e in let s = place in omega (arith, m, s, a)

  outside : is_in_part (first_rows part (row + 1)) column line ≡ false → part.y ≤ line → (i < at) ⊎ (at + 4 * part.w ≤ i)
  outside e y = by (cases_lt line (part.y + row)) (cases_lt (part.y + row) line) (cases_lt column part.x) (cases_lt column (part.x + part.w))
    where
      by : (line < part.y + row) ⊎ (part.y + row ≤ line) → (part.y + row < line) ⊎ (line ≤ part.y + row) → (column < part.x) ⊎ (part.x ≤ column) → (column < part.x + part.w) ⊎ (part.x + part.w ≤ column) → (i < at) ⊎ (at + 4 * part.w ≤ i)
      by (inl a) _ _ _ = inl (before_line a)
      by (inr a) (inl b) _ _ = inr (after_line b)
      by (inr a) (inr b) (inl d) _ = inl (left_of (omega (arith, a, b)) d)
      by (inr a) (inr b) (inr d) (inr g) = inr (right_of (omega (arith, a, b)) g)
      by (inr a) (inr b) (inr d) (inl g) = absurd (true_false (sym (in_is (first_rows part (row + 1)) column line d g y (omega (arith, a, b))) ∙ e))

  abbrev stretch : List ℕ
  stretch = row_bytes part row

  many : length stretch ≡ 4 * part.w
  many = length_row p part row f

  fits : at + length stretch ≤ length old
  fits = rw many (row_inside p part row f)

  was_at : (b : Bool) → is_in_part (first_rows part row) column line ≡ b → get_or old i 0 ≡ byte_by p part i b
  was_at b e = byte_written p (first_rows part row) (fewer p part row f) i l ∙ ap (byte_by p part i) e

  before : (b : Bool) → is_in_part (first_rows part row) column line ≡ b → i < at → get_or (spliced old at stretch) i 0 ≡ byte_by p part i b
  before b e a = spliced_before old at stretch i fits a ∙ was_at b e

  after : (b : Bool) → is_in_part (first_rows part row) column line ≡ b → at + 4 * part.w ≤ i → get_or (spliced old at stretch) i 0 ≡ byte_by p part i b
  after b e a = spliced_after old at stretch i fits (rw many a) ∙ was_at b e

  last : is_in_part (first_rows part row) column line ≡ false → part.x ≤ column → column < part.x + part.w → part.y ≤ line → line < part.y + (row + 1) → (line < part.y + row) ⊎ (part.y + row ≤ line) → line ≡ part.y + row
  last e a b d g (inl k) = absurd (true_false (sym (in_is (first_rows part row) column line a b d k) ∙ e))
  last e a b d g (inr k) = omega (arith, g, k)

  within : is_in_part (first_rows part row) column line ≡ false → is_in_part (first_rows part (row + 1)) column line ≡ true → get_or (spliced old at stretch) i 0 ≡ byte_by p part i true
  within e g =
      let h = in_of (first_rows part (row + 1)) column line g in
      let h0 = h.0 in let h1 = h.1 in let h2 = h.2 in let h3 = h.3 in
      let on : line ≡ part.y + row = last e h0 h1 h2 h3 (cases_lt line (part.y + row)) in
      let m = ap (λ n. n * p.w) on in
      let s = place in
      let low : at ≤ i = omega (arith, m, s, h0) in
      let high : i < at + 4 * part.w = omega (arith, m, s, h1) in
      let far : i - at < 4 * part.w = omega (arith, low, high) in
      let lines : (line - part.y) * part.w ≡ row * part.w = ap (λ n. n * part.w) (omega (arith, on)) in
      let same : 4 * (row * part.w) + (i - at) ≡ 4 * ((line - part.y) * part.w + (column - part.x)) + i % 4 = omega (arith, m, s, h0, lines, low) in
      spliced_in old at stretch i fits low (rw many high)
      ∙ get_or-take (4 * part.w) (drop (4 * (row * part.w)) part.texels) (i - at) 0 far
      ∙ get_or-drop (4 * (row * part.w)) part.texels (i - at) 0
      ∙ ap (λ n. get_or part.texels n 0) same

  sides : is_in_part (first_rows part row) column line ≡ false → (i < at) ⊎ (at + 4 * part.w ≤ i) → get_or (spliced old at stretch) i 0 ≡ byte_by p part i false
  sides e (inl a) = before false e a
  sides e (inr a) = after false e a

  apart : is_in_part (first_rows part row) column line ≡ false → is_in_part (first_rows part (row + 1)) column line ≡ false → (line < part.y) ⊎ (part.y ≤ line) → get_or (spliced old at stretch) i 0 ≡ byte_by p part i false
  apart e g (inl a) = before false e (before_line (omega (arith, a)))
  apart e g (inr a) = sides e (outside g a)

  by : (b d : Bool) → is_in_part (first_rows part row) column line ≡ b → is_in_part (first_rows part (row + 1)) column line ≡ d → get_or (spliced old at stretch) i 0 ≡ byte_by p part i d
  by true true e g = before true e (before_line (in_of (first_rows part row) column line e).3)
  by true false e g =
      let h = in_of (first_rows part row) column line e in let h3 = h.3 in
      absurd (true_false (sym (in_is (first_rows part (row + 1)) column line h.0 h.1 h.2 (omega (arith, h3))) ∙ g))
  by false true e g = within e g
  by false false e g = apart e g (cases_lt line part.y)

  -- a byte of the picture after row + 1 rows, told by where it stands
  next_byte : get_or (spliced old at stretch) i 0 ≡ byte_by p part i (is_in_part (first_rows part (row + 1)) column line)
  next_byte = by (is_in_part (first_rows part row) column line) (is_in_part (first_rows part (row + 1)) column line) refl refl

module _ (p : Picture) (part : Part) (row : ℕ) (f : Fits p (first_rows part (row + 1))) where
  -- the next row's bytes written over their place
  pub row_written : spliced (with_part p (first_rows part row)).texels (row_at p part row) (row_bytes part row) ≡ (with_part p (first_rows part (row + 1))).texels
  row_written =
      let was = (with_part p (first_rows part row)).texels in
      let many = length_row p part row f in
      let long : length (spliced was (row_at p part row) (row_bytes part row)) ≡ 4 * (p.w * p.h) = length_spliced was (row_at p part row) (row_bytes part row) (rw many (row_inside p part row f)) ∙ length_written p (first_rows part row) (fewer p part row f) in
      ext_get_or 0 (spliced was (row_at p part row) (row_bytes part row)) (with_part p (first_rows part (row + 1))).texels (long ∙ sym (length_written p (first_rows part (row + 1)) f))
      (λ i l. next_byte p part row f i (rw (sym long) l) ∙ sym (byte_written p (first_rows part (row + 1)) f i (rw (sym long) l)))

-- fewer rows fit too
pub fits_rows : (p : Picture) (part : Part) → Fits p part → (n : ℕ) → n ≤ part.h → Fits p (first_rows part n)
fits_rows p part f n l =
    let room = f.room in let up = f.up in
    let m : part.w * n ≤ part.w * part.h = mul-le part.w n part.w part.h (omega arith) l in
    record { whole = f.whole; room = omega (arith, room, m); across = f.across; up = omega (arith, up, l) }

-- the name of a part has no bearing on what is written
pub any_name : (p : Picture) (name x y w h : ℕ) (bytes : List ℕ) → with_part p (part 0 x y w h bytes) ≡ with_part p (part name x y w h bytes)
unfolding with_part
any_name p name x y w h bytes = refl

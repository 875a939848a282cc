-- Lines of a part that are written one after the other, from the top.
use Rattle.std.proofs.Common.{◌≡◌, ℕ, zero, suc, ◌+◌, ◌-◌, ◌*◌, ◌<◌, ◌≤◌, ◌⊎◌, true, List, [], ◌∷◌, length, get_or, take, drop, inl, inr, refl, sym, ap, ◌∙◌, arith, true≢false, mul-le-mul}
use Rattle.std.specs.List.{flat_map}
use Rattle.std.proofs.lemmas.Bool.{cases_lt}
use Rattle.std.proofs.lemmas.List.{get_or-drop, get_or-take}
use Rattle.rc_base.specs.Cluster.Tiles.{boundary_of, tile_column, tile_count, tile_pixels, tile_row}
use Rattle.rc_base.specs.Drawing.Images.{rgb_of}
use Rattle.rc_base.specs.Drawing.Serial.{blank_pixel}
use Rattle.rc_base.specs.declared.window.Layout.{Layout}
use Rattle.rc_base.specs.declared.window.Pixel.{Pixel}
use Rattle.plain_lemmas.proofs.Places.{next_row}
use Rattle.scene_lemmas.proofs.Boundaries.{boundary_rises, boundary_most, has_place, HasPlace}
use Rattle.assembler.specs.Drawn.{bytes_at, place_of_bytes, StaysBeside}
use Rattle.assembler.specs.Parts.{place_in_part, tile_height, tile_width}
use Rattle.assembler.proofs.Fitting.{row_below_rows, tile_has}

-- the bytes of one of some pixels
pub pixel_bytes : (pixels : List Pixel) (i : ℕ) (d : Pixel) → i < length pixels → take 3 (drop (3 * i) (flat_map rgb_of pixels)) ≡ rgb_of (get_or pixels i d)
pixel_bytes [] i d lt = absurd (omega arith)
pixel_bytes (p ∷ pixels) zero d lt = refl
pixel_bytes (p ∷ pixels) (suc i) d lt =
    let s : 3 * suc i ≡ suc (suc (suc (3 * i))) = omega arith in
    rw s (pixel_bytes pixels i d (omega arith))

-- a pixel in another row, or beside a run, has its bytes before those of the run or behind them
pub apart : (width row left wide other x : ℕ) → left + wide ≤ width → x < width → (other ≡ row → (x < left) ⊎ (left + wide ≤ x))
    → (3 * (other * width + x) + 3 ≤ 3 * (row * width + left)) ⊎ (3 * (row * width + left) + 3 * wide ≤ 3 * (other * width + x))
apart width row left wide other x fits low beside = elim (cases_lt other row) [
  | inl above ↦ inl (let k = next_row width other row above in omega (arith, k, low))
  | inr not_above ↦ elim (cases_lt row other) [
    | inl below ↦ inr (let k = next_row width row other below in omega (arith, k, fits))
    | inr not_below ↦
        let same : other ≡ row = omega (arith, not_above, not_below) in
        let k : other * width ≡ row * width = ap (λ (n : ℕ). n * width) same in
        elim (beside same) [
          | inl left_of ↦ inl (omega (arith, k, left_of))
          | inr right_of ↦ inr (omega (arith, k, right_of))
        ]
  ]
]

-- where the next line's bytes begin
pub next_line : (above width left k : ℕ) → 3 * ((above + k) * width + left) + 3 * width ≡ 3 * ((above + (k + 1)) * width + left)
next_line above width left k = omega arith

pub area_most : (w h m : ℕ) → w ≤ m → h ≤ m → w * h ≤ m * m
area_most w h m a b = mul-le-mul a b

-- ---- the tile's line that is k lines from its top

module _ (l : Layout) (tile : ℕ) where
  abbrev left : ℕ
  left = boundary_of l.width l.columns (tile_column l tile)

  abbrev right : ℕ
  right = boundary_of l.width l.columns (tile_column l tile + 1)

  abbrev bottom : ℕ
  bottom = boundary_of l.height l.rows (tile_row l tile)

  abbrev top : ℕ
  top = boundary_of l.height l.rows (tile_row l tile + 1)

  abbrev wide : ℕ
  wide = tile_width l tile

  abbrev high : ℕ
  high = tile_height l tile

  -- where a line's bytes begin
  abbrev pub line_from : ℕ → ℕ
  line_from k = 3 * ((l.height - top + k) * l.width + left)

  -- the lines so far are written, and nothing else
  pub record AreLinesDrawn (pixels : List Pixel) (old new : List ℕ) (k : ℕ) : Type 0 where
    pub lines : (x y : ℕ) → tile_pixels l tile x y ≡ true → top ≤ y + k → bytes_at l new x y ≡ rgb_of (get_or pixels (place_in_part l tile x y) blank_pixel)
    pub others : StaysBeside l tile old new

  module _ (columns : 0 < l.columns) (rows : 0 < l.rows) (low : tile < tile_count l) where
    left_below : left ≤ right
    left_below = boundary_rises l.width l.columns (tile_column l tile) (tile_column l tile + 1) columns (omega arith)

    bottom_below : bottom ≤ top
    bottom_below = boundary_rises l.height l.rows (tile_row l tile) (tile_row l tile + 1) rows (omega arith)

    right_most : right ≤ l.width
    right_most = boundary_most l.width l.columns (tile_column l tile) (omega arith)

    top_most : top ≤ l.height
    top_most = boundary_most l.height l.rows (tile_row l tile) (row_below_rows l tile columns low)

    pub line_ends : (k : ℕ) → k < high → line_from k + 3 * wide ≤ 3 * l.width * l.height
    line_ends k lt =
        let a = next_row l.width (l.height - top + k) l.height (let t = top_most in let b = bottom_below in omega (arith, t, b, lt)) in
        let r = right_most in
        let f = left_below in
        omega (arith, a, r, f)

    module _ (pixels : List Pixel) (old out new : List ℕ) (k : ℕ) (lt : k < high) (room : length pixels ≡ wide * high)
        (run : (i : ℕ) → i < wide → take 3 (drop (line_from k + 3 * i) new) ≡ rgb_of (get_or (take wide (drop ((high - 1 - k) * wide) pixels)) i blank_pixel))
        (stays : (at : ℕ) → (at + 3 ≤ line_from k) ⊎ (line_from k + 3 * wide ≤ at) → take 3 (drop at new) ≡ take 3 (drop at out))
        (before : AreLinesDrawn pixels old out k) where
      -- its bytes
      here : (x y : ℕ) → HasPlace l tile x y → y + (k + 1) ≡ top → bytes_at l new x y ≡ rgb_of (get_or pixels (place_in_part l tile x y) blank_pixel)
      here x y p is =
          let t = top_most in
          let b = bottom_below in
          let i = x - left in
          let inside : i < wide = (let a = p.across.low in let c = p.across.high in omega (arith, a, c)) in
          let up : l.height - 1 - y ≡ l.height - top + k = omega (arith, is, t) in
          let rows_up : (l.height - 1 - y) * l.width ≡ (l.height - top + k) * l.width = ap (λ (n : ℕ). n * l.width) up in
          let start : place_of_bytes l x y ≡ line_from k + 3 * i = (let a = p.across.low in omega (arith, rows_up, a)) in
          let line : high - 1 - k ≡ y - bottom = (let a = p.up.low in omega (arith, is, a)) in
          let lines_up : (high - 1 - k) * wide ≡ (y - bottom) * wide = ap (λ (n : ℕ). n * wide) line in
          let place : (high - 1 - k) * wide + i ≡ place_in_part l tile x y = omega (arith, lines_up) in
          ap (λ (n : ℕ). take 3 (drop n new)) start
          ∙ run i inside
          ∙ ap rgb_of (get_or-take wide (drop ((high - 1 - k) * wide) pixels) i blank_pixel inside ∙ get_or-drop ((high - 1 - k) * wide) pixels i blank_pixel
          ∙ ap (λ (n : ℕ). get_or pixels n blank_pixel) place)

      -- the bytes of other pixels
      elsewhere : (x y : ℕ) → x < l.width → y < l.height → (y + (k + 1) ≡ top → (x < left) ⊎ (right ≤ x)) → bytes_at l new x y ≡ bytes_at l out x y
      elsewhere x y in_width in_height beside =
          let t = top_most in
          let b = bottom_below in
          let r = right_most in
          let f = left_below in
          stays (place_of_bytes l x y)
          (apart l.width (l.height - top + k) left wide (l.height - 1 - y) x (omega (arith, r, f)) in_width
          (λ same. elim (beside (omega (arith, same, t, b, lt, in_height))) [
            | inl before ↦ inl before
            | inr behind ↦ inr (omega (arith, behind, f))
          ]))

      pub line_more : AreLinesDrawn pixels old new (k + 1)
      line_more = record {
        lines = λ x y has above.
            let p = has_place l tile x y has in
            let t = top_most in
            let r = right_most in
            let in_width : x < l.width = (let a = p.across.high in omega (arith, a, r)) in
            let in_height : y < l.height = (let a = p.up.high in omega (arith, a, t)) in
            elim (cases_lt (y + k) top) [
              | inl this ↦ here x y p (omega (arith, above, this))
              | inr earlier ↦ elsewhere x y in_width in_height (λ same. absurd (omega (arith, same, earlier))) ∙ before.lines x y has earlier
            ];
        others = λ x y in_width in_height has_not.
            let b = bottom_below in
            elsewhere x y in_width in_height
            (λ same. elim (cases_lt x left) [
              | inl left_of ↦ inl left_of
              | inr from_left ↦ elim (cases_lt x right) [
                | inl inside ↦ absurd (true≢false (sym (tile_has l tile (tile_row l tile) (tile_column l tile) x y refl refl from_left inside (omega (arith, same, lt)) (omega (arith, same))) ∙ has_not))
                | inr right_of ↦ inr right_of
              ]
            ])
            ∙ before.others x y in_width in_height has_not;
      }

    pub no_line : (pixels : List Pixel) (old : List ℕ) → AreLinesDrawn pixels old old 0
    no_line pixels old = record {
      lines = λ x y has above. absurd (let p = (has_place l tile x y has).up.high in omega (arith, above, p));
      others = λ x y in_width in_height has_not. refl;
    }

    pub all_lines : (pixels : List Pixel) (old new : List ℕ) (k : ℕ) → high ≤ k → AreLinesDrawn pixels old new k
        → (x y : ℕ) → tile_pixels l tile x y ≡ true → bytes_at l new x y ≡ rgb_of (get_or pixels (place_in_part l tile x y) blank_pixel)
    all_lines pixels old new k all h x y has = h.lines x y has (let p = (has_place l tile x y has).up.low in let b = bottom_below in omega (arith, all, p, b))

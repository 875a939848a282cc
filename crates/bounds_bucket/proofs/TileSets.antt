-- Tiles by rows: the columns' bits, moved to where a row begins.
use Rattle.std.proofs.Common.{◌≡◌, ◌∙◌, ℕ, zero, suc, ◌+◌, ◌-◌, ◌*◌, ◌/◌, ◌%◌, ◌^◌, ◌<◌, ◌≤◌, min, max, Bool, true, false, ◌&&◌, arith, refl, sym, ap, subst, inl, inr, lt-ltb, le-leb}
use Rattle.std.specs.Prelude.{◌==◌, ◌||◌, bit_or, nat_lt, nat_le}
use Rattle.std.specs.Int.{bit_at}
use Rattle.std.proofs.Math.Nat.{zero-div, div-lt_iff_lt-mul, le-div_iff_mul-le, div-mul-le_self, mod-eq-sub-div-mul, mod-le, div-le_self}
use Rattle.std.proofs.lemmas.Nat.Bits.{bit_at-zero, bit_at-lt, bit_at_or, bit_at_cat_low, bit_at_cat_high}
use Rattle.std.proofs.lemmas.Bool.{cases_lt, le-ltb}
use Rattle.std.proofs.lemmas.Bool.Decides.{nat_tests}
use Rattle.rc_base.specs.Orders.Journal.{has}
use Rattle.rc_base.specs.Cluster.Tiles.{boundary_of, tile_count, tile_column, tile_row}
use Rattle.rc_base.specs.declared.window.Layout.{Layout}
use Rattle.bounds_bucket.proofs.BoxTiles.{counted}

-- a side's first part begins at 0
pub begins : (side parts : ℕ) → boundary_of side parts 0 ≡ 0
begins side parts = ap (λ n. n / parts) (none side) ∙ zero-div parts
  where
    none : (n : ℕ) → 0 * n ≡ 0
    none n = omega arith

-- ---- bits

not_yet : (start t : ℕ) → t < start → nat_le start t ≡ false
not_yet start t h = grind (arith, nat_tests)

low_bits : (n t : ℕ) → t < 32 → bit_at (n % 2 ^ 32) t ≡ bit_at n t
low_bits n t h = sym (bit_at_cat_low (n / 2 ^ 32) 32 (n % 2 ^ 32) t h) ∙ ap (λ m. bit_at m t) (whole n)
  where
    whole : (n : ℕ) → n / 2 ^ 32 * 2 ^ 32 + n % 2 ^ 32 ≡ n
    whole n = omega arith

pub has_none : (t : ℕ) → has 0 t ≡ false
has_none t = ap (λ n. n == 1) (bit_at-zero t)

pub moved : (columns start t : ℕ) → t < 32 → has (columns * 2 ^ start % 2 ^ 32) t ≡ (nat_le start t && has columns (t - start))
moved columns start t h =
    ap (λ n. n == 1) (low_bits (columns * 2 ^ start) t h)
    ∙ ap (λ n. bit_at n t == 1) (sym (bare (columns * 2 ^ start)))
    ∙ elim (cases_lt t start) [
      | inl less ↦ ap (λ n. n == 1) (bit_at_cat_low columns start 0 t less ∙ bit_at-zero t) ∙ ap (λ b. b && has columns (t - start)) (sym (not_yet start t less))
      | inr more ↦ ap (λ n. n == 1) (bit_at_cat_high columns start 0 t (some start) more) ∙ ap (λ b. b && has columns (t - start)) (sym (le-leb start t more))
    ]
  where
    bare : (n : ℕ) → n + 0 ≡ n
    bare n = omega arith

    some : (k : ℕ) → 0 < 2 ^ k
    some zero = omega arith
    some (suc k) = let h = some k in omega (arith, h)

pub none_from : (columns start t : ℕ) → t < 32 → 32 ≤ start → has 0 t ≡ (nat_le start t && has columns (t - start))
none_from columns start t h k = has_none t ∙ ap (λ b. b && has columns (t - start)) (sym (not_yet start t (omega (arith, h, k))))

pub has_either : (a b t : ℕ) → has (bit_or a b) t ≡ (has b t || has a t)
has_either a b t = ap (λ n. n == 1) (bit_at_or a b t) ∙ either (bit_at a t) (bit_at b t) (bit_at-lt a t) (bit_at-lt b t)
  where
    either : (p q : ℕ) → p < 2 → q < 2 → (max p q == 1) ≡ ((q == 1) || (p == 1))
    either zero zero h k = refl
    either zero (suc zero) h k = refl
    either (suc zero) zero h k = refl
    either (suc zero) (suc zero) h k = refl
    either (suc (suc p)) q h k = absurd (omega (arith, h))
    either p (suc (suc q)) h k = absurd (omega (arith, k))

-- ---- rows

-- the tiles of the first rows that columns and rows have
pub record IsPutTogether (l : Layout) (columns rows row met : ℕ) : Type 0 where
  pub each : (t : ℕ) → t < 32 → has met t ≡ (nat_lt (tile_row l t) row && (has columns (tile_column l t) && has rows (tile_row l t)))

-- a set of columns has none from the layout's on
abbrev AreFew : Layout → ℕ → Type 0
AreFew l columns = (j : ℕ) → j < 32 → l.columns ≤ j → has columns j ≡ false

pub are_few : (l : Layout) (columns : ℕ) (passes : ℕ → Bool) → ((j : ℕ) → j < 32 → has columns j ≡ (nat_lt j l.columns && passes j)) → AreFew l columns
are_few l columns passes h j k some = h j k ∙ ap (λ b. b && passes j) (le-ltb j l.columns some)

-- the part of a row's tiles that another row's tile has
apart : (l : Layout) (columns row t : ℕ) → AreFew l columns → t < 32 → (tile_row l t ≡ row → ⊥) → (nat_le (row * l.columns) t && has columns (t - row * l.columns)) ≡ false
apart l columns row t few h other =
    elim (cases_lt t (row * l.columns)) [
      | inl less ↦ ap (λ b. b && has columns (t - row * l.columns)) (not_yet (row * l.columns) t less)
      | inr more ↦ elim (cases_lt (t - row * l.columns) l.columns) [
        | inl inside ↦ absurd (other (here inside more))
        | inr past ↦ ap (λ b. nat_le (row * l.columns) t && b) (few (t - row * l.columns) (omega (arith, h)) past) ∙ no (nat_le (row * l.columns) t)
      ]
    ]
  where
    no : (b : Bool) → (b && false) ≡ false
    no true = refl
    no false = refl

    here : t - row * l.columns < l.columns → row * l.columns ≤ t → t / l.columns ≡ row
    here inside more =
        let some : 0 < l.columns = omega (arith, inside) in
        let e : (row + 1) * l.columns ≡ row * l.columns + l.columns = next row l.columns in
        let below : t / l.columns < row + 1 = (div-lt_iff_lt-mul some).1 (omega (arith, inside, more, e)) in
        let above : row ≤ t / l.columns = (le-div_iff_mul-le some).1 more in
        omega (arith, below, above)
      where
        next : (r c : ℕ) → (r + 1) * c ≡ r * c + c
        next r c = omega arith

own : (l : Layout) (columns t : ℕ) → (nat_le (tile_row l t * l.columns) t && has columns (t - tile_row l t * l.columns)) ≡ has columns (tile_column l t)
own l columns t =
    ap (λ b. b && has columns (t - tile_row l t * l.columns)) (le-leb (tile_row l t * l.columns) t (div-mul-le_self t l.columns))
    ∙ ap (has columns) (sym (mod-eq-sub-div-mul t l.columns))

passed : (r f : Bool) → ((r && false) || (true && f)) ≡ (true && f)
passed true f = refl
passed false f = refl

coming : (r f : Bool) → ((r && false) || (false && f)) ≡ (false && f)
coming true f = refl
coming false f = refl

reached : (r c x : Bool) → ((r && c) || (false && x)) ≡ (true && (c && r))
reached true true x = refl
reached true false x = refl
reached false true x = refl
reached false false x = refl

pub one_more_row : (l : Layout) (columns rows row before after : ℕ) → AreFew l columns → IsPutTogether l columns rows row before
    → ((t : ℕ) → t < 32 → has after t ≡ ((has rows row && (nat_le (row * l.columns) t && has columns (t - row * l.columns))) || has before t))
    → IsPutTogether l columns rows (row + 1) after
one_more_row l columns rows row before after few h more = record { each = by }
  where
    by : (t : ℕ) → t < 32 → has after t ≡ (nat_lt (tile_row l t) (row + 1) && (has columns (tile_column l t) && has rows (tile_row l t)))
    by t k =
        let f = has columns (tile_column l t) && has rows (tile_row l t) in
        let start = more t k ∙ ap (λ b. (has rows row && (nat_le (row * l.columns) t && has columns (t - row * l.columns))) || b) (h.each t k) in
        elim (cases_lt (tile_row l t) row) [
          | inl less ↦
              let x = apart l columns row t few k (λ e. omega (arith, e, less)) in
              let y = lt-ltb (tile_row l t) row less in
              let z = lt-ltb (tile_row l t) (row + 1) (omega (arith, less)) in
              start ∙ (λ i. (has rows row && x i) || (y i && f)) ∙ passed (has rows row) f ∙ ap (λ b. b && f) (sym z)
          | inr least ↦ elim (cases_lt row (tile_row l t)) [
            | inl past ↦
                let x = apart l columns row t few k (λ e. omega (arith, e, past)) in
                let y = le-ltb (tile_row l t) row least in
                let z = le-ltb (tile_row l t) (row + 1) (omega (arith, past)) in
                start ∙ (λ i. (has rows row && x i) || (y i && f)) ∙ coming (has rows row) f ∙ ap (λ b. b && f) (sym z)
            | inr most ↦
                let e : tile_row l t ≡ row = omega (arith, least, most) in
                let x : (nat_le (row * l.columns) t && has columns (t - row * l.columns)) ≡ has columns (tile_column l t) =
                subst (λ r. (nat_le (r * l.columns) t && has columns (t - r * l.columns)) ≡ has columns (tile_column l t)) e (own l columns t) in
                let y = le-ltb (tile_row l t) row least in
                let z = lt-ltb (tile_row l t) (row + 1) (omega (arith, most)) in
                start ∙ (λ i. (has rows row && x i) || (y i && f)) ∙ reached (has rows row) (has columns (tile_column l t)) f
                ∙ (λ i. sym z i && (has columns (tile_column l t) && has rows (sym e i)))
          ]
        ]

-- the rows that a layout has are all
pub all_rows : (l : Layout) (columns rows t : ℕ) → AreFew l columns → t < 32
    → (nat_lt (tile_row l t) (min l.rows 32) && (has columns (tile_column l t) && has rows (tile_row l t)))
    ≡ (nat_lt t (min (tile_count l) 32) && (has columns (tile_column l t) && has rows (tile_row l t)))
all_rows l columns rows t few k =
    let f = has columns (tile_column l t) && has rows (tile_row l t) in
    elim (cases_lt t (tile_count l)) [
      | inl less ↦
          let c = (counted l t less).row in
          let s : tile_row l t ≤ t = div-le_self t l.columns in
          let x = lt-ltb (tile_row l t) (min l.rows 32) (omega (arith, c, s, k)) in
          let y = lt-ltb t (min (tile_count l) 32) (omega (arith, less, k)) in
          (λ i. x i && f) ∙ (λ i. sym y i && f)
      | inr more ↦
          let y = le-ltb t (min (tile_count l) 32) (omega (arith, more)) in
          elim (cases_lt 0 l.columns) [
            | inl some ↦
                let past : l.rows ≤ tile_row l t = elim (cases_lt (tile_row l t) l.rows) [
                  | inl inside ↦ absurd (let b = (div-lt_iff_lt-mul some).0 inside in let e = turned l.columns l.rows in omega (arith, b, e, more))
                  | inr out ↦ out
                ] in
                let x = le-ltb (tile_row l t) (min l.rows 32) (omega (arith, past)) in
                (λ i. x i && f) ∙ (λ i. sym y i && f)
            | inr none ↦
                let z = few (tile_column l t) (omega (arith, k, mod-le t l.columns)) (omega (arith, none)) in
                (λ i. nat_lt (tile_row l t) (min l.rows 32) && (z i && has rows (tile_row l t))) ∙ no (nat_lt (tile_row l t) (min l.rows 32)) ∙ (λ i. sym y i && f)
          ]
    ]
  where
    turned : (c r : ℕ) → c * r ≡ r * c
    turned c r = omega arith

    no : (b : Bool) → (b && false) ≡ false
    no true = refl
    no false = refl

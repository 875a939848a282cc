-- Sets as the bits of a word, and the tiles in them.
use Rattle.std.proofs.Common.{◌≡◌, ◌∙◌, ℕ, zero, suc, ◌+◌, ◌-◌, ◌*◌, ◌%◌, ◌^◌, ◌<◌, ◌≤◌, min, max, Bool, true, false, ◌&&◌, List, [], ◌∷◌, ℤ, pos, negsuc, ◌≤ℤ◌, ◌<ℤ◌, arith, refl, sym, ap, inl, inr, w32, lt-ltb, le-leb, ltb-true, leb-true}
use Rattle.std.specs.Prelude.{◌==◌, ◌||◌, bit_or, nat_lt, nat_le, int_lt, int_le}
use Rattle.std.specs.Int.{int_min, int_max}
use Rattle.std.specs.List.{list_any, range_with_len}
use Rattle.std.proofs.Math.Nat.{div-zero, div-le_self, mod-le}
use Rattle.std.proofs.lemmas.Int.{ints, int_min_is, int_max_is}
use Rattle.std.proofs.lemmas.Nat.Bits.{bit_at_set_same, bit_at_set_other}
use Rattle.std.proofs.lemmas.Bool.{cases_lt, and_parts, le-ltb}
use Rattle.std.proofs.lemmas.Bool.Decides.{eqb_tells}
use Rattle.rc_base.specs.Orders.Journal.{has}
use Rattle.rc_base.specs.Cluster.Tiles.{boundary_of, interval_of, tile_count, tile_column, tile_row, tile_pixels, tile_rectangle, rect_meets, is_in_rect}
use Rattle.rc_base.specs.declared.window.Layout.{Layout}
use Rattle.rc_base.specs.declared.window.Rect.{Rect}
use Rattle.plain_lemmas.proofs.Booleans.{same_test}
use Rattle.plain_lemmas.proofs.Ranges.{any_in_range, found_in_range}
use Rattle.plain_lemmas.proofs.Numbers.{int_le_true, from_int_le, int_lt_true, from_int_lt}
use Rattle.scene_lemmas.proofs.Boundaries.{boundary_rises}
use Rattle.bounds_bucket.specs.Ranges.{is_among}
use Rattle.bounds_bucket.specs.Tiles.{part_meets}
use Rattle.bounds_bucket.specs.declared.range.Range.{Range}
use Rattle.bounds_bucket.proofs.BoxTiles.{counted}

pub with_one : (set n : ℕ) → n < 32 → (k : ℕ) → has (bit_or set (1 * 2 ^ n % 2 ^ 32)) k ≡ (k == n || has set k)
with_one set n within k =
    elim (eqb_tells k n) [
      | inl same ↦ rw (same.0, same.1, bit_at_set_same w32 set n within) refl
      | inr other ↦ rw (other.0, bit_at_set_other w32 set n within k other.1) refl
    ]

-- one more number of a set
last_met : (added equal before below f more : Bool) → equal ≡ true → before ≡ (below && f) → below ≡ false → more ≡ true → added ≡ f
    → ((added && equal) || before) ≡ (more && f)
last_met added equal before below f more e h b m y = rw (e, h, b, m, y) (last f)
  where
    last : (b : Bool) → ((b && true) || false) ≡ b
    last true = refl
    last false = refl

other_met : (added equal before below f more : Bool) → equal ≡ false → before ≡ (below && f) → below ≡ more → ((added && equal) || before) ≡ (more && f)
other_met added equal before below f more e h b = rw (e, h, b) (skipped added (more && f))
  where
    skipped : (b c : Bool) → ((b && false) || c) ≡ c
    skipped true c = refl
    skipped false c = refl

-- one more number of a set
pub one_more_met : (f : ℕ → Bool) (n j : ℕ) (before : Bool) → before ≡ (nat_lt j n && f j) → ((f n && j == n) || before) ≡ (nat_lt j (n + 1) && f j)
one_more_met f n j before h =
    elim (eqb_tells j n) [
      | inl same ↦
          let e = same.1 in
          last_met (f n) (j == n) before (nat_lt j n) (f j) (nat_lt j (n + 1)) same.0 h (le-ltb j n (omega (arith, e))) (lt-ltb j (n + 1) (omega (arith, e))) (ap f (sym e))
      | inr other ↦ elim (cases_lt j n) [
        | inl less ↦ other_met (f n) (j == n) before (nat_lt j n) (f j) (nat_lt j (n + 1)) other.0 h (lt-ltb j n less ∙ sym (lt-ltb j (n + 1) (omega (arith, less))))
        | inr more ↦
            let d = other.1 in
            let past : n + 1 ≤ j = omega (arith, more, d) in
            other_met (f n) (j == n) before (nat_lt j n) (f j) (nat_lt j (n + 1)) other.0 h (le-ltb j n more ∙ sym (le-ltb j (n + 1) past))
      ]
    ]

pub below_both : (j n : ℕ) → j < 32 → nat_lt j (min n 32) ≡ nat_lt j n
below_both j n h =
    same_test (nat_lt j (min n 32)) (nat_lt j n)
    (λ e. let l = ltb-true j (min n 32) e in lt-ltb j n (omega (arith, l)))
    (λ e. let l = ltb-true j n e in lt-ltb j (min n 32) (omega (arith, l, h)))

-- ---- a part of a side

pub rises : (side parts j : ℕ) → boundary_of side parts j ≤ boundary_of side parts (j + 1)
rises side zero j = rw (div-zero (j * side)) (omega arith)
rises side (suc parts) j = boundary_rises side (suc parts) j (j + 1) (omega arith) (omega arith)

-- the first number from a on that is not before the range
first_of : ℕ → ℤ → ℕ
first_of a (pos m) = max a m
first_of a (negsuc m) = a

first_is : (a : ℕ) (from : ℤ) → pos (first_of a from) ≡ int_max (pos a) from
unfolding first_of
first_is a (pos m) =
    elim (cases_lt a m) [
      | inl less ↦ let k : max a m ≡ m = omega (arith, less) in rw k (sym (larger (pos a) (pos m) (omega (arith, ints, less))))
      | inr more ↦ let k : max a m ≡ a = omega (arith, more) in rw k (sym (first (pos a) (pos m) (omega (arith, ints, more))))
    ]
  where
    larger : (x y : ℤ) → x <ℤ y → int_max x y ≡ y
    larger x y h = let k = int_max_is x y in omega (arith, ints, k, h)

    first : (x y : ℤ) → y ≤ℤ x → int_max x y ≡ x
    first x y h = let k = int_max_is x y in omega (arith, ints, k, h)
first_is a (negsuc m) = let k = int_max_is (pos a) (negsuc m) in omega (arith, ints, k)

pub any_among : (r : Range) (a e : ℕ) → a ≤ e → list_any (λ p. is_among r (pos p)) (range_with_len a (e - a)) ≡ int_lt (int_max (pos a) r.from) (int_min (pos e) r.end)
any_among r a e order =
    let low = int_max (pos a) r.from in
    let high = int_min (pos e) r.end in
    let m = int_max_is (pos a) r.from in
    let n = int_min_is (pos e) r.end in
    same_test (list_any (λ p. is_among r (pos p)) (range_with_len a (e - a))) (int_lt low high)
    (λ h.
    let k = found_in_range (λ p. is_among r (pos p)) a (e - a) h in
    let after : a ≤ k.0 = k.1 in
    let before : k.0 < a + (e - a) = k.2 in
    let t = and_parts (int_le r.from (pos k.0)) (int_lt (pos k.0) r.end) k.3 in
    let x : r.from ≤ℤ pos k.0 = from_int_le r.from (pos k.0) t.0 in
    let y : pos k.0 <ℤ r.end = from_int_lt (pos k.0) r.end t.1 in
    let between : int_max (pos a) r.from <ℤ int_min (pos e) r.end = omega (arith, ints, order, after, before, x, y, m, n) in
    int_lt_true low high between)
    (λ h.
    let l : int_max (pos a) r.from <ℤ int_min (pos e) r.end = from_int_lt low high h in
    let k = first_of a r.from in
    let f : pos (first_of a r.from) ≡ int_max (pos a) r.from = first_is a r.from in
    let after : a ≤ first_of a r.from = omega (arith, ints, f, m) in
    let before : first_of a r.from < a + (e - a) = omega (arith, ints, f, l, m, n, order) in
    let x : r.from ≤ℤ pos (first_of a r.from) = omega (arith, ints, f, m) in
    let y : pos (first_of a r.from) <ℤ r.end = omega (arith, ints, f, l, m, n) in
    any_in_range (λ p. is_among r (pos p)) a (e - a) k after before (rw (int_le_true r.from (pos k) x, int_lt_true (pos k) r.end y) refl))

-- ---- the tiles in sets of columns and rows

any_and : {X : Type 0} (f : X → Bool) (b : Bool) (xs : List X) → list_any (λ x. f x && b) xs ≡ (list_any f xs && b)
any_and f b [] = refl
any_and f b (x ∷ xs) = (λ i. (f x && b) || any_and f b xs i) ∙ spread (f x) (list_any f xs) b
  where
    spread : (a c b : Bool) → ((a && b) || (c && b)) ≡ ((a || c) && b)
    spread true true true = refl
    spread true true false = refl
    spread true false true = refl
    spread true false false = refl
    spread false c b = refl

any_both : (f g : ℕ → Bool) (xs ys : List ℕ) → list_any (λ y. list_any (λ x. f x && g y) xs) ys ≡ (list_any f xs && list_any g ys)
any_both f g xs [] = sym (and_no (list_any f xs))
  where
    and_no : (b : Bool) → (b && false) ≡ false
    and_no true = refl
    and_no false = refl
any_both f g xs (y ∷ ys) = (λ i. any_and f (g y) xs i || any_both f g xs ys i) ∙ spread (list_any f xs) (g y) (list_any g ys)
  where
    spread : (a b c : Bool) → ((a && b) || (a && c)) ≡ (a && (b || c))
    spread true b c = refl
    spread false b c = refl

pub columns_and_rows : (l : Layout) (r : Rect) (tile : ℕ)
    → rect_meets l r tile ≡ (part_meets l.width l.columns (record { from = r.x0; end = r.x1 }) (tile_column l tile) && part_meets l.height l.rows (record { from = r.y0; end = r.y1 }) (tile_row l tile))
unfolding rect_meets
columns_and_rows l r tile =
    any_both (λ x. is_among (record { from = r.x0; end = r.x1 }) (pos x)) (λ y. is_among (record { from = r.y0; end = r.y1 }) (pos y))
    (interval_of l.width l.columns (tile_column l tile)) (interval_of l.height l.rows (tile_row l tile))

pub tiles_met : (l : Layout) (r : Rect) (columns rows t : ℕ) → t < 32
    → ((j : ℕ) → j < 32 → has columns j ≡ (nat_lt j l.columns && part_meets l.width l.columns (record { from = r.x0; end = r.x1 }) j))
    → ((j : ℕ) → j < 32 → has rows j ≡ (nat_lt j l.rows && part_meets l.height l.rows (record { from = r.y0; end = r.y1 }) j))
    → (met : Bool) → met ≡ (nat_lt t (min (tile_count l) 32) && (has columns (tile_column l t) && has rows (tile_row l t)))
    → met ≡ (nat_lt t (tile_count l) && rect_meets l r t)
tiles_met l r columns rows t few a b met h =
    elim (cases_lt t (tile_count l)) [
      | inl less ↦
          let c = counted l t less in
          let column : tile_column l t < 32 = omega (arith, few, mod-le t l.columns) in
          let row : tile_row l t < 32 = omega (arith, few, div-le_self t l.columns) in
          let both : nat_lt t (min (tile_count l) 32) ≡ nat_lt t (tile_count l) = below_both t (tile_count l) few in
          let x = a (tile_column l t) column ∙ ap (λ (q : Bool). q && part_meets l.width l.columns (record { from = r.x0; end = r.x1 }) (tile_column l t)) (lt-ltb _ _ c.column) in
          let y = b (tile_row l t) row ∙ ap (λ (q : Bool). q && part_meets l.height l.rows (record { from = r.y0; end = r.y1 }) (tile_row l t)) (lt-ltb _ _ c.row) in
          h ∙ (λ i. both i && (x i && y i)) ∙ ap (λ (q : Bool). nat_lt t (tile_count l) && q) (sym (columns_and_rows l r t))
      | inr more ↦ h ∙ rw (below_both t (tile_count l) few, le-ltb t (tile_count l) more) refl
    ]

-- ---- a tile's rectangle

le_pos : (a b : ℕ) → int_le (pos a) (pos b) ≡ nat_le a b
le_pos a b =
    same_test (int_le (pos a) (pos b)) (nat_le a b)
    (λ h. let l = from_int_le (pos a) (pos b) h in le-leb a b (omega (arith, ints, l)))
    (λ h. let l = leb-true a b h in int_le_true (pos a) (pos b) (omega (arith, ints, l)))

lt_pos : (a b : ℕ) → int_lt (pos a) (pos b) ≡ nat_lt a b
lt_pos a b =
    same_test (int_lt (pos a) (pos b)) (nat_lt a b)
    (λ h. let l = from_int_lt (pos a) (pos b) h in lt-ltb a b (omega (arith, ints, l)))
    (λ h. let l = ltb-true a b h in int_lt_true (pos a) (pos b) (omega (arith, ints, l)))

pub rectangle_has : (l : Layout) (tile x y : ℕ) (r : Rect) → r ≡ tile_rectangle l tile → is_in_rect r (pos x) (pos y) ≡ tile_pixels l tile x y
unfolding tile_pixels
rectangle_has l tile x y r e =
    ap (λ (q : Rect). is_in_rect q (pos x) (pos y)) e
    ∙ (λ i. (le_pos (boundary_of l.width l.columns (tile_column l tile)) x i && lt_pos x (boundary_of l.width l.columns (tile_column l tile + 1)) i)
    && (le_pos (boundary_of l.height l.rows (tile_row l tile)) y i && lt_pos y (boundary_of l.height l.rows (tile_row l tile + 1)) i))

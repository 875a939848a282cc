-- How many triangles a block has, which they are, and that their indices are those of vertices.
use Rattle.std.proofs.Common.{◌≡◌, ℕ, zero, suc, ◌+◌, ◌-◌, ◌*◌, ◌/◌, ◌%◌, ◌<◌, ◌≤◌, ◌==◌, Bool, true, false, List, [], ◌∷◌, refl, sym, ◌∙◌, ap, subst, arith, length, map, slice_index_or}
use Rattle.std.specs.Prelude.{if◌then◌else◌}
use Rattle.std.specs.List.{range_with_len, All}
use Rattle.std.proofs.lemmas.List.FromFn.{length-map-range_with_len, get_or-map-range_with_len}
use Rattle.std.proofs.lemmas.List.{drop_more}
use Rattle.std.proofs.Math.ListN.{drop_of_length-le}
use Rattle.std.proofs.lemmas.Bool.Decides.{nat_tests}
use Rattle.rc_base.specs.Drawing.Triangles.{triangles_of, separate, strip, fan, shape_of, triangles_in}
use Rattle.geometry.specs.Items.{triple_at, rest_from, AreBelow}
use Rattle.rc_base.specs.declared.state.Block.{Block}

of_separate : (m n : ℕ) → m ≡ 0 → triangles_of m n ≡ map separate (range_with_len 0 (n / 3))
unfolding triangles_of
of_separate m n h = ap (λ k. triangles_of k n) h

of_strip : (m n : ℕ) → m ≡ 1 → triangles_of m n ≡ map strip (range_with_len 0 (n - 2))
unfolding triangles_of
of_strip m n h = ap (λ k. triangles_of k n) h

of_fan : (m n : ℕ) → m ≡ 2 → triangles_of m n ≡ map fan (range_with_len 0 (n - 2))
unfolding triangles_of
of_fan m n h = ap (λ k. triangles_of k n) h

pub of_none : (m n : ℕ) → 2 < m → triangles_of m n ≡ []
unfolding triangles_of
of_none m n h = rw (no 0 (omega arith), no 1 (omega arith), no 2 (omega arith)) refl
  where
    no : (k : ℕ) → k < m → (m == k) ≡ false
    no k l = grind (arith, nat_tests)

pub separate_count : (m n : ℕ) → m ≡ 0 → length (triangles_of m n) ≡ n / 3
separate_count m n h = ap length (of_separate m n h) ∙ length-map-range_with_len separate 0 (n / 3)

pub strip_count : (m n : ℕ) → m ≡ 1 → length (triangles_of m n) ≡ n - 2
strip_count m n h = ap length (of_strip m n h) ∙ length-map-range_with_len strip 0 (n - 2)

pub fan_count : (m n : ℕ) → m ≡ 2 → length (triangles_of m n) ≡ n - 2
fan_count m n h = ap length (of_fan m n h) ∙ length-map-range_with_len fan 0 (n - 2)

pub none_count : (m n : ℕ) → 2 < m → length (triangles_of m n) ≡ 0
none_count m n h = ap length (of_none m n h)

pub at_most_two : (m n i : ℕ) → i < length (triangles_of m n) → m < 3
at_most_two zero n i h = omega arith
at_most_two (suc zero) n i h = omega arith
at_most_two (suc (suc zero)) n i h = omega arith
at_most_two (suc (suc (suc m))) n i h = absurd (let e = none_count (suc (suc (suc m))) n (omega arith) in omega arith)

pub joined_count : (m n : ℕ) → 0 < m → m < 3 → length (triangles_of m n) ≡ n - 2
joined_count zero n h k = absurd (omega arith)
joined_count (suc zero) n h k = strip_count 1 n refl
joined_count (suc (suc zero)) n h k = fan_count 2 n refl
joined_count (suc (suc (suc m))) n h k = absurd (omega arith)

pub separate_at : (m n i : ℕ) → m ≡ 0 → i < n / 3 → triple_at m n i ≡ separate i
unfolding triple_at
separate_at m n i h k = ap (λ l. slice_index_or l i []) (of_separate m n h) ∙ get_or-map-range_with_len separate 0 (n / 3) i i [] k (omega arith)

pub strip_at : (m n i : ℕ) → m ≡ 1 → i < n - 2 → triple_at m n i ≡ strip i
unfolding triple_at
strip_at m n i h k = ap (λ l. slice_index_or l i []) (of_strip m n h) ∙ get_or-map-range_with_len strip 0 (n - 2) i i [] k (omega arith)

pub fan_at : (m n i : ℕ) → m ≡ 2 → i < n - 2 → triple_at m n i ≡ fan i
unfolding triple_at
fan_at m n i h k = ap (λ l. slice_index_or l i []) (of_fan m n h) ∙ get_or-map-range_with_len fan 0 (n - 2) i i [] k (omega arith)

pub strip_odd : (i : ℕ) → i % 2 ≡ 1 → strip i ≡ (i + 1) ∷ i ∷ (i + 2) ∷ []
strip_odd i h = ap (λ t. if t then (i + 1) ∷ i ∷ (i + 2) ∷ [] else i ∷ (i + 1) ∷ (i + 2) ∷ []) (yes (i % 2) h)
  where
    yes : (k : ℕ) → k ≡ 1 → (k == 1) ≡ true
    yes k e = grind (arith, nat_tests)

pub strip_even : (i : ℕ) → (i % 2 ≡ 1 → ⊥) → strip i ≡ i ∷ (i + 1) ∷ (i + 2) ∷ []
strip_even i h = ap (λ t. if t then (i + 1) ∷ i ∷ (i + 2) ∷ [] else i ∷ (i + 1) ∷ (i + 2) ∷ []) (no (i % 2) h)
  where
    no : (k : ℕ) → (k ≡ 1 → ⊥) → (k == 1) ≡ false
    no k e = grind (arith, nat_tests)

pub rest_done : (b : Block) (given : ℕ) → length (triangles_in b) ≤ given → rest_from b given ≡ []
unfolding rest_from
rest_done b given h = drop_of_length-le (triangles_in b) h

pub rest_step : (b : Block) (given : ℕ) → given < length (triangles_in b) → rest_from b given ≡ triple_at (shape_of b.mode) (length b.vertices) given ∷ rest_from b (given + 1)
unfolding rest_from triple_at
rest_step b given h = drop_more (triangles_in b) given [] h

pub rest_whole : (b : Block) → rest_from b 0 ≡ triangles_in b
unfolding rest_from
rest_whole b = refl

-- each of three numbers is below n
three_below : (a b c n : ℕ) → a < n → b < n → c < n → AreBelow n (a ∷ b ∷ c ∷ [])
three_below a b c n h k l zero d i = h
three_below a b c n h k l (suc zero) d i = k
three_below a b c n h k l (suc (suc zero)) d i = l
three_below a b c n h k l (suc (suc (suc j))) d i = absurd (omega arith)

strip_below : (n i : ℕ) → i < n - 2 → AreBelow n (strip i)
strip_below n i h = by (i % 2 == 1)
  where
    by : (t : Bool) → AreBelow n (if t then (i + 1) ∷ i ∷ (i + 2) ∷ [] else i ∷ (i + 1) ∷ (i + 2) ∷ [])
    by true = three_below (i + 1) i (i + 2) n (omega arith) (omega arith) (omega arith)
    by false = three_below i (i + 1) (i + 2) n (omega arith) (omega arith) (omega arith)

-- what holds of f at each number below k holds of each element
pub all_mapped : (P : List ℕ → Type 0) (f : ℕ → List ℕ) (k : ℕ) → ((i : ℕ) → i < k → P (f i)) → All P (map f (range_with_len 0 k))
all_mapped P f k h i d l =
    let b : i < k = subst (λ m. i < m) (length-map-range_with_len f 0 k) l in
    subst P (sym (get_or-map-range_with_len f 0 k i i d b (omega arith))) (h i b)

pub indices_below : (m n : ℕ) → All (AreBelow n) (triangles_of m n)
indices_below zero n = subst (All (AreBelow n)) (sym (of_separate 0 n refl)) (all_mapped (AreBelow n) separate (n / 3) (λ i h. three_below (3 * i) (3 * i + 1) (3 * i + 2) n (omega arith) (omega arith) (omega arith)))
indices_below (suc zero) n = subst (All (AreBelow n)) (sym (of_strip 1 n refl)) (all_mapped (AreBelow n) strip (n - 2) (strip_below n))
indices_below (suc (suc zero)) n = subst (All (AreBelow n)) (sym (of_fan 2 n refl)) (all_mapped (AreBelow n) fan (n - 2) (λ i h. three_below 0 (i + 1) (i + 2) n (omega arith) (omega arith) (omega arith)))
indices_below (suc (suc (suc m))) n = λ k d h. absurd (let e = none_count (suc (suc (suc m))) n (omega arith) in omega arith)

-- the indices of a triangle are those of vertices
pub triple_below : (m n i : ℕ) → i < length (triangles_of m n) → AreBelow n (triple_at m n i)
unfolding triple_at
triple_below m n i low = indices_below m n i [] low

-- The vertices that stand in a block's triangles are its first ones.
use Rattle.std.proofs.Common.{◌≡◌, ℕ, zero, suc, ◌+◌, ◌-◌, ◌*◌, ◌/◌, ◌%◌, ◌<◌, ◌≤◌, ◌==◌, Bool, true, false, List, [], ◌∷◌, length, map, refl, sym, ◌∙◌, ap, subst, arith, inl, inr}
use Rattle.std.specs.Prelude.{nat_lt, if◌then◌else◌, slice_index}
use Rattle.std.specs.List.{AllByRecursion, All, range_with_len, flat_map}
use Rattle.std.proofs.lemmas.Bool.{cases_lt}
use Rattle.std.proofs.lemmas.Bool.Decides.{nat_tests}
use Rattle.std.proofs.lemmas.List.Elements.{All-from_recursion, recursion_from_All}
use Rattle.std.proofs.lemmas.List.FromFn.{length-map-range_with_len, get_or-map-range_with_len}
use Rattle.rc_base.specs.Drawing.Kept.{vertex_at}
use Rattle.rc_base.specs.Drawing.Triangles.{triangles_of, separate, strip, fan}
use Rattle.rc_base.specs.declared.state.Vertex.{Vertex}
use Rattle.geometry.proofs.Triples.{of_none, all_mapped}
use Rattle.bounds_bucket.specs.Standing.{standing_count}

-- what holds of each of a triangle's three indices
abbrev pub OfIndices : (ℕ → Type 0) → List ℕ → Type 0
OfIndices P t = P (slice_index t 0) × P (slice_index t 1) × P (slice_index t 2)

-- ---- lists made by a function of the index

each_made : (Q : List ℕ → Type 0) (f : ℕ → List ℕ) (k : ℕ) → ((i : ℕ) → i < k → Q (f i)) → AllByRecursion Q (map f (range_with_len 0 k))
each_made Q f k h = recursion_from_All Q (map f (range_with_len 0 k)) (all_mapped Q f k h)

made_at : (Q : List ℕ → Type 0) (f : ℕ → List ℕ) (k : ℕ) → AllByRecursion Q (map f (range_with_len 0 k)) → (i : ℕ) → i < k → Q (f i)
made_at Q f k h i l =
    let a : All Q (map f (range_with_len 0 k)) = All-from_recursion Q (map f (range_with_len 0 k)) h in
    subst Q (get_or-map-range_with_len f 0 k i i [] l (omega arith)) (a i [] (subst (λ m. i < m) (sym (length-map-range_with_len f 0 k)) l))

-- ---- other modes

no_shape : (m k : ℕ) → k < m → (m == k) ≡ false
no_shape m k l = grind (arith, nat_tests)

pub no_standing : (m n : ℕ) → 2 < m → standing_count m n ≡ 0
unfolding standing_count
no_standing m n h = rw (no_shape m 0 (omega arith), not_less m 3 (omega arith)) refl
  where
    not_less : (a b : ℕ) → b ≤ a → nat_lt a b ≡ false
    not_less a b l = grind (arith, nat_tests)

-- ---- the three shapes

-- each of three indices in a row, in whichever turn
strip_in : (P : ℕ → Type 0) (i : ℕ) → P i → P (i + 1) → P (i + 2) → OfIndices P (strip i)
strip_in P i a b c = by (i % 2 == 1)
  where
    by : (t : Bool) → OfIndices P (if t then (i + 1) ∷ i ∷ (i + 2) ∷ [] else i ∷ (i + 1) ∷ (i + 2) ∷ [])
    by true = (b, a, c)
    by false = (a, b, c)

strip_out : (P : ℕ → Type 0) (i : ℕ) → OfIndices P (strip i) → P i × P (i + 1) × P (i + 2)
strip_out P i h = by (i % 2 == 1) h
  where
    by : (t : Bool) → OfIndices P (if t then (i + 1) ∷ i ∷ (i + 2) ∷ [] else i ∷ (i + 1) ∷ (i + 2) ∷ []) → P i × P (i + 1) × P (i + 2)
    by true k = (k.1, k.0, k.2)
    by false k = (k.0, k.1, k.2)

separate_each : (P : ℕ → Type 0) (n i : ℕ) → ((j : ℕ) → j < n / 3 → OfIndices P (separate j)) → i < 3 * (n / 3) → P i
separate_each P n i h l =
    let t = h (i / 3) (omega arith) in
    elim (cases_lt (i % 3) 1) [
      | inl a ↦ subst P (let e : 3 * (i / 3) ≡ i = omega arith in e) t.0
      | inr a ↦ elim (cases_lt (i % 3) 2) [
        | inl b ↦ subst P (let e : 3 * (i / 3) + 1 ≡ i = omega arith in e) t.1
        | inr b ↦ subst P (let e : 3 * (i / 3) + 2 ≡ i = omega arith in e) t.2
      ]
    ]

strip_each : (P : ℕ → Type 0) (n i : ℕ) → ((j : ℕ) → j < n - 2 → OfIndices P (strip j)) → 2 < n → i < n → P i
strip_each P n i h some l =
    elim (cases_lt i (n - 2)) [
      | inl a ↦ (strip_out P i (h i a)).0
      | inr a ↦
          let t = strip_out P (n - 3) (h (n - 3) (omega arith)) in
          elim (cases_lt i (n - 1)) [
            | inl b ↦ subst P (let e : n - 3 + 1 ≡ i = omega arith in e) t.1
            | inr b ↦ subst P (let e : n - 3 + 2 ≡ i = omega arith in e) t.2
          ]
    ]

fan_each : (P : ℕ → Type 0) (n i : ℕ) → ((j : ℕ) → j < n - 2 → OfIndices P (fan j)) → 2 < n → i < n → P i
fan_each P n i h some l =
    elim (cases_lt i 1) [
      | inl a ↦ subst P (let e : 0 ≡ i = omega arith in e) (h 0 (omega arith)).0
      | inr a ↦ elim (cases_lt i 2) [
        | inl b ↦ subst P (let e : 0 + 1 ≡ i = omega arith in e) (h 0 (omega arith)).1
        | inr b ↦ subst P (let e : i - 2 + 2 ≡ i = omega arith in e) (h (i - 2) (omega arith)).2
      ]
    ]

some_joined : (n i : ℕ) → i < (if nat_lt n 3 then 0 else n) → (2 < n) × (i < n)
some_joined n i h = by (nat_lt n 3) refl h
  where
    by : (t : Bool) → nat_lt n 3 ≡ t → i < (if t then 0 else n) → (2 < n) × (i < n)
    by true e k = absurd (omega arith)
    by false e k = (grind (arith, nat_tests), k)

-- what holds of each index of each triangle holds of each index of a vertex that stands in one
pub each_index : (P : ℕ → Type 0) (shape n : ℕ) → AllByRecursion (OfIndices P) (triangles_of shape n) → (i : ℕ) → i < standing_count shape n → P i
unfolding triangles_of standing_count
each_index P zero n h i l = separate_each P n i (made_at (OfIndices P) separate (n / 3) h) l
each_index P (suc zero) n h i l = let b = some_joined n i l in strip_each P n i (made_at (OfIndices P) strip (n - 2) h) b.0 b.1
each_index P (suc (suc zero)) n h i l = let b = some_joined n i l in fan_each P n i (made_at (OfIndices P) fan (n - 2) h) b.0 b.1
each_index P (suc (suc (suc m))) n h i l = absurd (none_below i (subst (λ k. i < k) (no_standing (suc (suc (suc m))) n (omega arith)) l))
  where
    none_below : (i : ℕ) → i < 0 → ⊥
    none_below i l = omega arith

joined_all : (n i : ℕ) → i < n - 2 → (i + 2 < (if nat_lt n 3 then 0 else n))
joined_all n i h = by (nat_lt n 3) refl
  where
    by : (t : Bool) → nat_lt n 3 ≡ t → i + 2 < (if t then 0 else n)
    by true e = absurd (let l : n < 3 = grind (arith, nat_tests) in omega arith)
    by false e = omega arith

-- and the other way round
pub of_indices : (P : ℕ → Type 0) (shape n : ℕ) → ((i : ℕ) → i < standing_count shape n → P i) → AllByRecursion (OfIndices P) (triangles_of shape n)
unfolding triangles_of standing_count
of_indices P zero n h = each_made (OfIndices P) separate (n / 3) (λ i l. (h (3 * i) (omega arith), h (3 * i + 1) (omega arith), h (3 * i + 2) (omega arith)))
of_indices P (suc zero) n h = each_made (OfIndices P) strip (n - 2) (λ i l. let b = joined_all n i l in strip_in P i (h i (omega arith)) (h (i + 1) (omega arith)) (h (i + 2) (omega arith)))
of_indices P (suc (suc zero)) n h = each_made (OfIndices P) fan (n - 2) (λ i l. let b = joined_all n i l in (h 0 (omega arith), h (i + 1) (omega arith), h (i + 2) (omega arith)))
of_indices P (suc (suc (suc m))) n h = subst (AllByRecursion (OfIndices P)) (sym (of_none (suc (suc (suc m))) n (omega arith))) tt

from_three : (n : ℕ) → nat_lt 0 (n - 2) ≡ nat_lt 0 (if nat_lt n 3 then 0 else n)
from_three n = by (nat_lt n 3) refl
  where
    by : (t : Bool) → nat_lt n 3 ≡ t → nat_lt 0 (n - 2) ≡ nat_lt 0 (if t then 0 else n)
    by true e = none (n - 2) (let l : n < 3 = grind (arith, nat_tests) in omega arith)
      where
        none : (k : ℕ) → k ≡ 0 → nat_lt 0 k ≡ false
        none k z = grind (arith, nat_tests)
    by false e = both (n - 2) n (let l : 3 ≤ n = grind (arith, nat_tests) in omega arith) (let l : 3 ≤ n = grind (arith, nat_tests) in omega arith)
      where
        both : (k m : ℕ) → 0 < k → 0 < m → nat_lt 0 k ≡ nat_lt 0 m
        both k m p q = grind (arith, nat_tests)

-- a block has a triangle where a vertex stands in one
pub some_stand : (shape n : ℕ) → nat_lt 0 (length (triangles_of shape n)) ≡ nat_lt 0 (standing_count shape n)
unfolding triangles_of standing_count
some_stand zero n = ap (nat_lt 0) (length-map-range_with_len separate 0 (n / 3)) ∙ thrice (n / 3)
  where
    thrice : (k : ℕ) → nat_lt 0 k ≡ nat_lt 0 (3 * k)
    thrice zero = refl
    thrice (suc k) = grind (arith, nat_tests)
some_stand (suc zero) n = ap (nat_lt 0) (length-map-range_with_len strip 0 (n - 2)) ∙ from_three n
some_stand (suc (suc zero)) n = ap (nat_lt 0) (length-map-range_with_len fan 0 (n - 2)) ∙ from_three n
some_stand (suc (suc (suc m))) n =
    ap (λ ts. nat_lt 0 (length ts)) (of_none (suc (suc (suc m))) n (omega arith)) ∙ sym (ap (nat_lt 0) (no_standing (suc (suc (suc m))) n (omega arith)))

-- ---- vertices

abbrev pub corners_by : List Vertex → List ℕ → List Vertex
corners_by vs t = vertex_at vs (slice_index t 0) ∷ vertex_at vs (slice_index t 1) ∷ vertex_at vs (slice_index t 2) ∷ []

pub corners_out : (P : Vertex → Type 0) (vs : List Vertex) (ts : List (List ℕ)) → AllByRecursion P (flat_map (corners_by vs) ts) → AllByRecursion (OfIndices (λ i. P (vertex_at vs i))) ts
corners_out P vs [] h = tt
corners_out P vs (t ∷ ts) h = ((h.0, h.1.0, h.1.1.0), corners_out P vs ts h.1.1.1)

pub corners_held : (P : Vertex → Type 0) (vs : List Vertex) (ts : List (List ℕ)) → AllByRecursion (OfIndices (λ i. P (vertex_at vs i))) ts → AllByRecursion P (flat_map (corners_by vs) ts)
corners_held P vs [] h = tt
corners_held P vs (t ∷ ts) h = (h.0.0, (h.0.1, (h.0.2, corners_held P vs ts h.1)))

-- Which corners of a strip or a fan are those of the triangle before.
use Rattle.std.proofs.Common.{◌≡◌, ◌∙◌, ℕ, zero, suc, ◌+◌, ◌-◌, ◌/◌, ◌%◌, ◌<◌, ◌≤◌, Bool, true, false, ◌&&◌, List, [], ◌∷◌, length, slice_index, refl, sym, ap, subst, arith}
use Rattle.std.specs.Prelude.{◌==◌, if◌then◌else◌, nat_lt}
use Rattle.std.proofs.lemmas.Bool.Decides.{nat_tests}
use Rattle.rc_base.specs.Drawing.Triangles.{separate, strip, fan, shape_of, triangles_in}
use Rattle.rc_base.specs.Drawing.Kept.{vertex_at}
use Rattle.rc_base.specs.declared.state.Block.{Block}
use Rattle.rc_base.specs.declared.state.State.{State}
use Rattle.rc_base.specs.declared.state.Vertex.{Vertex}
use Rattle.rc_base.specs.declared.window.WindowVertex.{WindowVertex}
use Rattle.bounds_bucket.specs.Still.{StandsAt}
use Rattle.geometry.specs.Items.{rest_from, triple_at}
use Rattle.geometry.proofs.Triples.{separate_count, strip_count, fan_count, separate_at, strip_at, fan_at, rest_step, rest_done}

low_shape : (m : ℕ) → m < 3 → shape_of m ≡ m
low_shape m h = let e : nat_lt m 16 ≡ true = grind (arith, nat_tests) in rw e refl

-- ---- separate triangles

pub next_separate : (b : Block) (i : ℕ) → b.mode ≡ 0 → i < length b.vertices / 3 → rest_from b i ≡ separate i ∷ rest_from b (i + 1)
next_separate b i m h =
    let shape : shape_of b.mode ≡ 0 = ap shape_of m in
    let count = separate_count (shape_of b.mode) (length b.vertices) shape in
    rest_step b i (omega (arith, count, h)) ∙ ap (λ (t : List ℕ). t ∷ rest_from b (i + 1)) (separate_at (shape_of b.mode) (length b.vertices) i shape h)

pub no_separate : (b : Block) (i : ℕ) → b.mode ≡ 0 → length b.vertices / 3 ≤ i → rest_from b i ≡ []
no_separate b i m h =
    let shape : shape_of b.mode ≡ 0 = ap shape_of m in
    let count = separate_count (shape_of b.mode) (length b.vertices) shape in
    rest_done b i (omega (arith, count, h))

-- ---- joined triangles

-- of a strip, or else of a fan
pub joined : Bool → ℕ → List ℕ
joined true i = strip i
joined false i = fan i

joined_count : (b : Block) → 0 < b.mode → b.mode < 3 → length (triangles_in b) ≡ length b.vertices - 2
joined_count b h k = by b.mode refl h k
  where
    by : (m : ℕ) → b.mode ≡ m → 0 < m → m < 3 → length (triangles_in b) ≡ length b.vertices - 2
    by zero e h k = absurd (omega (arith, h))
    by (suc zero) e h k = strip_count (shape_of b.mode) (length b.vertices) (ap shape_of e)
    by (suc (suc zero)) e h k = fan_count (shape_of b.mode) (length b.vertices) (ap shape_of e)
    by (suc (suc (suc m))) e h k = absurd (omega (arith, k))

joined_at : (b : Block) (i : ℕ) → 0 < b.mode → b.mode < 3 → i < length b.vertices - 2 → triple_at (shape_of b.mode) (length b.vertices) i ≡ joined (b.mode == 1) i
unfolding joined
joined_at b i h k l = by b.mode refl h k
  where
    by : (m : ℕ) → b.mode ≡ m → 0 < m → m < 3 → triple_at (shape_of b.mode) (length b.vertices) i ≡ joined (b.mode == 1) i
    by zero e h k = absurd (omega (arith, h))
    by (suc zero) e h k = strip_at (shape_of b.mode) (length b.vertices) i (ap shape_of e) l ∙ sym (ap (λ (m : ℕ). joined (m == 1) i) e)
    by (suc (suc zero)) e h k = fan_at (shape_of b.mode) (length b.vertices) i (ap shape_of e) l ∙ sym (ap (λ (m : ℕ). joined (m == 1) i) e)
    by (suc (suc (suc m))) e h k = absurd (omega (arith, k))

pub next_joined : (b : Block) (i : ℕ) → 0 < b.mode → b.mode < 3 → i < length b.vertices - 2 → rest_from b i ≡ joined (b.mode == 1) i ∷ rest_from b (i + 1)
next_joined b i h k l =
    let count = joined_count b h k in
    rest_step b i (omega (arith, count, l)) ∙ ap (λ (t : List ℕ). t ∷ rest_from b (i + 1)) (joined_at b i h k l)

pub no_joined : (b : Block) (i : ℕ) → 0 < b.mode → b.mode < 3 → length b.vertices - 2 ≤ i → rest_from b i ≡ []
no_joined b i h k l = let count = joined_count b h k in rest_done b i (omega (arith, count, l))

-- the first two corners
abbrev pub first : Bool → ℕ → ℕ
first strip i = slice_index (joined strip i) 0

abbrev pub second : Bool → ℕ → ℕ
second strip i = slice_index (joined strip i) 1

pub starts : (strip : Bool) → (first strip 0 ≡ 0) × (second strip 0 ≡ 1)
unfolding joined
starts true = (refl, refl)
starts false = (refl, refl)

pub third_is : (strip : Bool) (i : ℕ) → slice_index (joined strip i) 2 ≡ i + 2
unfolding joined
third_is false i = refl
third_is true i = by (i % 2 == 1)
  where
    by : (t : Bool) → slice_index (if t then (i + 1) ∷ i ∷ (i + 2) ∷ [] else i ∷ (i + 1) ∷ (i + 2) ∷ []) 2 ≡ i + 2
    by true = refl
    by false = refl

-- after an even triangle of a strip the first corner is the last one, and the second one stays; else it is the other way round
pub turn : (strip : Bool) (i : ℕ) → (strip && i % 2 == 0) ≡ true → (first strip (i + 1) ≡ i + 2) × (second strip (i + 1) ≡ second strip i)
unfolding joined
turn true i h = by (i % 2 == 1) ((i + 1) % 2 == 1) refl refl
  where
    by : (t u : Bool) → (i % 2 == 1) ≡ t → ((i + 1) % 2 == 1) ≡ u
        → (slice_index (if u then (i + 1 + 1) ∷ (i + 1) ∷ (i + 1 + 2) ∷ [] else (i + 1) ∷ (i + 1 + 1) ∷ (i + 1 + 2) ∷ []) 0 ≡ i + 2)
        × (slice_index (if u then (i + 1 + 1) ∷ (i + 1) ∷ (i + 1 + 2) ∷ [] else (i + 1) ∷ (i + 1 + 1) ∷ (i + 1 + 2) ∷ []) 1
        ≡ slice_index (if t then (i + 1) ∷ i ∷ (i + 2) ∷ [] else i ∷ (i + 1) ∷ (i + 2) ∷ []) 1)
    by true u e f = absurd (grind (arith, nat_tests))
    by false true e f = (omega arith, refl)
    by false false e f = absurd (grind (arith, nat_tests))
turn false i h = absurd cc

pub keep : (strip : Bool) (i : ℕ) → (strip && i % 2 == 0) ≡ false → (first strip (i + 1) ≡ first strip i) × (second strip (i + 1) ≡ i + 2)
unfolding joined
keep true i h = by (i % 2 == 1) ((i + 1) % 2 == 1) refl refl
  where
    by : (t u : Bool) → (i % 2 == 1) ≡ t → ((i + 1) % 2 == 1) ≡ u
        → (slice_index (if u then (i + 1 + 1) ∷ (i + 1) ∷ (i + 1 + 2) ∷ [] else (i + 1) ∷ (i + 1 + 1) ∷ (i + 1 + 2) ∷ []) 0
        ≡ slice_index (if t then (i + 1) ∷ i ∷ (i + 2) ∷ [] else i ∷ (i + 1) ∷ (i + 2) ∷ []) 0)
        × (slice_index (if u then (i + 1 + 1) ∷ (i + 1) ∷ (i + 1 + 2) ∷ [] else (i + 1) ∷ (i + 1 + 1) ∷ (i + 1 + 2) ∷ []) 1 ≡ i + 2)
    by true true e f = absurd (grind (arith, nat_tests))
    by true false e f = (refl, omega arith)
    by false u e f = absurd (grind (arith, nat_tests))
keep false i h = (refl, omega arith)

-- the same vertex at the same place
pub same_stand : (s : State) (us vs : List Vertex) (k l : ℕ) (p q : WindowVertex) → us ≡ vs → k ≡ l → p ≡ q → StandsAt s (vertex_at us k) p → StandsAt s (vertex_at vs l) q
same_stand s us vs k l p q e f g h =
    subst (λ (ws : List Vertex). StandsAt s (vertex_at ws l) q) e (subst (λ (m : ℕ). StandsAt s (vertex_at us m) q) f (subst (StandsAt s (vertex_at us k)) g h))

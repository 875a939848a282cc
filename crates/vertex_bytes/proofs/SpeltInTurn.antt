-- How many vertices bytes spell, and which bytes spell which of them.
use Rattle.std.proofs.Common.{◌≡◌, ℕ, zero, suc, ◌+◌, ◌*◌, ◌/◌, ◌<◌, ◌≤◌, List, length, take, drop, refl, ap, ◌∙◌, arith}
use Rattle.std.proofs.lemmas.List.{drop-drop}
use Rattle.rc_base.specs.Drawing.Kept.{vertex_at}
use Rattle.vertex_bytes.specs.Spelt.{first_vertices, spelt_vertices, vertex_in}

pub first_count : (n : ℕ) (bytes : List ℕ) → length (first_vertices n bytes) ≡ n
unfolding first_vertices
first_count zero bytes = refl
first_count (suc n) bytes = let e = first_count n (drop 28 bytes) in omega (arith, e)

pub spelt_count : (bytes : List ℕ) → length (spelt_vertices bytes) ≡ length bytes / 28
spelt_count bytes = first_count (length bytes / 28) bytes

-- a vertex of them lies within the bytes
pub spelt_within : (bytes : List ℕ) (i : ℕ) → i < length (spelt_vertices bytes) → 28 * i + 28 ≤ length bytes
spelt_within bytes i low = let e = spelt_count bytes in omega arith

first_at : (n i : ℕ) (bytes : List ℕ) → i < n → vertex_at (first_vertices n bytes) i ≡ vertex_in (take 28 (drop (28 * i) bytes))
unfolding first_vertices
first_at zero i bytes low = absurd (omega arith)
first_at (suc n) zero bytes low = refl
first_at (suc n) (suc i) bytes low =
    let place : 28 + 28 * i ≡ 28 * suc i = omega arith in
    first_at n i (drop 28 bytes) (omega arith)
    ∙ ap (λ (l : List ℕ). vertex_in (take 28 l)) (drop-drop (28 * i) 28 bytes ∙ ap (λ (k : ℕ). drop k bytes) place)

pub spelt_at : (bytes : List ℕ) (i : ℕ) → i < length (spelt_vertices bytes) → vertex_at (spelt_vertices bytes) i ≡ vertex_in (take 28 (drop (28 * i) bytes))
spelt_at bytes i low = let e = spelt_count bytes in first_at (length bytes / 28) i bytes (omega arith)

-- The picks of a seed.
use Rattle.std.proofs.Common.{◌≡◌, ℕ, ◌<◌, ◌%◌, length, map, sym, subst, arith}
use Rattle.std.specs.Prelude.{slice_index_or}
use Rattle.std.specs.List.{range_with_len}
use Rattle.std.proofs.lemmas.List.FromFn.{length-map-range_with_len, get_or-map-range_with_len}
use Rattle.std.proofs.Math.Nat.{mod-lt}
use Rattle.scene_file.specs.Generator.{pick_count, draw_of, picks_of}

drawn_below : (seed actors count : ℕ) → 0 < actors → (i : ℕ) → i < length (map (λ (n : ℕ). draw_of seed n % actors) (range_with_len 0 count))
    → slice_index_or (map (λ (n : ℕ). draw_of seed n % actors) (range_with_len 0 count)) i 0 < actors
drawn_below seed actors count some i below =
    let f : ℕ → ℕ = λ (n : ℕ). draw_of seed n % actors in
    let counted = length-map-range_with_len f 0 count in
    let is : slice_index_or (map f (range_with_len 0 count)) i 0 ≡ f i =
    get_or-map-range_with_len f 0 count i i 0 (omega (arith, counted, below)) (omega arith) in
    subst (λ (n : ℕ). n < actors) (sym is) (mod-lt (draw_of seed i) some)

pub picks_below : (seed actors : ℕ) → 0 < actors → (i : ℕ) → i < length (picks_of seed actors) → slice_index_or (picks_of seed actors) i 0 < actors
unfolding picks_of
picks_below seed actors some = drawn_below seed actors pick_count some

-- Lists in pieces of one size, and pieces of lists that are written.
use Rattle.std.proofs.Common.{◌≡◌, ℕ, zero, suc, ◌+◌, ◌-◌, ◌*◌, ◌<◌, ◌≤◌, List, ◌++◌, length, take, drop, refl, sym, ap, ap₂, ◌∙◌, arith, length-drop, take-append-drop}
use Rattle.std.specs.List.{flat_map, range_with_len}
use Rattle.std.proofs.Math.Seq.{drop-append-add, length-take-le}
use Rattle.std.proofs.lemmas.List.{drop-append-le, drop-drop, drop-take, take-append-le, take-take, take_all}
use Rattle.std.proofs.lemmas.Slice.{drop-put_mid, take-put_mid_below}
use borrow.Rule.Slice.PartMut.{put_mid}

module _ {A : Type 0} where
  -- a piece of a piece
  pub inner_piece : (l : List A) (s n i k : ℕ) → i + k ≤ n → take k (drop i (take n (drop s l))) ≡ take k (drop (s + i) l)
  inner_piece l s n i k le =
      let e : n ≡ i + (n - i) = omega (arith, le) in
      ap (λ (m : ℕ). take k (drop i (take m (drop s l)))) e
      ∙ ap (take k) (drop-take i (n - i) (drop s l))
      ∙ take-take k (n - i) (drop i (drop s l)) (omega (arith, le))
      ∙ ap (take k) (drop-drop i s l)

  -- a list whose pieces are those of a range
  pub in_pieces : (f : ℕ → List A) (size a n : ℕ) (l : List A) → length l ≡ n * size → ((k : ℕ) → k < n → take size (drop (k * size) l) ≡ f (a + k))
      → l ≡ flat_map f (range_with_len a n)
  in_pieces f size a zero l long each = sym (take_all 0 l (let z : 0 * size ≡ 0 = omega arith in omega (arith, long, z)))
  in_pieces f size a (suc n) l long each =
      let z : 0 * size ≡ 0 = omega arith in
      let e : a + 0 ≡ a = omega arith in
      let first : take size l ≡ f a = rw (z, e) at (each 0 (omega arith)) in
      let less = length-drop size l in
      sym (take-append-drop size l)
      ∙ ap₂ (λ x y. x ++ y) first
      (in_pieces f size (a + 1) n (drop size l) (omega (arith, long, less))
      (λ k lt.
      let s : size + k * size ≡ (k + 1) * size = omega arith in
      let t : a + (k + 1) ≡ (a + 1) + k = omega arith in
      ap (take size) (drop-drop (k * size) size l ∙ ap (λ (m : ℕ). drop m l) s) ∙ each (k + 1) (omega (arith, lt)) ∙ ap f t))

  -- two functions that agree on a range give the same
  pub same_in_turn : (f g : ℕ → List A) (a n : ℕ) → ((k : ℕ) → k < n → f (a + k) ≡ g (a + k))
      → flat_map f (range_with_len a n) ≡ flat_map g (range_with_len a n)
  same_in_turn f g a zero h = refl
  same_in_turn f g a (suc n) h =
      let here : a + 0 ≡ a = omega arith in
      ap₂ (λ l r. l ++ r) (rw here at (h 0 (omega arith)))
      (same_in_turn f g (a + 1) n (λ k lt. let e : a + (k + 1) ≡ (a + 1) + k = omega arith in rw e at (h (k + 1) (omega (arith, lt)))))

  -- ---- a piece that was written over

  module _ (from size : ℕ) (out new : List A) (room : from + size ≤ length out) (long : length new ≡ size) where
    -- what stands in it
    pub within_written : (i n : ℕ) → i + n ≤ size → take n (drop (from + i) (put_mid from size out new)) ≡ take n (drop i new)
    within_written i n le =
        let start : length (take from out) ≡ from = length-take-le from out (omega (arith, room)) in
        let behind = length-drop i new in
        let rest = drop (from + size) out in
        ap (λ (m : ℕ). take n (drop (m + i) (put_mid from size out new))) (sym start)
        ∙ ap (take n) (drop-append-add (take from out) _ i ∙ drop-append-le i new _ (omega (arith, long, le)))
        ∙ take-append-le n (drop i new) _ (omega (arith, behind, long, le))

    -- what stands before it
    pub before_written : (at n : ℕ) → at + n ≤ from → take n (drop at (put_mid from size out new)) ≡ take n (drop at out)
    before_written at n le =
        sym (drop-take at n (put_mid from size out new))
        ∙ ap (drop at) (take-put_mid_below from size out new (at + n) le (omega (arith, room)))
        ∙ drop-take at n out

    -- what stands behind it
    pub behind_written : (at n : ℕ) → from + size ≤ at → take n (drop at (put_mid from size out new)) ≡ take n (drop at out)
    behind_written at n le = ap (take n) (drop-put_mid from size out new at le (omega (arith, room)) long)

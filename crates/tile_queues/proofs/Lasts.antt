-- The last item of a list.
use Rattle.std.proofs.Common.{◌≡◌, ◌<◌, ◌+◌, ℕ, List, [], ◌∷◌, ◌++◌, length, get_or, take, refl, sym, ap, ◌∙◌, arith, add-one}
use Rattle.std.specs.Prelude.{Vec}
use Rattle.std.proofs.Math.Seq.{take-suc}
use Rattle.rc_base.specs.Lists.{ArePaired, IsFront}
use Rattle.rc_base.proofs.Paired.{some_item}
use Rattle.tile_queues.specs.Ends.{sent_of, taken_of, lane_in}
use Rattle.tile_queues.specs.declared.ends.LaneIn.{LaneIn}
use Rattle.tile_queues.specs.declared.ends.LaneOut.{LaneOut}
use Rattle.tile_queues.specs.Grids.{IsOpen, IsClosed, AreGrid}

pub none_last : {A : Type 0} (xs : List A) (b : A) → [] ≡ xs ++ b ∷ [] → ⊥
none_last [] b e = cc
none_last (x ∷ xs) b e = cc

pub same_last : {A : Type 0} (xs ys : List A) (a b : A) → xs ++ a ∷ [] ≡ ys ++ b ∷ [] → a ≡ b
same_last [] [] a b e = cc
same_last [] (y ∷ ys) a b e = let h : [] ≡ ys ++ b ∷ [] = cc in absurd (none_last ys b h)
same_last (x ∷ xs) [] a b e = let h : xs ++ a ∷ [] ≡ [] = cc in absurd (none_last xs a (sym h))
same_last (x ∷ xs) (y ∷ ys) a b e = same_last xs ys a b cc

pub same_front : {A : Type 0} (xs ys : List A) (a b : A) → xs ++ a ∷ [] ≡ ys ++ b ∷ [] → xs ≡ ys
same_front [] [] a b e = refl
same_front [] (y ∷ ys) a b e = let h : [] ≡ ys ++ b ∷ [] = cc in absurd (none_last ys b h)
same_front (x ∷ xs) [] a b e = let h : xs ++ a ∷ [] ≡ [] = cc in absurd (none_last xs a (sym h))
same_front (x ∷ xs) (y ∷ ys) a b e = let h : xs ≡ ys = same_front xs ys a b cc in cc

-- what is left of the first k + 1 items, and the item that was taken off
pub shorter : {A : Type 0} (xs new : List A) (b : A) (k : ℕ) → k < length xs → take (k + 1) xs ≡ new ++ b ∷ []
    → (new ≡ take k xs) × ((d : A) → b ≡ get_or xs k d)
shorter {A = A} xs new b k low e =
    let at : (d : A) → take k xs ++ get_or xs k d ∷ [] ≡ new ++ b ∷ [] = λ d. sym (take-suc xs k d low) ∙ ap (λ n. take n xs) (sym (add-one k)) ∙ e in
    (sym (same_front (take k xs) new (get_or xs k b) b (at b)), λ d. sym (same_last (take k xs) new (get_or xs k d) b (at d)))

module _ {T R A : Type 0} (ins : List (Vec (LaneIn T R) A)) (outs now : List (Vec (LaneOut T R) A)) (k : ℕ) (row : Vec (LaneIn T R) A)
    (grid : AreGrid ins outs) (low : k < length ins) (size : length now ≡ length outs)
    (cut : (t : ℕ) (e : Vec (LaneOut T R) A) → t < length outs → (get_or now t e).items ≡ take (k + 1) (get_or outs t e).items)
    (is : (d : Vec (LaneIn T R) A) → row ≡ get_or ins k d) where
  row_length : length row.items ≡ length outs
  row_length = ap (λ (v : Vec (LaneIn T R) A). length v.items) (is row) ∙ grid.rows k row low

  pub opens : ArePaired (λ t a x. IsOpen a x) row.items now
  opens = record {
    count = size ∙ sym row_length;
    at = λ t a x h.
        let n = row_length in
        let t_low : t < length outs = omega arith in
        let col = (get_or outs t x).items in
        let high : k < length col = let w = grid.columns t x t_low in omega arith in
        let b = some_item col k high in
        record {
          front = take k col;
          last = get_or col k b;
          items = cut t x t_low ∙ ap (λ n. take n col) (add-one k) ∙ take-suc col k b high;
          lane = grid.lanes k t row x a b low t_low ∙ ap (λ (v : Vec (LaneIn T R) A). lane_in (get_or v.items t a)) (sym (is row));
        };
  }

  pub closes : (after : List (Vec (LaneOut T R) A))
      → ((t : ℕ) (d : LaneIn T R) (e : Vec (LaneOut T R) A) → t < length row.items → IsClosed (get_or row.items t d) (get_or now t e) (get_or after t e))
      → (t : ℕ) (d : Vec (LaneIn T R) A) (e : Vec (LaneOut T R) A) (a : LaneIn T R) (b : LaneOut T R) → t < length outs
      → ((get_or after t e).items ≡ take k (get_or outs t e).items)
      × IsFront (taken_of (get_or (get_or outs t e).items k b)) (sent_of (get_or (get_or ins k d).items t a))
  closes after closed t d e a b t_low =
      let n = row_length in
      let h = closed t a e (omega arith) in
      let col = (get_or outs t e).items in
      let high : k < length col = let w = grid.columns t e t_low in omega arith in
      let s = shorter col (get_or after t e).items h.last k high (sym (cut t e t_low) ∙ h.items) in (
        s.0,
        (h.order.0, ap (λ (v : Vec (LaneIn T R) A). sent_of (get_or v.items t a)) (sym (is d)) ∙ h.order.1 ∙ ap (λ l. taken_of l ++ h.order.0) (s.1 b)),
      )

  pub cuts : (after : List (Vec (LaneOut T R) A))
      → ((t : ℕ) (d : LaneIn T R) (e : Vec (LaneOut T R) A) → t < length row.items → IsClosed (get_or row.items t d) (get_or now t e) (get_or after t e))
      → (t : ℕ) (e : Vec (LaneOut T R) A) → t < length outs → (get_or after t e).items ≡ take k (get_or outs t e).items
  cuts after closed t e t_low =
      let n = row_length in
      let t_high : t < length row.items = omega arith in
      let h = closed t (some_item row.items t t_high) e t_high in
      let col = (get_or outs t e).items in
      let high : k < length col = let w = grid.columns t e t_low in omega arith in
      (shorter col (get_or after t e).items h.last k high (sym (cut t e t_low) ∙ h.items)).0

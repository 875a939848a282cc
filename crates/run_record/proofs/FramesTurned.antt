-- One frame more is taken of the tiles' parts.
use Rattle.std.proofs.Common.{◌≡◌, ℕ, ◌+◌, ◌*◌, ◌<◌, List, [], ◌∷◌, ◌++◌, length, take, drop, inl, inr, refl, sym, ap, ◌∙◌, subst, arith, append-nil}
use Rattle.std.proofs.Math.Seq.{drop-length, take-length}
use Rattle.std.proofs.Math.Nat.{mul-le-mul_right}
use Rattle.std.proofs.lemmas.Bool.{cases_lt}
use Rattle.std.proofs.lemmas.List.{get_or-drop, length-drop, drop-drop}
use Rattle.std.specs.Prelude.{slice_index_or, Vec}
use Rattle.std.specs.Global.{Global}
use Rattle.std.specs.declared.collections.VecDeque.{VecDeque}
use Rattle.rc_base.specs.declared.cluster.TilePart.{TilePart}
use Rattle.run_record.specs.Frames.{IsQueueOf, AreTakenBelow, AreTurned}
use Rattle.rc_base.specs.Lists.{ArePaired}
use Rattle.run_record.specs.Gathering.{AreEven}

-- all of a list is written over
pub written : {A : Type 0} (n : ℕ) (old new : List A) → length new ≡ length old → n ≡ length old → take n (new ++ drop (length new) old) ≡ new
written n old new e f =
    ap (λ ys. take n (new ++ ys)) (ap (λ k. drop k old) e ∙ drop-length old) ∙ ap (λ ys. take n ys) (append-nil new)
    ∙ ap (λ k. take k new) (f ∙ sym e) ∙ take-length new

module _ (lists : List (Vec TilePart Global)) where
  pub none_turned : (queues : List (VecDeque TilePart Global)) → ArePaired IsQueueOf lists queues → AreTurned 0 lists queues []
  none_turned queues h = record {
    queue_count = h.count;
    left = λ t d e lt. h.at t e d lt;
    done = record { count = (let z : 0 ≡ 0 * length lists = omega arith in z); at = λ f t d x lt. absurd (omega (arith, lt)) };
  }

  pub more_left : (frames n : ℕ) (queues : List (VecDeque TilePart Global)) (parts : List TilePart) → AreEven frames lists → n < frames → AreTurned n lists queues parts
      → (tile : ℕ) (d : VecDeque TilePart Global) → tile < length queues → 0 < length (slice_index_or queues tile d).items
  more_left frames n queues parts even less h tile d lt = go lists refl
    where
      go : (xs : List (Vec TilePart Global)) → lists ≡ xs → 0 < length (slice_index_or queues tile d).items
      go [] e = absurd (let c = h.queue_count in let z = ap length e in omega (arith, c, z, lt))
      go (list ∷ xs) e =
          let low : tile < length lists = (let c = h.queue_count in omega (arith, c, lt)) in
          let a = ap length (h.left tile d list low) in
          let b = even.each tile list low in
          let c = length-drop n (slice_index_or lists tile list).items in
          omega (arith, a, b, c, less)

  pub one_turned : (n : ℕ) (queues queues' : List (VecDeque TilePart Global)) (parts parts' : List TilePart) → AreTurned n lists queues parts
      → AreTakenBelow (length queues) queues parts queues' parts' → AreTurned (n + 1) lists queues' parts'
  one_turned n queues queues' parts parts' h k = record {
    queue_count = k.queues ∙ h.queue_count;
    left = λ t d e lt.
        let low : t < length queues = (let c = h.queue_count in omega (arith, c, lt)) in
        k.took t d low low ∙ ap (λ xs. drop 1 xs) (h.left t d e lt) ∙ drop-drop 1 n (slice_index_or lists t e).items;
    done = record {
      count = k.count ∙ ap (λ c. c + length queues) h.done.count ∙ ap (λ c. n * length lists + c) h.queue_count
          ∙ (let z : n * length lists + length lists ≡ (n + 1) * length lists = omega arith in z);
      at = λ f t d x lt low. elim (cases_lt f n) [
        | inl less ↦
            let before : f * length lists + t < length parts =
            (let c = h.done.count in let m = mul-le-mul_right {m = f + 1} {n = n} (length lists) (omega (arith, less)) in omega (arith, c, m, low)) in
            k.before (f * length lists + t) x before ∙ h.done.at f t d x less low
        | inr more ↦
            let same : n ≡ f = omega (arith, lt, more) in
            subst (λ g. slice_index_or parts' (g * length lists + t) x ≡ slice_index_or (slice_index_or lists t d).items g x) same (here t d x low)
      ];
    };
  }
    where
      here : (t : ℕ) (d : Vec TilePart Global) (x : TilePart) → t < length lists
          → slice_index_or parts' (n * length lists + t) x ≡ slice_index_or (slice_index_or lists t d).items n x
      here t d x low = go queues refl
        where
          go : (qs : List (VecDeque TilePart Global)) → queues ≡ qs → slice_index_or parts' (n * length lists + t) x ≡ slice_index_or (slice_index_or lists t d).items n x
          go [] e = absurd (let c = h.queue_count in let z = ap length e in omega (arith, c, z, low))
          go (q ∷ qs) e =
              let under : t < length queues = (let c = h.queue_count in omega (arith, c, low)) in
              ap (λ c. slice_index_or parts' (c + t) x) (sym h.done.count) ∙ k.at t q x under under
              ∙ ap (λ xs. slice_index_or xs 0 x) (h.left t q d low) ∙ get_or-drop n (slice_index_or lists t d).items 0 x
              ∙ (let z : n + 0 ≡ n = omega arith in ap (λ i. slice_index_or (slice_index_or lists t d).items i x) z)

-- Values by number that change at one number, numbers that rise, and members of lists.
use Rattle.std.proofs.Common.{◌≢◌, eq-eqb, refl, ◌≡◌, ℕ, ◌==◌, List, [], ◌∷◌, ◌++◌, inl, inr, sym, subst, append-nil, eqb-true, suc, ◌+◌, arith, zero, ◌<◌, ◌≤◌, Bool}
use Rattle.std.proofs.lemmas.Bool.{ne_eqb, cases_Bool}
use Rattle.std.specs.List.{range_with_len}
use Rattle.rc_base.specs.Lists.{AreRising, IsIn}
use Rattle.rc_base.specs.Orders.Book.{with_at}
use Rattle.rc_base.specs.Orders.Journal.{how_many}
use Rattle.rc_base.specs.declared.sync.WaitAt.{WaitAt}

pub with_here : {A : Type 0} (f : ℕ → A) (n : ℕ) (x : A) → with_at f n x n ≡ x
with_here f n x = rw (eq-eqb n n refl) refl

pub with_other : {A : Type 0} (f : ℕ → A) (n : ℕ) (x : A) (k : ℕ) → k ≢ n → with_at f n x k ≡ f k
with_other f n x k ne = rw (ne_eqb k n ne) refl

-- an operation behind those of one client
pub with_one_behind : (f : ℕ → List WaitAt) (client : ℕ) (w : WaitAt) (c : ℕ) → with_at f client (f client ++ w ∷ []) c ≡ f c ++ with_at (λ k. []) client (w ∷ []) c
with_one_behind f client w c = elim (cases_Bool (c == client)) [
  | inl t ↦ rw t (subst (λ k. f k ++ w ∷ [] ≡ f c ++ w ∷ []) (eqb-true c client t) refl)
  | inr n ↦ rw n (sym (append-nil (f c)))
]

pub rising_further : (p : ℕ) (ns : List ℕ) (n : ℕ) → AreRising p ns n → AreRising p ns (suc n)
rising_further p [] n h = omega (arith, h)
rising_further p (m ∷ ns) n h = (h.0, omega (arith, h.1), rising_further (m + 1) ns n h.2)

pub rising_push : (p : ℕ) (ns : List ℕ) (n : ℕ) → AreRising p ns n → AreRising p (ns ++ n ∷ []) (suc n)
rising_push p [] n h = (h, omega arith, omega arith)
rising_push p (m ∷ ns) n h = (h.0, omega (arith, h.1), rising_push (m + 1) ns n h.2)

pub is_in_behind : {A : Type 0} (a : A) (u v : List A) → IsIn a v → IsIn a (u ++ v)
is_in_behind a [] v h = h
is_in_behind a (x ∷ u) v h = inr (is_in_behind a u v h)

pub in_range_below : (a n e : ℕ) → IsIn e (range_with_len a n) → e < a + n
in_range_below a zero e i = absurd i
in_range_below a (suc n) e (inl same) = omega (arith, same)
in_range_below a (suc n) e (inr i) = let lt = in_range_below (a + 1) n e i in omega arith

pub how_many_at_most : (passes : ℕ → Bool) (n : ℕ) → how_many passes n ≤ n
how_many_at_most passes zero = omega arith
how_many_at_most passes (suc n) = elim (cases_Bool (passes n)) [ inl t ↦ rw t (omega (arith, how_many_at_most passes n)) | inr f ↦ rw f (omega (arith, how_many_at_most passes n)) ]

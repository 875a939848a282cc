-- Lists of which each pair by its number is so, and lists that grow or change at one place.
use Rattle.std.proofs.Common.{◌≡◌, ◌≢◌, ℕ, zero, suc, ◌+◌, ◌<◌, List, [], ◌∷◌, ◌++◌, length, take, drop, set, inl, inr, refl, sym, ap, ◌∙◌, subst, arith, length-append, append-nil, append_assoc, get_or-set_other, get_or-set_same}
use Rattle.std.proofs.Math.ListN.{get_or-append}
use Rattle.std.proofs.Math.Seq.{get_or-append_seam, take-append_seam}
use Rattle.std.proofs.lemmas.Bool.{cases_lt}
use Rattle.std.specs.Prelude.{slice_index_or}
use native.Mathlib.Decide.{ℕ_discrete}
use mathlib.Core.Logic.{dite}
use Rattle.rc_base.specs.Lists.{ArePaired}

front : {A : Type 0} (xs : List A) (x : A) (i : ℕ) (d : A) → i < length xs → slice_index_or (xs ++ x ∷ []) i d ≡ slice_index_or xs i d
front xs x i d lt = get_or-append xs (x ∷ []) d i lt

last : {A : Type 0} (xs : List A) (x : A) (d : A) → slice_index_or (xs ++ x ∷ []) (length xs) d ≡ x
last xs x d = get_or-append_seam xs x [] d

pub none_paired : {A B : Type 0} (R : ℕ → A → B → Type 0) → ArePaired R [] []
none_paired R = record { count = refl; at = λ i d e lt. absurd (omega (arith, lt)) }

pub paired_more : {A B : Type 0} (R : ℕ → A → B → Type 0) (xs : List A) (ys : List B) (x : A) (y : B) → ArePaired R xs ys → R (length xs) x y
    → ArePaired R (xs ++ x ∷ []) (ys ++ y ∷ [])
paired_more R xs ys x y h k = record {
  count = length-append ys (y ∷ []) ∙ ap (λ n. n + 1) h.count ∙ sym (length-append xs (x ∷ []));
  at = λ i d e lt. elim (cases_lt i (length xs)) [
    | inl low ↦
        let high : i < length ys = (let c = h.count in omega (arith, c, low)) in
        subst (λ a. R i a (slice_index_or (ys ++ y ∷ []) i e)) (sym (front xs x i d low))
        (subst (λ b. R i (slice_index_or xs i d) b) (sym (front ys y i e high)) (h.at i d e low))
    | inr high ↦
        let same : length xs ≡ i = (let c = length-append xs (x ∷ []) in omega (arith, lt, high, c)) in
        let here : R (length xs) (slice_index_or (xs ++ x ∷ []) (length xs) d) (slice_index_or (ys ++ y ∷ []) (length xs) e) =
        subst (λ a. R (length xs) a (slice_index_or (ys ++ y ∷ []) (length xs) e)) (sym (last xs x d))
        (subst (λ b. R (length xs) x b) (sym (ap (λ n. slice_index_or (ys ++ y ∷ []) n e) (sym h.count) ∙ last ys y e)) k) in
        subst (λ n. R n (slice_index_or (xs ++ x ∷ []) n d) (slice_index_or (ys ++ y ∷ []) n e)) same here
  ];
}

-- a front of a list, and what comes next
pub is_next : {A : Type 0} (xs front rest more : List A) (x : A) (d : A) → xs ≡ front ++ rest → rest ≡ x ∷ more → slice_index_or xs (length front) d ≡ x
is_next xs front rest more x d e f =
    ap (λ ys. slice_index_or ys (length front) d) (e ∙ ap (λ ys. front ++ ys) f) ∙ get_or-append_seam front x more d

pub next_within : {A : Type 0} (xs front rest more : List A) (x : A) → xs ≡ front ++ rest → rest ≡ x ∷ more → length front < length xs
next_within xs front rest more x e f =
    let a = ap length e ∙ length-append front rest in
    let b = ap length f in
    omega (arith, a, b)

pub goes_on : {A : Type 0} (xs front rest more : List A) (x : A) → xs ≡ front ++ rest → rest ≡ x ∷ more → xs ≡ (front ++ x ∷ []) ++ more
goes_on xs front rest more x e f = e ∙ ap (λ ys. front ++ ys) f ∙ sym (append_assoc front (x ∷ []) more)

pub is_whole : {A : Type 0} (xs front rest : List A) → xs ≡ front ++ rest → length rest ≡ 0 → front ≡ xs
is_whole xs front [] e f = sym (append-nil front) ∙ sym e
is_whole xs front (x ∷ rest) e f = absurd (omega (arith, f))

-- ---- one place of a list

-- within a list the default is not read
pub same_default : {A : Type 0} (xs : List A) (i : ℕ) (d e : A) → i < length xs → slice_index_or xs i d ≡ slice_index_or xs i e
same_default [] i d e low = absurd (omega (arith, low))
same_default (x ∷ xs) zero d e low = refl
same_default (x ∷ xs) (suc i) d e low = same_default xs i d e (omega (arith, low))

-- some item, where there is one
pub some_item : {A : Type 0} (xs : List A) (i : ℕ) → i < length xs → A
some_item [] i low = absurd (omega (arith, low))
some_item (x ∷ xs) i low = x

-- the item behind a list, and those before it
pub at_end : {A : Type 0} (xs xs' : List A) (x : A) (n : ℕ) (d : A) → length xs ≡ n → xs' ≡ xs ++ x ∷ [] → slice_index_or xs' n d ≡ x
at_end xs xs' x n d count grown = ap (λ l. slice_index_or l n d) grown ∙ ap (λ j. slice_index_or (xs ++ x ∷ []) j d) (sym count) ∙ last xs x d

pub before_end : {A : Type 0} (xs xs' : List A) (x : A) (n i : ℕ) (d : A) → length xs ≡ n → xs' ≡ xs ++ x ∷ [] → i < n → slice_index_or xs' i d ≡ slice_index_or xs i d
before_end xs xs' x n i d count grown low = ap (λ l. slice_index_or l i d) grown ∙ front xs x i d (omega (arith, count, low))

-- what a Vec holds after a call on its slice that left `new`
pub after_slice : {A : Type 0} (n : ℕ) (new old : List A) → n ≡ length old → length new ≡ length old → take n (new ++ drop (length new) old) ≡ new
after_slice n new old e f = ap (λ k. take k (new ++ drop (length new) old)) (e ∙ sym f) ∙ take-append_seam new (drop (length new) old)

-- ---- loops over pairs

-- a loop goes over one list and makes another: one more pair
pub each_push : {A B : Type 0} (R : ℕ → A → B → Type 0) (xs : List A) (ys zs : List B) (z : B) (n : ℕ) → length ys ≡ n → zs ≡ ys ++ z ∷ []
    → ((i : ℕ) (d : A) (e : B) → i < n → R i (slice_index_or xs i d) (slice_index_or ys i e)) → ((d : A) → R n (slice_index_or xs n d) z)
    → (i : ℕ) (d : A) (e : B) → i < n + 1 → R i (slice_index_or xs i d) (slice_index_or zs i e)
each_push R xs ys zs z n count grown each here i d e low =
    dite (ℕ_discrete i n)
    (λ (is : i ≡ n). subst (λ k. R k (slice_index_or xs k d) (slice_index_or zs k e)) (sym is) (subst (λ b. R n (slice_index_or xs n d) b) (sym (at_end ys zs z n e count grown)) (here d)))
    (λ (ne : i ≢ n).
    let below : i < n = omega (arith, low, ne) in
    subst (λ b. R i (slice_index_or xs i d) b) (sym (before_end ys zs z n i e count grown below)) (each i d e below))

-- a loop goes over one list and changes another in place
pub each_next : {A B : Type 0} (R : A → B → B → Type 0) (xs : List A) (os ys : List B) (t : ℕ) (y : B) → t < length ys
    → ((k : ℕ) (d : A) (e : B) → k < t → R (slice_index_or xs k d) (slice_index_or os k e) (slice_index_or ys k e))
    → ((d : A) (e : B) → R (slice_index_or xs t d) (slice_index_or os t e) y)
    → (k : ℕ) (d : A) (e : B) → k < t + 1 → R (slice_index_or xs k d) (slice_index_or os k e) (slice_index_or (set ys t y) k e)
each_next R xs os ys t y low each here k d e below =
    dite (ℕ_discrete k t)
    (λ (is : k ≡ t). subst (λ j. R (slice_index_or xs j d) (slice_index_or os j e) (slice_index_or (set ys t y) j e)) (sym is)
    (subst (λ b. R (slice_index_or xs t d) (slice_index_or os t e) b) (sym (get_or-set_same ys t y e low)) (here d e)))
    (λ (ne : k ≢ t). subst (λ b. R (slice_index_or xs k d) (slice_index_or os k e) b) (sym (get_or-set_other ys t k y e ne)) (each k d e (omega (arith, below, ne))))

-- a loop makes one list and changes another in place
pub each_row : {A B : Type 0} (R : A → B → B → Type 0) (xs xs' : List A) (x : A) (os ys : List B) (t : ℕ) (y : B) → length xs ≡ t → xs' ≡ xs ++ x ∷ [] → t < length ys
    → ((k : ℕ) (a : A) (d : B) → k < t → R (slice_index_or xs k a) (slice_index_or os k d) (slice_index_or ys k d))
    → ((d : B) → R x (slice_index_or os t d) y)
    → (k : ℕ) (a : A) (d : B) → k < t + 1 → R (slice_index_or xs' k a) (slice_index_or os k d) (slice_index_or (set ys t y) k d)
each_row R xs xs' x os ys t y count grown low each here k a d below =
    dite (ℕ_discrete k t)
    (λ (is : k ≡ t). subst (λ j. R (slice_index_or xs' j a) (slice_index_or os j d) (slice_index_or (set ys t y) j d)) (sym is)
    (subst (λ z. R z (slice_index_or os t d) (slice_index_or (set ys t y) t d)) (sym (at_end xs xs' x t a count grown))
    (subst (λ b. R x (slice_index_or os t d) b) (sym (get_or-set_same ys t y d low)) (here d))))
    (λ (ne : k ≢ t).
    let before : k < t = omega (arith, below, ne) in
    subst (λ z. R z (slice_index_or os k d) (slice_index_or (set ys t y) k d)) (sym (before_end xs xs' x t k a count grown before))
    (subst (λ b. R (slice_index_or xs k a) (slice_index_or os k d) b) (sym (get_or-set_other ys t k y d ne)) (each k a d before)))

-- Changes one after the other: which is the last that isn't behind a place, and one change more.
use Rattle.std.proofs.Common.{◌≡◌, ◌≢◌, ℕ, zero, suc, ◌<◌, ◌≤◌, ◌==◌, nat_le, max, cond, List, [], ◌∷◌, ◌++◌, length, replicate, get_or, Some, None, inl, inr, refl, sym, ap, ◌∙◌, arith, le-leb, leb-true, eqb-true}
use Rattle.std.specs.Prelude.{slice_index, slice_index_or}
use Rattle.std.specs.Option.{option_map_or}
use Rattle.std.proofs.lemmas.Bool.{cases_Bool, cases_lt, eqb-false}
use Rattle.rc_base.specs.declared.sync.Name.{Name}
use Rattle.happens_before.specs.Clocks.{raised, only}
use Rattle.happens_before.specs.Timelines.{before_from, before_at, clock_of, AreChanges}
use Rattle.happens_before.specs.declared.timelines.Change.{Change}

-- ---- the last change that isn't behind a place

le_cond : {A : Type 0} (a b : ℕ) (x y : A) → a ≤ b → cond (nat_le a b) x y ≡ x
le_cond a b x y h = rw (le-leb a b h) refl

gt_cond : {A : Type 0} (a b : ℕ) (x y : A) → b < a → cond (nat_le a b) x y ≡ y
gt_cond a b x y h = elim (cases_Bool (nat_le a b)) [ inl t ↦ absurd (omega (arith, leb-true a b t)) | inr f ↦ rw f refl ]

pub before_none : (xs : List Change) (v : List ℕ) (place : ℕ) (d : Change) → ((k : ℕ) → k < length xs → place < (get_or xs k d).from) → before_from v xs place ≡ v
before_none [] v place d h = refl
before_none (x ∷ xs) v place d h = gt_cond x.from place (before_from x.before xs place) (before_from v xs place) (h 0 (omega arith)) ∙ before_none xs v place d (λ k lt. h (suc k) (omega arith))

pub before_some : (xs : List Change) (v : List ℕ) (place n : ℕ) (d : Change) → n < length xs → ((k : ℕ) → k ≤ n → (get_or xs k d).from ≤ place)
    → ((k : ℕ) → n < k → k < length xs → place < (get_or xs k d).from) → before_from v xs place ≡ (get_or xs n d).before
before_some [] v place n d lt low high = absurd (omega arith)
before_some (x ∷ xs) v place zero d lt low high =
    le_cond x.from place (before_from x.before xs place) (before_from v xs place) (low 0 (omega arith)) ∙ before_none xs x.before place d (λ k lt'. high (suc k) (omega arith) (omega arith))
before_some (x ∷ xs) v place (suc n) d lt low high =
    le_cond x.from place (before_from x.before xs place) (before_from v xs place) (low 0 (omega arith))
    ∙ before_some xs x.before place n d (omega arith) (λ k le. low (suc k) (omega arith)) (λ k lt' le. high (suc k) (omega arith) (omega arith))

-- ---- places don't fall

least : (low : ℕ) (xs : List Change) (high : ℕ) → AreChanges low xs high → (k : ℕ) (d : Change) → k < length xs → low ≤ (get_or xs k d).from
least low [] high h k d lt = absurd (omega arith)
least low (x ∷ xs) high h zero d lt = h.0
least low (x ∷ xs) high h (suc k) d lt = omega (arith, h.0, least x.from xs high h.1 k d (omega arith))

pub rising : (low : ℕ) (xs : List Change) (high : ℕ) → AreChanges low xs high → (i j : ℕ) (d : Change) → i ≤ j → j < length xs → (get_or xs i d).from ≤ (get_or xs j d).from
rising low [] high h i j d le lt = absurd (omega arith)
rising low (x ∷ xs) high h zero zero d le lt = omega arith
rising low (x ∷ xs) high h zero (suc j) d le lt = least x.from xs high h.1 j d (omega arith)
rising low (x ∷ xs) high h (suc i) zero d le lt = absurd (omega arith)
rising low (x ∷ xs) high h (suc i) (suc j) d le lt = rising x.from xs high h.1 i j d (omega arith) (omega arith)

pub up_to_more : (low : ℕ) (xs : List Change) (high more : ℕ) → AreChanges low xs high → high ≤ more → AreChanges low xs more
up_to_more low [] high more h le = omega (arith, h)
up_to_more low (x ∷ xs) high more h le = (h.0, up_to_more x.from xs high more h.1 le)

pub push_changes : (low : ℕ) (xs : List Change) (x : Change) → AreChanges low xs x.from → AreChanges low (xs ++ x ∷ []) x.from
push_changes low [] x h = (h, omega arith)
push_changes low (y ∷ xs) x h = (h.0, push_changes y.from xs x h.1)

pub before_push : (xs : List Change) (v : List ℕ) (x : Change) (place : ℕ) → before_from v (xs ++ x ∷ []) place ≡ cond (nat_le x.from place) x.before (before_from v xs place)
before_push [] v x place = refl
before_push (y ∷ xs) v x place = elim (cases_Bool (nat_le y.from place)) [
  | inl t ↦ rw t (before_push xs y.before x place)
  | inr f ↦ rw f (before_push xs v x place)
]

-- at or behind all changes nothing changes any more
pub before_late : (low : ℕ) (xs : List Change) (v : List ℕ) (high place : ℕ) → AreChanges low xs high → high ≤ place → before_from v xs place ≡ before_from v xs high
before_late low [] v high place h le = refl
before_late low (x ∷ xs) v high place h le =
    let top : x.from ≤ high = last x.from xs high h.1 in
    le_cond x.from place (before_from x.before xs place) (before_from v xs place) (omega arith) ∙ before_late x.from xs x.before high place h.1 le
    ∙ sym (le_cond x.from high (before_from x.before xs high) (before_from v xs high) top)
  where
    last : (from : ℕ) (ys : List Change) (end : ℕ) → AreChanges from ys end → from ≤ end
    last from [] end k = k
    last from (y ∷ ys) end k = omega (arith, k.0, last y.from ys end k.1)

-- ---- a clock that is raised

pub push_raises : (old new : List (List Change)) (c p : ℕ) (x : Change) (gate : List ℕ) → AreChanges 0 (slice_index_or old c []) p → x.from ≡ p
    → ((d : ℕ) → slice_index x.before d ≡ max (slice_index (before_at (slice_index_or old c []) p) d) (slice_index gate d))
    → slice_index_or new c [] ≡ slice_index_or old c [] ++ x ∷ [] → ((e : ℕ) → e ≢ c → slice_index_or new e [] ≡ slice_index_or old e [])
    → (n : Name) (d : ℕ) → clock_of new n d ≡ raised (clock_of old) (only c p) (slice_index gate) n d
push_raises old new c p x gate h from joined mine others n d = elim (cases_Bool (n.client == c)) [
  | inl t ↦
      let e = eqb-true n.client c t in
      let here : slice_index_or new n.client [] ≡ slice_index_or old c [] ++ x ∷ [] = ap (λ k. slice_index_or new k []) e ∙ mine in
      let was : slice_index_or old n.client [] ≡ slice_index_or old c [] = ap (λ k. slice_index_or old k []) e in
      let own : ℕ = cond (d == n.client) n.place 0 in
      let now : clock_of new n d ≡ max (slice_index (cond (nat_le x.from n.place) x.before (before_at (slice_index_or old c []) n.place)) d) own =
      ap (λ xs. max (slice_index (before_at xs n.place) d) own) here ∙ ap (λ v. max (slice_index v d) own) (before_push (slice_index_or old c []) (replicate 8 0) x n.place) in
      let then : clock_of old n d ≡ max (slice_index (before_at (slice_index_or old c []) n.place) d) own = ap (λ xs. max (slice_index (before_at xs n.place) d) own) was in
      let step : raised (clock_of old) (only c p) (slice_index gate) n d ≡ cond (nat_le p n.place) (max (clock_of old n d) (slice_index gate d)) (clock_of old n d) =
      ap (λ b. option_map_or (λ q. cond (nat_le q n.place) (max (clock_of old n d) (slice_index gate d)) (clock_of old n d)) (cond b (Some p) None) (clock_of old n d)) t in
      elim (cases_lt n.place p) [
        | inl lt ↦
            let a = gt_cond x.from n.place x.before (before_at (slice_index_or old c []) n.place) (omega arith) in
            let b = gt_cond p n.place (max (clock_of old n d) (slice_index gate d)) (clock_of old n d) lt in
            now ∙ ap (λ v. max (slice_index v d) own) a ∙ sym then ∙ sym (step ∙ b)
        | inr ge ↦
            let a = le_cond x.from n.place x.before (before_at (slice_index_or old c []) n.place) (omega arith) in
            let b = le_cond p n.place (max (clock_of old n d) (slice_index gate d)) (clock_of old n d) ge in
            let l = ap (λ v. slice_index v d) (before_late 0 (slice_index_or old c []) (replicate 8 0) p n.place h ge) in
            let left = now ∙ ap (λ v. max (slice_index v d) own) a in
            let right = step ∙ b in
            omega (arith, left, right, then, l, joined d)
      ]
  | inr f ↦
      let ne = eqb-false n.client c f in
      ap (λ xs. max (slice_index (before_at xs n.place) d) (cond (d == n.client) n.place 0)) (others n.client ne)
      ∙ sym (ap (λ b. option_map_or (λ q. cond (nat_le q n.place) (max (clock_of old n d) (slice_index gate d)) (clock_of old n d)) (cond b (Some p) None) (clock_of old n d)) f)
]

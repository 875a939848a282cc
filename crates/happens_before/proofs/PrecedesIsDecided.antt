-- Whether one name precedes another can be told.
use Rattle.std.proofs.Common.{◌≡◌, ℕ, ◌<◌, ◌==◌, List, [], ◌∷◌, ◌⊎◌, Option, Some, None, inl, inr, refl, sym, ap, subst, arith, eqb-true}
use Rattle.std.specs.List.{zip}
use Rattle.std.proofs.lemmas.Bool.{cases_Bool, cases_lt, eqb-false}
use Rattle.rc_base.specs.Lists.{IsIn}
use Rattle.rc_base.specs.Orders.Journal.{SyncState, start, after}
use Rattle.rc_base.specs.Orders.Order.{PlacedEntry, Precedes, entries_from, entries_of, givers, handovers}
use Rattle.rc_base.specs.Orders.Order.Precedes.{SameClient, HandedOver, Parted}
use Rattle.rc_base.specs.declared.sync.Entry.{Entry}
use Rattle.rc_base.specs.declared.sync.Entry.TheVariants.{Meet, Swap, Give, Take}
use Rattle.rc_base.specs.declared.sync.Name.{Name}
use Rattle.rc_base.specs.declared.sync.SyncLists.{SyncLists}

-- one element of a list is so, or none is
pub some_or_none : {A : Type 0} (P : A → Type 0) → ((x : A) → P x ⊎ (P x → ⊥)) → (xs : List A) → ((x : A) × IsIn x xs × P x) ⊎ ((x : A) → IsIn x xs → P x → ⊥)
some_or_none P told [] = inr (λ x i p. i)
some_or_none {A} P told (x ∷ xs) = elim (told x) [
  | inl p ↦ inl (x, inl refl, p)
  | inr not ↦ elim (some_or_none P told xs) [
    | inl h ↦ inl (h.0, inr h.1, h.2)
    | inr none ↦ inr (λ y (i : IsIn y (x ∷ xs)) p. elim i [ inl e ↦ not (subst P (sym e) p) | inr k ↦ none y k p ])
  ]
]

pub same_name : (a b : Name) → (a ≡ b) ⊎ (a ≡ b → ⊥)
same_name a b = elim (cases_Bool (a.client == b.client)) [
  | inl c ↦ elim (cases_Bool (a.place == b.place)) [
    | inl p ↦ inl (λ i. record { client = eqb-true a.client b.client c i; place = eqb-true a.place b.place p i })
    | inr not ↦ inr (λ e. eqb-false a.place b.place not (ap (λ (n : Name). n.place) e))
  ]
  | inr not ↦ inr (λ e. eqb-false a.client b.client not (ap (λ (n : Name). n.client) e))
]

same_pair : (p q : Name × Name) → (p ≡ q) ⊎ (p ≡ q → ⊥)
same_pair p q = elim (same_name p.0 q.0) [
  | inl e ↦ elim (same_name p.1 q.1) [ inl f ↦ inl (λ i. (e i, f i)) | inr not ↦ inr (λ g. not (ap (λ (r : Name × Name). r.1) g)) ]
  | inr not ↦ inr (λ g. not (ap (λ (r : Name × Name). r.0) g))
]

in_pairs : (p : Name × Name) (ps : List (Name × Name)) → IsIn p ps ⊎ (IsIn p ps → ⊥)
in_pairs p [] = inr (λ i. i)
in_pairs p (q ∷ ps) = elim (same_pair q p) [
  | inl e ↦ inl (inl e)
  | inr not ↦ elim (in_pairs p ps) [
    | inl i ↦ inl (inr i)
    | inr none ↦ inr (λ (k : IsIn p (q ∷ ps)). elim k [ inl e ↦ not e | inr i ↦ none i ])
  ]
]

-- ---- a unit that is handed over

-- the entry gives to a semaphore by which a hands a unit to b
abbrev HandsOver : SyncLists → List Entry → Name → Name → Entry → Type 0
HandsOver syncs js a b (Give k client) = IsIn (a, b) (handovers k syncs js)
HandsOver syncs js a b (Meet barrier members) = ⊥
HandsOver syncs js a b Swap = ⊥
HandsOver syncs js a b (Take k client) = ⊥

hands_over : (syncs : SyncLists) (js : List Entry) (a b : Name) (e : Entry) → HandsOver syncs js a b e ⊎ (HandsOver syncs js a b e → ⊥)
hands_over syncs js a b (Give k client) = in_pairs (a, b) (handovers k syncs js)
hands_over syncs js a b (Meet barrier members) = inr (λ h. h)
hands_over syncs js a b Swap = inr (λ h. h)
hands_over syncs js a b (Take k client) = inr (λ h. h)

first_of_pair : (a b : Name) (xs ys : List Name) → IsIn (a, b) (zip xs ys) → IsIn a xs
first_of_pair a b [] ys i = i
first_of_pair a b (x ∷ xs) [] i = absurd i
first_of_pair a b (x ∷ xs) (y ∷ ys) (inl e) = inl (ap (λ (p : Name × Name). p.0) e)
first_of_pair a b (x ∷ xs) (y ∷ ys) (inr i) = inr (first_of_pair a b xs ys i)

-- a name that gives a unit of a semaphore does so in an entry
given_in : (syncs : SyncLists) (k : ℕ) (s : SyncState) (es : List Entry) (a : Name) → IsIn a (givers k (entries_from syncs s es)) → (client : ℕ) × IsIn (Give k client) es
given_in syncs k s [] a i = absurd i
given_in syncs k s (Meet barrier members ∷ es) a i = let r = given_in syncs k (after syncs s (Meet barrier members)) es a i in (r.0, inr r.1)
given_in syncs k s (Swap ∷ es) a i = let r = given_in syncs k (after syncs s Swap) es a i in (r.0, inr r.1)
given_in syncs k s (Take j client ∷ es) a i = let r = given_in syncs k (after syncs s (Take j client)) es a i in (r.0, inr r.1)
given_in syncs k s (Give j client ∷ es) a i = elim (cases_Bool (j == k)) [
  | inl t ↦ (client, inl (ap (λ n. Give n client) (eqb-true j k t)))
  | inr f ↦ let r = given_in syncs k (after syncs s (Give j client)) es a (rw f at i) in (r.0, inr r.1)
]

handed_over : (syncs : SyncLists) (js : List Entry) (a b : Name) (k : ℕ) → IsIn (a, b) (handovers k syncs js) → (e : Entry) × IsIn e js × HandsOver syncs js a b e
handed_over syncs js a b k i =
    let r = given_in syncs k (start syncs) js a (first_of_pair a b (givers k (entries_of syncs js)) _ i) in
    (Give k r.0, r.1, i)

by_entry : (syncs : SyncLists) (js : List Entry) (a b : Name) (e : Entry) → HandsOver syncs js a b e → Precedes syncs js a b
by_entry syncs js a b (Give k client) h = HandedOver k h
by_entry syncs js a b (Meet barrier members) h = absurd h
by_entry syncs js a b Swap h = absurd h
by_entry syncs js a b (Take k client) h = absurd h

-- ---- an entry that parts two names

-- between a place before the first operation and one behind the second
abbrev IsParted : ℕ → ℕ → Option ℕ → Option ℕ → Type 0
IsParted p q u v = (i : ℕ) × (j : ℕ) × (u ≡ Some i) × (v ≡ Some j) × (p < i) × (j < q)

is_parted : (p q : ℕ) (u v : Option ℕ) → IsParted p q u v ⊎ (IsParted p q u v → ⊥)
is_parted p q None v = inr (λ h. let e : None ≡ Some h.0 = h.2 in absurd cc)
is_parted p q (Some i) None = inr (λ h. let e : None ≡ Some h.1 = h.3 in absurd cc)
is_parted p q (Some i) (Some j) = elim (cases_lt p i) [
  | inl before ↦ elim (cases_lt j q) [
    | inl behind ↦ inl (i, j, refl, refl, before, behind)
    | inr ge ↦ inr (λ h. let e : Some j ≡ Some h.1 = h.3 in let n : j ≡ h.1 = cc in omega (arith, n, ge, h.5))
  ]
  | inr ge ↦ inr (λ h. let e : Some i ≡ Some h.0 = h.2 in let n : i ≡ h.0 = cc in omega (arith, n, ge, h.4))
]

-- ---- all three rules

same_rises : (a b : Name) → ((a.client ≡ b.client) × (a.place < b.place)) ⊎ ((a.client ≡ b.client) × (a.place < b.place) → ⊥)
same_rises a b = elim (cases_Bool (a.client == b.client)) [
  | inl c ↦ elim (cases_lt a.place b.place) [
    | inl lt ↦ inl (eqb-true a.client b.client c, lt)
    | inr ge ↦ inr (λ h. omega (arith, ge, h.1))
  ]
  | inr not ↦ inr (λ h. eqb-false a.client b.client not h.0)
]

by_no_rule : (syncs : SyncLists) (js : List Entry) (a b : Name) → ((a.client ≡ b.client) × (a.place < b.place) → ⊥)
    → ((e : Entry) → IsIn e js → HandsOver syncs js a b e → ⊥)
    → ((m : PlacedEntry) → IsIn m (entries_of syncs js) → IsParted a.place b.place (m.at a.client) (m.at b.client) → ⊥) → Precedes syncs js a b → ⊥
by_no_rule syncs js a b same handed parted (SameClient c lt) = same (c, lt)
by_no_rule syncs js a b same handed parted (HandedOver k i) = let r = handed_over syncs js a b k i in handed r.0 r.1 r.2
by_no_rule syncs js a b same handed parted (Parted m i j k at at' before behind) = parted m k (i, j, at, at', before, behind)

pub precedes_or_not : (syncs : SyncLists) (js : List Entry) (a b : Name) → Precedes syncs js a b ⊎ (Precedes syncs js a b → ⊥)
precedes_or_not syncs js a b = elim (same_rises a b) [
  | inl s ↦ inl (SameClient s.0 s.1)
  | inr same ↦ elim (some_or_none (HandsOver syncs js a b) (hands_over syncs js a b) js) [
    | inl h ↦ inl (by_entry syncs js a b h.0 h.2)
    | inr handed ↦ elim (some_or_none (λ (m : PlacedEntry). IsParted a.place b.place (m.at a.client) (m.at b.client)) (λ m. is_parted a.place b.place (m.at a.client) (m.at b.client)) (entries_of syncs js)) [
      | inl p ↦ let q = p.2 in inl (Parted p.0 q.0 q.1 p.1 q.2 q.3 q.4 q.5)
      | inr parted ↦ inr (by_no_rule syncs js a b same handed parted)
    ]
  ]
]

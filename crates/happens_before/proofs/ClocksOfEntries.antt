-- Clocks are kept exact along the entries of a journal.
use Rattle.std.proofs.Common.{◌≡◌, ℕ, zero, suc, ◌+◌, ◌-◌, ◌<◌, ◌≤◌, ◌==◌, nat_le, max, List, [], ◌∷◌, ◌++◌, ◌⊎◌, drop, length, Option, Some, None, inl, inr, refl, sym, ap, ◌∙◌, arith, le-leb, leb-true, eq-eqb, eqb-true}
use Rattle.std.specs.Prelude.{slice_get}
use Rattle.std.specs.List.{zip}
use Rattle.std.proofs.lemmas.Bool.{cases_Bool, cases_lt}
use Rattle.rc_base.specs.Lists.{IsIn}
use Rattle.rc_base.specs.Orders.Journal.{reach_of}
use Rattle.rc_base.specs.Orders.Order.{PlacedEntry, entries_of, givers, takers}
use Rattle.rc_base.specs.Orders.Order.Precedes.{SameClient, HandedOver, Parted}
use Rattle.rc_base.specs.Orders.Sync.{units_of}
use Rattle.rc_base.specs.declared.sync.Entry.{Entry}
use Rattle.rc_base.specs.declared.sync.Name.{Name}
use Rattle.rc_base.specs.declared.sync.SyncLists.{SyncLists}
use Rattle.happens_before.specs.Before.{IsBefore}
use Rattle.happens_before.specs.Before.IsBefore.{Next, Then}
use Rattle.happens_before.specs.Clocks.{IsExact, AtMost, counts_to, up_to, raised, AreClocks}

-- ---- numbers and names

counts_self : (s : Name) → counts_to s s.client ≡ s.place + 1
counts_self s = rw (eq-eqb s.client s.client refl) refl

-- what is counted up to a name
pub counted : (clock : Name → ℕ → ℕ) (s : Name) (d p : ℕ) → p < up_to clock s d → (p < clock s d) ⊎ ((d ≡ s.client) × (p ≤ s.place))
counted clock s d p lt = elim (cases_lt p (clock s d)) [
  | inl below ↦ inl below
  | inr ge ↦ elim (cases_Bool (d == s.client)) [
    | inl t ↦ let lt' : p < max (clock s d) (s.place + 1) = rw t at lt in inr (eqb-true d s.client t, omega arith)
    | inr f ↦ let lt' : p < max (clock s d) 0 = rw f at lt in absurd (omega arith)
  ]
]

pub clock_within : (clock : Name → ℕ → ℕ) (s : Name) → AtMost (clock s) (up_to clock s)
clock_within clock s d = omega arith

pub self_within : (clock : Name → ℕ → ℕ) (s : Name) → s.place < up_to clock s s.client
self_within clock s = omega (arith, counts_self s)

-- ---- raising

-- a raised clock is as it was, or joined
raised_is : (clock : Name → ℕ → ℕ) (from : ℕ → Option ℕ) (v : ℕ → ℕ) (n : Name)
    → ((d : ℕ) → raised clock from v n d ≡ clock n d) ⊎ ((p : ℕ) × (from n.client ≡ Some p) × (p ≤ n.place) × ((d : ℕ) → raised clock from v n d ≡ max (clock n d) (v d)))
raised_is clock from v n = go (from n.client) refl
  where
    go : (o : Option ℕ) → from n.client ≡ o
        → ((d : ℕ) → raised clock from v n d ≡ clock n d) ⊎ ((p : ℕ) × (from n.client ≡ Some p) × (p ≤ n.place) × ((d : ℕ) → raised clock from v n d ≡ max (clock n d) (v d)))
    go None e = inl (λ d. rw e refl)
    go (Some p) e = elim (cases_Bool (nat_le p n.place)) [
      | inl t ↦ inr (p, e, leb-true p n.place t, λ d. rw (e, t) refl)
      | inr f ↦ inl (λ d. rw (e, f) refl)
    ]

pub raised_more : (clock : Name → ℕ → ℕ) (from : ℕ → Option ℕ) (v : ℕ → ℕ) (n : Name) → AtMost (clock n) (raised clock from v n)
raised_more clock from v n d = elim (raised_is clock from v n) [ inl e ↦ omega (arith, e d) | inr h ↦ omega (arith, h.3 d) ]

pub raised_at : (clock : Name → ℕ → ℕ) (from : ℕ → Option ℕ) (v : ℕ → ℕ) (n : Name) (p : ℕ) → from n.client ≡ Some p → p ≤ n.place → AtMost v (raised clock from v n)
raised_at clock from v n p e le d = let k = le-leb p n.place le in rw (e, k) (omega arith)

raised_low : (clock : Name → ℕ → ℕ) (from : ℕ → Option ℕ) (v : ℕ → ℕ) (n : Name) → ((p : ℕ) → from n.client ≡ Some p → n.place < p) → (d : ℕ) → raised clock from v n d ≡ clock n d
raised_low clock from v n low d = elim (raised_is clock from v n) [ inl e ↦ e d | inr h ↦ absurd (omega (arith, low h.0 h.1, h.2)) ]

-- what is joined from these places on: no name whose clock is counted in already, and what is before the names there
pub record IsRaise (syncs : SyncLists) (journal : List Entry) (stops : ℕ → ℕ) (from : ℕ → Option ℕ) (v : ℕ → ℕ) : Type 0 where
  pub late : (c p : ℕ) → from c ≡ Some p → stops c ≤ p
  pub before : (a n : Name) (p : ℕ) → n.place < reach_of syncs journal n.client → from n.client ≡ Some p → p ≤ n.place → a.place < v a.client → IsBefore syncs journal a n

-- the names whose clocks are counted in lie below these places
pub record AreBelow (ms : List PlacedEntry) (stops : ℕ → ℕ) : Type 0 where
  pub given : (semaphore k : ℕ) (g : Name) → slice_get (givers semaphore ms) k ≡ Some g → g.place < stops g.client
  pub placed : (m : PlacedEntry) → IsIn m ms → (c i : ℕ) → m.at c ≡ Some i → i < stops c

pub raised_kept : (syncs : SyncLists) (journal : List Entry) (stops : ℕ → ℕ) (clock : Name → ℕ → ℕ) (from : ℕ → Option ℕ) (v : ℕ → ℕ) (n : Name)
    → IsRaise syncs journal stops from v → n.place < stops n.client → (d : ℕ) → up_to (raised clock from v) n d ≡ up_to clock n d
raised_kept syncs journal stops clock from v n r lt d =
    ap (λ k. max k (counts_to n d)) (raised_low clock from v n (λ p e. omega (arith, r.late n.client p e, lt)) d)

pub clocks_kept : (syncs : SyncLists) (journal : List Entry) (ms : List PlacedEntry) (stops : ℕ → ℕ) (clock : Name → ℕ → ℕ) (from : ℕ → Option ℕ) (v : ℕ → ℕ)
    → AreClocks syncs journal ms clock → AreBelow ms stops → IsRaise syncs journal stops from v → AreClocks syncs journal ms (raised clock from v)
clocks_kept syncs journal ms stops clock from v h below r = record {
  sound = sound;
  own = λ n. omega (arith, h.own n, raised_more clock from v n n.client);
  rising = rising;
  handed = λ s k g t ge te d. omega (
    arith,
    raised_kept syncs journal stops clock from v g r (below.given s k g ge) d,
    h.handed s k g t ge te d,
    raised_more clock from v t d,
  );
  parted = λ m i c p d j ce de e. omega (
    arith,
    raised_kept syncs journal stops clock from v record { client = c; place = p } r (omega (arith, below.placed m i c (suc p) ce)) e,
    h.parted m i c p d j ce de e,
    raised_more clock from v record { client = d; place = j + 1 } e,
  );
}
  where
    sound : (a n : Name) → n.place < reach_of syncs journal n.client → a.place < raised clock from v n a.client → IsBefore syncs journal a n
    sound a n lt k = elim (raised_is clock from v n) [
      | inl e ↦ h.sound a n lt (omega (arith, e a.client))
      | inr e ↦ elim (cases_lt a.place (clock n a.client)) [
        | inl was ↦ h.sound a n lt was
        | inr new ↦ r.before a n e.0 lt e.1 e.2 (omega (arith, e.3 a.client))
      ]
    ]

    rising : (c i j : ℕ) → i ≤ j → AtMost (raised clock from v record { client = c; place = i }) (raised clock from v record { client = c; place = j })
    rising c i j le d = elim (raised_is clock from v record { client = c; place = i }) [
      | inl e ↦ omega (arith, e d, h.rising c i j le d, raised_more clock from v record { client = c; place = j } d)
      | inr e ↦
          let up = raised_at clock from v record { client = c; place = j } e.0 e.1 (omega (arith, e.2)) d in
          omega (arith, e.3 d, h.rising c i j le d, raised_more clock from v record { client = c; place = j } d, up)
    ]

-- ---- one entry more

pub get_append : {A : Type 0} (xs ys : List A) (k : ℕ) (x : A) → slice_get (xs ++ ys) k ≡ Some x → (slice_get xs k ≡ Some x) ⊎ ((length xs ≤ k) × (slice_get ys (k - length xs) ≡ Some x))
get_append [] ys k x e = inr (omega arith, let z : k - 0 ≡ k = omega arith in ap (slice_get ys) z ∙ e)
get_append (y ∷ xs) ys zero x e = inl e
get_append (y ∷ xs) ys (suc k) x e = elim (get_append xs ys k x e) [
  | inl h ↦ inl h
  | inr h ↦ let z : suc k - length (y ∷ xs) ≡ k - length xs = omega arith in inr (omega (arith, h.0), ap (slice_get ys) z ∙ h.1)
]

in_append_last : (m n : PlacedEntry) (ms : List PlacedEntry) → IsIn n (ms ++ m ∷ []) → IsIn n ms ⊎ (m ≡ n)
in_append_last m n [] (inl e) = inr e
in_append_last m n [] (inr i) = absurd i
in_append_last m n (x ∷ ms) (inl e) = inl (inl e)
in_append_last m n (x ∷ ms) (inr i) = elim (in_append_last m n ms i) [ inl h ↦ inl (inr h) | inr h ↦ inr h ]

pub clocks_more : (syncs : SyncLists) (journal : List Entry) (ms : List PlacedEntry) (m : PlacedEntry) (clock : Name → ℕ → ℕ) → AreClocks syncs journal ms clock
    → ((semaphore k : ℕ) (g t : Name) → slice_get (givers semaphore (ms ++ m ∷ [])) k ≡ Some g → slice_get (takers semaphore (ms ++ m ∷ [])) (units_of syncs semaphore + k) ≡ Some t
    → AtMost (up_to clock g) (clock t))
    → ((c i d j : ℕ) → m.at c ≡ Some (suc i) → m.at d ≡ Some j → AtMost (up_to clock record { client = c; place = i }) (clock record { client = d; place = j + 1 }))
    → AreClocks syncs journal (ms ++ m ∷ []) clock
clocks_more syncs journal ms m clock h handed parted = record {
  sound = h.sound;
  own = h.own;
  rising = h.rising;
  handed = handed;
  parted = λ n i c p d j ce de. elim (in_append_last m n ms i) [
    | inl old ↦ h.parted n old c p d j ce de
    | inr e ↦ parted c p d j (ap (λ (x : PlacedEntry). x.at c) e ∙ ce) (ap (λ (x : PlacedEntry). x.at d) e ∙ de)
  ];
}

-- ---- at the end

zip_at : (xs ys : List Name) (a b : Name) → IsIn (a, b) (zip xs ys) → (k : ℕ) × (slice_get xs k ≡ Some a) × (slice_get ys k ≡ Some b)
zip_at [] ys a b i = absurd i
zip_at (x ∷ xs) [] a b i = absurd i
zip_at (x ∷ xs) (y ∷ ys) a b (inl e) = (0, ap (λ (p : Name × Name). Some p.0) e, ap (λ (p : Name × Name). Some p.1) e)
zip_at (x ∷ xs) (y ∷ ys) a b (inr i) = let r = zip_at xs ys a b i in (suc r.0, r.1, r.2)

pub at_zip : (xs ys : List Name) (k : ℕ) (a b : Name) → slice_get xs k ≡ Some a → slice_get ys k ≡ Some b → IsIn (a, b) (zip xs ys)
at_zip [] ys k a b e f = absurd cc
at_zip (x ∷ xs) [] k a b e f = absurd cc
at_zip (x ∷ xs) (y ∷ ys) zero a b e f = let e' : x ≡ a = cc in let f' : y ≡ b = cc in inl (λ i. (e' i, f' i))
at_zip (x ∷ xs) (y ∷ ys) (suc k) a b e f = inr (at_zip xs ys k a b e f)

pub get_drop : (n k : ℕ) (xs : List Name) → slice_get (drop n xs) k ≡ slice_get xs (n + k)
get_drop zero k xs = let z : 0 + k ≡ k = omega arith in ap (slice_get xs) (sym z)
get_drop (suc n) k [] = refl
get_drop (suc n) k (x ∷ xs) = let z : suc n + k ≡ suc (n + k) = omega arith in get_drop n k xs ∙ ap (slice_get (x ∷ xs)) (sym z)

-- what is counted in one name is counted in the other, and the first name itself
abbrev IsCounted : (Name → ℕ → ℕ) → Name → Name → Type 0
IsCounted clock a b = (a.place < clock b a.client) × AtMost (clock a) (clock b)

up_to_counted : (clock : Name → ℕ → ℕ) (a b : Name) → AtMost (up_to clock a) (clock b) → IsCounted clock a b
up_to_counted clock a b h = (omega (arith, self_within clock a, h a.client), λ d. omega (arith, clock_within clock a d, h d))

counted_rises : (syncs : SyncLists) (journal : List Entry) (ms : List PlacedEntry) (clock : Name → ℕ → ℕ) → AreClocks syncs journal ms clock
    → (a : Name) (p : ℕ) (b : Name) → a.place ≤ p → IsCounted clock record { client = a.client; place = p } b → IsCounted clock a b
counted_rises syncs journal ms clock h a p b le k = (omega (arith, k.0), λ d. omega (arith, h.rising a.client a.place p le d, k.1 d))

counted_later : (syncs : SyncLists) (journal : List Entry) (ms : List PlacedEntry) (clock : Name → ℕ → ℕ) → AreClocks syncs journal ms clock
    → (a b : Name) (p : ℕ) → p ≤ b.place → IsCounted clock a record { client = b.client; place = p } → IsCounted clock a b
counted_later syncs journal ms clock h a b p le k = (omega (arith, k.0, h.rising b.client p b.place le a.client), λ d. omega (arith, k.1 d, h.rising b.client p b.place le d))

pub all_counted : (syncs : SyncLists) (journal : List Entry) (clock : Name → ℕ → ℕ) → AreClocks syncs journal (entries_of syncs journal) clock
    → (a b : Name) → IsBefore syncs journal a b → IsCounted clock a b
all_counted syncs journal clock h a b (Next _ _ la lb (SameClient c lt)) = (
  let e : clock b a.client ≡ clock b b.client = ap (clock b) c in omega (arith, h.own b),
  λ d.
      let e : clock a d ≡ clock record { client = b.client; place = a.place } d = λ i. clock record { client = c i; place = a.place } d in
      omega (arith, h.rising b.client a.place b.place (omega arith) d),
)
all_counted syncs journal clock h a b (Next _ _ la lb (HandedOver s i)) =
    let r = zip_at (givers s (entries_of syncs journal)) (drop (units_of syncs s) (takers s (entries_of syncs journal))) a b i in
    up_to_counted clock a b (h.handed s r.0 a b r.1 (sym (get_drop (units_of syncs s) r.0 (takers s (entries_of syncs journal))) ∙ r.2))
all_counted syncs journal clock h a b (Next _ _ la lb (Parted m i j k is is' before behind)) =
    let p : suc (i - 1) ≡ i = omega arith in
    let edge = h.parted m k a.client (i - 1) b.client j (is ∙ ap (λ n. Some n) (sym p)) is' in
    counted_later syncs journal (entries_of syncs journal) clock h a b (j + 1) (omega arith)
    (counted_rises syncs journal (entries_of syncs journal) clock h a (i - 1) record { client = b.client; place = j + 1 } (omega arith)
    (up_to_counted clock record { client = a.client; place = i - 1 } record { client = b.client; place = j + 1 } edge))
all_counted syncs journal clock h a b (Then _ c _ k l) =
    let u = all_counted syncs journal clock h a c k in
    let w = all_counted syncs journal clock h c b l in
    (omega (arith, u.0, w.1 a.client), λ d. omega (arith, u.1 d, w.1 d))

pub clocks_exact : (syncs : SyncLists) (journal : List Entry) (clock : Name → ℕ → ℕ) → AreClocks syncs journal (entries_of syncs journal) clock → IsExact syncs journal clock
clocks_exact syncs journal clock h = record { exact = λ a n lt. (λ k. (all_counted syncs journal clock h a n k).0, h.sound a n lt) }

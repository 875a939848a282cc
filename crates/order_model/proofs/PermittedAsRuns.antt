-- A run of each client's names in which givers serve their takers and no entry is crossed is permitted, and a permitted order is a run.
use Rattle.std.proofs.Common.{◌≡◌, ℕ, ◌<◌, List, [], ◌∷◌, drop, Option, Some, inl, inr, sym, ap, ◌∙◌, subst, arith}
use Rattle.std.proofs.lemmas.Bool.{cases_lt}
use Rattle.std.specs.List.{AllByRecursion, zip}
use Rattle.rc_base.specs.Lists.{IsIn, Stands}
use Rattle.rc_base.specs.Orders.Journal.{reach_of}
use Rattle.rc_base.specs.Orders.Order.{givers, takers, entries_of, handovers, Precedes, IsPermitted}
use Rattle.rc_base.specs.Orders.Order.Precedes.{SameClient, HandedOver, Parted}
use Rattle.rc_base.specs.Orders.Sync.{units_of}
use Rattle.rc_base.specs.declared.sync.Entry.{Entry}
use Rattle.rc_base.specs.declared.sync.Name.{Name}
use Rattle.rc_base.specs.declared.sync.SyncLists.{SyncLists}
use Rattle.order_model.proofs.RunsOfNames.{IsRun, Rising, run_names, run_rising, names_run}
use Rattle.order_model.proofs.StandsInLists.{all_at, first_in, second_in, not_both, rising_once, either_first}

-- the first giver stands before the first taker, the second before the second, and no taker lacks a giver
abbrev pub AreServed : List Name → List Name → List Name → Type 0
AreServed order givers [] = Unit {0}
AreServed order [] (t ∷ takers) = ⊥
AreServed order (g ∷ givers) (t ∷ takers) = Stands g t order × AreServed order givers takers

-- no name behind its client's operation in an entry stands before one before its own
abbrev pub Uncrossed : List Name → (ℕ → Option ℕ) → Type 0
Uncrossed order at = (a b : Name) (i j : ℕ) → at a.client ≡ Some i → at b.client ≡ Some j → a.place < i → j < b.place → Stands b a order → ⊥

-- ---- a run is permitted

rising_stands : (o : List Name) → Rising o → (a b : Name) → IsIn a o → IsIn b o → a.client ≡ b.client → a.place < b.place → Stands a b o
rising_stands o r a b i j c lt = elim (either_first a b o i j) [
  | inl e ↦ absurd (omega (arith, ap (λ (x : Name). x.place) e, lt))
  | inr s ↦ elim s [ inl k ↦ k | inr k ↦ absurd (omega (arith, r b a (sym c) k, lt)) ]
]

-- a giver in its place stands before its taker
served_stands : (o gs ts : List Name) → AreServed o gs ts → (a b : Name) → IsIn (a, b) (zip gs ts) → Stands a b o
served_stands o [] ts h a b i = absurd i
served_stands o (g ∷ gs) [] h a b i = absurd i
served_stands o (g ∷ gs) (t ∷ ts) h a b (inl e) = subst (λ (p : Name × Name). Stands p.0 p.1 o) e h.0
served_stands o (g ∷ gs) (t ∷ ts) h a b (inr i) = served_stands o gs ts h.1 a b i

uncrossed_stands : (o : List Name) (at : ℕ → Option ℕ) → Uncrossed o at → (a b : Name) (m n : ℕ) → IsIn a o → IsIn b o
    → at a.client ≡ Some m → at b.client ≡ Some n → a.place < m → n < b.place → Stands a b o
uncrossed_stands o at h a b m n i j p q before behind = elim (either_first a b o i j) [
  | inl e ↦
      let same : Some m ≡ Some n = sym p ∙ ap (λ (x : Name). at x.client) e ∙ q in
      let op : m ≡ n = cc in
      absurd (omega (arith, ap (λ (x : Name). x.place) e, op, before, behind))
  | inr s ↦ elim s [ inl k ↦ k | inr k ↦ absurd (h a b m n p q before behind k) ]
]

pub run_permits : (syncs : SyncLists) (js : List Entry) (o : List Name) → IsRun (reach_of syncs js) (λ c. 0) o
    → ((sem : ℕ) (a b : Name) → IsIn (a, b) (handovers sem syncs js) → Stands a b o) → AllByRecursion (λ m. Uncrossed o m.at) (entries_of syncs js) → IsPermitted syncs js o
run_permits syncs js o run handed apart = record {
  names = λ n. (let k = run_names (reach_of syncs js) (λ c. 0) o run n in (λ i. (k.0 i).1, λ lt. k.1 (omega arith, lt)));
  once = rising_once o rising;
  sequence = sequence;
}
  where
    rising : Rising o
    rising = run_rising (reach_of syncs js) (λ c. 0) o run

    sequence : (a b : Name) → IsIn a o → IsIn b o → Precedes syncs js a b → Stands a b o
    sequence a b i j (SameClient c lt) = rising_stands o rising a b i j c lt
    sequence a b i j (HandedOver sem h) = handed sem a b h
    sequence a b i j (Parted m p q k is is' before behind) =
        uncrossed_stands o m.at (all_at (λ x. Uncrossed o x.at) m (entries_of syncs js) apart k) a b p q i j is is' before behind

pub run_permitted : (syncs : SyncLists) (js : List Entry) (o : List Name) → IsRun (reach_of syncs js) (λ c. 0) o
    → ((sem : ℕ) → AreServed o (givers sem (entries_of syncs js)) (drop (units_of syncs sem) (takers sem (entries_of syncs js))))
    → AllByRecursion (λ m. Uncrossed o m.at) (entries_of syncs js) → IsPermitted syncs js o
run_permitted syncs js o run served apart =
    run_permits syncs js o run
    (λ sem. served_stands o (givers sem (entries_of syncs js)) (drop (units_of syncs sem) (takers sem (entries_of syncs js))) (served sem)) apart

-- ---- a permitted order is a run

pub rising_of : (syncs : SyncLists) (js : List Entry) (o : List Name) → IsPermitted syncs js o → Rising o
rising_of syncs js o p a b e s = elim (cases_lt a.place b.place) [
  | inl lt ↦ lt
  | inr ge ↦ absurd (elim (cases_lt b.place a.place) [
    | inl lt ↦ not_both a b o p.once s (p.sequence b a (second_in a b o s) (first_in a b o s) (SameClient (sym e) lt))
    | inr le ↦
        let q : a.place ≡ b.place = omega arith in
        let same : a ≡ b = λ i. record { client = e i; place = q i } in
        let twice : Stands b b o = subst (λ x. Stands x b o) same s in
        not_both b b o p.once twice twice
  ])
]

pub run_of : (syncs : SyncLists) (js : List Entry) (o : List Name) → IsPermitted syncs js o → IsRun (reach_of syncs js) (λ c. 0) o
run_of syncs js o p =
    names_run (reach_of syncs js) (λ c. 0) o (λ c. omega arith) (λ n. (λ i. (omega arith, (p.names n).0 i), λ h. (p.names n).1 h.1)) (rising_of syncs js o p)

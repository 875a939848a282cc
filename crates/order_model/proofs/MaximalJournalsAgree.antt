-- Where one client takes from each semaphore and no barrier is named by more clients than it counts, all maximal journals come to one state, by the same
-- entries; where besides one client gives each unit that is taken, they permit the same orders.
use Rattle.std.proofs.Common.{◌≡◌, ℕ, ◌<◌, ◌==◌, Bool, true, false, cond, List, [], ◌∷◌, ◌++◌, ◌⊎◌, ◌↔◌, drop, Option, Some, None, inl, inr, refl, sym, ap, ap₂, ◌∙◌, subst, eq-eqb, true≢false, eqb-true}
use Rattle.std.proofs.Math.Seq.{drop-nil}
use Rattle.std.proofs.lemmas.Bool.{cases_Bool}
use Rattle.std.specs.List.{zip}
use Rattle.std.specs.Option.{option_map_or}
use Rattle.rc_base.specs.Lists.{IsIn}
use Rattle.rc_base.specs.Orders.Journal.{SyncState, start, is_member, op_of, IsLawful, after, end_of, IsLegalFrom, NothingIsLawful, IsMaximalFrom, reach_of, waiting_of, head_wait, IsMaximal}
use Rattle.rc_base.specs.Orders.Order.{PlacedEntry, entry_at, entries_from, takers, givers, entries_of, handovers, Precedes, IsPermitted}
use Rattle.rc_base.specs.Orders.Order.Precedes.{SameClient, HandedOver, Parted}
use Rattle.rc_base.specs.Orders.Sync.{client_count, ops_of, length_of, units_of}
use Rattle.rc_base.specs.declared.sync.Entry.{Entry}
use Rattle.rc_base.specs.declared.sync.Entry.TheVariants.{Meet, Swap, Give, Take}
use Rattle.rc_base.specs.declared.sync.Name.{Name}
use Rattle.rc_base.specs.declared.sync.SyncLists.{SyncLists}
use Rattle.rc_base.specs.declared.sync.SyncOp.{SyncOp}
use Rattle.rc_base.specs.declared.sync.SyncOp.TheVariants.{SemP, SemV}
use Rattle.rc_base.specs.declared.sync.WaitAt.{WaitAt}
use Rattle.order_model.specs.Checked.{unit_client, unit_names}
use Rattle.order_model.specs.Uncontended.{Issues, Takes, TakesAlone, IsUncontended}
use Rattle.order_model.proofs.ClientsBeyond.{ops_past}
use Rattle.order_model.proofs.LawfulEntriesCommute.{IsRest, issued_next, rest_after, Apart, apart_back, one_or_apart, lawful_still, swapped, placed_same}
use Rattle.order_model.proofs.UnitsByWalks.{unit_in, name_by, unit_in_is, is_its_client, unit_names_more}

-- ---- who gives units, and who takes them

-- the operation that gives a unit, or that takes one
abbrev unit_op : Bool → ℕ → SyncOp
unit_op gives semaphore = cond gives (SemV semaphore) (SemP semaphore)

-- one client issues it
abbrev IsOneClients : SyncLists → SyncOp → Type 0
IsOneClients syncs op = (c d : ℕ) → Issues syncs c op → Issues syncs d op → c ≡ d

gives_by_it : (gives : Bool) (semaphore : ℕ) (e : Entry) (c : ℕ) → unit_client gives semaphore e ≡ Some c → op_of e ≡ unit_op gives semaphore
gives_by_it gives semaphore (Meet b m) c h = absurd cc
gives_by_it gives semaphore Swap c h = absurd cc
gives_by_it true semaphore (Give k d) c h = elim (cases_Bool (k == semaphore)) [
  | inl t ↦ ap SemV (eqb-true k semaphore t)
  | inr f ↦ let h' : None ≡ Some c = rw f at h in absurd cc
]
gives_by_it false semaphore (Give k d) c h = absurd cc
gives_by_it true semaphore (Take k d) c h = absurd cc
gives_by_it false semaphore (Take k d) c h = elim (cases_Bool (k == semaphore)) [
  | inl t ↦ ap SemP (eqb-true k semaphore t)
  | inr f ↦ let h' : None ≡ Some c = rw f at h in absurd cc
]

-- a client that gives a unit in a lawful entry, or takes one, issues that
issues_it : (syncs : SyncLists) (s : SyncState) → IsRest syncs s → (e : Entry) → IsLawful syncs s e → (gives : Bool) (semaphore c : ℕ)
    → unit_client gives semaphore e ≡ Some c → Issues syncs c (unit_op gives semaphore)
issues_it syncs s r e p gives semaphore c is =
    subst (Issues syncs c) (gives_by_it gives semaphore e c is) (issued_next syncs s r c (op_of e) (p.next c (is_its_client (client_count syncs) gives semaphore e c is)))

-- of two entries with no common member at most one gives units that one client gives, and so of those that one takes
one_of_two : (syncs : SyncLists) (s : SyncState) → IsRest syncs s → (e f : Entry) → Apart syncs e f → IsLawful syncs s e → IsLawful syncs s f
    → (gives : Bool) (semaphore : ℕ) → IsOneClients syncs (unit_op gives semaphore) → (unit_client gives semaphore e ≡ None) ⊎ (unit_client gives semaphore f ≡ None)
one_of_two syncs s r e f a p q gives semaphore one = go (unit_client gives semaphore e) (unit_client gives semaphore f) refl refl
  where
    go : (x y : Option ℕ) → unit_client gives semaphore e ≡ x → unit_client gives semaphore f ≡ y → (unit_client gives semaphore e ≡ None) ⊎ (unit_client gives semaphore f ≡ None)
    go None y i j = inl i
    go (Some c) None i j = inr j
    go (Some c) (Some d) i j =
        let same = one c d (issues_it syncs s r e p gives semaphore c i) (issues_it syncs s r f q gives semaphore d j) in
        absurd (a d (subst (λ x. is_member (client_count syncs) e x ≡ true) same (is_its_client (client_count syncs) gives semaphore e c i))
        (is_its_client (client_count syncs) gives semaphore f d j))

no_unit : (gives : Bool) (semaphore : ℕ) (e : Entry) (at : ℕ → Option ℕ) → unit_client gives semaphore e ≡ None → unit_in gives semaphore e at ≡ []
no_unit gives semaphore e at none = unit_in_is gives semaphore e at ∙ ap (λ o. name_by o at) none

append_none : (xs : List Name) → xs ++ [] ≡ xs
append_none [] = refl
append_none (x ∷ xs) = ap (λ ys. x ∷ ys) (append_none xs)

-- so their names stand alike in either sequence
either_way : (syncs : SyncLists) (s : SyncState) → IsRest syncs s → (e f : Entry) → Apart syncs e f → IsLawful syncs s e → IsLawful syncs s f
    → (gives : Bool) (semaphore : ℕ) → IsOneClients syncs (unit_op gives semaphore) → (at at' : ℕ → Option ℕ) (names : List Name)
    → unit_in gives semaphore e at ++ (unit_in gives semaphore f at' ++ names) ≡ unit_in gives semaphore f at' ++ (unit_in gives semaphore e at ++ names)
either_way syncs s r e f a p q gives semaphore one at at' names = elim (one_of_two syncs s r e f a p q gives semaphore one) [
  | inl none ↦ rw (no_unit gives semaphore e at none) refl
  | inr none ↦ rw (no_unit gives semaphore f at' none) refl
]

module _ (syncs : SyncLists) (alone : TakesAlone syncs) where
  -- ---- a lawful entry goes first

  -- The journal is one that begins with the entry, but for the sequence: it comes to the same state, by the same entries, and where one client issues
  -- what gives a semaphore's units, or what takes them, by the same names in the same sequence.
  record IsFirst (s : SyncState) (e : Entry) (journal rest : List Entry) : Type 0 where
    pub maximal : IsMaximalFrom syncs (after syncs s e) rest
    pub ends : end_of syncs (after syncs s e) rest ≡ end_of syncs s journal
    pub entries : (x : PlacedEntry) → IsIn x (entry_at syncs s e ∷ entries_from syncs (after syncs s e) rest) → IsIn x (entries_from syncs s journal)
    pub units : (gives : Bool) (semaphore : ℕ) → IsOneClients syncs (unit_op gives semaphore)
        → unit_names gives semaphore (entry_at syncs s e ∷ entries_from syncs (after syncs s e) rest) ≡ unit_names gives semaphore (entries_from syncs s journal)

  entries_too : (s : SyncState) (e f : Entry) (k k' : List Entry) → Apart syncs e f → after syncs (after syncs s e) f ≡ after syncs (after syncs s f) e
      → ((x : PlacedEntry) → IsIn x (entry_at syncs (after syncs s f) e ∷ entries_from syncs (after syncs (after syncs s f) e) k') → IsIn x (entries_from syncs (after syncs s f) k))
      → (x : PlacedEntry) → IsIn x (entry_at syncs s e ∷ entries_from syncs (after syncs s e) (f ∷ k')) → IsIn x (entries_from syncs s (f ∷ k))
  entries_too s e f k k' a t h x i = elim i [
    | inl j ↦ inr (h x (inl (placed_same syncs alone s f e (apart_back syncs e f a) ∙ j)))
    | inr l ↦ elim l [
      | inl j ↦ inl (sym (placed_same syncs alone s e f a) ∙ j)
      | inr j ↦ inr (h x (inr (subst (λ z. IsIn x (entries_from syncs z k')) t j)))
    ]
  ]

  units_too : (s : SyncState) → IsRest syncs s → (e f : Entry) (k k' : List Entry) → Apart syncs e f → IsLawful syncs s e → IsLawful syncs s f → after syncs (after syncs s e) f ≡ after syncs (after syncs s f) e
      → (gives : Bool) (semaphore : ℕ) → IsOneClients syncs (unit_op gives semaphore)
      → unit_names gives semaphore (entry_at syncs (after syncs s f) e ∷ entries_from syncs (after syncs (after syncs s f) e) k') ≡ unit_names gives semaphore (entries_from syncs (after syncs s f) k)
      → unit_names gives semaphore (entry_at syncs s e ∷ entries_from syncs (after syncs s e) (f ∷ k')) ≡ unit_names gives semaphore (entries_from syncs s (f ∷ k))
  units_too s r e f k k' a p q t gives semaphore one h =
      let names = unit_names gives semaphore (entries_from syncs (after syncs (after syncs s f) e) k') in
      unit_names_more gives semaphore (entry_at syncs s e) (entries_from syncs (after syncs s e) (f ∷ k'))
      ∙ ap (λ xs. unit_in gives semaphore e (entry_at syncs s e).at ++ xs) (unit_names_more gives semaphore (entry_at syncs (after syncs s e) f) (entries_from syncs (after syncs (after syncs s e) f) k'))
      ∙ ap₂ (λ (m : PlacedEntry) (z : SyncState). unit_in gives semaphore e (entry_at syncs s e).at ++ (unit_in gives semaphore m.entry m.at ++ unit_names gives semaphore (entries_from syncs z k'))) (placed_same syncs alone s e f a) t
      ∙ either_way syncs s r e f a p q gives semaphore one (entry_at syncs s e).at (entry_at syncs s f).at names
      ∙ ap (λ (m : PlacedEntry). unit_in gives semaphore f (entry_at syncs s f).at ++ (unit_in gives semaphore m.entry m.at ++ names)) (sym (placed_same syncs alone s f e (apart_back syncs e f a)))
      ∙ ap (λ xs. unit_in gives semaphore f (entry_at syncs s f).at ++ xs) (sym (unit_names_more gives semaphore (entry_at syncs (after syncs s f) e) (entries_from syncs (after syncs (after syncs s f) e) k')) ∙ h)
      ∙ sym (unit_names_more gives semaphore (entry_at syncs s f) (entries_from syncs (after syncs s f) k))

  first_too : (s : SyncState) → IsRest syncs s → (e f : Entry) (k k' : List Entry) → Apart syncs e f → IsLawful syncs s e → IsLawful syncs s f
      → IsFirst (after syncs s f) e k k' → IsFirst s e (f ∷ k) (f ∷ k')
  first_too s r e f k k' a p q h =
      let t = swapped syncs alone s e f a p q in record {
        maximal = (
          (lawful_still syncs alone s r e f a p q, subst (λ x. IsLegalFrom syncs x k') (sym t) h.maximal.0),
          subst (λ x. NothingIsLawful syncs (end_of syncs x k')) (sym t) h.maximal.1,
        );
        ends = ap (λ x. end_of syncs x k') t ∙ h.ends;
        entries = entries_too s e f k k' a t h.entries;
        units = λ gives semaphore one. units_too s r e f k k' a p q t gives semaphore one (h.units gives semaphore one);
      }

  first : (s : SyncState) → IsRest syncs s → (e : Entry) → IsLawful syncs s e → (k : List Entry) → IsMaximalFrom syncs s k → (k' : List Entry) × IsFirst s e k k'
  first s r e p [] m = absurd (m.1 e p)
  first s r e p (f ∷ k) m =
      elim (one_or_apart syncs alone s r e f p m.0.0) [
        | inl same ↦ subst (λ x. (k' : List Entry) × IsFirst s x (f ∷ k) k') (sym same)
            (k, record { maximal = (m.0.1, m.1); ends = refl; entries = λ x i. i; units = λ gives semaphore one. refl })
        | inr a ↦
            let h = first (after syncs s f) (rest_after syncs s f r) e (lawful_still syncs alone s r f e (apart_back syncs e f a) m.0.0 p) k (m.0.1, m.1) in
            (f ∷ h.0, first_too s r e f k h.0 a p m.0.0 h.1)
      ]

  -- ---- maximal journals come to one state, by the same entries

  record AreAlike (s : SyncState) (j k : List Entry) : Type 0 where
    pub ends : end_of syncs s j ≡ end_of syncs s k
    pub entries : (x : PlacedEntry) → IsIn x (entries_from syncs s j) → IsIn x (entries_from syncs s k)
    pub units : (gives : Bool) (semaphore : ℕ) → IsOneClients syncs (unit_op gives semaphore) → unit_names gives semaphore (entries_from syncs s j) ≡ unit_names gives semaphore (entries_from syncs s k)

  alike : (s : SyncState) → IsRest syncs s → (j k : List Entry) → IsMaximalFrom syncs s j → IsMaximalFrom syncs s k → AreAlike s j k
  alike s r [] [] m n = record { ends = refl; entries = λ x i. i; units = λ gives semaphore one. refl }
  alike s r [] (f ∷ k) m n = absurd (m.1 f n.0.0)
  alike s r (e ∷ j) k m n =
      let h = first s r e m.0.0 k n in
      let t = alike (after syncs s e) (rest_after syncs s e r) j h.0 (m.0.1, m.1) h.1.maximal in record {
        ends = t.ends ∙ h.1.ends;
        entries = λ x i. h.1.entries x (elim i [ inl u ↦ inl u | inr v ↦ inr (t.entries x v) ]);
        units = λ gives semaphore one.
            unit_names_more gives semaphore (entry_at syncs s e) (entries_from syncs (after syncs s e) j)
            ∙ ap (λ xs. unit_in gives semaphore e (entry_at syncs s e).at ++ xs) (t.units gives semaphore one)
            ∙ sym (unit_names_more gives semaphore (entry_at syncs s e) (entries_from syncs (after syncs s e) h.0))
            ∙ h.1.units gives semaphore one;
      }

  at_start : IsRest syncs (start syncs)
  at_start = record { issued = λ c op i. i; none = ops_past syncs }

  alike_at_start : (j k : List Entry) → IsMaximal syncs j → IsMaximal syncs k → AreAlike (start syncs) j k
  alike_at_start j k m n = alike (start syncs) at_start j k m n

  -- they come to one state, which leaves the same operations
  pub end_agrees : (j k : List Entry) → IsMaximal syncs j → IsMaximal syncs k → end_of syncs (start syncs) j ≡ end_of syncs (start syncs) k
  end_agrees j k m n = (alike_at_start j k m n).ends

  pub waiting_agrees : (j k : List Entry) → IsMaximal syncs j → IsMaximal syncs k → (c : ℕ) → waiting_of syncs j c ≡ waiting_of syncs k c
  waiting_agrees j k m n c = ap (λ (s : SyncState). head_wait (s.rest c)) (end_agrees j k m n)

  pub reach_agrees : (j k : List Entry) → IsMaximal syncs j → IsMaximal syncs k → (c : ℕ) → reach_of syncs j c ≡ reach_of syncs k c
  reach_agrees j k m n c = ap (λ (s : SyncState). option_map_or (λ (w : WaitAt). w.place) (head_wait (s.rest c)) (length_of syncs c)) (end_agrees j k m n)

  -- ---- units

  -- nobody takes from the semaphore in an entry and those behind it, or a client issues that
  takes_first : (semaphore : ℕ) (s : SyncState) → IsRest syncs s → (e : Entry) (j : List Entry) → IsLawful syncs s e
      → ((c : ℕ) × Takes syncs semaphore c) ⊎ (unit_names false semaphore (entries_from syncs (after syncs s e) j) ≡ []) → (o : Option ℕ)
      → unit_client false semaphore e ≡ o → ((c : ℕ) × Takes syncs semaphore c) ⊎ (unit_names false semaphore (entries_from syncs s (e ∷ j)) ≡ [])
  takes_first semaphore s r e j l later (Some c) is = inl (c, issues_it syncs s r e l false semaphore c is)
  takes_first semaphore s r e j l (inl found) None is = inl found
  takes_first semaphore s r e j l (inr none) None is =
      inr (unit_names_more false semaphore (entry_at syncs s e) (entries_from syncs (after syncs s e) j)
      ∙ ap₂ (λ (xs ys : List Name). xs ++ ys) (no_unit false semaphore e (entry_at syncs s e).at is) none)

  taken_or_not : (semaphore : ℕ) (s : SyncState) → IsRest syncs s → (j : List Entry) → IsLegalFrom syncs s j
      → ((c : ℕ) × Takes syncs semaphore c) ⊎ (unit_names false semaphore (entries_from syncs s j) ≡ [])
  taken_or_not semaphore s r [] l = inr refl
  taken_or_not semaphore s r (e ∷ j) l =
      takes_first semaphore s r e j l.0 (taken_or_not semaphore (after syncs s e) (rest_after syncs s e r) j l.1) (unit_client false semaphore e) refl

zip_none : {A B : Type 0} (xs : List A) → zip {X = B} xs [] ≡ []
zip_none [] = refl
zip_none (x ∷ xs) = refl

none_handed : (givers takers : List Name) (n : ℕ) → takers ≡ [] → zip givers (drop n takers) ≡ []
none_handed givers takers n none = ap (λ ts. zip givers (drop n ts)) none ∙ ap (λ ts. zip givers ts) (drop-nil n) ∙ zip_none givers

-- ---- orders

module _ (syncs : SyncLists) (h : IsUncontended syncs) where
  -- each unit that is taken is the same giver's in both
  handed_alike : (j k : List Entry) → IsMaximal syncs j → IsMaximal syncs k → (semaphore : ℕ) → handovers semaphore syncs j ≡ handovers semaphore syncs k
  handed_alike j k m n semaphore =
      let same = alike_at_start syncs h.alone j k m n in
      let taken : takers semaphore (entries_of syncs j) ≡ takers semaphore (entries_of syncs k) = same.units false semaphore (h.alone.takers semaphore) in
      elim (taken_or_not syncs h.alone semaphore (start syncs) (at_start syncs h.alone) j m.0) [
        | inl taker ↦
            let given : givers semaphore (entries_of syncs j) ≡ givers semaphore (entries_of syncs k) = same.units true semaphore (λ c d. h.givers semaphore c d taker.0 taker.1) in
            ap₂ (λ (gs ts : List Name). zip gs (drop (units_of syncs semaphore) ts)) given taken
        | inr none ↦
            none_handed (givers semaphore (entries_of syncs j)) (takers semaphore (entries_of syncs j)) (units_of syncs semaphore) none
            ∙ sym (none_handed (givers semaphore (entries_of syncs k)) (takers semaphore (entries_of syncs k)) (units_of syncs semaphore) (sym taken ∙ none))
      ]

  same_orders : (j k : List Entry) → IsMaximal syncs j → IsMaximal syncs k → (o : List Name) → IsPermitted syncs j o → IsPermitted syncs k o
  same_orders j k m n o p = record {
    names = λ x. let r = reach_agrees syncs h.alone j k m n x.client in (λ i. subst (λ y. x.place < y) r ((p.names x).0 i), λ lt. (p.names x).1 (subst (λ y. x.place < y) (sym r) lt));
    once = p.once;
    sequence = λ a b i l q. p.sequence a b i l (carried a b q);
  }
    where
      carried : (a b : Name) → Precedes syncs k a b → Precedes syncs j a b
      carried a b (SameClient c lt) = SameClient c lt
      carried a b (HandedOver semaphore i) = HandedOver semaphore (subst (IsIn {A = Name × Name} (a, b)) (handed_alike k j n m semaphore) i)
      carried a b (Parted e p' q i is is' before behind) = Parted e p' q ((alike_at_start syncs h.alone k j n m).entries e i) is is' before behind

  pub orders_agree : (j k : List Entry) → IsMaximal syncs j → IsMaximal syncs k → (o : List Name) → IsPermitted syncs j o ↔ IsPermitted syncs k o
  orders_agree j k m n o = (same_orders j k m n o, same_orders k j n m o)

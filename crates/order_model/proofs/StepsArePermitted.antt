-- Every right list of steps makes a permitted order.
use Rattle.std.proofs.Common.{◌≡◌, ℕ, zero, suc, ◌+◌, ◌-◌, ◌<◌, ◌≤◌, ◌==◌, Bool, true, List, [], ◌∷◌, ◌++◌, ◌⊎◌, drop, Option, Some, None, inl, inr, refl, sym, ap, ◌∙◌, subst, arith, eq-eqb, eqb-true, add-one, add-zero}
use Rattle.std.specs.Prelude.{option_map}
use Rattle.std.proofs.Math.Nat.{sub-zero}
use Rattle.std.proofs.Math.Seq.{drop-nil}
use Rattle.std.proofs.lemmas.Bool.{cases_Bool}
use Rattle.std.specs.List.{AllByRecursion}
use Rattle.std.specs.Option.{option_map_or}
use Rattle.rc_base.specs.Lists.{IsIn, AreRising}
use Rattle.rc_base.specs.Orders.Journal.{SyncState, start, is_member, op_of, IsLawful, units_after, after, end_of, IsLegalFrom, stop, head_wait}
use Rattle.rc_base.specs.Orders.Order.{PlacedEntry, entry_at, entries_from, name_at, giver_in, taker_in, givers, takers, IsPermitted, names_from}
use Rattle.rc_base.specs.Orders.Sync.{IsWellFormed, client_count, length_of, places_of}
use Rattle.rc_base.specs.declared.sync.Entry.{Entry}
use Rattle.rc_base.specs.declared.sync.Entry.TheVariants.{Meet, Swap, Give, Take}
use Rattle.rc_base.specs.declared.sync.Name.{Name}
use Rattle.rc_base.specs.declared.sync.SyncLists.{SyncLists}
use Rattle.rc_base.specs.declared.sync.WaitAt.{WaitAt}
use Rattle.order_model.proofs.JournalsInTurn.{rising_first}
use Rattle.order_model.specs.Laws.{AreOfClients}
use Rattle.order_model.proofs.ClientsBeyond.{ops_past, member_within, stop_past, past_after}
use Rattle.order_model.proofs.OrdersBySteps.{Step, moved, raised, passed_by, performed_by, issued_by, behind, spread, order_of, IsRight}
use Rattle.order_model.proofs.OrdersBySteps.Step.{Upto, Perform, Issue}
use Rattle.order_model.proofs.PermittedAsRuns.{run_permitted, AreServed, Uncrossed}
use Rattle.order_model.proofs.RunsOfNames.{IsRun, run_names, run_le}
use Rattle.order_model.proofs.SpreadIsRun.{run_on, stretch_to, raised_is, passed_is, passed_not, spread_run}
use Rattle.order_model.proofs.StandsInLists.{second_in, stands_split, stands_right, in_append, stands_across}

-- a member's cursor stands behind its operation
pub passed_behind : (syncs : SyncLists) (s : SyncState) (e : Entry) (cursor : ℕ → ℕ) (c : ℕ) → cursor c ≤ stop syncs s c → is_member (client_count syncs) e c ≡ true → passed_by syncs s e cursor c ≡ stop syncs s c + 1
passed_behind syncs s e cursor c le t = passed_is (is_member (client_count syncs) e) (behind syncs s) cursor c (omega (arith, le)) t

-- ---- lists of operations in their places

rising_raised : (p q : ℕ) (ws : List WaitAt) (n : ℕ) → AreRising p (places_of ws) n → q ≤ option_map_or (λ (w : WaitAt). w.place) (head_wait ws) n → AreRising q (places_of ws) n
rising_raised p q [] n h le = le
rising_raised p q (w ∷ ws) n h le = (le, h.1, h.2)

rising_dropped : (p : ℕ) (ws : List WaitAt) (n : ℕ) (e : Entry) → option_map (λ (w : WaitAt). w.op) (head_wait ws) ≡ Some (op_of e) → AreRising p (places_of ws) n → AreRising (option_map_or (λ (w : WaitAt). w.place) (head_wait ws) n + 1) (places_of (drop 1 ws)) n
rising_dropped p [] n e h k = absurd cc
rising_dropped p (w ∷ ws) n e h k = k.2

-- each cursor is before all that the client hasn't used
abbrev pub Fits : SyncLists → SyncState → (ℕ → ℕ) → Type 0
Fits syncs s cursor = (c : ℕ) → AreRising (cursor c) (places_of (s.rest c)) (length_of syncs c)

pub before_stop : (syncs : SyncLists) (s : SyncState) (cursor : ℕ → ℕ) → Fits syncs s cursor → (c : ℕ) → cursor c ≤ stop syncs s c
before_stop syncs s cursor h c = rising_first (cursor c) (s.rest c) (length_of syncs c) (h c)

pub fits_stop : (syncs : SyncLists) (s : SyncState) (cursor : ℕ → ℕ) → Fits syncs s cursor → Fits syncs s (stop syncs s)
fits_stop syncs s cursor h c = rising_raised (cursor c) (stop syncs s c) (s.rest c) (length_of syncs c) (h c) (omega arith)

fits_raised : (syncs : SyncLists) (s : SyncState) (cursor : ℕ → ℕ) (c p : ℕ) → Fits syncs s cursor → p ≤ stop syncs s c → Fits syncs s (moved cursor c p)
fits_raised syncs s cursor c p h le d = elim (cases_Bool (d == c)) [
  | inl t ↦
      let e : d ≡ c = eqb-true d c t in
      let le' : p ≤ stop syncs s d = subst (λ k. p ≤ stop syncs s k) (sym e) le in
      rw t (rising_raised (cursor d) p (s.rest d) (length_of syncs d) (h d) le')
  | inr f ↦ rw f (h d)
]

pub fits_after : (syncs : SyncLists) (s : SyncState) (e : Entry) (cursor : ℕ → ℕ) → Fits syncs s cursor → IsLawful syncs s e → Fits syncs (after syncs s e) (passed_by syncs s e cursor)
fits_after syncs s e cursor h p c = elim (cases_Bool (is_member (client_count syncs) e c)) [
  | inl t ↦ subst (λ k. AreRising k (places_of ((after syncs s e).rest c)) (length_of syncs c)) (sym (passed_behind syncs s e cursor c (before_stop syncs s cursor h c) t)) (rw t (rising_dropped (cursor c) (s.rest c) (length_of syncs c) e (p.next c t) (h c)))
  | inr f ↦ rw f (h c)
]

-- clients that don't exist don't pass
pub performed_past : (syncs : SyncLists) (s : SyncState) (e : Entry) (cursor : ℕ → ℕ) → AreOfClients syncs s → IsLawful syncs s e → (c : ℕ) → client_count syncs ≤ c → passed_by syncs s e cursor c ≡ cursor c
performed_past syncs s e cursor none p c ge = elim (cases_Bool (is_member (client_count syncs) e c)) [
  | inl t ↦ absurd (omega (arith, member_within syncs s e none p c t))
  | inr f ↦ passed_not (is_member (client_count syncs) e) (behind syncs s) cursor c f
]

pub issued_past : (syncs : SyncLists) (s : SyncState) (meant : ℕ → Bool) (cursor : ℕ → ℕ) → AreOfClients syncs s → (c : ℕ) → client_count syncs ≤ c → issued_by syncs s meant cursor c ≡ cursor c
issued_past syncs s meant cursor none c ge = elim (cases_Bool (meant c)) [
  | inl t ↦ let e = stop_past syncs s none c ge in rw t (omega (arith, e))
  | inr f ↦ passed_not meant (stop syncs s) cursor c f
]

fits_issued : (syncs : SyncLists) (s : SyncState) (meant : ℕ → Bool) (cursor : ℕ → ℕ) → Fits syncs s cursor → Fits syncs s (issued_by syncs s meant cursor)
fits_issued syncs s meant cursor h c =
    let le : cursor c ≤ stop syncs s c = before_stop syncs s cursor h c in
    elim (cases_Bool (meant c)) [
      | inl t ↦ subst (λ k. AreRising k (places_of (s.rest c)) (length_of syncs c)) (sym (passed_is meant (stop syncs s) cursor c le t)) (rising_raised (cursor c) (stop syncs s c) (s.rest c) (length_of syncs c) (h c) (omega arith))
      | inr f ↦ subst (λ k. AreRising k (places_of (s.rest c)) (length_of syncs c)) (sym (passed_not meant (stop syncs s) cursor c f)) (h c)
    ]

-- the place of a member's operation
place_at : (syncs : SyncLists) (s : SyncState) (e : Entry) → IsLawful syncs s e → (c i : ℕ) → (entry_at syncs s e).at c ≡ Some i → (is_member (client_count syncs) e c ≡ true) × (i ≡ stop syncs s c)
place_at syncs s e p c i h = elim (cases_Bool (is_member (client_count syncs) e c)) [
  | inl t ↦ (t, place_is (s.rest c) i (length_of syncs c) (rw t at h))
  | inr f ↦ let h' : None ≡ Some i = rw f at h in absurd cc
]
  where
    place_is : (ws : List WaitAt) (i n : ℕ) → option_map (λ (w : WaitAt). w.place) (head_wait ws) ≡ Some i → i ≡ option_map_or (λ (w : WaitAt). w.place) (head_wait ws) n
    place_is [] i n h = absurd cc
    place_is (w ∷ ws) i n h = cc

pub member_place : (syncs : SyncLists) (s : SyncState) (e : Entry) → IsLawful syncs s e → (c : ℕ) → is_member (client_count syncs) e c ≡ true → (entry_at syncs s e).at c ≡ Some (stop syncs s c)
member_place syncs s e p c t = rw t (is_place (s.rest c) (op_of e) (length_of syncs c) (p.next c t))
  where
    is_place : (ws : List WaitAt) (op : _) (n : ℕ) → option_map (λ (w : WaitAt). w.op) (head_wait ws) ≡ Some op → option_map (λ (w : WaitAt). w.place) (head_wait ws) ≡ Some (option_map_or (λ (w : WaitAt). w.place) (head_wait ws) n)
    is_place [] op n h = absurd cc
    is_place (w ∷ ws) op n h = refl

-- ---- no entry is crossed

apart_later : (mid first : ℕ → ℕ) (o o' : List Name) (at : ℕ → Option ℕ) → IsRun mid first o → ((c i : ℕ) → at c ≡ Some i → mid c ≤ i) → Uncrossed o' at → Uncrossed (o ++ o') at
apart_later mid first o o' at r le h a b i j is is' ahead behind st = elim (stands_split b a o o' st) [
  | inl k ↦ omega (arith, le b.client j is', ((run_names mid first o r b).0 k).1, behind)
  | inr k ↦ h a b i j is is' ahead behind k
]

apart_now : (last mid first : ℕ → ℕ) (o o' : List Name) (at : ℕ → Option ℕ) → IsRun mid first o → IsRun last mid o' → ((c i : ℕ) → at c ≡ Some i → mid c ≡ i + 1) → Uncrossed (o ++ o') at
apart_now last mid first o o' at r r' eq a b i j is is' ahead behind st = elim (stands_split b a o o' st) [
  | inl k ↦ omega (arith, eq b.client j is', ((run_names mid first o r b).0 k).1, behind)
  | inr k ↦ omega (arith, eq a.client i is, ((run_names last mid o' r' a).0 (second_in b a o' k)).0, ahead)
]

-- ---- givers serve their takers

served_later : (o o' gs ts : List Name) → AreServed o' gs ts → AreServed (o ++ o') gs ts
served_later o o' gs [] h = tt
served_later o o' [] (t ∷ ts) h = h
served_later o o' (g ∷ gs) (t ∷ ts) h = (stands_right g t o o' h.0, served_later o o' gs ts h.1)

drop_step : {A : Type 0} (n : ℕ) (ts : List A) → (drop n ts ≡ []) ⊎ ((t : A) × IsIn t ts × (drop n ts ≡ t ∷ drop (suc n) ts))
drop_step zero [] = inl refl
drop_step zero (t ∷ ts) = inr (t, inl refl, refl)
drop_step (suc n) [] = inl refl
drop_step (suc n) (x ∷ ts) = elim (drop_step n ts) [ inl e ↦ inl e | inr r ↦ inr (r.0, inr r.1, r.2) ]

drop_less : {A : Type 0} (n : ℕ) (t : A) (ts : List A) → 0 < n → drop n (t ∷ ts) ≡ drop (n - 1) ts
drop_less zero t ts lt = absurd (omega arith)
drop_less (suc n) t ts lt = let e : suc n - 1 ≡ n = omega arith in ap (λ k. drop k ts) (sym e)

in_name_at : (d : ℕ) (o : Option ℕ) (t : Name) → IsIn t (name_at d o) → (t.client ≡ d) × (o ≡ Some t.place)
in_name_at d None t h = absurd h
in_name_at d (Some p) t (inl e) = (ap (λ (x : Name). x.client) (sym e), ap (λ (x : Name). Some x.place) e)
in_name_at d (Some p) t (inr h) = absurd h

taker_place : (sem : ℕ) (e : Entry) (at : ℕ → Option ℕ) (t : Name) → IsIn t (taker_in sem e at) → at t.client ≡ Some t.place
taker_place sem (Meet b m) at t h = absurd h
taker_place sem Swap at t h = absurd h
taker_place sem (Give s d) at t h = absurd h
taker_place sem (Take s d) at t h = elim (cases_Bool (s == sem)) [
  | inl u ↦ let h' : IsIn t (name_at d (at d)) = rw u at h in let k = in_name_at d (at d) t h' in ap at k.0 ∙ k.1
  | inr f ↦ let h' : IsIn t [] = rw f at h in absurd h'
]

-- an entry's operations stand between a cursor and the end
abbrev Between : (ℕ → ℕ) → (ℕ → ℕ) → PlacedEntry → Type 0
Between last first m = (c i : ℕ) → m.at c ≡ Some i → (first c ≤ i) × (i < last c)

takes_between : (last first : ℕ → ℕ) (sem : ℕ) (ms : List PlacedEntry) → AllByRecursion (Between last first) ms → (t : Name) → IsIn t (takers sem ms) → (first t.client ≤ t.place) × (t.place < last t.client)
takes_between last first sem [] h t i = absurd i
takes_between last first sem (m ∷ ms) h t i = elim (in_append t (taker_in sem m.entry m.at) (takers sem ms) i) [
  | inl j ↦ h.0 t.client t.place (taker_place sem m.entry m.at t j)
  | inr j ↦ takes_between last first sem ms h.1 t j
]

-- the entry's own givers and takers
served_now : (syncs : SyncLists) (s : SyncState) (e : Entry) → IsLawful syncs s e → (last mid first : ℕ → ℕ) (o o' : List Name) → IsRun mid first o → IsRun last mid o'
    → (sem : ℕ) (gs ts : List Name) → ((c i : ℕ) → (entry_at syncs s e).at c ≡ Some i → (first c ≤ i) × (i < mid c)) → ((t : Name) → IsIn t ts → (mid t.client ≤ t.place) × (t.place < last t.client))
    → AreServed o' gs (drop (units_after e s.units sem) ts)
    → AreServed (o ++ o') (giver_in sem e (entry_at syncs s e).at ++ gs) (drop (s.units sem) (taker_in sem e (entry_at syncs s e).at ++ ts))
served_now syncs s (Meet b m) p last mid first o o' r r' sem gs ts here later h = served_later o o' gs (drop (s.units sem) ts) h
served_now syncs s Swap p last mid first o o' r r' sem gs ts here later h = served_later o o' gs (drop (s.units sem) ts) h
served_now syncs s (Give n d) p last mid first o o' r r' sem gs ts here later h = elim (cases_Bool (n == sem)) [
  | inl u ↦
      let at : (entry_at syncs s (Give n d)).at d ≡ Some (stop syncs s d) = member_place syncs s (Give n d) p d (eq-eqb d d refl) in
      let g : Name = record { client = d; place = stop syncs s d } in
      let h' : AreServed o' gs (drop (s.units sem + 1) ts) = rw u at h in
      let k : IsIn g o = (run_names mid first o r g).1 (here d (stop syncs s d) at) in
      rw (u, at) (give_now g k (drop_step (s.units sem) ts) (rw add-one at h'))
  | inr f ↦ let h' : AreServed o' gs (drop (s.units sem + 0) ts) = rw f at h in rw f (served_later o o' gs (drop (s.units sem) ts) (rw add-zero at h'))
]
  where
    give_now : (g : Name) → IsIn g o → ((drop (s.units sem) ts ≡ []) ⊎ ((t : Name) × IsIn t ts × (drop (s.units sem) ts ≡ t ∷ drop (suc (s.units sem)) ts)))
        → AreServed o' gs (drop (suc (s.units sem)) ts) → AreServed (o ++ o') (g ∷ gs) (drop (s.units sem) ts)
    give_now g i (inl e) k = rw e tt
    give_now g i (inr t) k = rw t.2 (stands_across g t.0 o o' i ((run_names last mid o' r' t.0).1 (later t.0 t.1)), served_later o o' gs (drop (suc (s.units sem)) ts) k)
served_now syncs s (Take n d) p last mid first o o' r r' sem gs ts here later h = elim (cases_Bool (n == sem)) [
  | inl u ↦
      let at : (entry_at syncs s (Take n d)).at d ≡ Some (stop syncs s d) = member_place syncs s (Take n d) p d (eq-eqb d d refl) in
      let h' : AreServed o' gs (drop (s.units sem - 1) ts) = rw u at h in
      let some : 0 < s.units n = p.counted in
      let some' : 0 < s.units sem = subst (λ k. 0 < s.units k) (eqb-true n sem u) some in
      rw (u, at) (rw (drop_less (s.units sem) record { client = d; place = stop syncs s d } ts some') (served_later o o' gs (drop (s.units sem - 1) ts) h'))
  | inr f ↦ let h' : AreServed o' gs (drop (s.units sem - 0) ts) = rw f at h in rw f (served_later o o' gs (drop (s.units sem) ts) (rw sub-zero at h'))
]

-- ---- whole journals

-- where each cursor stands in the end
abbrev goal : SyncLists → SyncState → List Entry → ℕ → ℕ
goal syncs s js c = stop syncs (end_of syncs s js) c

-- an order that a journal's steps make from a state and cursors on: a run that serves and crosses no entry
record Stretch (syncs : SyncLists) (s : SyncState) (cursor : ℕ → ℕ) (js : List Entry) (o : List Name) : Type 0 where
  pub run : IsRun (goal syncs s js) cursor o
  pub between : AllByRecursion (Between (goal syncs s js) cursor) (entries_from syncs s js)
  pub apart : AllByRecursion (λ m. Uncrossed o m.at) (entries_from syncs s js)
  pub served : (sem : ℕ) → AreServed o (givers sem (entries_from syncs s js)) (drop (s.units sem) (takers sem (entries_from syncs s js)))

between_more : (last mid first : ℕ → ℕ) (ms : List PlacedEntry) → ((c : ℕ) → first c ≤ mid c) → AllByRecursion (Between last mid) ms → AllByRecursion (Between last first) ms
between_more last mid first [] le h = tt
between_more last mid first (m ∷ ms) le h = (λ c i e. let k = h.0 c i e in (omega (arith, le c, k.0), k.1), between_more last mid first ms le h.1)

apart_more : (last mid first : ℕ → ℕ) (o o' : List Name) (ms : List PlacedEntry) → IsRun mid first o → AllByRecursion (Between last mid) ms → AllByRecursion (λ m. Uncrossed o' m.at) ms → AllByRecursion (λ m. Uncrossed (o ++ o') m.at) ms
apart_more last mid first o o' [] r b h = tt
apart_more last mid first o o' (m ∷ ms) r b h = (apart_later mid first o o' m.at r (λ c i e. (b.0 c i e).0) h.0, apart_more last mid first o o' ms r b.1 h.1)

-- names are added
stretch_upto : (syncs : SyncLists) (s : SyncState) (cursor mid : ℕ → ℕ) (js : List Entry) (o o' : List Name) → IsRun mid cursor o → Stretch syncs s mid js o' → Stretch syncs s cursor js (o ++ o')
stretch_upto syncs s cursor mid js o o' r h = record {
  run = run_on (goal syncs s js) mid cursor o o' (run_le (goal syncs s js) mid o' h.run) r h.run;
  between = between_more (goal syncs s js) mid cursor (entries_from syncs s js) (run_le mid cursor o r) h.between;
  apart = apart_more (goal syncs s js) mid cursor o o' (entries_from syncs s js) r h.between h.apart;
  served = λ sem. served_later o o' (givers sem (entries_from syncs s js)) (drop (s.units sem) (takers sem (entries_from syncs s js))) (h.served sem);
}

-- an entry is performed
stretch_perform : (syncs : SyncLists) (s : SyncState) (cursor : ℕ → ℕ) (e : Entry) (js : List Entry) (o' : List Name) → Fits syncs s cursor → AreOfClients syncs s → IsLawful syncs s e
    → Stretch syncs (after syncs s e) (passed_by syncs s e cursor) js o' → Stretch syncs s cursor (e ∷ js) (performed_by syncs s e cursor (client_count syncs) ++ o')
stretch_perform syncs s cursor e js o' fits none p h =
    let mid = passed_by syncs s e cursor in
    let last = goal syncs s (e ∷ js) in
    let o = performed_by syncs s e cursor (client_count syncs) in
    let le : (c : ℕ) → cursor c ≤ stop syncs s c = λ c. before_stop syncs s cursor fits c in
    let r : IsRun mid cursor o = spread_run (is_member (client_count syncs) e) (behind syncs s) cursor (λ c. omega (arith, le c)) (client_count syncs) (performed_past syncs s e cursor none p) in
    let up : (c : ℕ) → mid c ≤ last c = run_le last mid o' h.run in
    let at : (c i : ℕ) → (entry_at syncs s e).at c ≡ Some i → mid c ≡ i + 1 = λ c i k. (let t = place_at syncs s e p c i k in passed_behind syncs s e cursor c (le c) t.0 ∙ ap (λ m. m + 1) (sym t.1)) in
    let here : (c i : ℕ) → (entry_at syncs s e).at c ≡ Some i → (cursor c ≤ i) × (i < mid c) = λ c i k. (let t = place_at syncs s e p c i k in (omega (arith, le c, t.1), omega (arith, at c i k))) in
    record {
      run = run_on last mid cursor o o' up r h.run;
      between = (λ c i k. ((here c i k).0, omega (arith, (here c i k).1, up c)), between_more last mid cursor (entries_from syncs (after syncs s e) js) (run_le mid cursor o r) h.between);
      apart = (apart_now last mid cursor o o' (entry_at syncs s e).at r h.run at, apart_more last mid cursor o o' (entries_from syncs (after syncs s e) js) r h.between h.apart);
      served = λ sem. served_now syncs s e p last mid cursor o o' r h.run sem (givers sem (entries_from syncs (after syncs s e) js)) (takers sem (entries_from syncs (after syncs s e) js))
          here (takes_between last mid sem (entries_from syncs (after syncs s e) js) h.between) (h.served sem);
    }

right_stretch : (syncs : SyncLists) (s : SyncState) (cursor : ℕ → ℕ) (js : List Entry) (steps : List Step) → Fits syncs s cursor → AreOfClients syncs s → IsLegalFrom syncs s js → IsRight syncs s cursor js steps
    → Stretch syncs s cursor js (order_of syncs s cursor js steps)
right_stretch syncs s cursor [] [] fits none legal right = record { run = right.1; between = tt; apart = tt; served = λ sem. rw (drop-nil (s.units sem)) tt }
right_stretch syncs s cursor (e ∷ js) [] fits none legal right = absurd (cc (right.0))
right_stretch syncs s cursor js (Upto c p ∷ steps) fits none legal right =
    let e = raised_is cursor c p right.0 in
    stretch_upto syncs s cursor (raised cursor c p) js (names_from c (cursor c) (p - cursor c)) (order_of syncs s (raised cursor c p) js steps)
    (subst (λ f. IsRun f cursor (names_from c (cursor c) (p - cursor c))) e (stretch_to cursor c p right.0))
    (right_stretch syncs s (raised cursor c p) js steps (subst (Fits syncs s) e (fits_raised syncs s cursor c p fits right.1)) none legal right.2)
right_stretch syncs s cursor js (Issue meant ∷ steps) fits none legal right =
    stretch_upto syncs s cursor (issued_by syncs s meant cursor) js (spread meant (stop syncs s) cursor (client_count syncs)) (order_of syncs s (issued_by syncs s meant cursor) js steps)
    (spread_run meant (stop syncs s) cursor (λ c. before_stop syncs s cursor fits c) (client_count syncs) (issued_past syncs s meant cursor none))
    (right_stretch syncs s (issued_by syncs s meant cursor) js steps (fits_issued syncs s meant cursor fits) none legal right)
right_stretch syncs s cursor [] (Perform ∷ steps) fits none legal right = absurd right
right_stretch syncs s cursor (e ∷ js) (Perform ∷ steps) fits none legal right =
    stretch_perform syncs s cursor e js (order_of syncs (after syncs s e) (passed_by syncs s e cursor) js steps) fits none legal.0
    (right_stretch syncs (after syncs s e) (passed_by syncs s e cursor) js steps (fits_after syncs s e cursor fits legal.0) (past_after syncs s e none) legal.1 right)

pub steps_permitted : (syncs : SyncLists) (js : List Entry) (steps : List Step) → IsWellFormed syncs → IsLegalFrom syncs (start syncs) js → IsRight syncs (start syncs) (λ c. 0) js steps
    → IsPermitted syncs js (order_of syncs (start syncs) (λ c. 0) js steps)
steps_permitted syncs js steps well legal right =
    let h = right_stretch syncs (start syncs) (λ c. 0) js steps well.rising (ops_past syncs) legal right in
    run_permitted syncs js (order_of syncs (start syncs) (λ c. 0) js steps) h.run h.served h.apart

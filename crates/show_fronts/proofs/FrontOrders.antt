-- Orders of lists that are cut behind a Swap: those of the whole lists go on from them.
use Rattle.std.proofs.Common.{◌≡◌, ℕ, zero, suc, ◌+◌, ◌-◌, ◌<◌, ◌≤◌, Bool, true, false, cond, List, [], ◌∷◌, ◌++◌, inl, inr, refl, sym, ap, ◌∙◌, subst, arith, ◌⊎◌, eq-eqb, append-nil, append_assoc}
use Rattle.std.specs.Option.{option_map_or}
use Rattle.std.proofs.lemmas.Bool.{cases_lt, cases_Bool}
use mathlib.Core.Path.{fun_ext}
use Rattle.rc_base.specs.Lists.{IsFront}
use Rattle.rc_base.specs.Orders.Journal.{SyncState, start, head_wait, stop, is_member, after, end_of, reach_of, IsLegal, IsLegalFrom}
use Rattle.rc_base.specs.Orders.Order.{names_from, names_in, added, all_added, performed, entries_from, entries_of, default_from, default_order}
use Rattle.rc_base.specs.Orders.Sync.{client_count, ops_of, length_of}
use Rattle.rc_base.specs.declared.sync.Entry.{Entry}
use Rattle.rc_base.specs.declared.sync.Name.{Name}
use Rattle.rc_base.specs.declared.sync.SyncLists.{SyncLists}
use Rattle.rc_base.specs.declared.sync.WaitAt.{WaitAt}
use Rattle.order_model.specs.Laws.{AreOfClients}
use Rattle.order_model.specs.Log.{entries_after, logged, recorded_order}
use Rattle.order_model.specs.declared.record.LogEntry.{LogEntry}
use Rattle.order_model.specs.declared.record.LogEntry.TheVariants.{Took, Performed}
use Rattle.order_model.proofs.AddedNames.{names_append, names_stretch}
use Rattle.order_model.proofs.ClientsBeyond.{ops_past, past_after, past_end}
use Rattle.order_model.proofs.JournalsSwapAlike.{swap_entries}
use Rattle.show_fronts.specs.Fronts.{swaps_behind, front_journal, front_log}
use Rattle.show_fronts.proofs.FrontJournals.{front_ops, front_none, behind_one, last_member, whole_journal, whole_log, AreCut, IsCutAt, first_cut, cut_step, cut_end, cut_over, stop_alike, last_stop}

-- ---- orders that go on

front_same : (o : List Name) → IsFront o o
front_same o = ([], sym (append-nil o))

front_then : (o p q : List Name) → IsFront o p → IsFront p q → IsFront o q
front_then o p q f g = (f.0 ++ g.0, g.1 ∙ ap (λ x. x ++ g.0) f.1 ∙ append_assoc o f.0 g.0)

front_all : (meant : ℕ → Bool) (places : ℕ → ℕ) (n : ℕ) (o : List Name) → IsFront o (all_added meant places n o)
front_all meant places zero o = front_same o
front_all meant places (suc n) o =
    let before = all_added meant places n o in
    let h = front_all meant places n o in
    elim (cases_Bool (meant n)) [
      | inl t ↦ rw t (front_then o before (added n (places n) before) h (names_from n (names_in n before) (places n - names_in n before), refl))
      | inr f ↦ rw f h
    ]

front_logged : (syncs : SyncLists) (s : SyncState) (js : List Entry) (log : List LogEntry) (o : List Name) → IsFront o (logged syncs s js log o)
front_logged syncs s js [] o = front_same o
front_logged syncs s js (Took c p ∷ log) o =
    let next = added c (p + 1) o in
    front_then o next (logged syncs s js log next) (names_from c (names_in c o) (p + 1 - names_in c o), refl) (front_logged syncs s js log next)
front_logged syncs s [] (Performed ∷ log) o = front_logged syncs s [] log o
front_logged syncs s (e ∷ js) (Performed ∷ log) o =
    let next = performed syncs s e o in
    front_then o next (logged syncs (after syncs s e) js log next) (front_all (is_member (client_count syncs) e) (λ c. stop syncs s c + 1) (client_count syncs) o)
    (front_logged syncs (after syncs s e) js log next)

front_default : (syncs : SyncLists) (s : SyncState) (js : List Entry) (o : List Name) → IsFront o (default_from syncs s js o)
front_default syncs s [] o = front_same o
front_default syncs s (e ∷ js) o =
    let n = client_count syncs in
    let s' = after syncs s e in
    let mid = performed syncs s e o in
    let next = all_added (is_member n e) (stop syncs s') n mid in
    front_then o mid (default_from syncs s' js next) (front_all (is_member n e) (λ c. stop syncs s c + 1) n o)
    (front_then mid next (default_from syncs s' js next) (front_all (is_member n e) (stop syncs s') n mid) (front_default syncs s' js next))

-- ---- names that are there already

names_reach : (c p : ℕ) (o : List Name) → p ≤ names_in c (added c p o)
names_reach c p o =
    let a = names_append c o (names_from c (names_in c o) (p - names_in c o)) in
    let b = names_stretch c c (names_in c o) (p - names_in c o) ∙ ap (λ t. cond t (p - names_in c o) 0) (eq-eqb c c refl) in
    omega (arith, a, b)

names_grow : (c : ℕ) (o p : List Name) → IsFront o p → names_in c o ≤ names_in c p
names_grow c o p f = let e = ap (names_in c) f.1 ∙ names_append c o f.0 in omega (arith, e)

all_reach : (meant : ℕ → Bool) (places : ℕ → ℕ) (n : ℕ) (o : List Name) (c : ℕ) → c < n → meant c ≡ true → places c ≤ names_in c (all_added meant places n o)
all_reach meant places zero o c lt t = absurd (omega (arith, lt))
all_reach meant places (suc n) o c lt t =
    let before = all_added meant places n o in
    let grown = names_grow c before (all_added meant places (suc n) o) (one_more (meant n) before) in
    elim (cases_lt c n) [
      | inl lt' ↦ (let h = all_reach meant places n o c lt' t in omega (arith, h, grown))
      | inr ge ↦
          let same : c ≡ n = omega (arith, lt, ge) in
          let t' : meant n ≡ true = subst (λ k. meant k ≡ true) same t in
          subst (λ k. places k ≤ names_in k (all_added meant places (suc n) o)) (sym same) (rw t' (names_reach n (places n) before))
    ]
  where
    one_more : (b : Bool) (before : List Name) → IsFront before (cond b (added n (places n) before) before)
    one_more true before = (names_from n (names_in n before) (places n - names_in n before), refl)
    one_more false before = front_same before

all_still : (meant : ℕ → Bool) (places : ℕ → ℕ) (n : ℕ) (o : List Name) → ((c : ℕ) → c < n → meant c ≡ true → places c ≤ names_in c o) → all_added meant places n o ≡ o
all_still meant places zero o h = refl
all_still meant places (suc n) o h =
    let before = all_still meant places n o (λ c lt t. h c (omega (arith, lt)) t) in
    elim (cases_Bool (meant n)) [
      | inl t ↦
          let low = h n (omega arith) t in
          let none : places n - names_in n o ≡ 0 = omega (arith, low) in
          rw t (ap (added n (places n)) before ∙ ap (λ k. o ++ names_from n (names_in n o) k) none ∙ append-nil o)
      | inr f ↦ rw f before
    ]

all_alike : (meant meant' : ℕ → Bool) (places places' : ℕ → ℕ) (n n' : ℕ) (o : List Name) → meant ≡ meant' → places ≡ places' → n ≡ n'
    → all_added meant places n o ≡ all_added meant' places' n' o
all_alike meant meant' places places' n n' o a b c = λ i. all_added (a i) (b i) (c i) o

module _ (n : ℕ) (syncs cut : SyncLists) (h : AreCut n syncs cut) where
  same_performed : (k : ℕ) (s t : SyncState) (e : Entry) (o : List Name) → IsCutAt syncs cut (suc k) s t → AreOfClients syncs s → performed cut t e o ≡ performed syncs s e o
  same_performed k s t e o r none =
      all_alike (is_member (client_count cut) e) (is_member (client_count syncs) e) (λ c. stop cut t c + 1) (λ c. stop syncs s c + 1) (client_count cut) (client_count syncs) o
      (ap (λ m. is_member m e) h.clients) (fun_ext (λ c. ap (λ p. p + 1) (stop_alike n syncs cut h k s t r none c))) h.clients

  same_issued : (k : ℕ) (s t : SyncState) (meant meant' : ℕ → Bool) (o : List Name) → meant ≡ meant' → IsCutAt syncs cut (suc k) s t → AreOfClients syncs s
      → all_added meant (stop cut t) (client_count cut) o ≡ all_added meant' (stop syncs s) (client_count syncs) o
  same_issued k s t meant meant' o same r none =
      all_alike meant meant' (stop cut t) (stop syncs s) (client_count cut) (client_count syncs) o same (fun_ext (stop_alike n syncs cut h k s t r none)) h.clients

  -- once the last Swap is performed, the cut streams' names are there
  last_names : (k : ℕ) (s t : SyncState) (e : Entry) (o : List Name) → IsCutAt syncs cut (suc k) s t → IsLegalFrom syncs s (e ∷ []) → swaps_behind e k ≡ 0
      → (c : ℕ) → c < client_count cut → length_of cut c ≤ names_in c (performed cut t e o)
  last_names k s t e o r legal z c lt =
      let lt' : c < client_count syncs = subst (λ m. c < m) h.clients lt in
      let low = last_stop n syncs cut h k s t e r legal.0 z c lt' in
      let reach = all_reach (is_member (client_count cut) e) (λ d. stop cut t d + 1) (client_count cut) o c lt (last_member (client_count cut) k e z c lt) in
      omega (arith, low, reach)

  -- ---- by a log

  pub logged_goes_on : (log : List LogEntry) (js : List Entry) (k : ℕ) (s t : SyncState) (o : List Name) → IsCutAt syncs cut k s t → AreOfClients syncs s → IsLegalFrom syncs s js
      → IsFront (logged cut t (front_journal k js) (front_log k js log) o) (logged syncs s js log o)
  logged_goes_on [] js k s t o r none legal = front_same o
  logged_goes_on (Took c p ∷ log) js zero s t o r none legal = front_logged syncs s js (Took c p ∷ log) o
  logged_goes_on (Performed ∷ log) js zero s t o r none legal = front_logged syncs s js (Performed ∷ log) o
  logged_goes_on (Took c p ∷ log) js (suc k) s t o r none legal = logged_goes_on log js (suc k) s t (added c (p + 1) o) r none legal
  logged_goes_on (Performed ∷ log) [] (suc k) s t o r none legal = logged_goes_on log [] (suc k) s t o r none legal
  logged_goes_on (Performed ∷ log) (e ∷ js) (suc k) s t o r none legal =
      subst (λ x. IsFront (logged cut (after cut t e) (front_journal (swaps_behind e k) js) (front_log (swaps_behind e k) js log) x) (logged syncs (after syncs s e) js log (performed syncs s e o)))
      (sym (same_performed k s t e o r none))
      (logged_goes_on log js (swaps_behind e k) (after syncs s e) (after cut t e) (performed syncs s e o) (cut_step n syncs cut h k s t e r none legal.0) (past_after syncs s e none) legal.1)

  -- where all Swaps come, the log leaves each client at the end of its cut stream
  logged_names : (log : List LogEntry) (js : List Entry) (k : ℕ) (s t : SyncState) (o : List Name) → IsCutAt syncs cut (suc k) s t → AreOfClients syncs s → IsLegalFrom syncs s js
      → suc k ≤ swap_entries js → entries_after (entries_from syncs s js) log ≡ []
      → (c : ℕ) → c < client_count cut → length_of cut c ≤ names_in c (logged cut t (front_journal (suc k) js) (front_log (suc k) js log) o)
  logged_names [] [] k s t o r none legal le done c lt = absurd (omega (arith, le))
  logged_names [] (e ∷ js) k s t o r none legal le done c lt = absurd (cc done)
  logged_names (Took d p ∷ log) js k s t o r none legal le done c lt = logged_names log js k s t (added d (p + 1) o) r none legal le done c lt
  logged_names (Performed ∷ log) [] k s t o r none legal le done c lt = absurd (omega (arith, le))
  logged_names (Performed ∷ log) (e ∷ js) k s t o r none legal le done c lt =
      by (swaps_behind e k) refl (cut_step n syncs cut h k s t e r none legal.0)
      (λ j r' le'. logged_names log js j (after syncs s e) (after cut t e) (performed cut t e o) r' (past_after syncs s e none) legal.1 le' done c lt)
    where
      s' : SyncState
      s' = after syncs s e

      t' : SyncState
      t' = after cut t e

      next : List Name
      next = performed cut t e o

      nothing : (ks : List Entry) (log : List LogEntry) → logged cut t' (front_journal 0 ks) (front_log 0 ks log) next ≡ next
      nothing ks [] = refl
      nothing ks (line ∷ log) = refl

      by : (j : ℕ) → swaps_behind e k ≡ j → IsCutAt syncs cut (swaps_behind e k) s' t'
          → ((j : ℕ) → IsCutAt syncs cut (suc j) s' t' → suc j ≤ swap_entries js → length_of cut c ≤ names_in c (logged cut t' (front_journal (suc j) js) (front_log (suc j) js log) next))
          → length_of cut c ≤ names_in c (logged cut t' (front_journal (swaps_behind e k) js) (front_log (swaps_behind e k) js log) next)
      by zero z r' later =
          subst (λ j. length_of cut c ≤ names_in c (logged cut t' (front_journal j js) (front_log j js log) next)) (sym z)
          (subst (λ x. length_of cut c ≤ names_in c x) (sym (nothing js log)) (last_names k s t e o r (legal.0, tt) z c lt))
      by (suc j) z r' later =
          let b = behind_one e k in
          subst (λ i. length_of cut c ≤ names_in c (logged cut t' (front_journal i js) (front_log i js log) next)) (sym z)
          (later j (subst (λ i. IsCutAt syncs cut i s' t') z r') (omega (arith, le, b, z)))

  -- ---- the two orders

  -- they are one, or the cut one comes first and has all of the cut streams
  abbrev pub ComesFirst : List Entry → List Name → List Name → Type 0
  ComesFirst js first whole = (first ≡ whole) ⊎ (IsFront first whole × ((c : ℕ) → reach_of cut js c ≡ length_of cut c))

  -- all clients issue
  abbrev everyone : ℕ → Bool
  everyone c = true

  over_reach : (js : List Entry) → IsLegal syncs js → n ≤ swap_entries js → (c : ℕ) → reach_of cut (front_journal n js) c ≡ length_of cut c
  over_reach js legal le c =
      ap (λ ws. option_map_or (λ (w : WaitAt). w.place) (head_wait ws) (length_of cut c))
      (cut_over n syncs cut h js n (start syncs) (start cut) (first_cut n syncs cut h) (ops_past syncs) legal le c)

  same_logged : (log : List LogEntry) (js : List Entry) (k : ℕ) (s t : SyncState) (o : List Name) → swap_entries js < k → IsCutAt syncs cut k s t → AreOfClients syncs s → IsLegalFrom syncs s js
      → logged cut t js log o ≡ logged syncs s js log o
  same_logged [] js k s t o lt r none legal = refl
  same_logged (Took c p ∷ log) js k s t o lt r none legal = same_logged log js k s t (added c (p + 1) o) lt r none legal
  same_logged (Performed ∷ log) [] k s t o lt r none legal = same_logged log [] k s t o lt r none legal
  same_logged (Performed ∷ log) (e ∷ js) zero s t o lt r none legal = absurd (omega (arith, lt))
  same_logged (Performed ∷ log) (e ∷ js) (suc k) s t o lt r none legal =
      let b = behind_one e k in
      ap (logged cut (after cut t e) js log) (same_performed k s t e o r none)
      ∙ same_logged log js (swaps_behind e k) (after syncs s e) (after cut t e) (performed syncs s e o) (omega (arith, lt, b)) (cut_step n syncs cut h k s t e r none legal.0) (past_after syncs s e none) legal.1

  names_there : (js : List Entry) (log : List LogEntry) → IsLegal syncs js → entries_after (entries_of syncs js) log ≡ [] → n ≤ swap_entries js → (k : ℕ) → n ≡ k → (c : ℕ) → c < client_count cut
      → length_of cut c ≤ names_in c (logged cut (start cut) (front_journal n js) (front_log n js log) [])
  names_there js log legal done le zero z c lt = (let none = h.none z c in omega (arith, none))
  names_there js log legal done le (suc k) z c lt =
      subst (λ m. length_of cut c ≤ names_in c (logged cut (start cut) (front_journal m js) (front_log m js log) [])) (sym z)
      (logged_names log js k (start syncs) (start cut) [] (subst (λ m. IsCutAt syncs cut m (start syncs) (start cut)) z (first_cut n syncs cut h)) (ops_past syncs) legal (omega (arith, le, z)) done c lt)

  pub recorded_goes_on : (js : List Entry) (log : List LogEntry) → IsLegal syncs js → entries_after (entries_of syncs js) log ≡ []
      → ComesFirst (front_journal n js) (recorded_order cut (front_journal n js) (front_log n js log)) (recorded_order syncs js log)
  recorded_goes_on js log legal done = elim (cases_lt (swap_entries js) n) [
    | inl lt ↦
        let j = n - swap_entries js - 1 in
        let wj = whole_journal js n lt in
        let wl = whole_log log js n lt in
        let r = cut_end n syncs cut h js n j (start syncs) (start cut) (omega (arith, lt)) (first_cut n syncs cut h) (ops_past syncs) legal in
        let r' : IsCutAt syncs cut (suc j) (end_of syncs (start syncs) js) (end_of cut (start cut) js) =
        subst (λ x. IsCutAt syncs cut (suc j) (end_of syncs (start syncs) js) (end_of cut (start cut) x)) wj r in
        let one : recorded_order cut (front_journal n js) (front_log n js log) ≡ recorded_order cut js log = λ i. recorded_order cut (wj i) (wl i) in
        inl (one
        ∙ same_issued j (end_of syncs (start syncs) js) (end_of cut (start cut) js) everyone everyone (logged cut (start cut) js log []) refl r' (past_end syncs (start syncs) js (ops_past syncs))
        ∙ ap (all_added everyone (reach_of syncs js) (client_count syncs)) (same_logged log js n (start syncs) (start cut) [] lt (first_cut n syncs cut h) (ops_past syncs) legal))
    | inr le ↦
        let first = logged cut (start cut) (front_journal n js) (front_log n js log) [] in
        let all = logged syncs (start syncs) js log [] in
        let reach = over_reach js legal le in
        let still : recorded_order cut (front_journal n js) (front_log n js log) ≡ first =
        all_still everyone (reach_of cut (front_journal n js)) (client_count cut) first
        (λ c lt t. (let there = names_there js log legal done le n refl c lt in let same = reach c in omega (arith, there, same))) in
        let on : IsFront first (recorded_order syncs js log) =
        front_then first all (recorded_order syncs js log) (logged_goes_on log js n (start syncs) (start cut) [] (first_cut n syncs cut h) (ops_past syncs) legal)
        (front_all everyone (reach_of syncs js) (client_count syncs) all) in
        inr (subst (λ x. IsFront x (recorded_order syncs js log)) (sym still) on, reach)
  ]

  -- ---- the default one

  same_default : (js : List Entry) (k : ℕ) (s t : SyncState) (o : List Name) → swap_entries js < k → IsCutAt syncs cut k s t → AreOfClients syncs s → IsLegalFrom syncs s js
      → default_from cut t js o ≡ default_from syncs s js o
  same_default [] k s t o lt r none legal = refl
  same_default (e ∷ js) zero s t o lt r none legal = absurd (omega (arith, lt))
  same_default (e ∷ js) (suc k) s t o lt r none legal =
      let s' = after syncs s e in
      let t' = after cut t e in
      let b = behind_one e k in
      let j = swaps_behind e k - 1 in
      let low : swap_entries js < swaps_behind e k = omega (arith, lt, b) in
      let some : swaps_behind e k ≡ suc j = omega (arith, low) in
      let r' = cut_step n syncs cut h k s t e r none legal.0 in
      let none' = past_after syncs s e none in
      let first = performed cut t e o in
      ap (default_from cut t' js)
      (same_issued j s' t' (is_member (client_count cut) e) (is_member (client_count syncs) e) first (ap (λ m. is_member m e) h.clients) (subst (λ i. IsCutAt syncs cut i s' t') some r') none'
      ∙ ap (all_added (is_member (client_count syncs) e) (stop syncs s') (client_count syncs)) (same_performed k s t e o r none))
      ∙ same_default js (swaps_behind e k) s' t' _ low r' none' legal.1

  default_first : (js : List Entry) (k : ℕ) (s t : SyncState) (o : List Name) → IsCutAt syncs cut (suc k) s t → AreOfClients syncs s → IsLegalFrom syncs s js → suc k ≤ swap_entries js
      → IsFront (default_from cut t (front_journal (suc k) js) o) (default_from syncs s js o)
  default_first [] k s t o r none legal le = absurd (omega (arith, le))
  default_first (e ∷ js) k s t o r none legal le =
      by (swaps_behind e k) refl (cut_step n syncs cut h k s t e r none legal.0)
      (λ j o' r' le'. default_first js j (after syncs s e) (after cut t e) o' r' (past_after syncs s e none) legal.1 le')
    where
      s' : SyncState
      s' = after syncs s e

      t' : SyncState
      t' = after cut t e

      first : List Name
      first = performed cut t e o

      next : List Name
      next = all_added (is_member (client_count cut) e) (stop cut t') (client_count cut) first

      whole : List Name
      whole = all_added (is_member (client_count syncs) e) (stop syncs s') (client_count syncs) (performed syncs s e o)

      nothing : (ks : List Entry) → default_from cut t' (front_journal 0 ks) next ≡ next
      nothing [] = refl
      nothing (x ∷ ks) = refl

      by : (j : ℕ) → swaps_behind e k ≡ j → IsCutAt syncs cut (swaps_behind e k) s' t'
          → ((j : ℕ) (o' : List Name) → IsCutAt syncs cut (suc j) s' t' → suc j ≤ swap_entries js → IsFront (default_from cut t' (front_journal (suc j) js) o') (default_from syncs s' js o'))
          → IsFront (default_from cut t' (front_journal (swaps_behind e k) js) next) (default_from syncs s' js whole)
      by zero z r' later =
          let left : (c : ℕ) → t'.rest c ≡ [] = λ c. r'.rest c ∙ ap (λ i. front_ops i (s'.rest c)) z ∙ front_none (s'.rest c) in
          let still : next ≡ first = all_still (is_member (client_count cut) e) (stop cut t') (client_count cut) first
          (λ c lt m. (
          let low = last_names k s t e o r (legal.0, tt) z c lt in
          let end = ap (λ ws. option_map_or (λ (w : WaitAt). w.place) (head_wait ws) (length_of cut c)) (left c) in omega (arith, low, end))) in
          let on : IsFront (performed syncs s e o) (default_from syncs s' js whole) =
          front_then (performed syncs s e o) whole (default_from syncs s' js whole) (front_all (is_member (client_count syncs) e) (stop syncs s') (client_count syncs) (performed syncs s e o))
          (front_default syncs s' js whole) in
          subst (λ i. IsFront (default_from cut t' (front_journal i js) next) (default_from syncs s' js whole)) (sym z)
          (subst (λ x. IsFront x (default_from syncs s' js whole)) (sym (nothing js ∙ still ∙ same_performed k s t e o r none)) on)
      by (suc j) z r' later =
          let b = behind_one e k in
          let r'' : IsCutAt syncs cut (suc j) s' t' = subst (λ i. IsCutAt syncs cut i s' t') z r' in
          let none' = past_after syncs s e none in
          let same : next ≡ whole =
          same_issued j s' t' (is_member (client_count cut) e) (is_member (client_count syncs) e) first (ap (λ m. is_member m e) h.clients) r'' none'
          ∙ ap (all_added (is_member (client_count syncs) e) (stop syncs s') (client_count syncs)) (same_performed k s t e o r none) in
          subst (λ i. IsFront (default_from cut t' (front_journal i js) next) (default_from syncs s' js whole)) (sym z)
          (subst (λ x. IsFront (default_from cut t' (front_journal (suc j) js) x) (default_from syncs s' js whole)) (sym same)
          (later j whole r'' (omega (arith, le, b, z))))

  default_goes_on_at : (k : ℕ) → n ≡ k → (js : List Entry) → IsLegal syncs js → ComesFirst (front_journal n js) (default_order cut (front_journal n js)) (default_order syncs js)
  default_goes_on_at zero z js legal =
      let nothing : default_order cut (front_journal n js) ≡ [] =
      ap (default_order cut) (ap (λ m. front_journal m js) z ∙ no_journal js)
      ∙ all_still everyone (stop cut (start cut)) (client_count cut) []
      (λ c lt t. (
      let none = h.none z c in
      let left = h.ops c ∙ ap (λ m. front_ops m (ops_of syncs c)) z ∙ front_none (ops_of syncs c) in
      let end = ap (λ ws. option_map_or (λ (w : WaitAt). w.place) (head_wait ws) (length_of cut c)) left in omega (arith, none, end))) in
      inr (subst (λ x. IsFront x (default_order syncs js)) (sym nothing) (default_order syncs js, refl), over_reach js legal (omega (arith, z)))
    where
      no_journal : (ks : List Entry) → front_journal 0 ks ≡ []
      no_journal [] = refl
      no_journal (e ∷ ks) = refl
  default_goes_on_at (suc k) z js legal =
      let r : IsCutAt syncs cut (suc k) (start syncs) (start cut) = subst (λ m. IsCutAt syncs cut m (start syncs) (start cut)) z (first_cut n syncs cut h) in
      let none = ops_past syncs in
      let first = all_added everyone (stop syncs (start syncs)) (client_count syncs) [] in
      let same : default_order cut (front_journal n js) ≡ default_from cut (start cut) (front_journal n js) first =
      ap (default_from cut (start cut) (front_journal n js)) (same_issued k (start syncs) (start cut) everyone everyone [] refl r none) in
      elim (cases_lt (swap_entries js) n) [
        | inl lt ↦
            inl (same ∙ ap (λ x. default_from cut (start cut) x first) (whole_journal js n lt)
            ∙ same_default js (suc k) (start syncs) (start cut) first (omega (arith, lt, z)) r none legal)
        | inr le ↦
            let on : IsFront (default_from cut (start cut) (front_journal n js) first) (default_order syncs js) =
            subst (λ m. IsFront (default_from cut (start cut) (front_journal m js) first) (default_order syncs js)) (sym z)
            (default_first js k (start syncs) (start cut) first r none legal (omega (arith, le, z))) in
            inr (subst (λ x. IsFront x (default_order syncs js)) (sym same) on, over_reach js legal le)
      ]

  pub default_goes_on : (js : List Entry) → IsLegal syncs js → ComesFirst (front_journal n js) (default_order cut (front_journal n js)) (default_order syncs js)
  default_goes_on js legal = default_goes_on_at n refl js legal

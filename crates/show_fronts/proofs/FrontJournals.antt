-- Lists of operations that are cut behind a Swap, and their journals: up to there the machine of the cut lists does what that of the whole ones does.
use Rattle.std.proofs.Common.{◌≡◌, ℕ, zero, suc, ◌+◌, ◌-◌, ◌^◌, ◌<◌, ◌≤◌, ◌==◌, min, nat_le, Bool, true, false, cond, List, [], ◌∷◌, ◌++◌, length, drop, Option, Some, None, inl, inr, refl, sym, ap, ◌∙◌, subst, arith, lt-ltb, ◌⊎◌, append_assoc, true≢false}
use Rattle.std.specs.Prelude.{option_map}
use Rattle.std.specs.Option.{option_or, option_map_or, unwrap_or}
use Rattle.std.proofs.lemmas.Bool.{cases_lt, cases_Bool}
use Rattle.rc_base.specs.Lists.{at_name}
use Rattle.rc_base.specs.Orders.Grant.{first, give_by, take_by, is_at_barrier, is_at_swap, lowest, grant, granted_from, operations_left}
use Rattle.rc_base.specs.Orders.Journal.{SyncState, start, next, stop, has, how_many, is_member, op_of, head_wait, units_after, after, end_of, IsCounted, IsLawful, IsLegalFrom, NothingIsLawful}
use Rattle.rc_base.specs.Orders.Order.{entry_at, default_journal}
use Rattle.rc_base.specs.Orders.Sync.{IsWellFormed, client_count, ops_of, length_of}
use Rattle.rc_base.specs.declared.sync.Entry.{Entry}
use Rattle.rc_base.specs.declared.sync.Entry.TheVariants.{Meet, Swap, Give, Take}
use Rattle.rc_base.specs.declared.sync.SyncLists.{SyncLists}
use Rattle.rc_base.specs.declared.sync.SyncOp.{SyncOp}
use Rattle.rc_base.specs.declared.sync.WaitAt.{WaitAt}
use Rattle.order_model.specs.Laws.{AreOfClients}
use Rattle.order_model.specs.Report.{is_swap_entry}
use Rattle.order_model.specs.declared.record.LogEntry.{LogEntry}
use Rattle.order_model.specs.declared.record.LogEntry.TheVariants.{Took, Performed}
use Rattle.order_model.proofs.ClientsBeyond.{ops_past, past_after, stop_past}
use Rattle.order_model.proofs.DefaultJournalIsMaximal.{uses_one}
use Rattle.order_model.proofs.GrantsAreExact.{grant_lawful, grant_none}
use Rattle.order_model.proofs.JournalsSwapAlike.{swap_entry, swap_entries}
use Rattle.order_model.proofs.MemberCounts.{some_member}
use Rattle.show_fronts.specs.Fronts.{swaps_behind, front_journal, front_log}

-- ---- operations that are cut

-- operations up to the n-th Swap, that included
abbrev pub front_ops : ℕ → List WaitAt → List WaitAt
front_ops n [] = []
front_ops zero (w ∷ ws) = []
front_ops (suc n) (w ∷ ws) = w ∷ front_ops (cond (is_at_swap (Some w.op)) n (suc n)) ws

-- how many Swaps there are
abbrev pub swap_count : List WaitAt → ℕ
swap_count [] = 0
swap_count (w ∷ ws) = cond (is_at_swap (Some w.op)) 1 0 + swap_count ws

pub front_none : (ws : List WaitAt) → front_ops 0 ws ≡ []
front_none [] = refl
front_none (w ∷ ws) = refl

pub front_append : (n : ℕ) (xs ys : List WaitAt) → front_ops n (xs ++ ys) ≡ front_ops n xs ++ front_ops (n - swap_count xs) ys
front_append n [] ys = let e : n - 0 ≡ n = omega arith in ap (λ k. front_ops k ys) (sym e)
front_append zero (x ∷ xs) ys = let e : 0 - swap_count (x ∷ xs) ≡ 0 = omega arith in sym (ap (λ k. front_ops k ys) e ∙ front_none ys)
front_append (suc n) (x ∷ xs) ys = elim (cases_Bool (is_at_swap (Some x.op))) [
  | inl t ↦ let e : suc n - (1 + swap_count xs) ≡ n - swap_count xs = omega arith in rw (t, e) (ap (λ l. x ∷ l) (front_append n xs ys))
  | inr f ↦ let e : suc n - (0 + swap_count xs) ≡ suc n - swap_count xs = omega arith in rw (f, e) (ap (λ l. x ∷ l) (front_append (suc n) xs ys))
]

-- the place of an operation, else the end of the stream
abbrev place_or : Option WaitAt → ℕ → ℕ
place_or o end = option_map_or (λ (w : WaitAt). w.place) o end

head_alike : (k : ℕ) (ws : List WaitAt) → head_wait (front_ops (suc k) ws) ≡ head_wait ws
head_alike k [] = refl
head_alike k (w ∷ ws) = refl

-- ---- what an entry leaves to come

pub one_swap : (b : Bool) (k : ℕ) → cond b k (suc k) + cond b 1 0 ≡ suc k
one_swap true k = omega arith
one_swap false k = omega arith

entry_counts : (e : Entry) → swap_entry e ≡ cond (is_swap_entry e) 1 0
entry_counts (Meet b m) = refl
entry_counts Swap = refl
entry_counts (Give k d) = refl
entry_counts (Take k d) = refl

pub behind_one : (e : Entry) (k : ℕ) → swaps_behind e k + swap_entry e ≡ suc k
behind_one e k = ap (λ n. swaps_behind e k + n) (entry_counts e) ∙ one_swap (is_swap_entry e) k

swap_of : (e : Entry) → is_at_swap (Some (op_of e)) ≡ is_swap_entry e
swap_of (Meet b m) = refl
swap_of Swap = refl
swap_of (Give k d) = refl
swap_of (Take k d) = refl

-- every client is a member of a Swap
swap_all : (n : ℕ) (e : Entry) (c : ℕ) → is_swap_entry e ≡ true → c < n → is_member n e c ≡ true
swap_all n Swap c t lt = lt-ltb c n lt
swap_all n (Meet b m) c t lt = absurd cc
swap_all n (Give k d) c t lt = absurd cc
swap_all n (Take k d) c t lt = absurd cc

-- so is one of the last Swap
pub last_member : (m k : ℕ) (e : Entry) → swaps_behind e k ≡ 0 → (c : ℕ) → c < m → is_member m e c ≡ true
last_member m k e z c lt = elim (cases_Bool (is_swap_entry e)) [
  | inl t ↦ swap_all m e c t lt
  | inr f ↦ (let more : suc k ≡ 0 = ap (λ b. cond b k (suc k)) (sym f) ∙ z in absurd (omega (arith, more)))
]

pub front_counts : (js : List Entry) (k : ℕ) → swap_entries (front_journal k js) ≡ min k (swap_entries js)
front_counts [] k = omega arith
front_counts (e ∷ js) zero = omega arith
front_counts (e ∷ js) (suc k) = let h = front_counts js (swaps_behind e k) in let b = behind_one e k in omega (arith, h, b)

pub whole_journal : (js : List Entry) (k : ℕ) → swap_entries js < k → front_journal k js ≡ js
whole_journal [] k lt = refl
whole_journal (e ∷ js) zero lt = absurd (omega (arith, lt))
whole_journal (e ∷ js) (suc k) lt = let b = behind_one e k in ap (λ es. e ∷ es) (whole_journal js (swaps_behind e k) (omega (arith, lt, b)))

pub whole_log : (log : List LogEntry) (js : List Entry) (k : ℕ) → swap_entries js < k → front_log k js log ≡ log
whole_log [] js k lt = refl
whole_log (line ∷ log) js zero lt = absurd (omega (arith, lt))
whole_log (Took c p ∷ log) js (suc k) lt = ap (λ ls. Took c p ∷ ls) (whole_log log js (suc k) lt)
whole_log (Performed ∷ log) [] (suc k) lt = ap (λ ls. Performed ∷ ls) (whole_log log [] (suc k) lt)
whole_log (Performed ∷ log) (e ∷ js) (suc k) lt = let b = behind_one e k in ap (λ ls. Performed ∷ ls) (whole_log log js (swaps_behind e k) (omega (arith, lt, b)))

-- ---- lists that are cut

-- the stream ends behind its last operation
abbrev pub IsLast : SyncLists → ℕ → Type 0
IsLast cut c = (before : List WaitAt) (w : WaitAt) → ops_of cut c ≡ before ++ w ∷ [] → length_of cut c ≡ w.place + 1

-- with k Swaps to come, these are too few, and the stream is whole, or it ends behind its last operation
abbrev pub Ends : SyncLists → SyncLists → ℕ → ℕ → List WaitAt → Type 0
Ends syncs cut c k ws = ((swap_count ws < k) × (length_of cut c ≡ length_of syncs c)) ⊎ ((k ≤ swap_count ws) × IsLast cut c)

-- the second lists are the first ones, each cut behind its n-th Swap
pub record AreCut (n : ℕ) (syncs cut : SyncLists) : Type 0 where
  pub clients : client_count cut ≡ client_count syncs
  pub counts : cut.counts ≡ syncs.counts
  pub units : cut.units ≡ syncs.units
  pub ops : (c : ℕ) → ops_of cut c ≡ front_ops n (ops_of syncs c)
  pub none : n ≡ 0 → (c : ℕ) → length_of cut c ≡ 0
  pub ends : (c : ℕ) → c < client_count syncs → Ends syncs cut c n (ops_of syncs c)

-- so stand the two machines to each other, where k Swaps are still to come
pub record IsCutAt (syncs cut : SyncLists) (k : ℕ) (s t : SyncState) : Type 0 where
  pub rest : (c : ℕ) → t.rest c ≡ front_ops k (s.rest c)
  pub units : t.units ≡ s.units
  pub ends : (c : ℕ) → c < client_count syncs → Ends syncs cut c k (s.rest c)
  pub tail : (c : ℕ) → (before : List WaitAt) × (ops_of cut c ≡ before ++ t.rest c)

-- what is lawful goes by the next operations, the counts and the units
counted_alike : (syncs cut : SyncLists) (s t : SyncState) (e : Entry) → client_count cut ≡ client_count syncs → cut.counts ≡ syncs.counts → t.units ≡ s.units
    → IsCounted syncs s e → IsCounted cut t e
counted_alike syncs cut s t (Meet b m) n k u p = (
  subst (λ j. m < 2 ^ j) (sym n) p.0,
  subst (λ j. at_name cut.counts b ≡ Some (how_many (has m) j)) (sym n) (ap (λ cs. at_name cs b) k ∙ p.1),
)
counted_alike syncs cut s t Swap n k u p = tt
counted_alike syncs cut s t (Give j d) n k u p = tt
counted_alike syncs cut s t (Take j d) n k u p = subst (λ (us : ℕ → ℕ). 0 < us j) (sym u) p

lawful_alike : (syncs cut : SyncLists) (s t : SyncState) (e : Entry) → client_count cut ≡ client_count syncs → cut.counts ≡ syncs.counts → t.units ≡ s.units
    → ((c : ℕ) → next t c ≡ next s c) → IsLawful syncs s e → IsLawful cut t e
lawful_alike syncs cut s t e n k u nx p = record {
  next = λ c i. nx c ∙ p.next c (subst (λ m. is_member m e c ≡ true) n i);
  counted = counted_alike syncs cut s t e n k u p.counted;
}

-- and so is what is granted
grant_alike : (syncs cut : SyncLists) (s t : SyncState) → client_count cut ≡ client_count syncs → cut.counts ≡ syncs.counts → t.units ≡ s.units
    → ((c : ℕ) → next t c ≡ next s c) → grant cut t ≡ grant syncs s
grant_alike syncs cut s t n k u nx =
    λ i. option_or (first (λ c. give_by c (nx c i)) 0 (n i))
    (option_or (first (λ c. take_by (u i) c (nx c i)) 0 (n i))
    (option_or (first (λ b. option_map_or (λ count. cond (nat_le count (how_many (λ c. is_at_barrier b (nx c i)) (n i))) (Some (Meet b (lowest (λ c. is_at_barrier b (nx c i)) count (n i)))) None) (at_name (k i) b) None) 1 (length (k i)))
    (cond (how_many (λ c. is_at_swap (nx c i)) (n i) == n i) (Some Swap) None)))

used_op : (ws : List WaitAt) (o : SyncOp) → option_map (λ (w : WaitAt). w.op) (head_wait ws) ≡ Some o → (w : WaitAt) × (more : List WaitAt) × (ws ≡ w ∷ more) × (w.op ≡ o)
used_op [] o e = absurd cc
used_op (w ∷ ws) o e = let same : w.op ≡ o = cc in (w, ws, refl, same)

tail_step : (b : Bool) (ops ws : List WaitAt) → (before : List WaitAt) × (ops ≡ before ++ ws) → (before : List WaitAt) × (ops ≡ before ++ cond b (drop 1 ws) ws)
tail_step false ops ws x = x
tail_step true ops [] x = x
tail_step true ops (w ∷ ws) x = (x.0 ++ w ∷ [], x.1 ∙ sym (append_assoc x.0 (w ∷ []) ws))

-- the default journal, entry by entry: each is granted, and at last none is
abbrev AreGranted : SyncLists → SyncState → List Entry → Type 0
AreGranted syncs s [] = grant syncs s ≡ None
AreGranted syncs s (e ∷ js) = (grant syncs s ≡ Some e) × AreGranted syncs (after syncs s e) js

one_grant : (syncs : SyncLists) (s : SyncState) (js ks : List Entry) → AreGranted syncs s js → AreGranted syncs s ks → js ≡ ks
one_grant syncs s [] [] a b = refl
one_grant syncs s [] (k ∷ ks) a b = absurd (let x = b.0 in cc (a, x))
one_grant syncs s (j ∷ js) [] a b = absurd (let x = a.0 in cc (b, x))
one_grant syncs s (j ∷ js) (k ∷ ks) a b =
    let p : grant syncs s ≡ Some j = a.0 in
    let q : grant syncs s ≡ Some k = b.0 in
    let same : j ≡ k = (let r : Some j ≡ Some k = sym p ∙ q in cc) in
    ap (λ x. x ∷ js) same ∙ ap (λ xs. k ∷ xs) (one_grant syncs (after syncs s k) js ks (subst (λ x. AreGranted syncs (after syncs s x) js) same a.1) b.1)

are_granted : (syncs : SyncLists) → IsWellFormed syncs → (n : ℕ) (s : SyncState) → AreOfClients syncs s → operations_left s.rest (client_count syncs) ≤ n
    → AreGranted syncs s (granted_from syncs n s)
are_granted syncs well zero s none le = (grant_none syncs s none).1 (λ e p. let u = uses_one syncs s well none e p in omega (arith, u, le))
are_granted syncs well (suc n) s none le = go (grant syncs s) refl
    (λ e p. are_granted syncs well n (after syncs s e) (past_after syncs s e none) (let u = uses_one syncs s well none e p in omega (arith, u, le)))
  where
    go : (o : Option Entry) → grant syncs s ≡ o → ((e : Entry) → IsLawful syncs s e → AreGranted syncs (after syncs s e) (granted_from syncs n (after syncs s e)))
        → AreGranted syncs s (option_map_or (λ e. e ∷ granted_from syncs n (after syncs s e)) o [])
    go None h f = h
    go (Some e) h f = (h, f e (grant_lawful syncs s e h))

empty_stays : (syncs : SyncLists) (js : List Entry) (s : SyncState) → ((c : ℕ) → s.rest c ≡ []) → (c : ℕ) → (end_of syncs s js).rest c ≡ []
empty_stays syncs [] s h c = h c
empty_stays syncs (e ∷ js) s h c = empty_stays syncs js (after syncs s e) (λ d. none (is_member (client_count syncs) e d) (s.rest d) (h d)) c
  where
    none : (b : Bool) (ws : List WaitAt) → ws ≡ [] → cond b (drop 1 ws) ws ≡ []
    none true ws e = ap (drop 1) e
    none false ws e = e

module _ (n : ℕ) (syncs cut : SyncLists) (h : AreCut n syncs cut) where
  pub first_cut : IsCutAt syncs cut n (start syncs) (start cut)
  first_cut = record {
    rest = h.ops;
    units = λ i k. unwrap_or (at_name (h.units i) k) 0;
    ends = h.ends;
    tail = λ c. ([], refl);
  }

  pub cut_past : (k : ℕ) (s t : SyncState) → IsCutAt syncs cut k s t → AreOfClients syncs s → AreOfClients cut t
  cut_past k s t r none c le = r.rest c ∙ ap (front_ops k) (none c (subst (λ m. m ≤ c) h.clients le))

  pub heads_alike : (k : ℕ) (s t : SyncState) → IsCutAt syncs cut (suc k) s t → (c : ℕ) → head_wait (t.rest c) ≡ head_wait (s.rest c)
  heads_alike k s t r c = ap head_wait (r.rest c) ∙ head_alike k (s.rest c)

  next_alike : (k : ℕ) (s t : SyncState) → IsCutAt syncs cut (suc k) s t → (c : ℕ) → next t c ≡ next s c
  next_alike k s t r c = ap (option_map (λ (w : WaitAt). w.op)) (heads_alike k s t r c)

  pub at_alike : (k : ℕ) (s t : SyncState) → IsCutAt syncs cut (suc k) s t → (e : Entry) (c : ℕ) → (entry_at cut t e).at c ≡ (entry_at syncs s e).at c
  at_alike k s t r e c = let heads = heads_alike k s t r c in λ i. cond (is_member (h.clients i) e c) (option_map (λ (w : WaitAt). w.place) (heads i)) None

  pub stop_alike : (k : ℕ) (s t : SyncState) → IsCutAt syncs cut (suc k) s t → AreOfClients syncs s → (c : ℕ) → stop cut t c ≡ stop syncs s c
  stop_alike k s t r none c = elim (cases_lt c (client_count syncs)) [
    | inl lt ↦ within lt (s.rest c) refl
    | inr ge ↦ stop_past cut t (cut_past (suc k) s t r none) c (subst (λ m. m ≤ c) (sym h.clients) ge) ∙ sym (stop_past syncs s none c ge)
  ]
    where
      within : c < client_count syncs → (ws : List WaitAt) → s.rest c ≡ ws → stop cut t c ≡ stop syncs s c
      within lt [] e = let heads = heads_alike k s t r c in elim (r.ends c lt) [
        | inl q ↦ (let same = q.1 in λ i. place_or (heads i) (same i))
        | inr q ↦ (let few = q.0 in absurd (omega (arith, few, ap swap_count e)))
      ]
      within lt (w ∷ ws) e =
          ap (λ o. place_or o (length_of cut c)) (heads_alike k s t r c)
          ∙ ap (λ l. place_or (head_wait l) (length_of cut c)) e ∙ sym (ap (λ l. place_or (head_wait l) (length_of syncs c)) e)

  pub cut_lawful : (k : ℕ) (s t : SyncState) (e : Entry) → IsCutAt syncs cut (suc k) s t → IsLawful syncs s e → IsLawful cut t e
  cut_lawful k s t e r p = lawful_alike syncs cut s t e h.clients h.counts r.units (next_alike k s t r) p

  whole_lawful : (k : ℕ) (s t : SyncState) (e : Entry) → IsCutAt syncs cut (suc k) s t → IsLawful cut t e → IsLawful syncs s e
  whole_lawful k s t e r p = lawful_alike cut syncs t s e (sym h.clients) (sym h.counts) (sym r.units) (λ c. sym (next_alike k s t r c)) p

  -- an entry more
  rest_step : (k : ℕ) (s t : SyncState) (e : Entry) → IsCutAt syncs cut (suc k) s t → AreOfClients syncs s → IsLawful syncs s e → (c : ℕ)
      → cond (is_member (client_count syncs) e c) (drop 1 (t.rest c)) (t.rest c)
      ≡ front_ops (swaps_behind e k) (cond (is_member (client_count syncs) e c) (drop 1 (s.rest c)) (s.rest c))
  rest_step k s t e r none p c = elim (cases_Bool (is_member (client_count syncs) e c)) [
    | inl m ↦
        let u = used_op (s.rest c) (op_of e) (p.next c m) in
        let w = u.0 in
        let is = u.2 in
        let swap : is_at_swap (Some w.op) ≡ is_swap_entry e = ap (λ o. is_at_swap (Some o)) u.3 ∙ swap_of e in
        rw m (ap (drop 1) (r.rest c ∙ ap (front_ops (suc k)) is) ∙ ap (λ b. front_ops (cond b k (suc k)) u.1) swap ∙ sym (ap (λ l. front_ops (swaps_behind e k) (drop 1 l)) is))
    | inr f ↦ rw f (elim (cases_Bool (is_swap_entry e)) [
      | inl t' ↦ elim (cases_lt c (client_count syncs)) [
        | inl lt ↦ absurd (true≢false (sym (swap_all (client_count syncs) e c t' lt) ∙ f))
        | inr ge ↦ let z = none c ge in r.rest c ∙ ap (front_ops (suc k)) z ∙ sym (ap (front_ops (swaps_behind e k)) z)
      ]
      | inr f' ↦ r.rest c ∙ ap (λ b. front_ops (cond b k (suc k)) (s.rest c)) (sym f')
    ])
  ]

  pub count_step : (s : SyncState) (e : Entry) → IsLawful syncs s e → (c : ℕ) → c < client_count syncs
      → swap_count ((after syncs s e).rest c) + cond (is_swap_entry e) 1 0 ≡ swap_count (s.rest c)
  count_step s e p c lt = elim (cases_Bool (is_member (client_count syncs) e c)) [
    | inl m ↦
        let u = used_op (s.rest c) (op_of e) (p.next c m) in
        let is = u.2 in
        let swap : is_at_swap (Some (u.0).op) ≡ is_swap_entry e = ap (λ o. is_at_swap (Some o)) u.3 ∙ swap_of e in
        let now = ap swap_count is in
        let then = ap (λ l. swap_count (drop 1 l)) is in
        let ones = ap (λ b. cond {A = ℕ} b 1 0) swap in
        rw m (omega (arith, now, then, ones))
    | inr f ↦ rw f (elim (cases_Bool (is_swap_entry e)) [
      | inl t' ↦ absurd (true≢false (sym (swap_all (client_count syncs) e c t' lt) ∙ f))
      | inr f' ↦ rw f' (omega arith)
    ])
  ]

  pub cut_step : (k : ℕ) (s t : SyncState) (e : Entry) → IsCutAt syncs cut (suc k) s t → AreOfClients syncs s → IsLawful syncs s e
      → IsCutAt syncs cut (swaps_behind e k) (after syncs s e) (after cut t e)
  cut_step k s t e r none p = record {
    rest = λ c. ap (λ m. cond (is_member m e c) (drop 1 (t.rest c)) (t.rest c)) h.clients ∙ rest_step k s t e r none p c;
    units = ap (units_after e) r.units;
    ends = λ c lt.
        let one = one_swap (is_swap_entry e) k in
        let count = count_step s e p c lt in
        elim (r.ends c lt) [
          | inl q ↦ (let few = q.0 in inl (omega (arith, few, one, count), q.1))
          | inr q ↦ (let many = q.0 in inr (omega (arith, many, one, count), q.1))
        ];
    tail = λ c. tail_step (is_member (client_count cut) e c) (ops_of cut c) (t.rest c) (r.tail c);
  }

  -- the last Swap stands at the end of each cut stream
  pub last_stop : (k : ℕ) (s t : SyncState) (e : Entry) → IsCutAt syncs cut (suc k) s t → IsLawful syncs s e → swaps_behind e k ≡ 0
      → (c : ℕ) → c < client_count syncs → length_of cut c ≤ stop cut t c + 1
  last_stop k s t e r p z c lt = elim (cases_Bool (is_swap_entry e)) [
    | inl t' ↦
        let u = used_op (s.rest c) (op_of e) (p.next c (swap_all (client_count syncs) e c t' lt)) in
        let w = u.0 in
        let is = u.2 in
        let swap : is_at_swap (Some w.op) ≡ true = ap (λ o. is_at_swap (Some o)) u.3 ∙ swap_of e ∙ t' in
        let none : k ≡ 0 = ap (λ b. cond b k (suc k)) (sym t') ∙ z in
        let left : t.rest c ≡ w ∷ [] =
        r.rest c ∙ ap (front_ops (suc k)) is ∙ ap (λ b. w ∷ front_ops (cond b k (suc k)) u.1) swap ∙ ap (λ m. w ∷ front_ops m u.1) none ∙ ap (λ l. w ∷ l) (front_none u.1) in
        let stands : stop cut t c ≡ w.place = ap (λ l. option_map_or (λ (v : WaitAt). v.place) (head_wait l) (length_of cut c)) left in
        elim (r.ends c lt) [
          | inl q ↦ (let few = q.0 in let now = ap swap_count is in let one = ap (λ b. cond {A = ℕ} b 1 0) swap in absurd (omega (arith, few, now, one, none)))
          | inr q ↦ (let b = r.tail c in let end = q.1 b.0 w (b.1 ∙ ap (λ l. b.0 ++ l) left) in omega (arith, end, stands))
        ]
    | inr f' ↦ (let more : suc k ≡ 0 = ap (λ b. cond b k (suc k)) (sym f') ∙ z in absurd (omega (arith, more)))
  ]

  -- ---- journals

  pub cut_legal : (js : List Entry) (k : ℕ) (s t : SyncState) → IsCutAt syncs cut k s t → AreOfClients syncs s → IsLegalFrom syncs s js
      → IsLegalFrom cut t (front_journal k js)
  cut_legal [] k s t r none l = tt
  cut_legal (e ∷ js) zero s t r none l = tt
  cut_legal (e ∷ js) (suc k) s t r none l =
      (cut_lawful k s t e r l.0, cut_legal js (swaps_behind e k) (after syncs s e) (after cut t e) (cut_step k s t e r none l.0) (past_after syncs s e none) l.1)

  -- behind the n-th Swap nothing is left
  none_left : (s t : SyncState) → IsCutAt syncs cut 0 s t → (c : ℕ) → t.rest c ≡ []
  none_left s t r c = r.rest c ∙ front_none (s.rest c)

  pub cut_over : (js : List Entry) (k : ℕ) (s t : SyncState) → IsCutAt syncs cut k s t → AreOfClients syncs s → IsLegalFrom syncs s js → k ≤ swap_entries js
      → (c : ℕ) → (end_of cut t (front_journal k js)).rest c ≡ []
  cut_over [] zero s t r none l le c = none_left s t r c
  cut_over [] (suc k) s t r none l le c = absurd (omega (arith, le))
  cut_over (e ∷ js) zero s t r none l le c = none_left s t r c
  cut_over (e ∷ js) (suc k) s t r none l le c =
      let b = behind_one e k in
      cut_over js (swaps_behind e k) (after syncs s e) (after cut t e) (cut_step k s t e r none l.0) (past_after syncs s e none) l.1 (omega (arith, le, b)) c

  -- where fewer Swaps come, both journals end alike
  pub cut_end : (js : List Entry) (k j : ℕ) (s t : SyncState) → k ≡ swap_entries js + suc j → IsCutAt syncs cut k s t → AreOfClients syncs s → IsLegalFrom syncs s js
      → IsCutAt syncs cut (suc j) (end_of syncs s js) (end_of cut t (front_journal k js))
  cut_end [] k j s t e r none l = let same : k ≡ suc j = omega (arith, e) in subst (λ m. IsCutAt syncs cut m s t) same r
  cut_end (x ∷ js) zero j s t e r none l = absurd (omega (arith, e))
  cut_end (x ∷ js) (suc k) j s t e r none l =
      let b = behind_one x k in
      cut_end js (swaps_behind x k) j (after syncs s x) (after cut t x) (omega (arith, e, b)) (cut_step k s t x r none l.0) (past_after syncs s x none) l.1

  cut_some : IsWellFormed syncs → 0 < client_count cut
  cut_some well = subst (λ m. 0 < m) (sym h.clients) well.some

  cut_counts : IsWellFormed syncs → (b k : ℕ) → at_name cut.counts b ≡ Some k → 0 < k
  cut_counts well b k e = well.counts b k (ap (λ cs. at_name cs b) (sym h.counts) ∙ e)

  nothing_over : IsWellFormed syncs → (t : SyncState) → ((c : ℕ) → t.rest c ≡ []) → NothingIsLawful cut t
  nothing_over well t gone e p =
      let m = some_member cut t (cut_some well) (cut_counts well) e p in
      let is : next t m.0 ≡ Some (op_of e) = p.next m.0 m.1 in
      let none : next t m.0 ≡ None = ap (λ ws. option_map (λ (w : WaitAt). w.op) (head_wait ws)) (gone m.0) in
      cc (is, none)

  pub cut_nothing : IsWellFormed syncs → (js : List Entry) (k : ℕ) (s t : SyncState) → IsCutAt syncs cut k s t → AreOfClients syncs s → IsLegalFrom syncs s js
      → NothingIsLawful syncs (end_of syncs s js) → NothingIsLawful cut (end_of cut t (front_journal k js))
  cut_nothing well js k s t r none l over = elim (cases_lt (swap_entries js) k) [
    | inl lt ↦
        let j = k - swap_entries js - 1 in
        let r' = cut_end js k j s t (omega (arith, lt)) r none l in
        λ e p. over e (whole_lawful j (end_of syncs s js) (end_of cut t (front_journal k js)) e r' p)
    | inr ge ↦ nothing_over well (end_of cut t (front_journal k js)) (cut_over js k s t r none l ge)
  ]

  -- the default one
  cut_granted : IsWellFormed syncs → (js : List Entry) (k : ℕ) (s t : SyncState) → IsCutAt syncs cut k s t → AreOfClients syncs s → AreGranted syncs s js
      → AreGranted cut t (front_journal k js)
  cut_granted well [] zero s t r none g = (grant_none cut t (cut_past 0 s t r none)).1 (nothing_over well t (none_left s t r))
  cut_granted well [] (suc k) s t r none g = grant_alike syncs cut s t h.clients h.counts r.units (next_alike k s t r) ∙ g
  cut_granted well (e ∷ js) zero s t r none g = (grant_none cut t (cut_past 0 s t r none)).1 (nothing_over well t (none_left s t r))
  cut_granted well (e ∷ js) (suc k) s t r none g =
      let p = grant_lawful syncs s e g.0 in (
        grant_alike syncs cut s t h.clients h.counts r.units (next_alike k s t r) ∙ g.0,
        cut_granted well js (swaps_behind e k) (after syncs s e) (after cut t e) (cut_step k s t e r none p) (past_after syncs s e none) g.1,
      )

  pub cut_default : IsWellFormed syncs → IsWellFormed cut → default_journal cut ≡ front_journal n (default_journal syncs)
  cut_default well well' =
      let left = operations_left (ops_of syncs) (client_count syncs) in
      let left' = operations_left (ops_of cut) (client_count cut) in
      one_grant cut (start cut) (default_journal cut) (front_journal n (default_journal syncs))
      (are_granted cut well' left' (start cut) (ops_past cut) (omega arith))
      (cut_granted well (default_journal syncs) n (start syncs) (start cut) first_cut (ops_past syncs) (are_granted syncs well left (start syncs) (ops_past syncs) (omega arith)))

  -- ---- journals of the cut lists themselves

  -- they are legal for the whole lists
  pub whole_legal : IsWellFormed syncs → (js : List Entry) (k : ℕ) (s t : SyncState) → IsCutAt syncs cut k s t → AreOfClients syncs s → IsLegalFrom cut t js → IsLegalFrom syncs s js
  whole_legal well [] k s t r none l = tt
  whole_legal well (e ∷ js) zero s t r none l = absurd (nothing_over well t (none_left s t r) e l.0)
  whole_legal well (e ∷ js) (suc k) s t r none l =
      let p = whole_lawful k s t e r l.0 in
      (p, whole_legal well js (swaps_behind e k) (after syncs s e) (after cut t e) (cut_step k s t e r none p) (past_after syncs s e none) l.1)

  pub over_where_shown : (js : List Entry) (k : ℕ) (s t : SyncState) → IsCutAt syncs cut k s t → AreOfClients syncs s → IsLegalFrom cut t js → swap_entries js ≡ k
      → (c : ℕ) → (end_of cut t js).rest c ≡ []
  over_where_shown [] k s t r none l e c = r.rest c ∙ ap (λ m. front_ops m (s.rest c)) (sym e) ∙ front_none (s.rest c)
  over_where_shown (x ∷ js) zero s t r none l e c = empty_stays cut (x ∷ js) t (none_left s t r) c
  over_where_shown (x ∷ js) (suc k) s t r none l e c =
      let p = whole_lawful k s t x r l.0 in
      let b = behind_one x k in
      over_where_shown js (swaps_behind x k) (after syncs s x) (after cut t x) (cut_step k s t x r none p) (past_after syncs s x none) l.1 (omega (arith, e, b)) c

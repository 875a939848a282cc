-- What is kept behind an entry more of a journal.
use Rattle.std.proofs.Common.{◌≡◌, ◌≢◌, ℕ, zero, suc, ◌+◌, ◌-◌, ◌^◌, ◌<◌, ◌≤◌, ◌==◌, nat_lt, true, cond, max, List, [], ◌∷◌, ◌++◌, take, drop, length, get_or, Option, Some, None, inl, inr, refl, sym, ap, ◌∙◌, subst, arith, eq-eqb, eqb-true, ne_eqb, append-nil, lt-ltb, replicate}
use Rattle.std.specs.Prelude.{slice_get, slice_set, slice_index, slice_index_or, option_map}
use Rattle.std.proofs.lemmas.Bool.{cases_Bool, cases_lt, eqb-false, le-ltb}
use Rattle.std.proofs.lemmas.List.{get_or_past, get_or_default, get_or-set_same, get_or-set_other, length-append}
use Rattle.std.proofs.Math.ListN.{length-set}
use Rattle.std.proofs.lemmas.Option.{slice_get_within, get_or_from_slice_get}
use mathlib.Core.Path.{fun_ext}
use Rattle.rc_base.specs.Orders.Journal.{SyncState, start, after, end_of, is_member, stop, reach_of, sync_state_after, IsLawful, IsLegal}
use Rattle.rc_base.specs.Orders.Order.{entries_of, name_at, giver_in, taker_in, givers, takers}
use Rattle.rc_base.specs.Orders.Sync.{IsWellFormed, client_count, ops_of, units_of}
use Rattle.rc_base.specs.declared.sync.Entry.{Entry}
use Rattle.rc_base.specs.declared.sync.Entry.TheVariants.{Meet, Swap, Give, Take}
use Rattle.rc_base.specs.declared.sync.Name.{Name}
use Rattle.rc_base.specs.declared.sync.SyncLists.{SyncLists}
use Rattle.rc_base.specs.declared.sync.WaitAt.{WaitAt}
use Rattle.order_model.specs.Checked.{place_by}
use Rattle.order_model.specs.Counted.{used_by, AreUsed}
use Rattle.order_model.proofs.ClientsBeyond.{ops_past, reach_past}
use Rattle.order_model.proofs.UsedOperations.{entry_place}
use Rattle.order_model.proofs.RecordedByCounts.{zeros, used_step}
use Rattle.rc_base.specs.Orders.Order.Precedes.{SameClient}
use Rattle.happens_before.specs.Before.{IsBefore}
use Rattle.happens_before.specs.Before.IsBefore.{Next}
use Rattle.happens_before.specs.Clocks.{IsExact, up_to, raised, only, AreClocks}
use Rattle.happens_before.specs.Timelines.{before_at, clock_of, AreChanges, AreOrdered, AreTimelines, IsLeft, IsKept, IsRead, IsUnitEntry, IsGate, behind, places_in, no_semaphore}
use Rattle.happens_before.specs.declared.semaphores.Semaphore.{Semaphore}
use Rattle.happens_before.specs.declared.timelines.Change.{Change}
use Rattle.happens_before.proofs.ChangesInTurn.{up_to_more}
use Rattle.happens_before.proofs.ClocksOfEntries.{clocks_exact}
use Rattle.happens_before.proofs.GatesOfMembers.{clock_same, raised_not}
use Rattle.happens_before.proofs.JournalsGoOn.{legal_split, entries_next, givers_append, takers_append, placed_in, member_place, member_stops, units_balance, whole_reached, whole_client, give_goes_on, first_goes_on, take_goes_on, members_go_on}

-- ---- a journal around one of its entries

pub around : (journal : List Entry) (k : ℕ) (e : Entry) → slice_get journal k ≡ Some e → (journal ≡ take k journal ++ e ∷ drop (k + 1) journal) × (take (k + 1) journal ≡ take k journal ++ e ∷ [])
around [] k e h = absurd cc
around (x ∷ js) zero e h = let s : x ≡ e = cc in (ap (λ y. y ∷ js) s, ap (λ y. y ∷ []) s)
around (x ∷ js) (suc k) e h =
    let r = around js k e h in
    let step : suc k + 1 ≡ suc (k + 1) = omega arith in
    (ap (λ ys. x ∷ ys) r.0 ∙ ap (λ n. x ∷ take k js ++ e ∷ drop n (x ∷ js)) (sym step), ap (λ n. take n (x ∷ js)) step ∙ ap (λ ys. x ∷ ys) r.1)

pub legal_here : (syncs : SyncLists) (js : List Entry) (e : Entry) (more : List Entry) → IsLegal syncs (js ++ e ∷ more) → IsLegal syncs js × IsLawful syncs (sync_state_after syncs js) e
legal_here syncs js e more h = let r = legal_split syncs (start syncs) js (e ∷ more) h in (r.0, r.1.0)

end_append : (syncs : SyncLists) (s : SyncState) (xs ys : List Entry) → end_of syncs s (xs ++ ys) ≡ end_of syncs (end_of syncs s xs) ys
end_append syncs s [] ys = refl
end_append syncs s (x ∷ xs) ys = end_append syncs (after syncs s x) xs ys

reach_more : (syncs : SyncLists) (js : List Entry) (e : Entry) → IsWellFormed syncs → IsLawful syncs (sync_state_after syncs js) e → (c : ℕ) → reach_of syncs js c ≤ reach_of syncs (js ++ e ∷ []) c
reach_more syncs js e well lawful c = elim (cases_Bool (is_member (client_count syncs) e c)) [
  | inl t ↦
      let r = member_place syncs (sync_state_after syncs js) e lawful c t in
      let here = member_stops syncs (sync_state_after syncs js) e c r.0 r.1 in
      let below = whole_reached syncs js e [] well c r.0 r.1 in
      omega arith
  | inr f ↦
      let next : reach_of syncs (js ++ e ∷ []) c ≡ stop syncs (after syncs (sync_state_after syncs js) e) c = ap (λ s. stop syncs s c) (end_append syncs (start syncs) js (e ∷ [])) in
      let same : stop syncs (after syncs (sync_state_after syncs js) e) c ≡ reach_of syncs js c = rw f refl in
      omega arith
]

timelines_more : (syncs : SyncLists) (js : List Entry) (e : Entry) (lists : List (List Change)) → IsWellFormed syncs → IsLawful syncs (sync_state_after syncs js) e → AreTimelines lists (reach_of syncs js)
    → AreTimelines lists (reach_of syncs (js ++ e ∷ []))
timelines_more syncs js e lists well lawful h = record {
  clients = h.clients;
  changes = λ c lt. up_to_more 0 (slice_index_or lists c []) (reach_of syncs js c) (reach_of syncs (js ++ e ∷ []) c) (h.changes c lt) (reach_more syncs js e well lawful c);
}

givers_next : (syncs : SyncLists) (js : List Entry) (e : Entry) (k : ℕ) → givers k (entries_of syncs (js ++ e ∷ [])) ≡ givers k (entries_of syncs js) ++ giver_in k e (placed_in syncs js e).at
givers_next syncs js e k =
    ap (givers k) (entries_next syncs js e) ∙ givers_append k (entries_of syncs js) (placed_in syncs js e ∷ []) ∙ ap (λ xs. givers k (entries_of syncs js) ++ xs) (append-nil (giver_in k e (placed_in syncs js e).at))

takers_next : (syncs : SyncLists) (js : List Entry) (e : Entry) (k : ℕ) → takers k (entries_of syncs (js ++ e ∷ [])) ≡ takers k (entries_of syncs js) ++ taker_in k e (placed_in syncs js e).at
takers_next syncs js e k =
    ap (takers k) (entries_next syncs js e) ∙ takers_append k (entries_of syncs js) (placed_in syncs js e ∷ []) ∙ ap (λ xs. takers k (entries_of syncs js) ++ xs) (append-nil (taker_in k e (placed_in syncs js e).at))

left_same : (syncs : SyncLists) (js : List Entry) (e : Entry) (k : ℕ) (s : Semaphore) → IsLeft syncs (entries_of syncs js) k s → giver_in k e (placed_in syncs js e).at ≡ [] → taker_in k e (placed_in syncs js e).at ≡ []
    → IsLeft syncs (entries_of syncs (js ++ e ∷ [])) k s
left_same syncs js e k s h g t =
    let gs : givers k (entries_of syncs (js ++ e ∷ [])) ≡ givers k (entries_of syncs js) = givers_next syncs js e k ∙ ap (λ xs. givers k (entries_of syncs js) ++ xs) g ∙ append-nil (givers k (entries_of syncs js)) in
    let ts : takers k (entries_of syncs (js ++ e ∷ [])) ≡ takers k (entries_of syncs js) = takers_next syncs js e k ∙ ap (λ xs. takers k (entries_of syncs js) ++ xs) t ∙ append-nil (takers k (entries_of syncs js)) in
    record { left = h.left ∙ ap (λ xs. units_of syncs k - length xs) (sym ts); given = h.given ∙ sym gs; next = h.next ∙ ap (λ xs. length xs - units_of syncs k) (sym ts); small = h.small }

not_given : (k name c : ℕ) (o : Option ℕ) → name ≢ k → cond (k == name) (name_at c o) [] ≡ []
not_given k name c o ne = let no : k ≢ name = λ e. ne (sym e) in rw (ne_eqb k name no) refl

is_given : (k c j : ℕ) (o : Option ℕ) → o ≡ Some j → cond (k == k) (name_at c o) [] ≡ record { client = c; place = j } ∷ []
is_given k c j o e = rw (eq-eqb k k refl) (ap (name_at c) e)

-- ---- a unit is given

small_more : (gs : List Name) (n : Name) → ((k : ℕ) (g : Name) → slice_get gs k ≡ Some g → (g.client < 8) × (g.place + 1 < 2 ^ 32)) → (n.client < 8) × (n.place + 1 < 2 ^ 32)
    → (k : ℕ) (g : Name) → slice_get (gs ++ n ∷ []) k ≡ Some g → (g.client < 8) × (g.place + 1 < 2 ^ 32)
small_more [] n h hn zero g e = let s : n ≡ g = cc in subst (λ (x : Name). (x.client < 8) × (x.place + 1 < 2 ^ 32)) s hn
small_more [] n h hn (suc k) g e = absurd cc
small_more (x ∷ gs) n h hn zero g e = h 0 g e
small_more (x ∷ gs) n h hn (suc k) g e = small_more gs n (λ j y f. h (suc j) y f) hn k g e

pub kept_give : (syncs : SyncLists) (js more : List Entry) (k c j : ℕ) (old new : List Semaphore) (lists : List (List Change)) → IsWellFormed syncs → IsLegal syncs (js ++ Give k c ∷ more)
    → k < 256 → c < 8 → j + 1 < 2 ^ 32 → (placed_in syncs js (Give k c)).at c ≡ Some j → IsKept syncs (js ++ Give k c ∷ more) js old lists → length new ≡ 256
    → slice_index_or new k no_semaphore ≡ record {
      left = (slice_index_or old k no_semaphore).left;
      givers = (slice_index_or old k no_semaphore).givers ++ record { client = c; place = j } ∷ [];
      next = (slice_index_or old k no_semaphore).next;
    }
    → ((name : ℕ) → name ≢ k → slice_index_or new name no_semaphore ≡ slice_index_or old name no_semaphore)
    → IsKept syncs (js ++ Give k c ∷ more) (js ++ Give k c ∷ []) new lists
kept_give syncs js more k c j old new lists well legal named client small at h count mine others = record {
  names = count;
  units = λ name lt. elim (cases_Bool (name == k)) [
    | inl t ↦ let same : k ≡ name = sym (eqb-true name k t) in subst (λ x. IsLeft syncs (entries_of syncs (js ++ e ∷ [])) x (slice_index_or new x no_semaphore)) same here
    | inr f ↦
        let ne = eqb-false name k f in
        subst (IsLeft syncs (entries_of syncs (js ++ e ∷ [])) name) (sym (others name ne))
        (left_same syncs js e name (slice_index_or old name no_semaphore) (h.units name lt) (not_given k name c ((placed_in syncs js e).at c) ne) refl)
  ];
  timelines = timelines_more syncs js e lists well (legal_here syncs js e more legal).1 h.timelines;
  clocks = give_goes_on syncs js more k c (clock_of lists) (legal_here syncs js e more legal).0 h.clocks;
}
  where
    e : Entry
    e = Give k c

    s : Semaphore
    s = slice_index_or old k no_semaphore

    n : Name
    n = record { client = c; place = j }

    here : IsLeft syncs (entries_of syncs (js ++ e ∷ [])) k (slice_index_or new k no_semaphore)
    here =
        let was = h.units k named in
        let gs : givers k (entries_of syncs (js ++ e ∷ [])) ≡ givers k (entries_of syncs js) ++ n ∷ [] =
        givers_next syncs js e k ∙ ap (λ xs. givers k (entries_of syncs js) ++ xs) (is_given k c j ((placed_in syncs js e).at c) at) in
        let ts : takers k (entries_of syncs (js ++ e ∷ [])) ≡ takers k (entries_of syncs js) = takers_next syncs js e k ∙ append-nil (takers k (entries_of syncs js)) in
        subst (IsLeft syncs (entries_of syncs (js ++ e ∷ [])) k) (sym mine) (record {
          left = was.left ∙ ap (λ xs. units_of syncs k - length xs) (sym ts);
          given = ap (λ xs. xs ++ n ∷ []) was.given ∙ sym gs;
          next = was.next ∙ ap (λ xs. length xs - units_of syncs k) (sym ts);
          small = small_more s.givers n was.small (client, small);
        })

-- ---- a unit is taken

-- what a semaphore is behind an entry that takes from it
taken_left : (syncs : SyncLists) (js : List Entry) (k c j : ℕ) (s new : Semaphore) → (placed_in syncs js (Take k c)).at c ≡ Some j → IsLeft syncs (entries_of syncs js) k s
    → new.left ≡ s.left - 1 → new.givers ≡ s.givers → new.next ≡ cond (nat_lt 0 s.left) s.next (s.next + 1) → IsLeft syncs (entries_of syncs (js ++ Take k c ∷ [])) k new
taken_left syncs js k c j s new at was left givers_same next = record {
  left = omega (arith, left, was.left, longer);
  given = givers_same ∙ was.given ∙ sym gs;
  next = elim (cases_lt 0 s.left) [
    | inl lt ↦
        let t : cond (nat_lt 0 s.left) s.next (s.next + 1) ≡ s.next = rw (lt-ltb 0 s.left lt) refl in
        omega (arith, next, t, was.next, was.left, longer, lt)
    | inr ge ↦
        let t : cond (nat_lt 0 s.left) s.next (s.next + 1) ≡ s.next + 1 = rw (le-ltb 0 s.left ge) refl in
        omega (arith, next, t, was.next, was.left, longer, ge)
  ];
  small = λ q g f. was.small q g (ap (λ xs. slice_get xs q) (sym givers_same) ∙ f);
}
  where
    e : Entry
    e = Take k c

    gs : givers k (entries_of syncs (js ++ e ∷ [])) ≡ givers k (entries_of syncs js)
    gs = givers_next syncs js e k ∙ append-nil (givers k (entries_of syncs js))

    longer : length (takers k (entries_of syncs (js ++ e ∷ []))) ≡ length (takers k (entries_of syncs js)) + 1
    longer =
        ap length (takers_next syncs js e k ∙ ap (λ xs. takers k (entries_of syncs js) ++ xs) (is_given k c j ((placed_in syncs js e).at c) at))
        ∙ length-append (takers k (entries_of syncs js)) (record { client = c; place = j } ∷ [])

all_left : (syncs : SyncLists) (js : List Entry) (k c j : ℕ) (old new : List Semaphore) → (placed_in syncs js (Take k c)).at c ≡ Some j
    → ((name : ℕ) → name < 256 → IsLeft syncs (entries_of syncs js) name (slice_index_or old name no_semaphore))
    → IsLeft syncs (entries_of syncs (js ++ Take k c ∷ [])) k (slice_index_or new k no_semaphore)
    → ((name : ℕ) → name ≢ k → slice_index_or new name no_semaphore ≡ slice_index_or old name no_semaphore)
    → (name : ℕ) → name < 256 → IsLeft syncs (entries_of syncs (js ++ Take k c ∷ [])) name (slice_index_or new name no_semaphore)
all_left syncs js k c j old new at h here others name lt = elim (cases_Bool (name == k)) [
  | inl t ↦ let same : k ≡ name = sym (eqb-true name k t) in subst (λ x. IsLeft syncs (entries_of syncs (js ++ Take k c ∷ [])) x (slice_index_or new x no_semaphore)) same here
  | inr f ↦
      let ne = eqb-false name k f in
      subst (IsLeft syncs (entries_of syncs (js ++ Take k c ∷ [])) name) (sym (others name ne))
      (left_same syncs js (Take k c) name (slice_index_or old name no_semaphore) (h name lt) refl (not_given k name c ((placed_in syncs js (Take k c)).at c) ne))
]

pub kept_first : (syncs : SyncLists) (js more : List Entry) (k c j : ℕ) (old new : List Semaphore) (lists : List (List Change)) → IsWellFormed syncs → IsLegal syncs (js ++ Take k c ∷ more)
    → k < 256 → (placed_in syncs js (Take k c)).at c ≡ Some j → IsKept syncs (js ++ Take k c ∷ more) js old lists → length new ≡ 256
    → 0 < (slice_index_or old k no_semaphore).left
    → IsLeft syncs (entries_of syncs (js ++ Take k c ∷ [])) k (slice_index_or new k no_semaphore)
    → ((name : ℕ) → name ≢ k → slice_index_or new name no_semaphore ≡ slice_index_or old name no_semaphore)
    → IsKept syncs (js ++ Take k c ∷ more) (js ++ Take k c ∷ []) new lists
kept_first syncs js more k c j old new lists well legal named at h count some here others =
    let r = legal_here syncs js (Take k c) more legal in
    record {
      names = count;
      units = all_left syncs js k c j old new at h.units here others;
      timelines = timelines_more syncs js (Take k c) lists well r.1 h.timelines;
      clocks = first_goes_on syncs js more k c (clock_of lists) r.0 (omega (arith, (h.units k named).left, some)) h.clocks;
    }

pub kept_take : (syncs : SyncLists) (js more : List Entry) (k c j : ℕ) (g : Name) (old new : List Semaphore) (lists moved : List (List Change)) (gate : List ℕ) → IsWellFormed syncs
    → IsLegal syncs (js ++ Take k c ∷ more) → k < 256 → (placed_in syncs js (Take k c)).at c ≡ Some j → IsKept syncs (js ++ Take k c ∷ more) js old lists → length new ≡ 256
    → (slice_index_or old k no_semaphore).left ≡ 0 → slice_get (slice_index_or old k no_semaphore).givers (slice_index_or old k no_semaphore).next ≡ Some g
    → IsLeft syncs (entries_of syncs (js ++ Take k c ∷ [])) k (slice_index_or new k no_semaphore)
    → ((name : ℕ) → name ≢ k → slice_index_or new name no_semaphore ≡ slice_index_or old name no_semaphore)
    → ((d : ℕ) → slice_index gate d ≡ up_to (clock_of lists) g d)
    → ((n : Name) (d : ℕ) → clock_of moved n d ≡ raised (clock_of lists) (only c j) (slice_index gate) n d)
    → AreChanges 0 (slice_index_or moved c []) j → ((d : ℕ) → d ≢ c → slice_index_or moved d [] ≡ slice_index_or lists d []) → length moved ≡ 8
    → IsKept syncs (js ++ Take k c ∷ more) (js ++ Take k c ∷ []) new moved
kept_take syncs js more k c j g old new lists moved gate well legal named at h count none giver here others joined clock changes same eight = record {
  names = count;
  units = all_left syncs js k c j old new at h.units here others;
  timelines = record { clients = eight; changes = ends };
  clocks = subst (AreClocks syncs (js ++ e ∷ more) (entries_of syncs (js ++ e ∷ []))) (sym is) (take_goes_on syncs js more k c j q g (clock_of lists) well r.0 at there given h.clocks);
}
  where
    e : Entry
    e = Take k c

    r : IsLegal syncs js × IsLawful syncs (sync_state_after syncs js) e
    r = legal_here syncs js e more legal

    u : IsLeft syncs (entries_of syncs js) k (slice_index_or old k no_semaphore)
    u = h.units k named

    q : ℕ
    q = length (takers k (entries_of syncs js)) - units_of syncs k

    there : units_of syncs k + q ≡ length (takers k (entries_of syncs js))
    there = omega (arith, u.left, none)

    given : slice_get (givers k (entries_of syncs js)) q ≡ Some g
    given = ap (λ xs. slice_get xs q) (sym u.given) ∙ ap (slice_get (slice_index_or old k no_semaphore).givers) (sym u.next) ∙ giver

    is : clock_of moved ≡ raised (clock_of lists) (only c j) (up_to (clock_of lists) g)
    is = fun_ext (λ n. fun_ext (λ d. clock n d ∙ ap (λ v. raised (clock_of lists) (only c j) v n d) (fun_ext joined)))

    ends : (d : ℕ) → d < 8 → AreChanges 0 (slice_index_or moved d []) (reach_of syncs (js ++ e ∷ []) d)
    ends d lt = elim (cases_Bool (d == c)) [
      | inl t ↦
          let s : c ≡ d = sym (eqb-true d c t) in
          let below = whole_reached syncs js e [] well c j at in
          subst (λ x. AreChanges 0 (slice_index_or moved x []) (reach_of syncs (js ++ e ∷ []) x)) s (up_to_more 0 (slice_index_or moved c []) j (reach_of syncs (js ++ e ∷ []) c) changes (omega arith))
      | inr f ↦
          let ne = eqb-false d c f in
          subst (λ xs. AreChanges 0 xs (reach_of syncs (js ++ e ∷ []) d)) (sym (same d ne)) ((timelines_more syncs js e lists well r.1 h.timelines).changes d lt)
    ]

-- a unit that no semaphore has at first was given
pub giver_there : (syncs : SyncLists) (js more : List Entry) (k c : ℕ) (s : Semaphore) → IsLegal syncs (js ++ Take k c ∷ more) → IsLeft syncs (entries_of syncs js) k s → s.left ≡ 0 → s.next < length s.givers
giver_there syncs js more k c s legal h none =
    let r = legal_here syncs js (Take k c) more legal in
    omega (arith, units_balance syncs (start syncs) js r.0 k, r.1.counted, h.left, h.next, none, ap length h.given)

-- ---- members part

-- of each client the place of its operation
pub places_are : (syncs : SyncLists) (js : List Entry) (e : Entry) (used : List ℕ) (at : List (Option ℕ)) → client_count syncs ≤ 8 → AreUsed syncs js used → length at ≡ 8
    → ((c : ℕ) → c < 8 → places_in at c ≡ place_by syncs e c (slice_index used c)) → places_in at ≡ (placed_in syncs js e).at
places_are syncs js e used at few h eight is = fun_ext go
  where
    go : (c : ℕ) → places_in at c ≡ (placed_in syncs js e).at c
    go c = elim (cases_lt c 8) [
      | inl lt ↦ is c lt ∙ ap (place_by syncs e c) (h c lt) ∙ sym (entry_place syncs js e c)
      | inr ge ↦
          let none = ops_past syncs c (omega arith) in
          get_or_past at c None (omega arith) ∙ sym (entry_place syncs js e c ∙ past (used_by (client_count syncs) c js) none)
    ]
      where
        past : (n : ℕ) → ops_of syncs c ≡ [] → cond (is_member (client_count syncs) e c) (option_map (λ (w : WaitAt). w.place) (slice_get (ops_of syncs c) n)) None ≡ None
        past n none = elim (cases_Bool (is_member (client_count syncs) e c)) [
          | inl t ↦ rw t (ap (λ ws. option_map (λ (w : WaitAt). w.place) (slice_get ws n)) none)
          | inr f ↦ rw f refl
        ]

pub kept_part : (syncs : SyncLists) (js more : List Entry) (e : Entry) (sems : List Semaphore) (lists moved : List (List Change)) (gate : List ℕ) → IsWellFormed syncs → client_count syncs ≤ 8
    → IsLegal syncs (js ++ e ∷ more) → (IsUnitEntry e → ⊥) → IsKept syncs (js ++ e ∷ more) js sems lists → IsGate (clock_of lists) (placed_in syncs js e).at (slice_index gate) → length moved ≡ 8
    → ((c p : ℕ) → c < 8 → (placed_in syncs js e).at c ≡ Some p → AreChanges 0 (slice_index_or moved c []) (p + 1))
    → ((c : ℕ) → c < 8 → (placed_in syncs js e).at c ≡ None → slice_index_or moved c [] ≡ slice_index_or lists c [])
    → ((n : Name) (d : ℕ) → n.client < 8 → clock_of moved n d ≡ raised (clock_of lists) (behind (placed_in syncs js e).at) (slice_index gate) n d)
    → IsKept syncs (js ++ e ∷ more) (js ++ e ∷ []) sems moved
kept_part syncs js more e sems lists moved gate well few legal many h is eight ends same clock = record {
  names = h.names;
  units = λ name lt. left_same syncs js e name (slice_index_or sems name no_semaphore) (h.units name lt) (no_giver name e many) (no_taker name e many);
  timelines = record { clients = eight; changes = λ c lt. changes c lt ((placed_in syncs js e).at c) refl };
  clocks = subst (AreClocks syncs (js ++ e ∷ more) (entries_of syncs (js ++ e ∷ []))) (sym all) (members_go_on syncs js more e (clock_of lists) (slice_index gate) well r.0 many is h.clocks);
}
  where
    r : IsLegal syncs js × IsLawful syncs (sync_state_after syncs js) e
    r = legal_here syncs js e more legal

    at : ℕ → Option ℕ
    at = (placed_in syncs js e).at

    no_giver : (name : ℕ) (f : Entry) → (IsUnitEntry f → ⊥) → giver_in name f (placed_in syncs js e).at ≡ []
    no_giver name (Meet b x) k = refl
    no_giver name Swap k = refl
    no_giver name (Give s c) k = absurd (k tt)
    no_giver name (Take s c) k = absurd (k tt)

    no_taker : (name : ℕ) (f : Entry) → (IsUnitEntry f → ⊥) → taker_in name f (placed_in syncs js e).at ≡ []
    no_taker name (Meet b x) k = refl
    no_taker name Swap k = refl
    no_taker name (Give s c) k = absurd (k tt)
    no_taker name (Take s c) k = absurd (k tt)

    changes : (c : ℕ) → c < 8 → (o : Option ℕ) → (placed_in syncs js e).at c ≡ o → AreChanges 0 (slice_index_or moved c []) (reach_of syncs (js ++ e ∷ []) c)
    changes c lt None f = subst (λ xs. AreChanges 0 xs (reach_of syncs (js ++ e ∷ []) c)) (sym (same c lt f)) ((timelines_more syncs js e lists well r.1 h.timelines).changes c lt)
    changes c lt (Some p) f =
        let below = whole_reached syncs js e [] well c p f in
        up_to_more 0 (slice_index_or moved c []) (p + 1) (reach_of syncs (js ++ e ∷ []) c) (ends c p lt f) (omega arith)

    -- a client that doesn't exist has no operation
    beyond : (c : ℕ) → 8 ≤ c → (placed_in syncs js e).at c ≡ None
    beyond c ge = go ((placed_in syncs js e).at c) refl
      where
        go : (o : Option ℕ) → (placed_in syncs js e).at c ≡ o → o ≡ None
        go None f = refl
        go (Some p) f = absurd (let gone = reach_past syncs (js ++ e ∷ []) c (omega arith) in omega (arith, whole_reached syncs js e [] well c p f))

    all : clock_of moved ≡ raised (clock_of lists) (behind (placed_in syncs js e).at) (slice_index gate)
    all = fun_ext (λ n. fun_ext (λ d. elim (cases_lt n.client 8) [
      | inl lt ↦ clock n d lt
      | inr ge ↦
          let none : behind (placed_in syncs js e).at n.client ≡ None = ap (option_map (λ j. j + 1)) (beyond n.client ge) in
          clock_same moved lists n d (get_or_past moved n.client [] (omega arith) ∙ sym (get_or_past lists n.client [] (omega (arith, h.timelines.clients))))
          ∙ sym (raised_not (clock_of lists) (behind (placed_in syncs js e).at) (slice_index gate) n d none)
    ]))

-- ---- at a place of a journal

pub kept_ordered : (syncs : SyncLists) (journal js : List Entry) (sems : List Semaphore) (lists : List (List Change)) → IsKept syncs journal js sems lists → AreOrdered lists
kept_ordered syncs journal js sems lists h = record { clients = h.timelines.clients; changes = λ c lt. (reach_of syncs js c, h.timelines.changes c lt) }

pub slot_is : (sems : List Semaphore) (k : ℕ) (r : Semaphore) → k < length sems → r ≡ get_or sems k r → r ≡ slice_index_or sems k no_semaphore
slot_is sems k r lt e = e ∙ get_or_default sems k r no_semaphore lt

pub slot_set : (sems : List Semaphore) (k : ℕ) (r : Semaphore) → k < length sems → slice_index_or (slice_set sems k r) k no_semaphore ≡ r
slot_set sems k r lt = get_or-set_same sems k r no_semaphore lt

pub slot_others : (sems : List Semaphore) (k : ℕ) (r : Semaphore) (name : ℕ) → name ≢ k → slice_index_or (slice_set sems k r) name no_semaphore ≡ slice_index_or sems name no_semaphore
slot_others sems k r name ne = get_or-set_other sems k name r no_semaphore ne

abbrev pub place_at : SyncLists → ℕ → ℕ → Option ℕ
place_at syncs c n = option_map (λ (w : WaitAt). w.place) (slice_get (ops_of syncs c) n)

-- the next operation of a member of the entry at a place of a journal
pub place_here : (syncs : SyncLists) (journal : List Entry) (k : ℕ) (e : Entry) (used : List ℕ) (sems : List Semaphore) (lists : List (List Change)) → IsRead syncs journal k used sems lists
    → (c : ℕ) → c < 8 → is_member (client_count syncs) e c ≡ true → (placed_in syncs (take k journal) e).at c ≡ place_at syncs c (slice_index used c)
place_here syncs journal k e used sems lists h c lt t =
    entry_place syncs (take k journal) e c
    ∙ ap (λ b. cond b (place_at syncs c (used_by (client_count syncs) c (take k journal))) None) t ∙ ap (place_at syncs c) (sym (h.operations c lt))

pub some_place : (syncs : SyncLists) (journal : List Entry) (k : ℕ) (e : Entry) (used : List ℕ) (sems : List Semaphore) (lists : List (List Change)) → IsLegal syncs journal → slice_get journal k ≡ Some e
    → IsRead syncs journal k used sems lists → (c : ℕ) → c < 8 → is_member (client_count syncs) e c ≡ true → (j : ℕ) × (place_at syncs c (slice_index used c) ≡ Some j)
some_place syncs journal k e used sems lists legal is h c lt t =
    let a = around journal k e is in
    let r = legal_here syncs (take k journal) e (drop (k + 1) journal) (subst (IsLegal syncs) a.0 legal) in
    let p = member_place syncs (sync_state_after syncs (take k journal)) e r.1 c t in
    (p.0, sym (place_here syncs journal k e used sems lists h c lt t) ∙ p.1)

pub no_place : (syncs : SyncLists) (journal : List Entry) (k : ℕ) (e : Entry) (used : List ℕ) (sems : List Semaphore) (lists : List (List Change)) → IsLegal syncs journal → slice_get journal k ≡ Some e
    → IsRead syncs journal k used sems lists → (c : ℕ) → c < 8 → is_member (client_count syncs) e c ≡ true → place_at syncs c (slice_index used c) ≡ None → ⊥
no_place syncs journal k e used sems lists legal is h c lt t none =
    let p = some_place syncs journal k e used sems lists legal is h c lt t in
    let gone : None ≡ Some p.0 = sym none ∙ p.1 in
    absurd cc

-- from the entries around the place to the journal
kept_back : (syncs : SyncLists) (journal : List Entry) (k : ℕ) (e : Entry) (sems : List Semaphore) (lists : List (List Change)) → slice_get journal k ≡ Some e
    → IsKept syncs (take k journal ++ e ∷ drop (k + 1) journal) (take k journal ++ e ∷ []) sems lists → IsKept syncs journal (take (k + 1) journal) sems lists
kept_back syncs journal k e sems lists is h =
    let a = around journal k e is in
    subst (λ j. IsKept syncs j (take (k + 1) journal) sems lists) (sym a.0) (subst (λ js. IsKept syncs (take k journal ++ e ∷ drop (k + 1) journal) js sems lists) (sym a.1) h)

kept_here : (syncs : SyncLists) (journal : List Entry) (k : ℕ) (e : Entry) (used : List ℕ) (sems : List Semaphore) (lists : List (List Change)) → slice_get journal k ≡ Some e
    → IsRead syncs journal k used sems lists → IsKept syncs (take k journal ++ e ∷ drop (k + 1) journal) (take k journal) sems lists
kept_here syncs journal k e used sems lists is h = subst (λ j. IsKept syncs j (take k journal) sems lists) (around journal k e is).0 h.kept

legal_around : (syncs : SyncLists) (journal : List Entry) (k : ℕ) (e : Entry) → slice_get journal k ≡ Some e → IsLegal syncs journal → IsLegal syncs (take k journal ++ e ∷ drop (k + 1) journal)
legal_around syncs journal k e is h = subst (IsLegal syncs) (around journal k e is).0 h

pub give_here : (syncs : SyncLists) (journal : List Entry) (k s c j : ℕ) (used : List ℕ) (sems : List Semaphore) (lists : List (List Change)) (r new : Semaphore) → IsWellFormed syncs → IsLegal syncs journal
    → slice_get journal k ≡ Some (Give s c) → s < 256 → c < 8 → j + 1 < 2 ^ 32 → place_at syncs c (slice_index used c) ≡ Some j → IsRead syncs journal k used sems lists
    → r ≡ get_or sems s r → new ≡ record { left = r.left; givers = r.givers ++ record { client = c; place = j } ∷ []; next = r.next }
    → IsKept syncs journal (take (k + 1) journal) (slice_set sems s new) lists
give_here syncs journal k s c j used sems lists r new well legal is named client small place h slot e =
    let lt : s < length sems = omega (arith, h.kept.names) in
    let was = slot_is sems s r lt slot in
    kept_back syncs journal k (Give s c) (slice_set sems s new) lists is
    (kept_give syncs (take k journal) (drop (k + 1) journal) s c j sems (slice_set sems s new) lists well (legal_around syncs journal k (Give s c) is legal) named client small
    (place_here syncs journal k (Give s c) used sems lists h c client (eq-eqb c c refl) ∙ place) (kept_here syncs journal k (Give s c) used sems lists is h) (length-set sems s new ∙ h.kept.names)
    (slot_set sems s new lt ∙ e ∙ ap (λ (x : Semaphore). record { left = x.left; givers = x.givers ++ record { client = c; place = j } ∷ []; next = x.next }) was)
    (slot_others sems s new))

pub first_here : (syncs : SyncLists) (journal : List Entry) (k s c j : ℕ) (used : List ℕ) (sems : List Semaphore) (lists : List (List Change)) (r new : Semaphore) → IsWellFormed syncs → IsLegal syncs journal
    → slice_get journal k ≡ Some (Take s c) → s < 256 → c < 8 → place_at syncs c (slice_index used c) ≡ Some j → IsRead syncs journal k used sems lists
    → r ≡ get_or sems s r → 0 < r.left → new.left ≡ r.left - 1 → new.givers ≡ r.givers → new.next ≡ cond (nat_lt 0 r.left) r.next (r.next + 1)
    → IsKept syncs journal (take (k + 1) journal) (slice_set sems s new) lists
first_here syncs journal k s c j used sems lists r new well legal is named client place h slot some left givers_same next =
    let lt : s < length sems = omega (arith, h.kept.names) in
    let was = slot_is sems s r lt slot in
    let at = place_here syncs journal k (Take s c) used sems lists h c client (eq-eqb c c refl) ∙ place in
    let mine = subst (IsLeft syncs (entries_of syncs (take k journal)) s) (sym was) (h.kept.units s named) in
    kept_back syncs journal k (Take s c) (slice_set sems s new) lists is
    (kept_first syncs (take k journal) (drop (k + 1) journal) s c j sems (slice_set sems s new) lists well (legal_around syncs journal k (Take s c) is legal) named at
    (kept_here syncs journal k (Take s c) used sems lists is h) (length-set sems s new ∙ h.kept.names) (omega (arith, ap (λ (x : Semaphore). x.left) was, some))
    (subst (IsLeft syncs (entries_of syncs (take k journal ++ Take s c ∷ [])) s) (sym (slot_set sems s new lt)) (taken_left syncs (take k journal) s c j r new at mine left givers_same next))
    (slot_others sems s new))

pub take_here : (syncs : SyncLists) (journal : List Entry) (k s c j : ℕ) (g : Name) (used gate : List ℕ) (sems : List Semaphore) (lists moved : List (List Change)) (r new : Semaphore) → IsWellFormed syncs
    → IsLegal syncs journal → slice_get journal k ≡ Some (Take s c) → s < 256 → c < 8 → place_at syncs c (slice_index used c) ≡ Some j → IsRead syncs journal k used sems lists
    → r ≡ get_or sems s r → r.left ≡ 0 → slice_get r.givers r.next ≡ Some g → new.left ≡ r.left - 1 → new.givers ≡ r.givers → new.next ≡ cond (nat_lt 0 r.left) r.next (r.next + 1)
    → ((d : ℕ) → slice_index gate d ≡ up_to (clock_of lists) g d)
    → ((n : Name) (d : ℕ) → clock_of moved n d ≡ raised (clock_of lists) (only c j) (slice_index gate) n d)
    → AreChanges 0 (slice_index_or moved c []) j → ((d : ℕ) → d ≢ c → slice_index_or moved d [] ≡ slice_index_or lists d []) → length moved ≡ 8
    → IsKept syncs journal (take (k + 1) journal) (slice_set sems s new) moved
take_here syncs journal k s c j g used gate sems lists moved r new well legal is named client place h slot none giver left givers_same next joined clock changes same eight =
    let lt : s < length sems = omega (arith, h.kept.names) in
    let was = slot_is sems s r lt slot in
    let at = place_here syncs journal k (Take s c) used sems lists h c client (eq-eqb c c refl) ∙ place in
    let mine = subst (IsLeft syncs (entries_of syncs (take k journal)) s) (sym was) (h.kept.units s named) in
    kept_back syncs journal k (Take s c) (slice_set sems s new) moved is
    (kept_take syncs (take k journal) (drop (k + 1) journal) s c j g sems (slice_set sems s new) lists moved gate well (legal_around syncs journal k (Take s c) is legal) named at
    (kept_here syncs journal k (Take s c) used sems lists is h) (length-set sems s new ∙ h.kept.names) (ap (λ (x : Semaphore). x.left) (sym was) ∙ none)
    (ap (λ (x : Semaphore). slice_get x.givers x.next) (sym was) ∙ giver)
    (subst (IsLeft syncs (entries_of syncs (take k journal ++ Take s c ∷ [])) s) (sym (slot_set sems s new lt)) (taken_left syncs (take k journal) s c j r new at mine left givers_same next))
    (slot_others sems s new) joined clock changes same eight)

pub giver_here : (syncs : SyncLists) (journal : List Entry) (k s c : ℕ) (used : List ℕ) (sems : List Semaphore) (lists : List (List Change)) (r : Semaphore) → IsLegal syncs journal
    → slice_get journal k ≡ Some (Take s c) → s < 256 → IsRead syncs journal k used sems lists → r ≡ get_or sems s r → r.left ≡ 0 → r.next < length r.givers
giver_here syncs journal k s c used sems lists r legal is named h slot none =
    let lt : s < length sems = omega (arith, h.kept.names) in
    let was = slot_is sems s r lt slot in
    giver_there syncs (take k journal) (drop (k + 1) journal) s c r (legal_around syncs journal k (Take s c) is legal) (subst (IsLeft syncs (entries_of syncs (take k journal)) s) (sym was) (h.kept.units s named)) none

pub part_here : (syncs : SyncLists) (journal : List Entry) (k : ℕ) (e : Entry) (used gate : List ℕ) (at : List (Option ℕ)) (sems : List Semaphore) (lists moved : List (List Change)) → IsWellFormed syncs
    → client_count syncs ≤ 8 → IsLegal syncs journal → (IsUnitEntry e → ⊥) → slice_get journal k ≡ Some e → IsRead syncs journal k used sems lists → length at ≡ 8
    → ((c : ℕ) → c < 8 → places_in at c ≡ place_by syncs e c (slice_index used c)) → IsGate (clock_of lists) (places_in at) (slice_index gate) → length moved ≡ 8
    → ((c p : ℕ) → c < 8 → places_in at c ≡ Some p → AreChanges 0 (slice_index_or moved c []) (p + 1))
    → ((c : ℕ) → c < 8 → places_in at c ≡ None → slice_index_or moved c [] ≡ slice_index_or lists c [])
    → ((n : Name) (d : ℕ) → n.client < 8 → clock_of moved n d ≡ raised (clock_of lists) (behind (places_in at)) (slice_index gate) n d)
    → IsKept syncs journal (take (k + 1) journal) sems moved
part_here syncs journal k e used gate at sems lists moved well few legal many is h slots places gated eight ends same clock =
    let s = places_are syncs (take k journal) e used at few h.operations slots places in
    kept_back syncs journal k e sems moved is
    (kept_part syncs (take k journal) (drop (k + 1) journal) e sems lists moved gate well few (legal_around syncs journal k e is legal) many (kept_here syncs journal k e used sems lists is h)
    (subst (λ f. IsGate (clock_of lists) f (slice_index gate)) s gated) eight
    (λ c p lt f. ends c p lt (ap (λ g. g c) s ∙ f)) (λ c lt f. same c lt (ap (λ g. g c) s ∙ f))
    (λ n d lt. clock n d lt ∙ ap (λ f. raised (clock_of lists) (behind f) (slice_index gate) n d) s))

-- changes lie at or before each member's operation
pub late_here : (syncs : SyncLists) (journal : List Entry) (k : ℕ) (e : Entry) (used : List ℕ) (sems : List Semaphore) (lists : List (List Change)) → IsRead syncs journal k used sems lists
    → (c p : ℕ) → c < 8 → (placed_in syncs (take k journal) e).at c ≡ Some p → AreChanges 0 (slice_index_or lists c []) p
late_here syncs journal k e used sems lists h c p lt at =
    subst (AreChanges 0 (slice_index_or lists c [])) (member_stops syncs (sync_state_after syncs (take k journal)) e c p at) (h.kept.timelines.changes c lt)

pub late_places : (syncs : SyncLists) (journal : List Entry) (k : ℕ) (e : Entry) (used : List ℕ) (at : List (Option ℕ)) (sems : List Semaphore) (lists : List (List Change)) → client_count syncs ≤ 8
    → IsRead syncs journal k used sems lists → length at ≡ 8 → ((c : ℕ) → c < 8 → places_in at c ≡ place_by syncs e c (slice_index used c))
    → (c p : ℕ) → places_in at c ≡ Some p → AreChanges 0 (slice_index_or lists c []) (p + 1)
late_places syncs journal k e used at sems lists few h slots places c p is = elim (cases_lt c 8) [
  | inl lt ↦
      let s = places_are syncs (take k journal) e used at few h.operations slots places in
      up_to_more 0 (slice_index_or lists c []) p (p + 1) (late_here syncs journal k e used sems lists h c p lt (ap (λ g. g c) (sym s) ∙ is)) (omega arith)
  | inr ge ↦ let gone : None ≡ Some p = sym (get_or_past at c None (omega arith)) ∙ is in absurd cc
]

-- ---- nothing is read

clock_first : (lists : List (List Change)) → ((c : ℕ) → slice_index_or lists c [] ≡ []) → (n : Name) (d : ℕ) → clock_of lists n d ≡ cond (d == n.client) n.place 0
clock_first lists empty n d =
    let e : clock_of lists n d ≡ max (slice_index (replicate 8 0) d) (cond (d == n.client) n.place 0) = ap (λ xs. max (slice_index (before_at xs n.place) d) (cond (d == n.client) n.place 0)) (empty n.client) in
    omega (arith, e, zeros 8 d)

pub first_clocks : (syncs : SyncLists) (journal : List Entry) (lists : List (List Change)) → ((c : ℕ) → slice_index_or lists c [] ≡ []) → AreClocks syncs journal [] (clock_of lists)
first_clocks syncs journal lists empty = record {
  sound = sound;
  own = λ n. let t = eq-eqb n.client n.client refl in let e : clock_of lists n n.client ≡ n.place = clock_first lists empty n n.client ∙ rw t refl in omega arith;
  rising = λ c i j le d. elim (cases_Bool (d == c)) [
    | inl t ↦
        let a : clock_of lists record { client = c; place = i } d ≡ i = clock_first lists empty record { client = c; place = i } d ∙ rw t refl in
        let b : clock_of lists record { client = c; place = j } d ≡ j = clock_first lists empty record { client = c; place = j } d ∙ rw t refl in
        omega arith
    | inr f ↦ let a : clock_of lists record { client = c; place = i } d ≡ 0 = clock_first lists empty record { client = c; place = i } d ∙ rw f refl in omega arith
  ];
  handed = λ s k g t e. absurd cc;
  parted = λ m i. absurd i;
}
  where
    sound : (a n : Name) → n.place < reach_of syncs journal n.client → a.place < clock_of lists n a.client → IsBefore syncs journal a n
    sound a n lt h = elim (cases_Bool (a.client == n.client)) [
      | inl t ↦
          let same = eqb-true a.client n.client t in
          let e : clock_of lists n a.client ≡ n.place = clock_first lists empty n a.client ∙ rw t refl in
          Next a n (omega (arith, ap (reach_of syncs journal) same)) lt (SameClient same (omega arith))
      | inr f ↦ let e : clock_of lists n a.client ≡ 0 = clock_first lists empty n a.client ∙ rw f refl in absurd (omega arith)
    ]

pub first_read : (syncs : SyncLists) (journal : List Entry) (used : List ℕ) (sems : List Semaphore) (lists : List (List Change)) → used ≡ replicate 8 0 → length sems ≡ 256
    → ((name : ℕ) → name < 256 → IsLeft syncs [] name (slice_index_or sems name no_semaphore)) → AreTimelines lists (λ c. 0) → ((c : ℕ) → slice_index_or lists c [] ≡ [])
    → IsRead syncs journal 0 used sems lists
first_read syncs journal used sems lists e count units h empty = record {
  within = omega arith;
  slots = ap length e;
  operations = λ c lt. ap (λ xs. slice_index xs c) e ∙ zeros 8 c;
  kept = record {
    names = count;
    units = units;
    timelines = record { clients = h.clients; changes = λ c lt. up_to_more 0 (slice_index_or lists c []) 0 (reach_of syncs [] c) (h.changes c lt) (omega arith) };
    clocks = first_clocks syncs journal lists empty;
  };
}

-- ---- an entry is read

pub client_here : (syncs : SyncLists) (journal : List Entry) (k : ℕ) (e : Entry) → IsWellFormed syncs → IsLegal syncs journal → slice_get journal k ≡ Some e
    → (c : ℕ) → is_member (client_count syncs) e c ≡ true → c < client_count syncs
client_here syncs journal k e well legal is c t =
    let r = legal_here syncs (take k journal) e (drop (k + 1) journal) (legal_around syncs journal k e is legal) in
    let p = member_place syncs (sync_state_after syncs (take k journal)) e r.1 c t in
    whole_client syncs (take k journal) e (drop (k + 1) journal) well c p.0 p.1

pub not_unit : (e f : Entry) → e ≡ f → (IsUnitEntry f → ⊥) → IsUnitEntry e → ⊥
not_unit e f same many h = many (subst IsUnitEntry same h)

pub read_more : (syncs : SyncLists) (journal : List Entry) (k : ℕ) (e : Entry) (used now : List ℕ) (sems new : List Semaphore) (lists moved : List (List Change)) → slice_get journal k ≡ Some e
    → IsRead syncs journal k used sems lists → length now ≡ 8
    → ((c : ℕ) → c < 8 → slice_index now c ≡ cond (is_member (client_count syncs) e c) (slice_index used c + 1) (slice_index used c)) → IsKept syncs journal (take (k + 1) journal) new moved
    → IsRead syncs journal (k + 1) now new moved
read_more syncs journal k e used now sems new lists moved is h slots up kept =
    let lt = slice_get_within journal k e is in
    record {
      within = omega (arith, lt);
      slots = slots;
      operations = used_step syncs journal k e used now lt (sym (get_or_from_slice_get journal k e e is)) h.operations up;
      kept = kept;
    }

take_all : (js : List Entry) (n : ℕ) → length js ≤ n → take n js ≡ js
take_all [] zero le = refl
take_all [] (suc n) le = refl
take_all (x ∷ js) zero le = absurd (omega arith)
take_all (x ∷ js) (suc n) le = ap (λ ys. x ∷ ys) (take_all js n (omega arith))

pub all_read : (syncs : SyncLists) (journal : List Entry) (k : ℕ) (used : List ℕ) (sems : List Semaphore) (lists : List (List Change)) → length journal ≤ k → IsRead syncs journal k used sems lists
    → IsExact syncs journal (clock_of lists)
all_read syncs journal k used sems lists le h =
    clocks_exact syncs journal (clock_of lists) (subst (λ js. AreClocks syncs journal (entries_of syncs js) (clock_of lists)) (take_all journal k le) h.kept.clocks)

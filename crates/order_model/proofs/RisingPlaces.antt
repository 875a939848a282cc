-- The places of operations rise: from one to the next, and from each entry's to what is reached at last.
use Rattle.std.proofs.Common.{◌≡◌, ℕ, zero, suc, ◌+◌, ◌<◌, ◌≤◌, List, [], ◌∷◌, drop, Some, None, inl, inr, sym, ap, ◌∙◌, arith}
use Rattle.std.specs.Prelude.{slice_get, option_map}
use Rattle.std.specs.List.{AllByRecursion}
use Rattle.std.specs.Option.{option_map_or}
use Rattle.std.proofs.lemmas.Bool.{cases_Bool, cases_lt}
use Rattle.rc_base.specs.Lists.{AreRising}
use Rattle.rc_base.specs.Orders.Journal.{SyncState, start, after, end_of, head_wait, is_member, stop, reach_of}
use Rattle.rc_base.specs.Orders.Order.{PlacedEntry, entry_at, entries_from, entries_of}
use Rattle.rc_base.specs.Orders.Sync.{IsWellFormed, client_count, ops_of, length_of, places_of}
use Rattle.rc_base.specs.declared.sync.Entry.{Entry}
use Rattle.rc_base.specs.declared.sync.SyncLists.{SyncLists}
use Rattle.rc_base.specs.declared.sync.WaitAt.{WaitAt}
use Rattle.order_model.proofs.JournalsInTurn.{rising_first}
use Rattle.order_model.specs.Counted.{place_or_end}
use Rattle.order_model.specs.Laws.{AreOfClients}
use Rattle.order_model.proofs.ClientsBeyond.{ops_past, past_after}

-- ---- of one client

rising_lower : (p q : ℕ) (ws : List WaitAt) (n : ℕ) → q ≤ p → AreRising p (places_of ws) n → AreRising q (places_of ws) n
rising_lower p q [] n le h = omega (arith, h)
rising_lower p q (w ∷ ws) n le h = (omega (arith, h.0), h.1, h.2)

-- the next operation's place is no lower
next_place : (p : ℕ) (ws : List WaitAt) (n k : ℕ) → AreRising p (places_of ws) n
    → option_map_or (λ (w : WaitAt). w.place) (slice_get ws k) n ≤ option_map_or (λ (w : WaitAt). w.place) (slice_get ws (suc k)) n
next_place p [] n k h = omega arith
next_place p (w ∷ []) n zero h = omega (arith, h.1)
next_place p (w ∷ v ∷ ws) n zero h = omega (arith, h.2.0)
next_place p (w ∷ ws) n (suc k) h = next_place (w.place + 1) ws n k h.2

pub place_rises : (syncs : SyncLists) → IsWellFormed syncs → (c k : ℕ) → place_or_end syncs c k ≤ place_or_end syncs c (k + 1)
place_rises syncs well c k =
    let e : k + 1 ≡ suc k = omega arith in
    omega (arith, next_place 0 (ops_of syncs c) (length_of syncs c) k (well.rising c), ap (place_or_end syncs c) e)

-- ---- along a journal

abbrev AllRise : SyncLists → SyncState → Type 0
AllRise syncs s = (c : ℕ) → AreRising 0 (places_of (s.rest c)) (length_of syncs c)

rising_rest : (ws : List WaitAt) (n : ℕ) → AreRising 0 (places_of ws) n → AreRising 0 (places_of (drop 1 ws)) n
rising_rest [] n h = h
rising_rest (w ∷ ws) n h = rising_lower (w.place + 1) 0 ws n (omega arith) h.2

rise_after : (syncs : SyncLists) (s : SyncState) (e : Entry) → AllRise syncs s → AllRise syncs (after syncs s e)
rise_after syncs s e h c = elim (cases_Bool (is_member (client_count syncs) e c)) [
  | inl t ↦ rw t (rising_rest (s.rest c) (length_of syncs c) (h c))
  | inr f ↦ rw f (h c)
]

first_rest : (ws : List WaitAt) (n : ℕ) → AreRising 0 (places_of ws) n
    → option_map_or (λ (w : WaitAt). w.place) (head_wait ws) n ≤ option_map_or (λ (w : WaitAt). w.place) (head_wait (drop 1 ws)) n
first_rest [] n h = omega arith
first_rest (w ∷ ws) n h = omega (arith, rising_first (w.place + 1) ws n h.2)

stop_after : (syncs : SyncLists) (s : SyncState) (e : Entry) → AllRise syncs s → (c : ℕ) → stop syncs s c ≤ stop syncs (after syncs s e) c
stop_after syncs s e h c = elim (cases_Bool (is_member (client_count syncs) e c)) [
  | inl t ↦ rw t (first_rest (s.rest c) (length_of syncs c) (h c))
  | inr f ↦ rw f (omega arith)
]

stop_end : (syncs : SyncLists) (s : SyncState) (js : List Entry) → AllRise syncs s → (c : ℕ) → stop syncs s c ≤ stop syncs (end_of syncs s js) c
stop_end syncs s [] h c = omega arith
stop_end syncs s (e ∷ js) h c = omega (arith, stop_after syncs s e h c, stop_end syncs (after syncs s e) js (rise_after syncs s e h) c)

used_first : (ws : List WaitAt) (n i : ℕ) → AreRising 0 (places_of ws) n → option_map (λ (w : WaitAt). w.place) (head_wait ws) ≡ Some i
    → i < option_map_or (λ (w : WaitAt). w.place) (head_wait (drop 1 ws)) n
used_first [] n i h e = absurd cc
used_first (w ∷ ws) n i h e = let is : w.place ≡ i = cc in omega (arith, is, rising_first (w.place + 1) ws n h.2)

-- the place of an operation in an entry is its client's, who exists, and is below what the client reaches
abbrev pub IsReached : SyncLists → (ℕ → ℕ) → PlacedEntry → Type 0
IsReached syncs reached m = (c i : ℕ) → m.at c ≡ Some i → (c < client_count syncs) × (i < reached c)

entry_reached : (syncs : SyncLists) (s : SyncState) (e : Entry) (js : List Entry) → AllRise syncs s → AreOfClients syncs s
    → IsReached syncs (stop syncs (end_of syncs (after syncs s e) js)) (entry_at syncs s e)
entry_reached syncs s e js h none c i is = elim (cases_Bool (is_member (client_count syncs) e c)) [
  | inl t ↦
      let is' : option_map (λ (w : WaitAt). w.place) (head_wait (s.rest c)) ≡ Some i = rw t at is in
      let below : i < stop syncs (after syncs s e) c = rw t (used_first (s.rest c) (length_of syncs c) i (h c) is') in (
        elim (cases_lt c (client_count syncs)) [
          | inl lt ↦ lt
          | inr ge ↦ let gone : None ≡ Some i = sym (ap (λ ws. option_map (λ (w : WaitAt). w.place) (head_wait ws)) (none c ge)) ∙ is' in absurd cc
        ],
        omega (arith, below, stop_end syncs (after syncs s e) js (rise_after syncs s e h) c),
      )
  | inr f ↦ let is' : None ≡ Some i = rw f at is in absurd cc
]

reached_from : (syncs : SyncLists) (s : SyncState) (js : List Entry) → AllRise syncs s → AreOfClients syncs s → AllByRecursion (IsReached syncs (stop syncs (end_of syncs s js))) (entries_from syncs s js)
reached_from syncs s [] h none = tt
reached_from syncs s (e ∷ js) h none = (entry_reached syncs s e js h none, reached_from syncs (after syncs s e) js (rise_after syncs s e h) (past_after syncs s e none))

pub all_reached : (syncs : SyncLists) (js : List Entry) → IsWellFormed syncs → AllByRecursion (IsReached syncs (reach_of syncs js)) (entries_of syncs js)
all_reached syncs js well = reached_from syncs (start syncs) js well.rising (ops_past syncs)

-- A recorded order that is made with counts: one entry of the journal more.
use Rattle.std.proofs.Common.{◌≡◌, ℕ, zero, suc, ◌+◌, ◌<◌, ◌≤◌, cond, List, [], ◌∷◌, take, drop, length, get_or, slice_index, replicate, inl, inr, sym, ap, ◌∙◌, arith}
use Rattle.std.proofs.lemmas.Bool.{cases_Bool, cases_lt}
use Rattle.std.proofs.lemmas.List.{get_or_past, drop_all}
use Rattle.std.proofs.Math.ListN.{get_or-replicate, length-replicate}
use Rattle.rc_base.specs.Orders.Journal.{start, is_member, stop, after, sync_state_after}
use Rattle.rc_base.specs.Orders.Order.{performed, all_added, names_in}
use Rattle.rc_base.specs.Orders.Sync.{client_count}
use Rattle.rc_base.specs.declared.sync.Entry.{Entry}
use Rattle.rc_base.specs.declared.sync.Name.{Name}
use Rattle.rc_base.specs.declared.sync.SyncLists.{SyncLists}
use Rattle.plain_lemmas.proofs.Lists.{drop_is_item_first}
use Rattle.order_model.specs.Counted.{used_by, place_or_end, AreUsed, IsOrderMade, logged_behind}
use Rattle.order_model.specs.Log.{logged}
use Rattle.order_model.specs.declared.record.LogEntry.{LogEntry}
use Rattle.order_model.specs.declared.record.LogEntry.TheVariants.{Performed}
use Rattle.order_model.proofs.CountedNames.{all_added_alike}
use Rattle.order_model.proofs.UsedOperations.{stop_is_place, end_more, used_more}

-- ---- counts of used operations

pub used_most : (n c : ℕ) (js : List Entry) → used_by n c js ≤ length js
used_most n c [] = omega arith
used_most n c (e ∷ js) = elim (cases_Bool (is_member n e c)) [ inl t ↦ rw t (omega (arith, used_most n c js)) | inr f ↦ rw f (omega (arith, used_most n c js)) ]

pub length_take : {A : Type 0} (k : ℕ) (xs : List A) → length (take k xs) ≤ k
length_take zero xs = omega arith
length_take (suc k) [] = omega arith
length_take (suc k) (x ∷ xs) = omega (arith, length_take k xs)

-- no client has used more operations than there are entries
pub used_least : (syncs : SyncLists) (js : List Entry) (k : ℕ) (used : List ℕ) → length used ≡ 8 → AreUsed syncs (take k js) used → (c : ℕ) → slice_index used c ≤ k
used_least syncs js k used len h c = elim (cases_lt c 8) [
  | inl lt ↦ omega (arith, h c lt, used_most (client_count syncs) c (take k js), length_take k js)
  | inr ge ↦ omega (arith, get_or_past used c 0 (omega arith))
]

pub used_step : (syncs : SyncLists) (js : List Entry) (k : ℕ) (e : Entry) (used used' : List ℕ) → k < length js → e ≡ get_or js k e → AreUsed syncs (take k js) used
    → ((c : ℕ) → c < 8 → slice_index used' c ≡ cond (is_member (client_count syncs) e c) (slice_index used c + 1) (slice_index used c)) → AreUsed syncs (take (k + 1) js) used'
used_step syncs js k e used used' lt is h up c few =
    up c few ∙ ap (λ x. cond (is_member (client_count syncs) e c) (x + 1) x) (h c few) ∙ sym (used_more (client_count syncs) c js k e lt is)

-- ---- the order

performed_by_counts : (syncs : SyncLists) (before : List Entry) (e : Entry) (used : List ℕ) (o : List Name) → client_count syncs ≤ 8 → AreUsed syncs before used
    → all_added (is_member (client_count syncs) e) (λ c. place_or_end syncs c (slice_index used c) + 1) (client_count syncs) o ≡ performed syncs (sync_state_after syncs before) e o
performed_by_counts syncs before e used o few h =
    all_added_alike (is_member (client_count syncs) e) (λ c. place_or_end syncs c (slice_index used c) + 1) (λ c. stop syncs (sync_state_after syncs before) c + 1) (client_count syncs) o
    (λ c lt. ap (λ k. k + 1) (ap (place_or_end syncs c) (h c (omega arith)) ∙ sym (stop_is_place syncs before c)))

pub perform_step : (syncs : SyncLists) (js : List Entry) (k : ℕ) (e : Entry) (used : List ℕ) (o o' : List Name) → client_count syncs ≤ 8 → k < length js → e ≡ get_or js k e → AreUsed syncs (take k js) used
    → o' ≡ all_added (is_member (client_count syncs) e) (λ c. place_or_end syncs c (slice_index used c) + 1) (client_count syncs) o
    → (log : List LogEntry) → logged_behind syncs js (k + 1) log o' ≡ logged_behind syncs js k (Performed ∷ log) o
perform_step syncs js k e used o o' few lt is h made log =
    let s = sync_state_after syncs (take k js) in
    ap (λ t. logged syncs t (drop (k + 1) js) log o') (end_more syncs (start syncs) js k e lt is)
    ∙ ap (logged syncs (after syncs s e) (drop (k + 1) js) log) (made ∙ performed_by_counts syncs (take k js) e used o few h)
    ∙ sym (ap (λ r. logged syncs s r (Performed ∷ log) o) (drop_is_item_first js k e lt is))

-- a journal of which all is read
pub nothing_performed : (syncs : SyncLists) (js : List Entry) (k : ℕ) (o : List Name) → length js ≤ k → (log : List LogEntry) → logged_behind syncs js k log o ≡ logged_behind syncs js k (Performed ∷ log) o
nothing_performed syncs js k o le log =
    let s = sync_state_after syncs (take k js) in
    let none = drop_all k js le in
    ap (λ r. logged syncs s r log o) none ∙ sym (ap (λ r. logged syncs s r (Performed ∷ log) o) none)

pub zeros : (n c : ℕ) → slice_index (replicate n 0) c ≡ 0
zeros n c = elim (cases_lt c n) [
  | inl lt ↦ get_or-replicate n c 0 0 lt
  | inr ge ↦ get_or_past (replicate n 0) c 0 (omega (arith, length-replicate {A = ℕ} n 0))
]

-- where nothing is read
pub counted_first : (syncs : SyncLists) (js : List Entry) (k : ℕ) (used counts : List ℕ) (o : List Name) → k ≡ 0 → used ≡ replicate 8 0 → counts ≡ replicate 256 0 → o ≡ [] → IsOrderMade syncs js k used counts o
counted_first syncs js k used counts o first none none' new = record {
  within = omega arith;
  clients = ap length none;
  operations = λ c lt. ap (λ xs. slice_index xs c) none ∙ zeros 8 c ∙ sym (ap (λ n. used_by (client_count syncs) c (take n js)) first);
  names = λ c. ap (names_in c) new ∙ sym (ap (λ xs. slice_index xs c) none' ∙ zeros 256 c);
}

pub logged_first : (syncs : SyncLists) (js : List Entry) (k : ℕ) (o : List Name) (log : List LogEntry) → k ≡ 0 → o ≡ [] → logged_behind syncs js k log o ≡ logged syncs (start syncs) js log []
logged_first syncs js k o log first new = ap (λ n. logged_behind syncs js n log o) first ∙ ap (logged syncs (start syncs) js log) new

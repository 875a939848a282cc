-- Entries that part two clients' names, one after the other.
use Rattle.std.proofs.Common.{◌≡◌, ℕ, ◌+◌, ◌<◌, ◌≤◌, ◌&&◌, Bool, true, cond, List, [], ◌∷◌, take, drop, length, get_or, inl, inr, refl, sym, ap, ◌∙◌, arith}
use Rattle.std.specs.List.{AllByRecursion}
use Rattle.std.proofs.lemmas.Bool.{cases_Bool, and_parts}
use Rattle.rc_base.specs.Orders.Journal.{start, is_member, sync_state_after, after}
use Rattle.rc_base.specs.Orders.Order.{PlacedEntry, entry_at, entries_from}
use Rattle.rc_base.specs.Orders.Sync.{IsWellFormed, client_count}
use Rattle.rc_base.specs.declared.sync.Entry.{Entry}
use Rattle.rc_base.specs.declared.sync.Name.{Name}
use Rattle.rc_base.specs.declared.sync.SyncLists.{SyncLists}
use Rattle.plain_lemmas.proofs.Lists.{drop_is_item_first}
use Rattle.order_model.specs.Checked.{are_parted, all_part, place_by}
use Rattle.order_model.specs.Counted.{used_by, place_or_end}
use Rattle.order_model.proofs.RecordedByCounts.{used_most, length_take}
use Rattle.order_model.proofs.RisingPlaces.{place_rises}
use Rattle.order_model.proofs.UsedOperations.{entry_place, end_more}

pub used_below : (n c : ℕ) (js : List Entry) (k : ℕ) → used_by n c (take k js) ≤ k
used_below n c js k = omega (arith, used_most n c (take k js), length_take k js)

pub place_stays : (syncs : SyncLists) → IsWellFormed syncs → (e : Entry) (c k k' : ℕ) → k' ≡ cond (is_member (client_count syncs) e c) (k + 1) k → place_or_end syncs c k ≤ place_or_end syncs c k'
place_stays syncs well e c k k' up = elim (cases_Bool (is_member (client_count syncs) e c)) [
  | inl t ↦
      let up' : k' ≡ k + 1 = up ∙ ap (λ b. cond b (k + 1) k) t in
      omega (arith, place_rises syncs well c k, ap (place_or_end syncs c) up')
  | inr f ↦
      let up' : k' ≡ k = up ∙ ap (λ b. cond b (k + 1) k) f in
      omega (arith, ap (place_or_end syncs c) up')
]

-- the journal's next entry
pub part_turn : (syncs : SyncLists) (js : List Entry) (order : List Name) (a b k : ℕ) (e : Entry) (ua ub : ℕ) (r : Bool) → k < length js → e ≡ get_or js k e
    → ua ≡ used_by (client_count syncs) a (take k js) → ub ≡ used_by (client_count syncs) b (take k js) → r ≡ are_parted order a (place_by syncs e a ua) b (place_by syncs e b ub)
    → all_part order a b (entries_from syncs (sync_state_after syncs (take k js)) (drop k js)) ≡ (r && all_part order a b (entries_from syncs (sync_state_after syncs (take (k + 1) js)) (drop (k + 1) js)))
part_turn syncs js order a b k e ua ub r lt is ha hb result =
    let s = sync_state_after syncs (take k js) in
    let rest = all_part order a b (entries_from syncs (after syncs s e) (drop (k + 1) js)) in
    let pa : (entry_at syncs s e).at a ≡ place_by syncs e a ua = entry_place syncs (take k js) e a ∙ ap (place_by syncs e a) (sym ha) in
    let pb : (entry_at syncs s e).at b ≡ place_by syncs e b ub = entry_place syncs (take k js) e b ∙ ap (place_by syncs e b) (sym hb) in
    ap (λ x. all_part order a b (entries_from syncs s x)) (drop_is_item_first js k e lt is)
    ∙ ap (λ x. are_parted order a x b ((entry_at syncs s e).at b) && rest) pa
    ∙ ap (λ x. are_parted order a (place_by syncs e a ua) b x && rest) pb
    ∙ ap (λ x. x && rest) (sym result)
    ∙ ap (λ t. r && all_part order a b (entries_from syncs t (drop (k + 1) js))) (sym (end_more syncs (start syncs) js k e lt is))

-- ---- all entries and all clients

abbrev pub PartsTwo : List Name → ℕ → ℕ → PlacedEntry → Type 0
PartsTwo o a b m = are_parted o a (m.at a) b (m.at b) ≡ true

pub parts_each : (o : List Name) (a b : ℕ) (ms : List PlacedEntry) → all_part o a b ms ≡ true → AllByRecursion (PartsTwo o a b) ms
parts_each o a b [] h = tt
parts_each o a b (m ∷ ms) h = let k = and_parts (are_parted o a (m.at a) b (m.at b)) (all_part o a b ms) h in (k.0, parts_each o a b ms k.1)

pub each_parts : (o : List Name) (a b : ℕ) (ms : List PlacedEntry) → AllByRecursion (PartsTwo o a b) ms → all_part o a b ms ≡ true
each_parts o a b [] h = refl
each_parts o a b (m ∷ ms) h = rw h.0 (each_parts o a b ms h.1)

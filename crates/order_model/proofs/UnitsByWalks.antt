-- A walk along a journal finds where the names stand that give a semaphore's units, or that take them.
use Rattle.std.proofs.Common.{◌≡◌, ℕ, ◌+◌, ◌<◌, ◌≤◌, ◌==◌, Bool, true, false, cond, List, [], ◌∷◌, ◌++◌, take, drop, map, length, get_or, Option, Some, None, inl, inr, refl, sym, ap, ◌∙◌, arith, eq-eqb}
use Rattle.std.specs.Prelude.{slice_get, slice_index, option_map, option_to_list}
use Rattle.std.proofs.lemmas.Bool.{cases_Bool, cases_lt}
use Rattle.std.proofs.lemmas.List.{drop_all}
use Rattle.rc_base.specs.Orders.Journal.{start, sync_state_after, after, is_member}
use Rattle.rc_base.specs.Orders.Order.{PlacedEntry, entry_at, entries_from, giver_in, taker_in, name_at}
use Rattle.rc_base.specs.Orders.Sync.{IsWellFormed, client_count, ops_of}
use Rattle.rc_base.specs.declared.sync.Entry.{Entry}
use Rattle.rc_base.specs.declared.sync.Entry.TheVariants.{Meet, Swap, Give, Take}
use Rattle.rc_base.specs.declared.sync.Name.{Name}
use Rattle.rc_base.specs.declared.sync.SyncLists.{SyncLists}
use Rattle.rc_base.specs.declared.sync.WaitAt.{WaitAt}
use Rattle.plain_lemmas.proofs.Lists.{drop_is_item_first}
use Rattle.order_model.specs.Checked.{first_at, spot_of, unit_names, unit_spots, unit_client, next_spot}
use Rattle.order_model.specs.Counted.{used_by, place_or_end, AreUsed}
use Rattle.order_model.proofs.ClientsBeyond.{ops_past}
use Rattle.order_model.proofs.RisingPlaces.{place_rises}
use Rattle.order_model.proofs.SpotsOfNames.{first_rises}
use Rattle.order_model.proofs.UsedOperations.{entry_place, end_more}

-- a client that doesn't exist has no next operation
pub no_spot_past : (syncs : SyncLists) (order : List Name) (c k : ℕ) → client_count syncs ≤ 8 → 8 ≤ c
    → option_map (λ (w : WaitAt). first_at order c w.place) (slice_get (ops_of syncs c) k) ≡ None
no_spot_past syncs order c k few ge = ap (λ ws. option_map (λ (w : WaitAt). first_at order c w.place) (slice_get ws k)) (ops_past syncs c (omega arith))

-- ---- one entry

-- the name that gives or takes a unit in an entry
abbrev pub unit_in : Bool → ℕ → Entry → (ℕ → Option ℕ) → List Name
unit_in gives semaphore e at = cond gives (giver_in semaphore e at) (taker_in semaphore e at)

abbrev pub name_by : Option ℕ → (ℕ → Option ℕ) → List Name
name_by None at = []
name_by (Some c) at = name_at c (at c)

pub unit_in_is : (gives : Bool) (semaphore : ℕ) (e : Entry) (at : ℕ → Option ℕ) → unit_in gives semaphore e at ≡ name_by (unit_client gives semaphore e) at
unit_in_is true semaphore (Meet b m) at = refl
unit_in_is false semaphore (Meet b m) at = refl
unit_in_is true semaphore Swap at = refl
unit_in_is false semaphore Swap at = refl
unit_in_is true semaphore (Give k c) at = elim (cases_Bool (k == semaphore)) [ inl t ↦ rw t refl | inr f ↦ rw f refl ]
unit_in_is false semaphore (Give k c) at = refl
unit_in_is true semaphore (Take k c) at = refl
unit_in_is false semaphore (Take k c) at = elim (cases_Bool (k == semaphore)) [ inl t ↦ rw t refl | inr f ↦ rw f refl ]

pub is_its_client : (n : ℕ) (gives : Bool) (semaphore : ℕ) (e : Entry) (c : ℕ) → unit_client gives semaphore e ≡ Some c → is_member n e c ≡ true
is_its_client n gives semaphore (Meet b m) c h = absurd cc
is_its_client n gives semaphore Swap c h = absurd cc
is_its_client n true semaphore (Give k d) c h = elim (cases_Bool (k == semaphore)) [
  | inl t ↦ let h' : Some d ≡ Some c = rw t at h in let e : c ≡ d = cc in eq-eqb c d e
  | inr f ↦ let h' : None ≡ Some c = rw f at h in absurd cc
]
is_its_client n false semaphore (Give k d) c h = absurd cc
is_its_client n true semaphore (Take k d) c h = absurd cc
is_its_client n false semaphore (Take k d) c h = elim (cases_Bool (k == semaphore)) [
  | inl t ↦ let h' : Some d ≡ Some c = rw t at h in let e : c ≡ d = cc in eq-eqb c d e
  | inr f ↦ let h' : None ≡ Some c = rw f at h in absurd cc
]

spots_at : (order : List Name) (c : ℕ) (o : Option WaitAt)
    → map (spot_of order) (name_at c (option_map (λ (w : WaitAt). w.place) o)) ≡ option_to_list (option_map (λ (w : WaitAt). first_at order c w.place) o)
spots_at order c None = refl
spots_at order c (Some w) = refl

pub unit_spot_is : (syncs : SyncLists) (before : List Entry) (order : List Name) (used : List ℕ) (gives : Bool) (semaphore : ℕ) (e : Entry) → client_count syncs ≤ 8 → AreUsed syncs before used
    → map (spot_of order) (unit_in gives semaphore e (entry_at syncs (sync_state_after syncs before) e).at) ≡ option_to_list (next_spot syncs order used (unit_client gives semaphore e))
unit_spot_is syncs before order used gives semaphore e few h =
    ap (map (spot_of order)) (unit_in_is gives semaphore e at) ∙ go (unit_client gives semaphore e) refl
  where
    at : ℕ → Option ℕ
    at = (entry_at syncs (sync_state_after syncs before) e).at

    go : (o : Option ℕ) → unit_client gives semaphore e ≡ o → map (spot_of order) (name_by o at) ≡ option_to_list (next_spot syncs order used o)
    go None is = refl
    go (Some c) is = elim (cases_lt c 8) [
      | inl lt ↦
          ap (λ o. map (spot_of order) (name_at c o)) (entry_place syncs before e c
          ∙ ap (λ b. cond b (option_map (λ (w : WaitAt). w.place) (slice_get (ops_of syncs c) (used_by (client_count syncs) c before))) None) (is_its_client (client_count syncs) gives semaphore e c is))
          ∙ spots_at order c (slice_get (ops_of syncs c) (used_by (client_count syncs) c before))
          ∙ ap (λ k. option_to_list (option_map (λ (w : WaitAt). first_at order c w.place) (slice_get (ops_of syncs c) k))) (sym (h c lt))
      | inr ge ↦
          let none = ops_past syncs c (omega arith) in
          ap (λ o. map (spot_of order) (name_at c o)) (entry_place syncs before e c
          ∙ ap (λ b. cond b (option_map (λ (w : WaitAt). w.place) (slice_get (ops_of syncs c) (used_by (client_count syncs) c before))) None) (is_its_client (client_count syncs) gives semaphore e c is))
          ∙ ap (λ ws. map (spot_of order) (name_at c (option_map (λ (w : WaitAt). w.place) (slice_get ws (used_by (client_count syncs) c before))))) none
          ∙ sym (ap (λ ws. option_to_list (option_map (λ (w : WaitAt). first_at order c w.place) (slice_get ws (slice_index used c)))) none)
    ]

-- ---- the journal

map_append : (order : List Name) (xs ys : List Name) → map (spot_of order) (xs ++ ys) ≡ map (spot_of order) xs ++ map (spot_of order) ys
map_append order [] ys = refl
map_append order (x ∷ xs) ys = ap (λ zs. spot_of order x ∷ zs) (map_append order xs ys)

pub unit_names_more : (gives : Bool) (semaphore : ℕ) (m : PlacedEntry) (ms : List PlacedEntry) → unit_names gives semaphore (m ∷ ms) ≡ unit_in gives semaphore m.entry m.at ++ unit_names gives semaphore ms
unit_names_more true semaphore m ms = refl
unit_names_more false semaphore m ms = refl

pub spots_more : (syncs : SyncLists) (js : List Entry) (order : List Name) (used : List ℕ) (gives : Bool) (semaphore k : ℕ) (e : Entry) (o : Option ℕ) → client_count syncs ≤ 8 → k < length js → e ≡ get_or js k e
    → AreUsed syncs (take k js) used → o ≡ next_spot syncs order used (unit_client gives semaphore e)
    → unit_spots syncs js order gives semaphore k ≡ option_to_list o ++ unit_spots syncs js order gives semaphore (k + 1)
spots_more syncs js order used gives semaphore k e o few lt is h found =
    let s = sync_state_after syncs (take k js) in
    let rest = entries_from syncs (after syncs s e) (drop (k + 1) js) in
    ap (λ r. map (spot_of order) (unit_names gives semaphore (entries_from syncs s r))) (drop_is_item_first js k e lt is)
    ∙ ap (map (spot_of order)) (unit_names_more gives semaphore (entry_at syncs s e) rest)
    ∙ map_append order (unit_in gives semaphore e (entry_at syncs s e).at) (unit_names gives semaphore rest)
    ∙ ap (λ xs. xs ++ map (spot_of order) (unit_names gives semaphore rest)) (unit_spot_is syncs (take k js) order used gives semaphore e few h ∙ ap option_to_list (sym found))
    ∙ ap (λ t. option_to_list o ++ map (spot_of order) (unit_names gives semaphore (entries_from syncs t (drop (k + 1) js)))) (sym (end_more syncs (start syncs) js k e lt is))

no_names : (gives : Bool) (semaphore : ℕ) → unit_names gives semaphore [] ≡ []
no_names true semaphore = refl
no_names false semaphore = refl

-- nothing is left of a journal that is read
pub spots_past : (syncs : SyncLists) (js : List Entry) (order : List Name) (gives : Bool) (semaphore k : ℕ) → length js ≤ k → unit_spots syncs js order gives semaphore k ≡ []
spots_past syncs js order gives semaphore k le =
    ap (λ r. map (spot_of order) (unit_names gives semaphore (entries_from syncs (sync_state_after syncs (take k js)) r))) (drop_all k js le)
    ∙ ap (map (spot_of order)) (no_names gives semaphore)

-- the spots that are passed stay passed where more operations are used
pub still_passed : (syncs : SyncLists) (order : List Name) (n : ℕ) (e : Entry) (used used' spots : List ℕ) → IsWellFormed syncs
    → ((c : ℕ) → c < 8 → slice_index used' c ≡ cond (is_member n e c) (slice_index used c + 1) (slice_index used c))
    → ((c : ℕ) → c < 8 → slice_index spots c ≤ first_at order c (place_or_end syncs c (slice_index used c)))
    → (c : ℕ) → c < 8 → slice_index spots c ≤ first_at order c (place_or_end syncs c (slice_index used' c))
still_passed syncs order n e used used' spots well up h c lt = elim (cases_Bool (is_member n e c)) [
  | inl t ↦
      let k = slice_index used c in
      let up' : slice_index used' c ≡ k + 1 = up c lt ∙ ap (λ b. cond b (k + 1) k) t in
      let rise = first_rises order c (place_or_end syncs c k) (place_or_end syncs c (k + 1)) (place_rises syncs well c k) in
      omega (arith, h c lt, rise, ap (λ j. first_at order c (place_or_end syncs c j)) up')
  | inr f ↦
      let k = slice_index used c in
      let up' : slice_index used' c ≡ k = up c lt ∙ ap (λ b. cond b (k + 1) k) f in
      omega (arith, h c lt, ap (λ j. first_at order c (place_or_end syncs c j)) up')
]

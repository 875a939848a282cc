-- Spots of givers and takers, one pair after the other.
use Rattle.std.proofs.Common.{◌≡◌, ℕ, zero, suc, ◌+◌, ◌<◌, ◌≤◌, ◌==◌, nat_lt, Bool, true, false, cond, List, [], ◌∷◌, ◌++◌, drop, map, length, Option, Some, None, inl, inr, refl, sym, ap, ◌∙◌, subst, arith, lt-ltb, ltb-true}
use Rattle.std.specs.Prelude.{option_to_list}
use Rattle.std.specs.List.{AllByRecursion, zip}
use Rattle.std.proofs.lemmas.Bool.{cases_Bool, and_parts}
use Rattle.std.proofs.lemmas.List.{drop-drop, length-append, drop_all}
use Rattle.rc_base.specs.Lists.{IsIn, Stands}
use Rattle.rc_base.specs.Orders.Journal.{SyncState, start, after}
use Rattle.rc_base.specs.Orders.Order.{PlacedEntry, entries_from, entry_at, name_at, taker_in, takers}
use Rattle.rc_base.specs.Orders.Sync.{units_of}
use Rattle.rc_base.specs.declared.sync.Entry.{Entry}
use Rattle.rc_base.specs.declared.sync.Entry.TheVariants.{Meet, Swap, Give, Take}
use Rattle.rc_base.specs.declared.sync.Name.{Name}
use Rattle.rc_base.specs.declared.sync.SyncLists.{SyncLists}
use Rattle.order_model.specs.Checked.{spot_of, are_in_turn, unit_names, unit_client, unit_spots, takes_in, hands_over}
use Rattle.order_model.proofs.RisingPlaces.{IsReached}
use Rattle.order_model.proofs.RunsOfNames.{Rising}
use Rattle.order_model.proofs.SpotsOfNames.{stands_less, less_stands}
use Rattle.order_model.proofs.StandsInLists.{in_append}
use Rattle.order_model.proofs.UnitsByWalks.{unit_in, unit_names_more, unit_in_is, name_by}

-- ---- walks over spots

pub one_passed : (o : Option ℕ) (old new xs : List ℕ) (u : ℕ) → old ≡ option_to_list o ++ new → (o ≡ None → old ≡ []) → old ≡ drop u xs → new ≡ drop (u + 1) xs
one_passed None old new xs u e none is = sym e ∙ none refl ∙ sym (ap (drop 1) (sym is ∙ none refl)) ∙ drop-drop 1 u xs
one_passed (Some k) old new xs u e none is = ap (drop 1) (sym e ∙ is) ∙ drop-drop 1 u xs

pub turn_none : (gs ts : List ℕ) → ts ≡ [] → are_in_turn gs ts ≡ true
turn_none [] ts e = refl
turn_none (g ∷ gs) ts e = ap (are_in_turn (g ∷ gs)) e

-- ---- of names

pub turn_stands : (o gs ts : List Name) → Rising o → ((n : Name) → IsIn n gs → IsIn n o) → ((n : Name) → IsIn n ts → IsIn n o)
    → are_in_turn (map (spot_of o) gs) (map (spot_of o) ts) ≡ true → (a b : Name) → IsIn (a, b) (zip gs ts) → Stands a b o
turn_stands o [] ts r p q h a b i = absurd i
turn_stands o (g ∷ gs) [] r p q h a b i = absurd i
turn_stands o (g ∷ gs) (t ∷ ts) r p q h a b (inl e) =
    let k = and_parts (nat_lt (spot_of o g) (spot_of o t)) (are_in_turn (map (spot_of o) gs) (map (spot_of o) ts)) h in
    subst (λ (x : Name × Name). Stands x.0 x.1 o) e (less_stands o r g t (p g (inl refl)) (q t (inl refl)) (ltb-true (spot_of o g) (spot_of o t) k.0))
turn_stands o (g ∷ gs) (t ∷ ts) r p q h a b (inr i) =
    let k = and_parts (nat_lt (spot_of o g) (spot_of o t)) (are_in_turn (map (spot_of o) gs) (map (spot_of o) ts)) h in
    turn_stands o gs ts r (λ n j. p n (inr j)) (λ n j. q n (inr j)) k.1 a b i

pub stands_turn : (o gs ts : List Name) → Rising o → ((a b : Name) → IsIn (a, b) (zip gs ts) → Stands a b o) → are_in_turn (map (spot_of o) gs) (map (spot_of o) ts) ≡ true
stands_turn o [] ts r h = refl
stands_turn o (g ∷ gs) [] r h = refl
stands_turn o (g ∷ gs) (t ∷ ts) r h = rw (lt-ltb (spot_of o g) (spot_of o t) (stands_less o r g t (h g t (inl refl)))) (stands_turn o gs ts r (λ a b i. h a b (inr i)))

pub drop_map : (o : List Name) (k : ℕ) (xs : List Name) → drop k (map (spot_of o) xs) ≡ map (spot_of o) (drop k xs)
drop_map o zero xs = refl
drop_map o (suc k) [] = refl
drop_map o (suc k) (x ∷ xs) = drop_map o k xs

pub in_drop : (k : ℕ) (xs : List Name) (n : Name) → IsIn n (drop k xs) → IsIn n xs
in_drop zero xs n i = i
in_drop (suc k) [] n i = absurd i
in_drop (suc k) (x ∷ xs) n i = inr (in_drop k xs n i)

-- ---- givers and takers are reached

in_name_at : (d : ℕ) (o : Option ℕ) (t : Name) → IsIn t (name_at d o) → (t.client ≡ d) × (o ≡ Some t.place)
in_name_at d None t h = absurd h
in_name_at d (Some p) t (inl e) = (ap (λ (x : Name). x.client) (sym e), ap (λ (x : Name). Some x.place) e)
in_name_at d (Some p) t (inr h) = absurd h

in_name_by : (c : Option ℕ) (at : ℕ → Option ℕ) (t : Name) → IsIn t (name_by c at) → at t.client ≡ Some t.place
in_name_by None at t h = absurd h
in_name_by (Some d) at t h = let k = in_name_at d (at d) t h in ap at k.0 ∙ k.1

pub unit_reached : (gives : Bool) (semaphore : ℕ) (syncs : SyncLists) (reached : ℕ → ℕ) (ms : List PlacedEntry) → AllByRecursion (IsReached syncs reached) ms
    → (n : Name) → IsIn n (unit_names gives semaphore ms) → n.place < reached n.client
unit_reached true semaphore syncs reached [] h n i = absurd i
unit_reached false semaphore syncs reached [] h n i = absurd i
unit_reached gives semaphore syncs reached (m ∷ ms) h n i =
    elim (in_append n (unit_in gives semaphore m.entry m.at) (unit_names gives semaphore ms) (subst (IsIn n) (unit_names_more gives semaphore m ms) i)) [
      | inl j ↦ (h.0 n.client n.place (in_name_by (unit_client gives semaphore m.entry) m.at n (subst (IsIn n) (unit_in_is gives semaphore m.entry m.at) j))).1
      | inr j ↦ unit_reached gives semaphore syncs reached ms h.1 n j
    ]

-- ---- no more takers than first units

length_name : (c : ℕ) (o : Option ℕ) → length (name_at c o) ≤ 1
length_name c None = omega arith
length_name c (Some p) = omega arith

taker_once : (semaphore k c : ℕ) (at : ℕ → Option ℕ) → length (taker_in semaphore (Take k c) at) ≤ cond (k == semaphore) 1 0
taker_once semaphore k c at = elim (cases_Bool (k == semaphore)) [ inl t ↦ rw t (length_name c (at c)) | inr f ↦ rw f (omega arith) ]

takers_most : (syncs : SyncLists) (s : SyncState) (js : List Entry) (semaphore : ℕ) → length (takers semaphore (entries_from syncs s js)) ≤ takes_in semaphore js
takers_most syncs s [] semaphore = omega arith
takers_most syncs s (Meet b m ∷ js) semaphore = takers_most syncs (after syncs s (Meet b m)) js semaphore
takers_most syncs s (Swap ∷ js) semaphore = takers_most syncs (after syncs s Swap) js semaphore
takers_most syncs s (Give k c ∷ js) semaphore = takers_most syncs (after syncs s (Give k c)) js semaphore
takers_most syncs s (Take k c ∷ js) semaphore =
    let m = entry_at syncs s (Take k c) in
    let rest = takers semaphore (entries_from syncs (after syncs s (Take k c)) js) in
    omega (arith, length-append (taker_in semaphore (Take k c) m.at) rest, taker_once semaphore k c m.at, takers_most syncs (after syncs s (Take k c)) js semaphore)

length_spots : (o xs : List Name) → length (map (spot_of o) xs) ≡ length xs
length_spots o [] = refl
length_spots o (x ∷ xs) = ap suc (length_spots o xs)

pub takes_few : (syncs : SyncLists) (js : List Entry) (order : List Name) (semaphore : ℕ) → takes_in semaphore js ≤ units_of syncs semaphore → hands_over syncs js order semaphore ≡ true
takes_few syncs js order semaphore le =
    turn_none (unit_spots syncs js order true semaphore 0) _
    (drop_all (units_of syncs semaphore) (unit_spots syncs js order false semaphore 0)
    (omega (arith, length_spots order (takers semaphore (entries_from syncs (start syncs) js)), takers_most syncs (start syncs) js semaphore, le)))

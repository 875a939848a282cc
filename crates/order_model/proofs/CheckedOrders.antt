-- What the checker computes is what a permitted order is.
use Rattle.std.proofs.Common.{◌≡◌, ℕ, ◌+◌, ◌-◌, ◌<◌, ◌==◌, Bool, true, false, List, [], ◌∷◌, ◌↔◌, drop, map, length, get_or, set, replicate, Option, Some, None, inl, inr, refl, sym, ap, ◌∙◌, subst, arith, eq-eqb, eqb-true, lt-ltb, ltb-true, true≢false}
use Rattle.std.specs.Prelude.{IsTrue, slice_index}
use Rattle.std.specs.List.{AllByRecursion, zip}
use Rattle.std.proofs.lemmas.Bool.{cases_lt, cases_Bool, eqb-false, and_parts, and_from}
use Rattle.std.proofs.lemmas.List.{get_or_past, ext_get_or, get_or-set_same, get_or-set_other}
use Rattle.std.proofs.Math.ListN.{length-set}
use Rattle.std.proofs.lemmas.Slice.Eq.{bytes_eq-Decides}
use mathlib.Core.Path.{fun_ext}
use Rattle.rc_base.specs.Lists.{IsIn, Stands}
use Rattle.rc_base.specs.Orders.Journal.{reach_of}
use Rattle.rc_base.specs.Orders.Order.{PlacedEntry, entries_of, givers, takers, handovers, IsPermitted}
use Rattle.rc_base.specs.Orders.Order.Precedes.{HandedOver, Parted}
use Rattle.rc_base.specs.Orders.Sync.{IsWellFormed, client_count, units_of}
use Rattle.rc_base.specs.declared.sync.Entry.{Entry}
use Rattle.rc_base.specs.declared.sync.Name.{Name}
use Rattle.rc_base.specs.declared.sync.SyncLists.{SyncLists}
use Rattle.order_model.specs.Checked.{runs_to, spot_of, are_parted, all_part, are_in_turn, hands_over}
use Rattle.order_model.proofs.PartedPairs.{PartsTwo, parts_each, each_parts}
use Rattle.order_model.proofs.PermittedAsRuns.{Uncrossed, run_permits, rising_of, run_of}
use Rattle.order_model.proofs.RecordedByCounts.{zeros}
use Rattle.order_model.proofs.RisingPlaces.{IsReached, all_reached}
use Rattle.order_model.proofs.RunsOfNames.{bump, IsRun, Rising, run_names, run_rising}
use Rattle.order_model.proofs.SpotsOfNames.{PartsAll, parts_uncrossed, uncrossed_parts}
use Rattle.order_model.proofs.StandsInLists.{not_both, first_in, second_in}
use Rattle.order_model.proofs.UnitsInTurn.{turn_stands, stands_turn, drop_map, in_drop, unit_reached}

-- ---- each client's names

pub bumped : (next : List ℕ) (c : ℕ) → c < length next → (d : ℕ) → get_or (set next c (get_or next c 0 + 1)) d 0 ≡ bump (λ k. get_or next k 0) c d
bumped next c lt d = elim (cases_Bool (d == c)) [
  | inl t ↦ let e = eqb-true d c t in rw t (subst (λ k. get_or (set next c (get_or next c 0 + 1)) k 0 ≡ get_or next k 0 + 1) (sym e) (get_or-set_same next c (get_or next c 0 + 1) 0 lt))
  | inr f ↦ rw f (get_or-set_other next c d (get_or next c 0 + 1) 0 (eqb-false d c f))
]

runs_decides : (ends next : List ℕ) (o : List Name) → length next ≡ length ends → IsTrue (runs_to ends next o) ↔ IsRun (λ c. get_or ends c 0) (λ c. get_or next c 0) o
runs_decides ends next [] len = (
  λ h c. ap (λ xs. get_or xs c 0) ((bytes_eq-Decides next ends).0 h),
  λ h. (bytes_eq-Decides next ends).1 (ext_get_or 0 next ends len (λ i lt. h i)),
)
runs_decides ends next (n ∷ o) len =
    let next' = set next n.client (get_or next n.client 0 + 1) in
    let rest = runs_decides ends next' o (length-set next n.client (get_or next n.client 0 + 1) ∙ len) in
    let same : n.client < length ends → (λ c. get_or next' c 0) ≡ bump (λ c. get_or next c 0) n.client = λ lt. fun_ext (bumped next n.client (omega arith)) in (
      λ h.
          let a = and_parts _ _ h in
          let b = and_parts _ _ a.1 in
          let c = and_parts _ _ b.1 in
          let lt : n.client < length ends = ltb-true n.client (length ends) a.0 in (
            eqb-true n.place (get_or next n.client 0) b.0,
            ltb-true n.place (get_or ends n.client 0) c.0,
            subst (λ f. IsRun (λ c. get_or ends c 0) f o) (same lt) (rest.0 c.1),
          ),
      λ h.
          let lt : n.client < length ends = elim (cases_lt n.client (length ends)) [ inl t ↦ t | inr ge ↦ absurd (omega (arith, get_or_past ends n.client 0 ge, h.1)) ] in
          and_from _ _ (lt-ltb n.client (length ends) lt) (and_from _ _ (eq-eqb n.place (get_or next n.client 0) h.0)
          (and_from _ _ (lt-ltb n.place (get_or ends n.client 0) h.1) (rest.1 (subst (λ f. IsRun (λ c. get_or ends c 0) f o) (sym (same lt)) h.2)))),
    )

-- up to what each client reaches
pub runs_to_reach : (syncs : SyncLists) (js : List Entry) (o : List Name) (ends : List ℕ) → length ends ≡ 8 → ((c : ℕ) → slice_index ends c ≡ reach_of syncs js c)
    → IsTrue (runs_to ends (replicate 8 0) o) ↔ IsRun (reach_of syncs js) (λ c. 0) o
runs_to_reach syncs js o ends len h =
    let r = runs_decides ends (replicate 8 0) o (sym len) in
    let last : (λ c. get_or ends c 0) ≡ reach_of syncs js = fun_ext h in
    let first : (λ c. get_or (replicate 8 0) c 0) ≡ (λ (c : ℕ). 0) = fun_ext (zeros 8) in (
      λ t. subst (λ f. IsRun f (λ c. 0) o) last (subst (λ f. IsRun (λ c. get_or ends c 0) f o) first (r.0 t)),
      λ t. r.1 (subst (λ f. IsRun (λ c. get_or ends c 0) f o) (sym first) (subst (λ f. IsRun f (λ c. 0) o) (sym last) t)),
    )

-- ---- what the tests say

abbrev pub PartNames : SyncLists → List Entry → List Name → Type 0
PartNames syncs js o = (a b : ℕ) → a < client_count syncs → b < client_count syncs → all_part o a b (entries_of syncs js) ≡ true

abbrev pub HandUnits : SyncLists → List Entry → List Name → Type 0
HandUnits syncs js o = (semaphore : ℕ) → hands_over syncs js o semaphore ≡ true

-- clients that don't exist have no operation in an entry
parts_past : (syncs : SyncLists) (reached : ℕ → ℕ) (o : List Name) (m : PlacedEntry) → IsReached syncs reached m
    → ((a b : ℕ) → a < client_count syncs → b < client_count syncs → PartsTwo o a b m) → PartsAll o m.at
parts_past syncs reached o m r h a b = go (m.at a) (m.at b) refl refl
  where
    go : (x y : Option ℕ) → m.at a ≡ x → m.at b ≡ y → are_parted o a x b y ≡ true
    go None y e e' = refl
    go (Some i) None e e' = refl
    go (Some i) (Some j) e e' =
        subst (λ x. are_parted o a x b (Some j) ≡ true) e (subst (λ y. are_parted o a (m.at a) b y ≡ true) e' (h a b (r a i e).0 (r b j e').0))

all_uncrossed : (syncs : SyncLists) (reached : ℕ → ℕ) (o : List Name) → Rising o → (ms : List PlacedEntry) → AllByRecursion (IsReached syncs reached) ms
    → ((a b : ℕ) → a < client_count syncs → b < client_count syncs → AllByRecursion (PartsTwo o a b) ms) → AllByRecursion (λ m. Uncrossed o m.at) ms
all_uncrossed syncs reached o r [] h p = tt
all_uncrossed syncs reached o r (m ∷ ms) h p = (
  parts_uncrossed o m.at r (parts_past syncs reached o m h.0 (λ a b i j. (p a b i j).0)),
  all_uncrossed syncs reached o r ms h.1 (λ a b i j. (p a b i j).1),
)

run_has : (reached : ℕ → ℕ) (o : List Name) → IsRun reached (λ c. 0) o → (n : Name) → n.place < reached n.client → IsIn n o
run_has reached o run n lt = (run_names reached (λ c. 0) o run n).1 (omega arith, lt)

pub checked_permitted : (syncs : SyncLists) (js : List Entry) (o : List Name) → IsWellFormed syncs → IsRun (reach_of syncs js) (λ c. 0) o → PartNames syncs js o → HandUnits syncs js o → IsPermitted syncs js o
checked_permitted syncs js o well run parts units =
    run_permits syncs js o run handed (all_uncrossed syncs (reach_of syncs js) o rising ms reached (λ a b i j. parts_each o a b ms (parts a b i j)))
  where
    ms : List PlacedEntry
    ms = entries_of syncs js

    rising : Rising o
    rising = run_rising (reach_of syncs js) (λ c. 0) o run

    reached : AllByRecursion (IsReached syncs (reach_of syncs js)) ms
    reached = all_reached syncs js well

    handed : (sem : ℕ) (a b : Name) → IsIn (a, b) (handovers sem syncs js) → Stands a b o
    handed sem = turn_stands o (givers sem ms) (drop (units_of syncs sem) (takers sem ms)) rising
        (λ n i. run_has (reach_of syncs js) o run n (unit_reached true sem syncs (reach_of syncs js) ms reached n i))
        (λ n i. run_has (reach_of syncs js) o run n (unit_reached false sem syncs (reach_of syncs js) ms reached n (in_drop (units_of syncs sem) (takers sem ms) n i)))
        (ap (are_in_turn (map (spot_of o) (givers sem ms))) (sym (drop_map o (units_of syncs sem) (takers sem ms))) ∙ units sem)

-- ---- what a permitted order passes

uncrossed_of : (syncs : SyncLists) (js : List Entry) (o : List Name) → IsPermitted syncs js o → (m : PlacedEntry) → IsIn m (entries_of syncs js) → Uncrossed o m.at
uncrossed_of syncs js o p m k a b i j is is' before behind st =
    not_both b a o p.once st (p.sequence a b (second_in b a o st) (first_in b a o st) (Parted m i j k is is' before behind))

each_from : (P : PlacedEntry → Type 0) (ms : List PlacedEntry) → ((m : PlacedEntry) → IsIn m ms → P m) → AllByRecursion P ms
each_from P [] h = tt
each_from P (m ∷ ms) h = (h m (inl refl), each_from P ms (λ n i. h n (inr i)))

both_all : (P Q R : PlacedEntry → Type 0) → ((m : PlacedEntry) → P m → Q m → R m) → (ms : List PlacedEntry) → AllByRecursion P ms → AllByRecursion Q ms → AllByRecursion R ms
both_all P Q R f [] h k = tt
both_all P Q R f (m ∷ ms) h k = (f m h.0 k.0, both_all P Q R f ms h.1 k.1)

pub permitted_parts : (syncs : SyncLists) (js : List Entry) (o : List Name) → IsWellFormed syncs → IsPermitted syncs js o → PartNames syncs js o
permitted_parts syncs js o well p a b i j =
    each_parts o a b (entries_of syncs js) (both_all (IsReached syncs (reach_of syncs js)) (λ m. Uncrossed o m.at) (PartsTwo o a b)
    (λ m r u. uncrossed_parts o m.at (λ c k e some. (p.names record { client = c; place = k - 1 }).1 (omega (arith, (r c k e).1))) u a b)
    (entries_of syncs js) (all_reached syncs js well) (each_from (λ m. Uncrossed o m.at) (entries_of syncs js) (uncrossed_of syncs js o p)))

pub permitted_hands : (syncs : SyncLists) (js : List Entry) (o : List Name) → IsWellFormed syncs → IsPermitted syncs js o → HandUnits syncs js o
permitted_hands syncs js o well p sem =
    ap (are_in_turn (map (spot_of o) gs)) (drop_map o (units_of syncs sem) ts)
    ∙ stands_turn o gs (drop (units_of syncs sem) ts) (rising_of syncs js o p)
    (λ a b i. p.sequence a b
    ((p.names a).1 (unit_reached true sem syncs (reach_of syncs js) ms reached a (zip_first gs (drop (units_of syncs sem) ts) a b i)))
    ((p.names b).1 (unit_reached false sem syncs (reach_of syncs js) ms reached b (in_drop (units_of syncs sem) ts b (zip_second gs (drop (units_of syncs sem) ts) a b i))))
    (HandedOver sem i))
  where
    ms : List PlacedEntry
    ms = entries_of syncs js

    gs : List Name
    gs = givers sem ms

    ts : List Name
    ts = takers sem ms

    reached : AllByRecursion (IsReached syncs (reach_of syncs js)) ms
    reached = all_reached syncs js well

    zip_first : (xs ys : List Name) (a b : Name) → IsIn (a, b) (zip xs ys) → IsIn a xs
    zip_first [] ys a b i = absurd i
    zip_first (x ∷ xs) [] a b i = absurd i
    zip_first (x ∷ xs) (y ∷ ys) a b (inl e) = inl (ap (λ (q : Name × Name). q.0) e)
    zip_first (x ∷ xs) (y ∷ ys) a b (inr i) = inr (zip_first xs ys a b i)

    zip_second : (xs ys : List Name) (a b : Name) → IsIn (a, b) (zip xs ys) → IsIn b ys
    zip_second [] ys a b i = absurd i
    zip_second (x ∷ xs) [] a b i = absurd i
    zip_second (x ∷ xs) (y ∷ ys) a b (inl e) = inl (ap (λ (q : Name × Name). q.1) e)
    zip_second (x ∷ xs) (y ∷ ys) a b (inr i) = inr (zip_second xs ys a b i)

pub permitted_runs : (syncs : SyncLists) (js : List Entry) (o : List Name) → IsPermitted syncs js o → IsRun (reach_of syncs js) (λ c. 0) o
permitted_runs syncs js o p = run_of syncs js o p

pub not_true : (b : Bool) → b ≡ false → IsTrue b → ⊥
not_true b f t = true≢false (sym t ∙ f)

-- A journal with an entry in the middle: what the entries before it gave and took, and what it puts before what.
use Rattle.std.proofs.Common.{◌≡◌, ℕ, zero, suc, ◌+◌, ◌-◌, ◌<◌, ◌≤◌, ◌==◌, Bool, true, false, cond, List, [], ◌∷◌, ◌++◌, ◌⊎◌, drop, length, Option, Some, None, inl, inr, refl, sym, ap, ◌∙◌, subst, arith, eq-eqb, eqb-true, append_assoc, append-nil}
use Rattle.std.specs.Prelude.{slice_get, option_map}
use Rattle.std.specs.Option.{option_map_or}
use Rattle.std.proofs.lemmas.Bool.{cases_Bool, cases_lt}
use Rattle.std.proofs.lemmas.Option.{slice_get_within}
use Rattle.std.proofs.lemmas.List.{length-append}
use Rattle.rc_base.specs.Lists.{IsIn}
use Rattle.rc_base.specs.Orders.Journal.{SyncState, start, after, end_of, head_wait, is_member, stop, reach_of, sync_state_after, IsLawful, IsLegal, IsLegalFrom, op_of}
use Rattle.rc_base.specs.Orders.Order.{PlacedEntry, entry_at, entries_from, entries_of, name_at, giver_in, taker_in, givers, takers}
use Rattle.rc_base.specs.Orders.Order.Precedes.{SameClient, HandedOver, Parted}
use Rattle.rc_base.specs.Orders.Sync.{IsWellFormed, client_count, length_of, units_of}
use Rattle.rc_base.specs.declared.sync.Entry.{Entry}
use Rattle.rc_base.specs.declared.sync.Entry.TheVariants.{Meet, Swap, Give, Take}
use Rattle.rc_base.specs.declared.sync.Name.{Name}
use Rattle.rc_base.specs.declared.sync.SyncLists.{SyncLists}
use Rattle.rc_base.specs.declared.sync.WaitAt.{WaitAt}
use Rattle.order_model.proofs.RisingPlaces.{IsReached, all_reached}
use Rattle.order_model.proofs.StandsInLists.{all_at}
use Rattle.order_model.proofs.UnitsInTurn.{unit_reached}
use Rattle.plain_lemmas.proofs.Lists.{get_in_front, get_behind}
use Rattle.scene_lemmas.proofs.Numbered.{is_in_behind}
use Rattle.order_model.proofs.JournalsInTurn.{entries_append}
use Rattle.order_model.proofs.NamesInTurn.{at_in}
use Rattle.happens_before.specs.Before.{IsBefore}
use Rattle.happens_before.specs.Before.IsBefore.{Next, Then}
use Rattle.happens_before.specs.Clocks.{AtMost, counts_to, up_to, raised, only, AreClocks}
use Rattle.happens_before.specs.Timelines.{behind, IsGate, IsUnitEntry}
use Rattle.happens_before.proofs.ClocksOfEntries.{counted, AreBelow, IsRaise, raised_at, raised_kept, clocks_kept, clocks_more, get_append, at_zip, get_drop}

-- ---- lists that are put together

pub legal_split : (syncs : SyncLists) (s : SyncState) (xs ys : List Entry) → IsLegalFrom syncs s (xs ++ ys) → IsLegalFrom syncs s xs × IsLegalFrom syncs (end_of syncs s xs) ys
legal_split syncs s [] ys h = (tt, h)
legal_split syncs s (x ∷ xs) ys h = let r = legal_split syncs (after syncs s x) xs ys h.1 in ((h.0, r.0), r.1)

pub givers_append : (semaphore : ℕ) (ms ns : List PlacedEntry) → givers semaphore (ms ++ ns) ≡ givers semaphore ms ++ givers semaphore ns
givers_append semaphore [] ns = refl
givers_append semaphore (m ∷ ms) ns = ap (λ xs. giver_in semaphore m.entry m.at ++ xs) (givers_append semaphore ms ns) ∙ sym (append_assoc (giver_in semaphore m.entry m.at) (givers semaphore ms) (givers semaphore ns))

pub takers_append : (semaphore : ℕ) (ms ns : List PlacedEntry) → takers semaphore (ms ++ ns) ≡ takers semaphore ms ++ takers semaphore ns
takers_append semaphore [] ns = refl
takers_append semaphore (m ∷ ms) ns = ap (λ xs. taker_in semaphore m.entry m.at ++ xs) (takers_append semaphore ms ns) ∙ sym (append_assoc (taker_in semaphore m.entry m.at) (takers semaphore ms) (takers semaphore ns))

-- ---- names on either side

pub later : (syncs : SyncLists) (journal : List Entry) (a t n : Name) → IsBefore syncs journal a t → t.client ≡ n.client → t.place ≤ n.place → t.place < reach_of syncs journal t.client
    → n.place < reach_of syncs journal n.client → IsBefore syncs journal a n
later syncs journal a t n h c le lt lt' = elim (cases_lt t.place n.place) [
  | inl below ↦ Then a t n h (Next t n lt lt' (SameClient c below))
  | inr ge ↦ let p : t.place ≡ n.place = omega arith in let same : t ≡ n = λ i. record { client = c i; place = p i } in subst (λ x. IsBefore syncs journal a x) same h
]

pub earlier : (syncs : SyncLists) (journal : List Entry) (a g n : Name) → IsBefore syncs journal g n → a.client ≡ g.client → a.place ≤ g.place → g.place < reach_of syncs journal g.client
    → IsBefore syncs journal a n
earlier syncs journal a g n h c le lt = elim (cases_lt a.place g.place) [
  | inl below ↦ Then a g n (Next a g (omega (arith, ap (reach_of syncs journal) c)) lt (SameClient c below)) h
  | inr ge ↦ let p : g.place ≡ a.place = omega arith in let same : g ≡ a = λ i. record { client = sym c i; place = p i } in subst (λ x. IsBefore syncs journal x n) same h
]

-- what is counted up to a name is before what that name is before
pub counted_before : (syncs : SyncLists) (journal : List Entry) (ms : List PlacedEntry) (clock : Name → ℕ → ℕ) → AreClocks syncs journal ms clock → (a g n : Name) → g.place < reach_of syncs journal g.client
    → IsBefore syncs journal g n → a.place < up_to clock g a.client → IsBefore syncs journal a n
counted_before syncs journal ms clock h a g n lt k up = elim (counted clock g a.client a.place up) [
  | inl below ↦ Then a g n (h.sound a g lt below) k
  | inr e ↦ earlier syncs journal a g n k e.0 e.1 lt
]

-- ---- one entry's operations

-- the next operation of a member
pub member_stops : (syncs : SyncLists) (s : SyncState) (e : Entry) (c j : ℕ) → (entry_at syncs s e).at c ≡ Some j → stop syncs s c ≡ j
member_stops syncs s e c j h = elim (cases_Bool (is_member (client_count syncs) e c)) [
  | inl t ↦ go (head_wait (s.rest c)) (rw t at h)
  | inr f ↦ let gone : None ≡ Some j = rw f at h in absurd cc
]
  where
    go : (o : Option WaitAt) → option_map (λ (w : WaitAt). w.place) o ≡ Some j → option_map_or (λ (w : WaitAt). w.place) o (length_of syncs c) ≡ j
    go None k = absurd cc
    go (Some w) k = cc

-- ---- units

in_cond : (b : Bool) (c : ℕ) (o : Option ℕ) (r : ℕ) (t : Name) → slice_get (cond b (name_at c o) []) r ≡ Some t → (b ≡ true) × (r ≡ 0) × (t.client ≡ c) × (o ≡ Some t.place)
in_cond false c o r t h = absurd cc
in_cond true c None r t h = absurd cc
in_cond true c (Some p) zero t h =
    let e : record { client = c; place = p } ≡ t = cc in
    (refl, refl, ap (λ (x : Name). x.client) (sym e), ap (λ (x : Name). Some x.place) e)
in_cond true c (Some p) (suc r) t h = absurd cc

-- a member of a lawful entry has an operation there
pub member_place : (syncs : SyncLists) (s : SyncState) (e : Entry) → IsLawful syncs s e → (c : ℕ) → is_member (client_count syncs) e c ≡ true → (j : ℕ) × ((entry_at syncs s e).at c ≡ Some j)
member_place syncs s e h c t = let r = go (head_wait (s.rest c)) (h.next c t) in (r.0, rw t r.1)
  where
    go : (o : Option WaitAt) → option_map (λ (w : WaitAt). w.op) o ≡ Some (op_of e) → (j : ℕ) × (option_map (λ (w : WaitAt). w.place) o ≡ Some j)
    go None k = absurd cc
    go (Some w) k = (w.place, refl)

length_once : (b : Bool) (c : ℕ) (o : Option ℕ) (j : ℕ) → o ≡ Some j → length (cond b (name_at c o) []) ≡ cond b 1 0
length_once false c o j e = refl
length_once true c o j e = subst (λ x. length (name_at c x) ≡ 1) (sym e) refl

-- what is given and what is there makes up what is taken and what is left
unit_step : (syncs : SyncLists) (s : SyncState) (e : Entry) → IsLawful syncs s e → (semaphore : ℕ)
    → (after syncs s e).units semaphore + length (taker_in semaphore e (entry_at syncs s e).at) ≡ s.units semaphore + length (giver_in semaphore e (entry_at syncs s e).at)
unit_step syncs s (Meet b m) h semaphore = refl
unit_step syncs s Swap h semaphore = refl
unit_step syncs s (Give k c) h semaphore =
    let r = member_place syncs s (Give k c) h c (eq-eqb c c refl) in
    omega (arith, length_once (k == semaphore) c ((entry_at syncs s (Give k c)).at c) r.0 r.1)
unit_step syncs s (Take k c) h semaphore =
    let r = member_place syncs s (Take k c) h c (eq-eqb c c refl) in
    let l = length_once (k == semaphore) c ((entry_at syncs s (Take k c)).at c) r.0 r.1 in
    elim (cases_Bool (k == semaphore)) [
      | inl t ↦
          let e : k ≡ semaphore = eqb-true k semaphore t in
          let some : 0 < s.units semaphore = subst (λ x. 0 < s.units x) e h.counted in
          let one : cond {A = ℕ} (k == semaphore) 1 0 ≡ 1 = rw t refl in
          omega arith
      | inr f ↦ let none : cond {A = ℕ} (k == semaphore) 1 0 ≡ 0 = rw f refl in omega arith
    ]

pub units_balance : (syncs : SyncLists) (s : SyncState) (js : List Entry) → IsLegalFrom syncs s js → (semaphore : ℕ)
    → (end_of syncs s js).units semaphore + length (takers semaphore (entries_from syncs s js)) ≡ s.units semaphore + length (givers semaphore (entries_from syncs s js))
units_balance syncs s [] h semaphore = refl
units_balance syncs s (e ∷ js) h semaphore =
    let at = (entry_at syncs s e).at in
    let rest = entries_from syncs (after syncs s e) js in
    omega (
      arith,
      length-append (taker_in semaphore e at) (takers semaphore rest),
      length-append (giver_in semaphore e at) (givers semaphore rest),
      unit_step syncs s e h.0 semaphore,
      units_balance syncs (after syncs s e) js h.1 semaphore,
    )

-- ---- a journal js ++ e ∷ more

-- its entries before e
abbrev pub placed_in : SyncLists → List Entry → Entry → PlacedEntry
placed_in syncs js e = entry_at syncs (sync_state_after syncs js) e

pub entries_around : (syncs : SyncLists) (js : List Entry) (e : Entry) (more : List Entry)
    → entries_of syncs (js ++ e ∷ more) ≡ entries_of syncs js ++ (placed_in syncs js e ∷ entries_from syncs (after syncs (sync_state_after syncs js) e) more)
entries_around syncs js e more = entries_append syncs (start syncs) js (e ∷ more)

pub entries_next : (syncs : SyncLists) (js : List Entry) (e : Entry) → entries_of syncs (js ++ e ∷ []) ≡ entries_of syncs js ++ placed_in syncs js e ∷ []
entries_next syncs js e = entries_append syncs (start syncs) js (e ∷ [])

in_whole : (syncs : SyncLists) (js : List Entry) (e : Entry) (more : List Entry) → IsIn (placed_in syncs js e) (entries_of syncs (js ++ e ∷ more))
in_whole syncs js e more =
    subst (IsIn (placed_in syncs js e)) (sym (entries_around syncs js e more))
    (is_in_behind (placed_in syncs js e) (entries_of syncs js) (placed_in syncs js e ∷ entries_from syncs (after syncs (sync_state_after syncs js) e) more) (inl refl))

giver_whole : (syncs : SyncLists) (js : List Entry) (e : Entry) (more : List Entry) (k q : ℕ) (g : Name) → slice_get (givers k (entries_of syncs js)) q ≡ Some g
    → slice_get (givers k (entries_of syncs (js ++ e ∷ more))) q ≡ Some g
giver_whole syncs js e more k q g h =
    let rest = placed_in syncs js e ∷ entries_from syncs (after syncs (sync_state_after syncs js) e) more in
    ap (λ ms. slice_get (givers k ms) q) (entries_around syncs js e more) ∙ ap (λ xs. slice_get xs q) (givers_append k (entries_of syncs js) rest)
    ∙ get_in_front (givers k (entries_of syncs js)) (givers k rest) q g h

taker_whole : (syncs : SyncLists) (js : List Entry) (more : List Entry) (k c j : ℕ) → (placed_in syncs js (Take k c)).at c ≡ Some j
    → slice_get (takers k (entries_of syncs (js ++ Take k c ∷ more))) (length (takers k (entries_of syncs js))) ≡ Some record { client = c; place = j }
taker_whole syncs js more k c j h =
    let m = placed_in syncs js (Take k c) in
    let ms = entries_of syncs js in
    let rest = entries_from syncs (after syncs (sync_state_after syncs js) (Take k c)) more in
    let z : length (takers k ms) ≡ length (takers k ms) + 0 = omega arith in
    ap (λ ns. slice_get (takers k ns) (length (takers k ms))) (entries_around syncs js (Take k c) more) ∙ ap (λ xs. slice_get xs (length (takers k ms))) (takers_append k ms (m ∷ rest))
    ∙ ap (slice_get (takers k ms ++ takers k (m ∷ rest))) z ∙ get_behind (takers k ms) (takers k (m ∷ rest)) 0
    ∙ rw (eq-eqb k k refl) (ap (λ o. slice_get (name_at c o ++ takers k rest) 0) h)

-- all operations of the journal lie below what is reached
pub whole_reached : (syncs : SyncLists) (js : List Entry) (e : Entry) (more : List Entry) → IsWellFormed syncs → (c j : ℕ) → (placed_in syncs js e).at c ≡ Some j → j < reach_of syncs (js ++ e ∷ more) c
whole_reached syncs js e more well c j h =
    (all_at (IsReached syncs (reach_of syncs (js ++ e ∷ more))) (placed_in syncs js e) (entries_of syncs (js ++ e ∷ more)) (all_reached syncs (js ++ e ∷ more) well) (in_whole syncs js e more) c j h).1

pub whole_client : (syncs : SyncLists) (js : List Entry) (e : Entry) (more : List Entry) → IsWellFormed syncs → (c j : ℕ) → (placed_in syncs js e).at c ≡ Some j → c < client_count syncs
whole_client syncs js e more well c j h =
    (all_at (IsReached syncs (reach_of syncs (js ++ e ∷ more))) (placed_in syncs js e) (entries_of syncs (js ++ e ∷ more)) (all_reached syncs (js ++ e ∷ more) well) (in_whole syncs js e more) c j h).0

giver_reached : (syncs : SyncLists) (js : List Entry) → IsWellFormed syncs → (k q : ℕ) (g : Name) → slice_get (givers k (entries_of syncs js)) q ≡ Some g → g.place < reach_of syncs js g.client
giver_reached syncs js well k q g h = unit_reached true k syncs (reach_of syncs js) (entries_of syncs js) (all_reached syncs js well) g (at_in (givers k (entries_of syncs js)) q g h)

-- the operations of the entries so far lie below each client's next one
pub are_below : (syncs : SyncLists) (js : List Entry) → IsWellFormed syncs → AreBelow (entries_of syncs js) (reach_of syncs js)
are_below syncs js well = record {
  given = λ k q g h. giver_reached syncs js well k q g h;
  placed = λ m i c j h. (all_at (IsReached syncs (reach_of syncs js)) m (entries_of syncs js) (all_reached syncs js well) i c j h).1;
}

-- ---- a unit is taken

only_is : (c j d p : ℕ) → only c j d ≡ Some p → (d ≡ c) × (j ≡ p)
only_is c j d p h = elim (cases_Bool (d == c)) [
  | inl t ↦ let h' : Some j ≡ Some p = rw t at h in (eqb-true d c t, cc)
  | inr f ↦ let h' : None ≡ Some p = rw f at h in absurd cc
]

-- the giver of a unit is before the name that takes it
handed_before : (syncs : SyncLists) (js more : List Entry) (k c j q : ℕ) (g : Name) → IsWellFormed syncs → (placed_in syncs js (Take k c)).at c ≡ Some j
    → units_of syncs k + q ≡ length (takers k (entries_of syncs js)) → slice_get (givers k (entries_of syncs js)) q ≡ Some g
    → IsBefore syncs (js ++ Take k c ∷ more) g record { client = c; place = j }
handed_before syncs js more k c j q g well h e is =
    let journal = js ++ Take k c ∷ more in
    let ms = entries_of syncs journal in
    let given = giver_whole syncs js (Take k c) more k q g is in
    let taken : slice_get (takers k ms) (units_of syncs k + q) ≡ Some record { client = c; place = j } = ap (slice_get (takers k ms)) e ∙ taker_whole syncs js more k c j h in
    Next g record { client = c; place = j } (giver_reached syncs journal well k q g given) (whole_reached syncs js (Take k c) more well c j h)
    (HandedOver k (at_zip (givers k ms) (drop (units_of syncs k) (takers k ms)) q g record { client = c; place = j } given (get_drop (units_of syncs k) q (takers k ms) ∙ taken)))

pub take_raises : (syncs : SyncLists) (js more : List Entry) (k c j q : ℕ) (g : Name) (clock : Name → ℕ → ℕ) → IsWellFormed syncs → (placed_in syncs js (Take k c)).at c ≡ Some j
    → units_of syncs k + q ≡ length (takers k (entries_of syncs js)) → slice_get (givers k (entries_of syncs js)) q ≡ Some g
    → AreClocks syncs (js ++ Take k c ∷ more) (entries_of syncs js) clock → IsRaise syncs (js ++ Take k c ∷ more) (reach_of syncs js) (only c j) (up_to clock g)
take_raises syncs js more k c j q g clock well h e is inv = record {
  late = λ d p f. let r = only_is c j d p f in let s = member_stops syncs (sync_state_after syncs js) (Take k c) c j h in omega (arith, ap (reach_of syncs js) r.0, r.1, s);
  before = λ a n p lt f le up.
      let r = only_is c j n.client p f in
      let t : Name = record { client = c; place = j } in
      let journal = js ++ Take k c ∷ more in
      let first = handed_before syncs js more k c j q g well h e is in
      counted_before syncs journal (entries_of syncs js) clock inv a g n
      (giver_reached syncs journal well k q g (giver_whole syncs js (Take k c) more k q g is))
      (later syncs journal g t n first (sym r.0) (omega (arith, r.1, le)) (whole_reached syncs js (Take k c) more well c j h) lt) up;
}

-- ---- members part

behind_is : (o : Option ℕ) (p : ℕ) → option_map (λ j. j + 1) o ≡ Some p → (j : ℕ) × (o ≡ Some j) × (j + 1 ≡ p)
behind_is None p h = absurd cc
behind_is (Some j) p h = (j, refl, cc)

pub members_raise : (syncs : SyncLists) (js more : List Entry) (e : Entry) (clock : Name → ℕ → ℕ) (gate : ℕ → ℕ) → IsWellFormed syncs
    → AreClocks syncs (js ++ e ∷ more) (entries_of syncs js) clock → IsGate clock (placed_in syncs js e).at gate
    → IsRaise syncs (js ++ e ∷ more) (reach_of syncs js) (behind (placed_in syncs js e).at) gate
members_raise syncs js more e clock gate well inv g = record {
  late = λ d p f. let r = behind_is ((placed_in syncs js e).at d) p f in let s = member_stops syncs (sync_state_after syncs js) e d r.0 r.1 in omega (arith, r.2, s);
  before = λ a n p lt f le up.
      let journal = js ++ e ∷ more in
      let r = behind_is ((placed_in syncs js e).at n.client) p f in
      let s = g.counted a.client a.place up in
      let b : Name = record { client = s.0; place = s.1 } in
      let reached : s.1 < reach_of syncs journal s.0 = omega (arith, whole_reached syncs js e more well s.0 (suc s.1) s.2) in
      counted_before syncs journal (entries_of syncs js) clock inv a b n reached
      (Next b n reached lt (Parted (placed_in syncs js e) (suc s.1) r.0 (in_whole syncs js e more) s.2 r.1 (omega arith) (omega (arith, r.2, le)))) s.3;
}

-- ---- the clocks go on

old_only : (xs : List Name) (q : ℕ) (x : Name) → slice_get (xs ++ []) q ≡ Some x → slice_get xs q ≡ Some x
old_only xs q x h = ap (λ ys. slice_get ys q) (sym (append-nil xs)) ∙ h

given_in : (syncs : SyncLists) (js : List Entry) (e : Entry) (k q : ℕ) (g : Name) → slice_get (givers k (entries_of syncs js ++ placed_in syncs js e ∷ [])) q ≡ Some g
    → slice_get (givers k (entries_of syncs js) ++ giver_in k e (placed_in syncs js e).at) q ≡ Some g
given_in syncs js e k q g h =
    let x = giver_in k e (placed_in syncs js e).at in
    ap (λ ys. slice_get (givers k (entries_of syncs js) ++ ys) q) (sym (append-nil x)) ∙ ap (λ xs. slice_get xs q) (sym (givers_append k (entries_of syncs js) (placed_in syncs js e ∷ []))) ∙ h

taken_in : (syncs : SyncLists) (js : List Entry) (e : Entry) (k q : ℕ) (t : Name) → slice_get (takers k (entries_of syncs js ++ placed_in syncs js e ∷ [])) q ≡ Some t
    → slice_get (takers k (entries_of syncs js) ++ taker_in k e (placed_in syncs js e).at) q ≡ Some t
taken_in syncs js e k q t h =
    let x = taker_in k e (placed_in syncs js e).at in
    ap (λ ys. slice_get (takers k (entries_of syncs js) ++ ys) q) (sym (append-nil x)) ∙ ap (λ xs. slice_get xs q) (sym (takers_append k (entries_of syncs js) (placed_in syncs js e ∷ []))) ∙ h

abbrev WasHanded : SyncLists → List Entry → ℕ → ℕ → Name → Name → Type 0
WasHanded syncs js k q g t = (slice_get (givers k (entries_of syncs js)) q ≡ Some g) × (slice_get (takers k (entries_of syncs js)) (units_of syncs k + q) ≡ Some t)

abbrev IsHandedNow : SyncLists → List Entry → Entry → ℕ → ℕ → Name → Name → Type 0
IsHandedNow syncs js e k q g t =
    (c : ℕ) × (e ≡ Take k c) × (units_of syncs k + q ≡ length (takers k (entries_of syncs js))) × (slice_get (givers k (entries_of syncs js)) q ≡ Some g) × (t.client ≡ c)
    × ((placed_in syncs js e).at c ≡ Some t.place)

-- a pair that is handed over up to here was handed over before, or this entry takes the unit
handed_here : (syncs : SyncLists) (js : List Entry) (e : Entry) → IsLegal syncs js → (k q : ℕ) (g t : Name)
    → slice_get (givers k (entries_of syncs js) ++ giver_in k e (placed_in syncs js e).at) q ≡ Some g
    → slice_get (takers k (entries_of syncs js) ++ taker_in k e (placed_in syncs js e).at) (units_of syncs k + q) ≡ Some t
    → WasHanded syncs js k q g t ⊎ IsHandedNow syncs js e k q g t
handed_here syncs js (Meet b x) legal k q g t given taken = inl (old_only (givers k (entries_of syncs js)) q g given, old_only (takers k (entries_of syncs js)) (units_of syncs k + q) t taken)
handed_here syncs js Swap legal k q g t given taken = inl (old_only (givers k (entries_of syncs js)) q g given, old_only (takers k (entries_of syncs js)) (units_of syncs k + q) t taken)
handed_here syncs js (Give k' c) legal k q g t given taken =
    let was = old_only (takers k (entries_of syncs js)) (units_of syncs k + q) t taken in
    let within = slice_get_within (takers k (entries_of syncs js)) (units_of syncs k + q) t was in
    let balance = units_balance syncs (start syncs) js legal k in
    elim (get_append (givers k (entries_of syncs js)) (giver_in k (Give k' c) (placed_in syncs js (Give k' c)).at) q g given) [
      | inl old ↦ inl (old, was)
      | inr new ↦ absurd (omega (arith, new.0, within, balance))
    ]
handed_here syncs js (Take k' c) legal k q g t given taken =
    let was = old_only (givers k (entries_of syncs js)) q g given in
    let at = (placed_in syncs js (Take k' c)).at in
    elim (get_append (takers k (entries_of syncs js)) (taker_in k (Take k' c) at) (units_of syncs k + q) t taken) [
      | inl old ↦ inl (was, old)
      | inr new ↦
          let r = in_cond (k' == k) c (at c) (units_of syncs k + q - length (takers k (entries_of syncs js))) t new.1 in
          inr (c, ap (λ x. Take x c) (eqb-true k' k r.0), omega (arith, new.0, r.1), was, r.2, r.3)
    ]

-- Give and Take part no more than their one client's names
one_member : (n : ℕ) (e : Entry) (c d : ℕ) → IsUnitEntry e → is_member n e c ≡ true → is_member n e d ≡ true → c ≡ d
one_member n (Meet b x) c d h p q = absurd h
one_member n Swap c d h p q = absurd h
one_member n (Give k x) c d h p q = eqb-true c x p ∙ sym (eqb-true d x q)
one_member n (Take k x) c d h p q = eqb-true c x p ∙ sym (eqb-true d x q)

placed_member : (syncs : SyncLists) (js : List Entry) (e : Entry) (c j : ℕ) → (placed_in syncs js e).at c ≡ Some j → is_member (client_count syncs) e c ≡ true
placed_member syncs js e c j h = elim (cases_Bool (is_member (client_count syncs) e c)) [
  | inl t ↦ t
  | inr f ↦ let gone : None ≡ Some j = rw f at h in absurd cc
]

own_parted : (syncs : SyncLists) (journal js : List Entry) (e : Entry) (clock : Name → ℕ → ℕ) → IsUnitEntry e → AreClocks syncs journal (entries_of syncs js) clock
    → (c i d j : ℕ) → (placed_in syncs js e).at c ≡ Some (suc i) → (placed_in syncs js e).at d ≡ Some j → AtMost (up_to clock record { client = c; place = i }) (clock record { client = d; place = j + 1 })
own_parted syncs journal js e clock unit h c i d j ce de x =
    let same = one_member (client_count syncs) e c d unit (placed_member syncs js e c (suc i) ce) (placed_member syncs js e d j de) in
    let n : Name = record { client = c; place = i } in
    let here : Some (suc i) ≡ Some j = sym ce ∙ ap (placed_in syncs js e).at same ∙ de in
    let p : suc i ≡ j = cc in
    let up = h.rising c i (j + 1) (omega arith) x in
    let mine = h.own record { client = c; place = j + 1 } in
    let moved : clock record { client = c; place = j + 1 } x ≡ clock record { client = d; place = j + 1 } x = ap (λ y. clock record { client = y; place = j + 1 } x) same in
    elim (cases_Bool (x == c)) [
      | inl t ↦
          let e' : x ≡ c = eqb-true x c t in
          let k : counts_to n x ≡ i + 1 = rw t refl in
          let mine' : j + 1 ≤ clock record { client = c; place = j + 1 } x = subst (λ y. j + 1 ≤ clock record { client = c; place = j + 1 } y) (sym e') mine in
          omega arith
      | inr f ↦ let k : counts_to n x ≡ 0 = rw f refl in omega arith
    ]

-- an entry that gives
pub give_goes_on : (syncs : SyncLists) (js more : List Entry) (k c : ℕ) (clock : Name → ℕ → ℕ) → IsLegal syncs js
    → AreClocks syncs (js ++ Give k c ∷ more) (entries_of syncs js) clock → AreClocks syncs (js ++ Give k c ∷ more) (entries_of syncs (js ++ Give k c ∷ [])) clock
give_goes_on syncs js more k c clock legal h =
    let e = Give k c in
    let journal = js ++ e ∷ more in
    subst (λ ms. AreClocks syncs journal ms clock) (sym (entries_next syncs js e))
    (clocks_more syncs journal (entries_of syncs js) (placed_in syncs js e) clock h
    (λ s q g t given taken. elim (handed_here syncs js e legal s q g t (given_in syncs js e s q g given) (taken_in syncs js e s (units_of syncs s + q) t taken)) [
      | inl old ↦ h.handed s q g t old.0 old.1
      | inr now ↦ absurd (let no : Give k c ≡ Take s now.0 = now.1 in cc)
    ])
    (own_parted syncs journal js e clock tt h))

-- an entry that takes one of a semaphore's first units
pub first_goes_on : (syncs : SyncLists) (js more : List Entry) (k c : ℕ) (clock : Name → ℕ → ℕ) → IsLegal syncs js → length (takers k (entries_of syncs js)) < units_of syncs k
    → AreClocks syncs (js ++ Take k c ∷ more) (entries_of syncs js) clock → AreClocks syncs (js ++ Take k c ∷ more) (entries_of syncs (js ++ Take k c ∷ [])) clock
first_goes_on syncs js more k c clock legal few h =
    let e = Take k c in
    let journal = js ++ e ∷ more in
    subst (λ ms. AreClocks syncs journal ms clock) (sym (entries_next syncs js e))
    (clocks_more syncs journal (entries_of syncs js) (placed_in syncs js e) clock h
    (λ s q g t given taken. elim (handed_here syncs js e legal s q g t (given_in syncs js e s q g given) (taken_in syncs js e s (units_of syncs s + q) t taken)) [
      | inl old ↦ h.handed s q g t old.0 old.1
      | inr now ↦ absurd (let same : Take k c ≡ Take s now.0 = now.1 in let s' : k ≡ s = cc in omega (arith, now.2, few, ap (units_of syncs) s', ap (λ x. length (takers x (entries_of syncs js))) s'))
    ])
    (own_parted syncs journal js e clock tt h))

-- one that takes a unit that was given
pub take_goes_on : (syncs : SyncLists) (js more : List Entry) (k c j q : ℕ) (g : Name) (clock : Name → ℕ → ℕ) → IsWellFormed syncs → IsLegal syncs js
    → (placed_in syncs js (Take k c)).at c ≡ Some j → units_of syncs k + q ≡ length (takers k (entries_of syncs js)) → slice_get (givers k (entries_of syncs js)) q ≡ Some g
    → AreClocks syncs (js ++ Take k c ∷ more) (entries_of syncs js) clock
    → AreClocks syncs (js ++ Take k c ∷ more) (entries_of syncs (js ++ Take k c ∷ [])) (raised clock (only c j) (up_to clock g))
take_goes_on syncs js more k c j q g clock well legal at there is h =
    subst (λ ms. AreClocks syncs journal ms new) (sym (entries_next syncs js e))
    (clocks_more syncs journal (entries_of syncs js) (placed_in syncs js e) new kept
    (λ s r f t given taken. elim (handed_here syncs js e legal s r f t (given_in syncs js e s r f given) (taken_in syncs js e s (units_of syncs s + r) t taken)) [
      | inl old ↦ kept.handed s r f t old.0 old.1
      | inr now ↦ fresh s r f t now
    ])
    (own_parted syncs journal js e new tt kept))
  where
    e : Entry
    e = Take k c

    journal : List Entry
    journal = js ++ e ∷ more

    new : Name → ℕ → ℕ
    new = raised clock (only c j) (up_to clock g)

    raise : IsRaise syncs journal (reach_of syncs js) (only c j) (up_to clock g)
    raise = take_raises syncs js more k c j q g clock well at there is h

    kept : AreClocks syncs journal (entries_of syncs js) new
    kept = clocks_kept syncs journal (entries_of syncs js) (reach_of syncs js) clock (only c j) (up_to clock g) h (are_below syncs js well) raise

    fresh : (s r : ℕ) (f t : Name) → IsHandedNow syncs js e s r f t → AtMost (up_to new f) (new t)
    fresh s r f t now d =
        let same : Take k c ≡ Take s now.0 = now.1 in
        let s' : k ≡ s = cc in
        let c' : c ≡ now.0 = cc in
        let r' : r ≡ q = omega (arith, now.2, there, ap (units_of syncs) s', ap (λ x. length (takers x (entries_of syncs js))) s') in
        let given : slice_get (givers k (entries_of syncs js)) q ≡ Some f = ap (λ x. slice_get (givers k (entries_of syncs js)) x) (sym r') ∙ ap (λ x. slice_get (givers x (entries_of syncs js)) r) s' ∙ now.3 in
        let one : Some g ≡ Some f = sym is ∙ given in
        let f' : g ≡ f = cc in
        let place : Some j ≡ Some t.place = sym at ∙ ap (placed_in syncs js e).at c' ∙ now.5 in
        let j' : j ≡ t.place = cc in
        let here : only c j t.client ≡ Some j = rw (eq-eqb t.client c (now.4 ∙ sym c')) refl in
        let up = raised_at clock (only c j) (up_to clock g) t j here (omega arith) d in
        let was = raised_kept syncs journal (reach_of syncs js) clock (only c j) (up_to clock g) f raise (giver_reached syncs js well k q f given) d in
        omega (arith, up, was, ap (λ x. up_to clock x d) f')

-- one that parts its members' names
pub members_go_on : (syncs : SyncLists) (js more : List Entry) (e : Entry) (clock : Name → ℕ → ℕ) (gate : ℕ → ℕ) → IsWellFormed syncs → IsLegal syncs js
    → (IsUnitEntry e → ⊥) → IsGate clock (placed_in syncs js e).at gate → AreClocks syncs (js ++ e ∷ more) (entries_of syncs js) clock
    → AreClocks syncs (js ++ e ∷ more) (entries_of syncs (js ++ e ∷ [])) (raised clock (behind (placed_in syncs js e).at) gate)
members_go_on syncs js more e clock gate well legal many is h =
    subst (λ ms. AreClocks syncs journal ms new) (sym (entries_next syncs js e))
    (clocks_more syncs journal (entries_of syncs js) (placed_in syncs js e) new kept
    (λ s q g t given taken. elim (handed_here syncs js e legal s q g t (given_in syncs js e s q g given) (taken_in syncs js e s (units_of syncs s + q) t taken)) [
      | inl old ↦ kept.handed s q g t old.0 old.1
      | inr now ↦ absurd (many (subst IsUnitEntry (sym now.1) tt))
    ])
    parted)
  where
    journal : List Entry
    journal = js ++ e ∷ more

    new : Name → ℕ → ℕ
    new = raised clock (behind (placed_in syncs js e).at) gate

    raise : IsRaise syncs journal (reach_of syncs js) (behind (placed_in syncs js e).at) gate
    raise = members_raise syncs js more e clock gate well h is

    kept : AreClocks syncs journal (entries_of syncs js) new
    kept = clocks_kept syncs journal (entries_of syncs js) (reach_of syncs js) clock (behind (placed_in syncs js e).at) gate h (are_below syncs js well) raise

    parted : (c i d j : ℕ) → (placed_in syncs js e).at c ≡ Some (suc i) → (placed_in syncs js e).at d ≡ Some j → AtMost (up_to new record { client = c; place = i }) (new record { client = d; place = j + 1 })
    parted c i d j ce de x =
        let s : Name = record { client = c; place = i } in
        let t : Name = record { client = d; place = j + 1 } in
        let stops = member_stops syncs (sync_state_after syncs js) e c (suc i) ce in
        let was = raised_kept syncs journal (reach_of syncs js) clock (behind (placed_in syncs js e).at) gate s raise (omega arith) x in
        let here : behind (placed_in syncs js e).at d ≡ Some (j + 1) = ap (option_map (λ k. k + 1)) de in
        omega (arith, was, is.counts c i ce x, raised_at clock (behind (placed_in syncs js e).at) gate t (j + 1) here (omega arith) x)

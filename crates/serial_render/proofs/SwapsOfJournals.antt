-- A permitted order has no name beyond its client's Swap before one that lies below its own client's.
use Rattle.std.proofs.Common.{◌≡◌, ℕ, zero, suc, ◌+◌, ◌<◌, ◌≤◌, true, cond, List, [], ◌∷◌, ◌++◌, drop, length, Some, refl, sym, ap, subst, ◌∙◌, arith, inl, inr, lt-ltb, le-ltb, if◌then◌else◌}
use Rattle.std.specs.Prelude.{option_map, nat_lt}
use Rattle.std.specs.Option.{option_map_or}
use Rattle.std.proofs.lemmas.Bool.{cases_lt, cases_Bool}
use Rattle.rc_base.specs.Contexts.Issue.{effect_at, stream_of}
use Rattle.rc_base.specs.Drawing.Serial.{is_swap_effect, accepted_swaps}
use Rattle.rc_base.specs.Lists.{IsIn, Stands, AreRising}
use Rattle.rc_base.specs.Orders.Journal.{SyncState, start, head_wait, stop, is_member, op_of, IsLawful, after, end_of, IsLegalFrom, IsLegal, reach_of}
use Rattle.rc_base.specs.Orders.Order.{PlacedEntry, entry_at, entries_from, IsPermitted}
use Rattle.rc_base.specs.Orders.Order.Precedes.{Parted}
use Rattle.rc_base.specs.Orders.Sync.{client_count, ops_of, length_of, wait_of, waits_below, sync_lists_of, places_of}
use Rattle.rc_base.specs.declared.scene.Scene.{Scene}
use Rattle.rc_base.specs.declared.state.Effect.{Effect}
use Rattle.rc_base.specs.declared.state.Effect.TheVariants as eff
use Rattle.rc_base.specs.declared.sync.Entry.{Entry}
use Rattle.rc_base.specs.declared.sync.Entry.TheVariants.{Meet, Swap, Give, Take}
use Rattle.rc_base.specs.declared.sync.Name.{Name}
use Rattle.rc_base.specs.declared.sync.SyncLists.{SyncLists}
use Rattle.rc_base.specs.declared.sync.SyncOp.{SyncOp}
use Rattle.rc_base.specs.declared.sync.SyncOp.TheVariants as op
use Rattle.rc_base.specs.declared.sync.SyncRow.{SyncRow}
use Rattle.rc_base.specs.declared.sync.WaitAt.{WaitAt}
use Rattle.order_model.specs.Report.{frame_count}
use Rattle.order_model.proofs.JournalsSwapAlike.{swap_op, swap_entry, swap_entries, swap_entries_counted}
use Rattle.order_model.proofs.SceneListsAreWellFormed.{scene_row, rising_below}
use Rattle.order_model.proofs.ClientsBeyond.{reach_past}
use Rattle.order_model.proofs.StandsInLists.{first_in, second_in, not_both}
use Rattle.scene_lemmas.proofs.Scenes.{scene_client_count}
use Rattle.order_model.proofs.JournalsInTurn.{rising_first}
use Rattle.serial_render.specs.Shown.{swaps_before}

-- ---- the Swaps of a list of operations that come before the first operation at a place or beyond it

abbrev swaps_until : ℕ → List WaitAt → ℕ
swaps_until p [] = 0
swaps_until p (w ∷ ws) = cond (nat_lt w.place p) (swap_op w.op + swaps_until p ws) 0

none_until : (p : ℕ) (ws : List WaitAt) (n : ℕ) → p ≤ option_map_or (λ (w : WaitAt). w.place) (head_wait ws) n → swaps_until p ws ≡ 0
none_until p [] n le = refl
none_until p (w ∷ ws) n le = rw (le-ltb w.place p le) refl

-- a client's first operation is used, and it is no Swap
until_less : (p : ℕ) (ws : List WaitAt) (o : SyncOp) → option_map (λ (w : WaitAt). w.op) (head_wait ws) ≡ Some o → swaps_until p ws ≤ swap_op o + swaps_until p (drop 1 ws)
until_less p [] o h = omega arith
until_less p (w ∷ ws) o h =
    let same : w.op ≡ o = cc in
    elim (cases_Bool (nat_lt w.place p)) [
      | inl t ↦ rw t (omega (arith, ap swap_op same))
      | inr f ↦ rw f (omega arith)
    ]

-- ---- operations in their places

abbrev pub Rises : List WaitAt → ℕ → Type 0
Rises ws end = (from : ℕ) × AreRising from (places_of ws) end

rises_dropped : (ws : List WaitAt) (end : ℕ) → Rises ws end → Rises (drop 1 ws) end
rises_dropped [] end h = h
rises_dropped (w ∷ ws) end h = (w.place + 1, h.1.2)

rises_after : (syncs : SyncLists) (s : SyncState) (e : Entry) (c end : ℕ) → Rises (s.rest c) end → Rises ((after syncs s e).rest c) end
rises_after syncs s e c end h = elim (cases_Bool (is_member (client_count syncs) e c)) [
  | inl t ↦ rw t (rises_dropped (s.rest c) end h)
  | inr f ↦ rw f h
]

pub rises_end : (syncs : SyncLists) (s : SyncState) (js : List Entry) (c end : ℕ) → Rises (s.rest c) end → Rises ((end_of syncs s js).rest c) end
rises_end syncs s [] c end h = h
rises_end syncs s (e ∷ js) c end h = rises_end syncs (after syncs s e) js c end (rises_after syncs s e c end h)

pub first_within : (ws : List WaitAt) (end : ℕ) → Rises ws end → option_map_or (λ (w : WaitAt). w.place) (head_wait ws) end ≤ end
first_within [] end h = omega arith
first_within (w ∷ ws) end h = omega (arith, h.1.1)

-- ---- one entry

-- a client uses its first operation, which is no Swap
kept_below : (p : ℕ) (ws : List WaitAt) (o : SyncOp) → swap_op o ≡ 0 → option_map (λ (w : WaitAt). w.op) (head_wait ws) ≡ Some o
    → swaps_until p ws ≤ swaps_until p (drop 1 ws)
kept_below p ws o none h = omega (arith, until_less p ws o h, none)

-- of a list whose first operation lies below the place
until_more : (p : ℕ) (w : WaitAt) (ws : List WaitAt) → w.place < p → swaps_until p (w ∷ ws) ≡ swap_op w.op + swaps_until p ws
until_more p w ws lt = rw (lt-ltb w.place p lt) refl

until_stops : (p : ℕ) (w : WaitAt) (ws : List WaitAt) → p ≤ w.place → swaps_until p (w ∷ ws) ≡ 0
until_stops p w ws le = rw (le-ltb w.place p le) refl

kept_above : (p : ℕ) (ws : List WaitAt) (o : SyncOp) (end : ℕ) → Rises ws end → swap_op o ≡ 0 → option_map (λ (w : WaitAt). w.op) (head_wait ws) ≡ Some o
    → swaps_until p (drop 1 ws) ≤ swaps_until p ws
kept_above p [] o end h none is = absurd cc
kept_above p (w ∷ ws) o end h none is = elim (cases_lt w.place p) [
  | inl lt ↦ omega (arith, until_more p w ws lt)
  | inr ge ↦
      let beyond = rising_first (w.place + 1) ws end h.1.2 in
      omega (arith, none_until p ws end (omega (arith, ge, beyond)))
]

-- what an entry that is no Swap leaves
after_below : (syncs : SyncLists) (s : SyncState) (e : Entry) → IsLawful syncs s e → swap_entry e ≡ 0 → (c p : ℕ)
    → swaps_until p (s.rest c) ≤ swaps_until p ((after syncs s e).rest c)
after_below syncs s e h none c p = elim (cases_Bool (is_member (client_count syncs) e c)) [
  | inl t ↦ rw t (kept_below p (s.rest c) (op_of e) none (h.next c t))
  | inr f ↦ rw f (omega arith)
]

after_above : (syncs : SyncLists) (s : SyncState) (e : Entry) → IsLawful syncs s e → swap_entry e ≡ 0 → (c p end : ℕ) → Rises (s.rest c) end
    → swaps_until p ((after syncs s e).rest c) ≤ swaps_until p (s.rest c)
after_above syncs s e h none c p end rises = elim (cases_Bool (is_member (client_count syncs) e c)) [
  | inl t ↦ rw t (kept_above p (s.rest c) (op_of e) end rises none (h.next c t))
  | inr f ↦ rw f (omega arith)
]

-- ---- along a journal

-- no client has used more Swaps than the journal has
most_used : (syncs : SyncLists) (s : SyncState) (js : List Entry) → IsLegalFrom syncs s js → (c p : ℕ) → p ≤ stop syncs (end_of syncs s js) c
    → swaps_until p (s.rest c) ≤ swap_entries js
most_used syncs s [] h c p le = omega (arith, none_until p (s.rest c) (length_of syncs c) le)
most_used syncs s (e ∷ js) h c p le =
    let rest = most_used syncs (after syncs s e) js h.1 c p le in
    elim (cases_Bool (is_member (client_count syncs) e c)) [
      | inl t ↦
          let less = until_less p (s.rest c) (op_of e) (h.0.next c t) in
          let rest' : swaps_until p (drop 1 (s.rest c)) ≤ swap_entries js = rw t at rest in
          omega (arith, less, rest')
      | inr f ↦ let rest' : swaps_until p (s.rest c) ≤ swap_entries js = rw f at rest in omega (arith, rest')
    ]

-- an entry that uses an operation of c below p and one of d beyond q
pub record Parts (ms : List PlacedEntry) (c d p q : ℕ) : Type 0 where
  pub entry : PlacedEntry
  pub i : ℕ
  pub j : ℕ
  pub is_in : IsIn entry ms
  pub first : entry.at c ≡ Some i
  pub second : entry.at d ≡ Some j
  pub below : i < p
  pub beyond : q < j

later : (m : PlacedEntry) (ms : List PlacedEntry) (c d p q : ℕ) → Parts ms c d p q → Parts (m ∷ ms) c d p q
later m ms c d p q h = record {
  entry = h.entry;
  i = h.i;
  j = h.j;
  is_in = inr h.is_in;
  first = h.first;
  second = h.second;
  below = h.below;
  beyond = h.beyond;
}

-- the first operations of two clients are Swaps, which an entry uses
swap_parts : (p q : ℕ) (us vs : List WaitAt) (m : PlacedEntry) (ms : List PlacedEntry) (c d : ℕ)
    → option_map (λ (w : WaitAt). w.op) (head_wait us) ≡ Some op.Swap → option_map (λ (w : WaitAt). w.op) (head_wait vs) ≡ Some op.Swap
    → m.at c ≡ option_map (λ (w : WaitAt). w.place) (head_wait us) → m.at d ≡ option_map (λ (w : WaitAt). w.place) (head_wait vs)
    → swaps_until (q + 1) vs < swaps_until p us
    → (swaps_until (q + 1) (drop 1 vs) < swaps_until p (drop 1 us) → Parts ms c d p q) → Parts (m ∷ ms) c d p q
swap_parts p q [] vs m ms c d a b x y lt go = absurd cc
swap_parts p q (u ∷ us) [] m ms c d a b x y lt go = absurd cc
swap_parts p q (u ∷ us) (v ∷ vs) m ms c d a b x y lt go =
    let u_swap : u.op ≡ op.Swap = cc in
    let v_swap : v.op ≡ op.Swap = cc in
    elim (cases_lt u.place p) [
      | inr ge ↦ absurd (omega (arith, until_stops p u us ge, lt))
      | inl below ↦ elim (cases_lt q v.place) [
        | inl beyond ↦ record { entry = m; i = u.place; j = v.place; is_in = inl refl; first = x; second = y; below = below; beyond = beyond }
        | inr le ↦
            let one = until_more p u us below in
            let two = until_more (q + 1) v vs (omega (arith, le)) in
            later m ms c d p q (go (omega (arith, lt, one, two, ap swap_op u_swap, ap swap_op v_swap)))
      ]
    ]

-- a client that has more Swaps below p than another one has up to q is parted from it
crossing : (syncs : SyncLists) (s : SyncState) (js : List Entry) → IsLegalFrom syncs s js → (c d p q end : ℕ) → c < client_count syncs → d < client_count syncs
    → Rises (s.rest d) end → p ≤ stop syncs (end_of syncs s js) c → swaps_until (q + 1) (s.rest d) < swaps_until p (s.rest c) → Parts (entries_from syncs s js) c d p q
crossing syncs s [] h c d p q end lc ld rises le lt = absurd (omega (arith, none_until p (s.rest c) (length_of syncs c) le, lt))
crossing syncs s (e ∷ js) h c d p q end lc ld rises le lt =
    step syncs s e js h.0 c d p q end lc ld rises lt (crossing syncs (after syncs s e) js h.1 c d p q end lc ld (rises_after syncs s e d end rises) le)
  where
    other : (syncs : SyncLists) (s : SyncState) (e : Entry) (js : List Entry) → IsLawful syncs s e → swap_entry e ≡ 0 → (c d p q end : ℕ) → Rises (s.rest d) end
        → swaps_until (q + 1) (s.rest d) < swaps_until p (s.rest c)
        → (swaps_until (q + 1) ((after syncs s e).rest d) < swaps_until p ((after syncs s e).rest c) → Parts (entries_from syncs (after syncs s e) js) c d p q)
        → Parts (entries_from syncs s (e ∷ js)) c d p q
    other syncs s e js h none c d p q end rises lt go =
        later (entry_at syncs s e) (entries_from syncs (after syncs s e) js) c d p q
        (go (omega (arith, lt, after_below syncs s e h none c p, after_above syncs s e h none d (q + 1) end rises)))

    swap : (syncs : SyncLists) (s : SyncState) (js : List Entry) → IsLawful syncs s Swap → (c d p q : ℕ) → c < client_count syncs → d < client_count syncs
        → swaps_until (q + 1) (s.rest d) < swaps_until p (s.rest c)
        → (swaps_until (q + 1) ((after syncs s Swap).rest d) < swaps_until p ((after syncs s Swap).rest c) → Parts (entries_from syncs (after syncs s Swap) js) c d p q)
        → Parts (entries_from syncs s (Swap ∷ js)) c d p q
    swap syncs s js h c d p q lc ld lt go =
        let n = client_count syncs in
        let tc : nat_lt c n ≡ true = lt-ltb c n lc in
        let td : nat_lt d n ≡ true = lt-ltb d n ld in
        swap_parts p q (s.rest c) (s.rest d) (entry_at syncs s Swap) (entries_from syncs (after syncs s Swap) js) c d (h.next c tc) (h.next d td) (rw tc refl) (rw td refl) lt
        (λ less. go (rw (tc, td) less))

    step : (syncs : SyncLists) (s : SyncState) (e : Entry) (js : List Entry) → IsLawful syncs s e → (c d p q end : ℕ) → c < client_count syncs → d < client_count syncs
        → Rises (s.rest d) end → swaps_until (q + 1) (s.rest d) < swaps_until p (s.rest c)
        → (swaps_until (q + 1) ((after syncs s e).rest d) < swaps_until p ((after syncs s e).rest c) → Parts (entries_from syncs (after syncs s e) js) c d p q)
        → Parts (entries_from syncs s (e ∷ js)) c d p q
    step syncs s Swap js h c d p q end lc ld rises lt go = swap syncs s js h c d p q lc ld lt go
    step syncs s (Meet b m) js h c d p q end lc ld rises lt go = other syncs s (Meet b m) js h refl c d p q end rises lt go
    step syncs s (Give k f) js h c d p q end lc ld rises lt go = other syncs s (Give k f) js h refl c d p q end rises lt go
    step syncs s (Take k f) js h c d p q end lc ld rises lt go = other syncs s (Take k f) js h refl c d p q end rises lt go

-- ---- the Swaps of a stream are those of its operations

abbrev AllUnder : ℕ → List WaitAt → Type 0
AllUnder p [] = Unit {0}
AllUnder p (w ∷ ws) = (w.place < p) × AllUnder p ws

under_append : (p : ℕ) (us vs : List WaitAt) → AllUnder p us → AllUnder p vs → AllUnder p (us ++ vs)
under_append p [] vs h k = k
under_append p (u ∷ us) vs h k = (h.0, under_append p us vs h.1 k)

until_append : (p : ℕ) (us vs : List WaitAt) → AllUnder p us → swaps_until p (us ++ vs) ≡ swaps_until p us + swaps_until p vs
until_append p [] vs h = omega arith
until_append p (u ∷ us) vs h = omega (arith, until_more p u (us ++ vs) h.0, until_more p u us h.0, until_append p us vs h.1)

until_keep : (p : ℕ) (us vs : List WaitAt) → swaps_until p vs ≡ 0 → swaps_until p (us ++ vs) ≡ swaps_until p us
until_keep p [] vs none = none
until_keep p (u ∷ us) vs none = elim (cases_lt u.place p) [
  | inl lt ↦ omega (arith, until_more p u (us ++ vs) lt, until_more p u us lt, until_keep p us vs none)
  | inr ge ↦ omega (arith, until_stops p u (us ++ vs) ge, until_stops p u us ge)
]

wait_under : (p n : ℕ) (e : Effect) → n < p → AllUnder p (wait_of n e)
wait_under p n (eff.Sync o) lt = (lt, tt)
wait_under p n eff.Quiet lt = tt
wait_under p n (eff.Refused f) lt = tt
wait_under p n (eff.Block b) lt = tt
wait_under p n (eff.Clear m) lt = tt
wait_under p n (eff.Shared t) lt = tt

wait_beyond : (p n : ℕ) (e : Effect) → p ≤ n → swaps_until p (wait_of n e) ≡ 0
wait_beyond p n (eff.Sync o) le = until_stops p (record { place = n; op = o }) [] le
wait_beyond p n eff.Quiet le = refl
wait_beyond p n (eff.Refused f) le = refl
wait_beyond p n (eff.Block b) le = refl
wait_beyond p n (eff.Clear m) le = refl
wait_beyond p n (eff.Shared t) le = refl

op_swaps : (o : SyncOp) → swap_op o + 0 ≡ (if is_swap_effect (eff.Sync o) then 1 else 0)
op_swaps op.Swap = refl
op_swaps (op.Barrier b) = refl
op_swaps (op.SemP k) = refl
op_swaps (op.SemV k) = refl

wait_swaps : (p n : ℕ) (e : Effect) → n < p → swaps_until p (wait_of n e) ≡ (if is_swap_effect e then 1 else 0)
wait_swaps p n (eff.Sync o) lt = until_more p (record { place = n; op = o }) [] lt ∙ op_swaps o
wait_swaps p n eff.Quiet lt = refl
wait_swaps p n (eff.Refused f) lt = refl
wait_swaps p n (eff.Block b) lt = refl
wait_swaps p n (eff.Clear m) lt = refl
wait_swaps p n (eff.Shared t) lt = refl

waits_under : (s : Scene) (c n p : ℕ) → n ≤ p → AllUnder p (waits_below s c n)
unfolding waits_below
waits_under s c zero p le = tt
waits_under s c (suc n) p le =
    under_append p (waits_below s c n) (wait_of n (effect_at s c n)) (waits_under s c n p (omega (arith, le))) (wait_under p n (effect_at s c n) (omega (arith, le)))

until_all : (s : Scene) (c n p : ℕ) → n ≤ p → swaps_until p (waits_below s c n) ≡ accepted_swaps s c n
unfolding waits_below accepted_swaps
until_all s c zero p le = refl
until_all s c (suc n) p le =
    omega (
      arith,
      until_append p (waits_below s c n) (wait_of n (effect_at s c n)) (waits_under s c n p (omega (arith, le))),
      until_all s c n p (omega (arith, le)),
      wait_swaps p n (effect_at s c n) (omega (arith, le)),
    )

until_is : (s : Scene) (c n p : ℕ) → p ≤ n → swaps_until p (waits_below s c n) ≡ accepted_swaps s c p
unfolding waits_below
until_is s c zero p le = let e : 0 ≡ p = omega (arith, le) in until_all s c 0 p (omega arith) ∙ ap (accepted_swaps s c) e
until_is s c (suc n) p le = elim (cases_lt n p) [
  | inl lt ↦ let e : suc n ≡ p = omega (arith, le, lt) in until_all s c (suc n) p (omega (arith, lt)) ∙ ap (accepted_swaps s c) e
  | inr ge ↦
      until_keep p (waits_below s c n) (wait_of n (effect_at s c n)) (wait_beyond p n (effect_at s c n) ge) ∙ until_is s c n p ge
]

-- ---- permitted orders of scenes

module _ (s : Scene) (js : List Entry) (order : List Name) (legal : IsLegal (sync_lists_of s) js) (permitted : IsPermitted (sync_lists_of s) js order) where
  -- a name of the order is one of a client
  client_of : (n : Name) → IsIn n order → n.client < length s.streams
  client_of n i = elim (cases_lt n.client (length s.streams)) [
    | inl lt ↦ lt
    | inr ge ↦ absurd (omega (arith, (permitted.names n).0 i, reach_past (sync_lists_of s) js n.client (omega (arith, scene_client_count s, ge))))
  ]

  ops_are : (c : ℕ) → c < length s.streams → ops_of (sync_lists_of s) c ≡ waits_below s c (length (stream_of s c))
  ops_are c lt = ap (λ (r : SyncRow). r.ops) (scene_row s c lt)

  rises_first : (c : ℕ) → c < length s.streams → Rises (ops_of (sync_lists_of s) c) (length (stream_of s c))
  rises_first c lt = subst (λ (ws : List WaitAt). Rises ws (length (stream_of s c))) (sym (ops_are c lt)) (0, rising_below s c (length (stream_of s c)))

  -- and of its stream
  pub place_of : (n : Name) → IsIn n order → n.place < length (stream_of s n.client)
  place_of n i =
      let lt = client_of n i in
      let syncs = sync_lists_of s in
      let end = length (stream_of s n.client) in
      let same : length_of syncs n.client ≡ end = ap (λ (r : SyncRow). r.length) (scene_row s n.client lt) in
      let within = first_within ((end_of syncs (start syncs) js).rest n.client) end (rises_end syncs (start syncs) js n.client end (rises_first n.client lt)) in
      let reach : reach_of syncs js n.client ≤ end = subst (λ (k : ℕ). option_map_or (λ (w : WaitAt). w.place) (head_wait ((end_of syncs (start syncs) js).rest n.client)) k ≤ end) (sym same) within in
      omega (arith, (permitted.names n).0 i, reach)

  swaps_are : (n : Name) (p : ℕ) → IsIn n order → p ≤ length (stream_of s n.client) → swaps_until p (ops_of (sync_lists_of s) n.client) ≡ accepted_swaps s n.client p
  swaps_are n p i le = ap (swaps_until p) (ops_are n.client (client_of n i)) ∙ until_is s n.client (length (stream_of s n.client)) p le

  -- no name lies beyond more Swaps than the journal has
  pub swaps_within : (n : Name) → IsIn n order → swaps_before s n ≤ frame_count js
  swaps_within n i =
      let syncs = sync_lists_of s in
      let used = most_used syncs (start syncs) js legal n.client n.place (omega (arith, (permitted.names n).0 i)) in
      omega (arith, used, swaps_are n n.place i (omega (arith, place_of n i)), swap_entries_counted js)

  -- no name beyond a Swap stands before one below it
  pub swaps_parted : (a b : Name) → Stands a b order → swaps_before s a ≤ accepted_swaps s b.client (b.place + 1)
  swaps_parted a b stands = elim (cases_lt (accepted_swaps s b.client (b.place + 1)) (swaps_before s a)) [
    | inr le ↦ le
    | inl lt ↦
        let syncs = sync_lists_of s in
        let i = first_in a b order stands in
        let j = second_in a b order stands in
        let first = swaps_are a a.place i (omega (arith, place_of a i)) in
        let second = swaps_are b (b.place + 1) j (omega (arith, place_of b j)) in
        let parts = crossing syncs (start syncs) js legal a.client b.client a.place b.place (length (stream_of s b.client))
        (omega (arith, client_of a i, scene_client_count s)) (omega (arith, client_of b j, scene_client_count s)) (rises_first b.client (client_of b j))
        (omega (arith, (permitted.names a).0 i)) (omega (arith, lt, first, second)) in
        absurd (not_both a b order permitted.once stands
        (permitted.sequence b a j i (Parted parts.entry parts.j parts.i parts.is_in parts.second parts.first parts.beyond parts.below)))
  ]

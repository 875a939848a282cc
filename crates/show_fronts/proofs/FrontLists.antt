-- The lists of synchronisation of a scene that is cut behind a Swap, and what its clients give to tiles.
use Rattle.std.proofs.Common.{◌≡◌, ℕ, zero, suc, ◌+◌, ◌-◌, ◌<◌, ◌≤◌, nat_lt, Bool, true, cond, List, [], ◌∷◌, ◌++◌, length, inl, inr, refl, sym, ap, ◌∙◌, subst, arith, ◌⊎◌, lt-ltb, le-ltb, append_assoc, append-nil, length-append}
use Rattle.std.specs.Prelude.{if◌then◌else◌}
use Rattle.std.specs.List.{flat_map}
use Rattle.std.proofs.lemmas.Bool.{cases_lt, cases_Bool}
use Rattle.std.proofs.lemmas.Grind.{flat_map-append}
use Rattle.std.proofs.lemmas.List.{get_or_past}
use Rattle.std.proofs.lemmas.List.FromFn.{length-map-range_with_len}
use Rattle.rc_base.specs.Cluster.Parcels.{parcels_at, parcels_before}
use Rattle.rc_base.specs.Contexts.Issue.{stream_of, effect_at}
use Rattle.rc_base.specs.Drawing.Serial.{accepted_swaps, is_swap_effect}
use Rattle.rc_base.specs.Lists.{at_name}
use Rattle.rc_base.specs.Orders.Journal.{how_many}
use Rattle.rc_base.specs.Orders.Sync.{IsWellFormed, ops_of, length_of, wait_of, waits_below, sync_lists_of}
use Rattle.rc_base.specs.declared.scene.Scene.{Scene}
use Rattle.rc_base.specs.declared.state.Effect.{Effect}
use Rattle.rc_base.specs.declared.state.Effect.TheVariants as eff
use Rattle.rc_base.specs.declared.state.Parcel.{Parcel}
use Rattle.rc_base.specs.declared.sync.SyncOp.TheVariants as op
use Rattle.rc_base.specs.declared.sync.SyncRow.{SyncRow}
use Rattle.rc_base.specs.declared.sync.WaitAt.{WaitAt}
use Rattle.rc_base.specs.declared.window.Layout.{Layout}
use Rattle.plain_lemmas.proofs.Lists.{both_empty, same_parts}
use Rattle.scene_lemmas.proofs.Scenes.{scene_client_count, scene_counts}
use Rattle.order_model.specs.Log.{Job}
use Rattle.order_model.specs.Sent.{job_of, jobs_of}
use Rattle.order_model.proofs.ClientsBeyond.{length_past}
use Rattle.order_model.proofs.SceneJobsAreSent.{jobs_are, ops_are}
use Rattle.order_model.proofs.SceneListsAreWellFormed.{scene_row, scene_lists_well_formed}
use Rattle.show_fronts.specs.Fronts.{front_end, front}
use Rattle.show_fronts.proofs.FrontJournals.{front_ops, swap_count, front_none, front_append, AreCut}
use Rattle.show_fronts.proofs.FrontStreams.{IsEnd, whole_end, end_is, swaps_up, front_is, front_length, same_waits, same_parcels}

-- ---- Swaps among operations

count_append : (xs ys : List WaitAt) → swap_count (xs ++ ys) ≡ swap_count xs + swap_count ys
count_append [] ys = omega arith
count_append (x ∷ xs) ys = omega (arith, count_append xs ys)

one_count : (p : ℕ) (e : Effect) → swap_count (wait_of p e) ≡ (if is_swap_effect e then 1 else 0)
one_count p eff.Quiet = refl
one_count p (eff.Refused f) = refl
one_count p (eff.Block b) = refl
one_count p (eff.Clear m) = refl
one_count p (eff.Shared t) = refl
one_count p (eff.Sync (op.Barrier b)) = refl
one_count p (eff.Sync (op.SemP k)) = refl
one_count p (eff.Sync (op.SemV k)) = refl
one_count p (eff.Sync op.Swap) = refl

swaps_are : (s : Scene) (c m : ℕ) → swap_count (waits_below s c m) ≡ accepted_swaps s c m
unfolding waits_below accepted_swaps
swaps_are s c zero = refl
swaps_are s c (suc m) =
    let before = swaps_are s c m in
    let here = one_count m (effect_at s c m) in
    let both = count_append (waits_below s c m) (wait_of m (effect_at s c m)) in
    omega (arith, before, here, both)

-- an operation with a Swap to come stays
stays : (k p : ℕ) (e : Effect) → front_ops (suc k) (wait_of p e) ≡ wait_of p e
stays k p eff.Quiet = refl
stays k p (eff.Refused f) = refl
stays k p (eff.Block b) = refl
stays k p (eff.Clear m) = refl
stays k p (eff.Shared t) = refl
stays k p (eff.Sync o) = refl

swap_wait : (p : ℕ) (e : Effect) → is_swap_effect e ≡ true → wait_of p e ≡ record { place = p; op = op.Swap } ∷ []
swap_wait p (eff.Sync op.Swap) t = refl
swap_wait p (eff.Sync (op.Barrier b)) t = absurd cc
swap_wait p (eff.Sync (op.SemP k)) t = absurd cc
swap_wait p (eff.Sync (op.SemV k)) t = absurd cc
swap_wait p eff.Quiet t = absurd cc
swap_wait p (eff.Refused f) t = absurd cc
swap_wait p (eff.Block b) t = absurd cc
swap_wait p (eff.Clear m) t = absurd cc
swap_wait p (eff.Shared t') t = absurd cc

module _ (s : Scene) (n c : ℕ) where
  abbrev count_in : ℕ → ℕ
  count_in m = how_many (λ p. nat_lt (accepted_swaps s c p) n) m

  waits_cut : (m : ℕ) → front_ops n (waits_below s c m) ≡ waits_below s c (count_in m)
  unfolding waits_below
  waits_cut zero = refl
  waits_cut (suc m) =
      let ws = waits_below s c m in
      let new = wait_of m (effect_at s c m) in
      let f = count_in m in
      let h : IsEnd n (accepted_swaps s c) m f = end_is n (accepted_swaps s c) (swaps_up s c) m in
      let split = front_append n ws new ∙ ap (λ xs. xs ++ front_ops (n - swap_count ws) new) (waits_cut m) in
      let swaps = swaps_are s c m in
      elim (cases_lt (accepted_swaps s c m) n) [
        | inl lt ↦
            let k = n - accepted_swaps s c m - 1 in
            let some : n - swap_count ws ≡ suc k = omega (arith, lt, swaps) in
            let whole : f ≡ m = whole_end n (accepted_swaps s c) (swaps_up s c) m f h lt in
            let next : suc m ≡ count_in (suc m) =
            omega (arith, whole, ap (λ b. f + cond {A = ℕ} b 1 0) (lt-ltb (accepted_swaps s c m) n lt)) in
            split ∙ ap (λ j. waits_below s c f ++ front_ops j new) some ∙ ap (λ xs. waits_below s c f ++ xs) (stays k m (effect_at s c m))
            ∙ ap (λ j. waits_below s c j ++ new) whole ∙ ap (waits_below s c) next
        | inr ge ↦
            let none : n - swap_count ws ≡ 0 = omega (arith, ge, swaps) in
            let still : f ≡ count_in (suc m) = omega (arith, ap (λ b. f + cond {A = ℕ} b 1 0) (le-ltb (accepted_swaps s c m) n ge)) in
            split ∙ ap (λ j. waits_below s c f ++ front_ops j new) none ∙ ap (λ xs. waits_below s c f ++ xs) (front_none new)
            ∙ append-nil (waits_below s c f) ∙ ap (waits_below s c) still
      ]

  -- a stream whose last command is its n-th Swap
  last_place : (f : ℕ) → ((p : ℕ) → p < f → accepted_swaps s c p < n) → n ≤ accepted_swaps s c f → (before : List WaitAt) (w : WaitAt)
      → waits_below s c f ≡ before ++ w ∷ [] → f ≡ w.place + 1
  unfolding waits_below accepted_swaps
  last_place zero below enough before w e = absurd (let none : w ∷ [] ≡ [] = (both_empty before (w ∷ []) (sym e)).1 in cc none)
  last_place (suc q) below enough before w e =
      let few = below q (omega arith) in
      let effect = effect_at s c q in
      elim (cases_Bool (is_swap_effect effect)) [
        | inl t ↦
            let one = swap_wait q effect t in
            let last : WaitAt = record { place = q; op = op.Swap } in
            let e' : waits_below s c q ++ last ∷ [] ≡ before ++ w ∷ [] = ap (λ x. waits_below s c q ++ x) (sym one) ∙ e in
            let long = ap length e' in
            let long_a = length-append (waits_below s c q) (last ∷ []) in
            let long_b = length-append before (w ∷ []) in
            let size : length (waits_below s c q) ≡ length before = omega (arith, long, long_a, long_b) in
            let same = (same_parts (waits_below s c q) before (last ∷ []) (w ∷ []) size e').1 in
            let place : last ≡ w = cc same in
            let p : q ≡ w.place = ap (λ (v : WaitAt). v.place) place in
            omega (arith, p)
        | inr f ↦ absurd (let one : Bool → ℕ = λ b. if b then 1 else 0 in let here = ap one f in omega (arith, few, enough, here))
      ]

pub scene_length : (s : Scene) (c : ℕ) → length_of (sync_lists_of s) c ≡ length (stream_of s c)
scene_length s c = elim (cases_lt c (length s.streams)) [
  | inl lt ↦ ap (λ (r : SyncRow). r.length) (scene_row s c lt)
  | inr ge ↦ length_past (sync_lists_of s) c (omega (arith, scene_client_count s, ge)) ∙ sym (ap length (get_or_past s.streams c [] ge))
]

scene_units : (s : Scene) → (sync_lists_of s).units ≡ s.decl.semaphores
unfolding sync_lists_of
scene_units s = refl

pub front_clients : (s : Scene) (n : ℕ) → length (front n s).streams ≡ length s.streams
front_clients s n = length-map-range_with_len _ 0 (length s.streams)

pub front_stop : (s : Scene) (n c : ℕ) → length_of (sync_lists_of (front n s)) c ≡ front_end s n c
front_stop s n c = scene_length (front n s) c ∙ front_length s n c

-- the first n frames' lists are the scene's, cut there
pub are_cut : (s : Scene) (n : ℕ) → AreCut n (sync_lists_of s) (sync_lists_of (front n s))
are_cut s n = record {
  clients = scene_client_count (front n s) ∙ front_clients s n ∙ sym (scene_client_count s);
  counts = scene_counts (front n s) ∙ sym (scene_counts s);
  units = scene_units (front n s) ∙ sym (scene_units s);
  ops = λ c.
      ops_are (front n s) c ∙ ap (waits_below (front n s) c) (front_length s n c) ∙ same_waits s n c (front_end s n c) (omega arith)
      ∙ sym (waits_cut s n c (length (stream_of s c))) ∙ sym (ap (front_ops n) (ops_are s c));
  none = λ z c. elim (cases_lt 0 (front_end s n c)) [
    | inl lt ↦ absurd (let low = (front_is s n c).below 0 lt in omega (arith, low, z))
    | inr ge ↦ front_stop s n c ∙ omega (arith, ge)
  ];
  ends = λ c inside.
      let m = length (stream_of s c) in
      let h = front_is s n c in
      let count : swap_count (ops_of (sync_lists_of s) c) ≡ accepted_swaps s c m = ap swap_count (ops_are s c) ∙ swaps_are s c m in
      elim (cases_lt (accepted_swaps s c m) n) [
        | inl lt ↦
            inl (omega (arith, lt, count), front_stop s n c ∙ whole_end n (accepted_swaps s c) (swaps_up s c) m (front_end s n c) h lt ∙ sym (scene_length s c))
        | inr ge ↦
            let enough : n ≤ accepted_swaps s c (front_end s n c) = elim h.at [ inl e ↦ subst (λ k. n ≤ accepted_swaps s c k) (sym e) ge | inr le ↦ le ] in
            inr (
              omega (arith, ge, count),
              λ before w e. front_stop s n c ∙ last_place s n c (front_end s n c) h.below enough before w
                  (sym (ops_are (front n s) c ∙ ap (waits_below (front n s) c) (front_length s n c) ∙ same_waits s n c (front_end s n c) (omega arith)) ∙ e),
            )
      ];
}

pub front_formed : (s : Scene) (n : ℕ) → IsWellFormed (sync_lists_of s) → IsWellFormed (sync_lists_of (front n s))
front_formed s n well =
    let some = well.some in
    scene_lists_well_formed (front n s) (omega (arith, some, scene_client_count s, front_clients s n))
    (λ b k e. well.counts b k (ap (λ (cs : List ℕ). at_name cs b) (scene_counts s) ∙ e))

-- ---- what a client gives to a tile

grown : (s : Scene) (l : Layout) (c tile f r : ℕ) → (more : List Parcel) × (parcels_before s l c tile (f + r) ≡ parcels_before s l c tile f ++ more)
unfolding parcels_before
grown s l c tile f zero = let e : f + 0 ≡ f = omega arith in ([], ap (parcels_before s l c tile) e ∙ sym (append-nil (parcels_before s l c tile f)))
grown s l c tile f (suc r) =
    let h = grown s l c tile f r in
    let e : f + suc r ≡ suc (f + r) = omega arith in
    let earlier = parcels_before s l c tile (f + r) in
    let new = parcels_at s l c tile (f + r) earlier in
    (h.0 ++ new, ap (parcels_before s l c tile) e ∙ ap (λ ps. ps ++ new) h.1 ∙ append_assoc (parcels_before s l c tile f) h.0 new)

-- the cut stream's jobs come first, and others only where there are n Swaps
pub record JobsGoOn (s : Scene) (l : Layout) (n c tile : ℕ) : Type 0 where
  pub more : List Job
  pub whole : jobs_of s l c tile ≡ jobs_of (front n s) l c tile ++ more
  pub none : (more ≡ []) ⊎ (n ≤ swap_count (ops_of (sync_lists_of s) c))

pub jobs_go_on : (s : Scene) (l : Layout) (n c tile : ℕ) → JobsGoOn s l n c tile
jobs_go_on s l n c tile =
    let m = length (stream_of s c) in
    let f = front_end s n c in
    let h = front_is s n c in
    let w = h.within in
    let first : jobs_of (front n s) l c tile ≡ flat_map job_of (parcels_before s l c tile f) =
    jobs_are (front n s) l c tile ∙ ap (λ k. flat_map job_of (parcels_before (front n s) l c tile k)) (front_length s n c)
    ∙ ap (flat_map job_of) (same_parcels s n c l tile f (omega arith)) in
    elim h.at [
      | inl e ↦ record {
        more = [];
        whole = jobs_are s l c tile ∙ ap (λ k. flat_map job_of (parcels_before s l c tile k)) (sym e) ∙ sym first ∙ sym (append-nil (jobs_of (front n s) l c tile));
        none = inl refl;
      }
      | inr ge ↦
          let g = grown s l c tile f (m - f) in
          let e : f + (m - f) ≡ m = omega (arith, w) in
          let up = swaps_up s c f m w in
          let count : swap_count (ops_of (sync_lists_of s) c) ≡ accepted_swaps s c m = ap swap_count (ops_are s c) ∙ swaps_are s c m in
          record {
            more = flat_map job_of g.0;
            whole =
                jobs_are s l c tile ∙ ap (λ k. flat_map job_of (parcels_before s l c tile k)) (sym e) ∙ ap (flat_map job_of) g.1
                ∙ flat_map-append job_of (parcels_before s l c tile f) g.0 ∙ ap (λ js. js ++ flat_map job_of g.0) (sym first);
            none = inr (omega (arith, ge, up, count));
          }
    ]

-- A client before its first command, and the sequence of a client by its commands alone.
use Rattle.std.proofs.Common.{◌≡◌, ◌∙◌, ℕ, zero, suc, ◌+◌, ◌-◌, ◌≤◌, List, [], ◌∷◌, ◌++◌, length, get_or, None, refl, sym, ap, arith, append_assoc, append-nil}
use Rattle.std.specs.Prelude.{map, replicate, slice_get, not, nat_eq, is_some, false, ◌&&◌, ◌||◌, option_and_then, if◌then◌else◌}
use Rattle.std.specs.List.{list_any}
use Rattle.rc_base.specs.Contexts.Context.{default_context}
use Rattle.rc_base.specs.Contexts.Elements.{marks}
use Rattle.rc_base.specs.Contexts.Faults.{fault_of}
use Rattle.rc_base.specs.Contexts.Issue.{stream_of, context_after, effect_at, effect_of, fault_at, issued_next}
use Rattle.std.specs.Option.{option_map_or}
use Rattle.rc_base.specs.declared.state.Effect.TheVariants as eff
use Rattle.rc_base.specs.Orders.Sync.{waits_below, wait_of}
use Rattle.rc_base.specs.Cluster.Tiles.{tile_count}
use Rattle.rc_base.specs.Cluster.Looks.{is_block, is_pending, looks_at, looks_for}
use Rattle.rc_base.specs.Cluster.Parcels.{draws_on, examined, told, parcel_of, parcels_before, end_parcel}
use Rattle.rc_base.specs.Cluster.Sending.{Sending, ToManager, sent_at, sent_before, sent_by, to_tiles, request_of}
use Rattle.rc_base.specs.declared.command.Command.{Command}
use Rattle.rc_base.specs.declared.scene.Decl.{Decl}
use Rattle.rc_base.specs.declared.scene.Scene.{Scene}
use Rattle.rc_base.specs.declared.sync.Request.TheVariants as request
use Rattle.rc_base.specs.declared.sync.WaitAt.{WaitAt}
use Rattle.rc_base.specs.declared.window.Layout.{Layout}
use Rattle.client_issue.specs.Cores.{no_tally, ends_from}
use Rattle.client_issue.specs.Sequence.{alone, sent_from, left_with, pending_items, request_items}
use Rattle.client_issue.specs.declared.sender.Sender.{Sender}
use Rattle.client_issue.proofs.Ends.{shown, items_from}
use Rattle.client_issue.proofs.Giving.{commands_next, commands_end, one_more}

pub no_waits : (scene : Scene) → waits_below scene 0 0 ≡ []
unfolding waits_below
no_waits scene = refl

pub none_pending : (scene : Scene) (l : Layout) (tile e : ℕ) → is_pending scene l 0 tile 0 e ≡ false
unfolding is_pending
none_pending scene l tile e = refl

pub no_parcels : (scene : Scene) (l : Layout) (tile : ℕ) → parcels_before scene l 0 tile 0 ≡ []
unfolding parcels_before
no_parcels scene l tile = refl

pub first_left : (s : Sender) (d : Decl) → s.decl ≡ d → s.pending ≡ None → s.request ≡ None → s.issued ≡ 0 → left_with s s.pending ≡ sent_from (alone d s.stream) s.layout 0
unfolding left_with
first_left s d e pending request issued = λ i. pending_items (alone (e i) s.stream) s.layout (pending i) ++ (request_items (request i) ++ sent_from (alone (e i) s.stream) s.layout (issued i))

pub no_tally_in : (n tile : ℕ) → get_or (replicate n no_tally) tile no_tally ≡ no_tally
no_tally_in zero tile = refl
no_tally_in (suc n) zero = refl
no_tally_in (suc n) (suc tile) = no_tally_in n tile

abbrev ends_of : Layout → ℕ → List Sending
ends_of l n = to_tiles l (λ tile. end_parcel n ∷ []) ++ ToManager request.End ∷ []

-- ---- the same commands under the same declaration give the same

module _ (scene other : Scene) (client k : ℕ) (d : scene.decl ≡ other.decl) (e : stream_of scene client ≡ stream_of other k) where
  pub same_contexts : (n : ℕ) → context_after scene client n ≡ context_after other k n
  unfolding context_after
  same_contexts zero = ap default_context d
  same_contexts (suc n) = λ i. issued_next (same_contexts n i) n (slice_get (e i) n)

  pub same_effects : (n : ℕ) → effect_at scene client n ≡ effect_at other k n
  unfolding effect_at
  same_effects n = λ i. option_map_or (effect_of (same_contexts n i)) (slice_get (e i) n) eff.Quiet

  pub same_waits : (n : ℕ) → waits_below scene client n ≡ waits_below other k n
  unfolding waits_below
  same_waits zero = refl
  same_waits (suc n) = λ i. same_waits n i ++ wait_of n (same_effects n i)

  same_parcels : (l : Layout) (tile n : ℕ) → parcels_before scene l client tile n ≡ parcels_before other l k tile n
  unfolding parcels_before
  same_parcels l tile zero = refl
  same_parcels l tile (suc n) = λ i. same_parcels l tile n i ++ parcel_of l tile (told (d i) (same_parcels l tile n i)) (same_contexts n i) n (same_effects n i)

  same_pending : (l : Layout) (tile n m : ℕ) → is_pending scene l client tile n m ≡ is_pending other l k tile n m
  unfolding is_pending fault_at
  same_pending l tile zero m = refl
  same_pending l tile (suc n) m = λ i.
      (not (is_some (option_and_then (fault_of (same_contexts n i)) (slice_get (e i) n)))
      && option_map_or (λ c. option_map_or (nat_eq m) (marks c (same_contexts n i).matrix_mode) false) (slice_get (e i) n) false)
      || (same_pending l tile n m i && not (draws_on l tile (same_contexts n i) (same_effects n i) && list_any (nat_eq m) (examined (same_contexts n i) (is_block (same_effects n i)))))

  -- the looks at a place
  pub looks_alike : (l : Layout) (tile n : ℕ) → looks_at scene l client tile n ≡ looks_at other l k tile n
  unfolding looks_at
  looks_alike l tile n = λ i. if draws_on l tile (same_contexts n i) (same_effects n i) then looks_for (λ m. same_pending l tile n m i) else 0

  same_sent_at : (l : Layout) (n : ℕ) → sent_at scene l client n ≡ sent_at other l k n
  same_sent_at l n = λ i. to_tiles l (λ tile. parcel_of l tile (told (d i) (same_parcels l tile n i)) (same_contexts n i) n (same_effects n i))
      ++ map (λ (w : WaitAt). ToManager (request_of w)) (wait_of n (same_effects n i))

  same_sent_before : (l : Layout) (n : ℕ) → sent_before scene l client n ≡ sent_before other l k n
  unfolding sent_before
  same_sent_before l zero = refl
  same_sent_before l (suc n) = λ i. same_sent_before l n i ++ same_sent_at l n i

  pub same_sequence : (l : Layout) → sent_by scene l client ≡ sent_by other l k
  unfolding sent_by
  same_sequence l =
      ap (λ (cs : List Command). sent_before scene l client (length cs) ++ ends_of l (length cs)) e
      ∙ ap (λ (items : List Sending). items ++ ends_of l (length (stream_of other k))) (same_sent_before l (length (stream_of other k)))

-- ---- the sequence is that of the commands from the first on, and the Ends

before_and_from : (scene : Scene) (l : Layout) (n : ℕ) → n ≤ length (stream_of scene 0) → sent_before scene l 0 n ++ sent_from scene l n ≡ sent_from scene l 0
unfolding sent_before
before_and_from scene l zero h = refl
before_and_from scene l (suc n) h =
    ap (λ (k : ℕ). (sent_before scene l 0 n ++ sent_at scene l 0 n) ++ sent_from scene l k) (sym (one_more n))
    ∙ append_assoc (sent_before scene l 0 n) (sent_at scene l 0 n) (sent_from scene l (n + 1))
    ∙ ap (λ (items : List Sending). sent_before scene l 0 n ++ items) (sym (commands_next scene l n (omega (arith, h))))
    ∙ before_and_from scene l n (omega (arith, h))

all_before : (scene : Scene) (l : Layout) → sent_from scene l 0 ≡ sent_before scene l 0 (length (stream_of scene 0))
all_before scene l =
    let n = length (stream_of scene 0) in
    sym (before_and_from scene l n (omega arith)) ∙ ap (λ (items : List Sending). sent_before scene l 0 n ++ items) (commands_end scene l n (omega arith)) ∙ append-nil (sent_before scene l 0 n)

pub ends_are : (l : Layout) (n : ℕ) → ends_from l n 0 ≡ to_tiles l (λ tile. end_parcel n ∷ []) ++ ToManager request.End ∷ []
ends_are l n = let e : tile_count l - 0 ≡ tile_count l = omega arith in shown l n 0 (omega arith) ∙ ap (items_from l n 0) e

whole_alone : (d : Decl) (stream : List Command) (l : Layout) → sent_from (alone d stream) l 0 ++ ends_from l (length stream) 0 ≡ sent_by (alone d stream) l 0
unfolding sent_by
whole_alone d stream l = λ i. all_before (alone d stream) l i ++ ends_are l (length stream) i

pub whole : (scene : Scene) (client : ℕ) (l : Layout) (stream : List Command) → stream ≡ stream_of scene client
    → sent_from (alone scene.decl stream) l 0 ++ ends_from l (length stream) 0 ≡ sent_by scene l client
whole scene client l stream e = whole_alone scene.decl stream l ∙ same_sequence (alone scene.decl stream) scene 0 client refl e l

-- A journal has no more Swaps than a client has commands.
use Rattle.std.proofs.Common.{◌≡◌, ℕ, zero, suc, ◌+◌, ◌<◌, ◌≤◌, Bool, true, false, cond, List, [], ◌∷◌, length, ap, ◌∙◌, arith, length-append, lt-ltb}
use Rattle.std.proofs.lemmas.List.FromFn.{length-map-range_with_len, get_or-map-range_with_len}
use Rattle.std.proofs.lemmas.List.Sums.{sum_by-cons}
use Rattle.std.proofs.lemmas.Option.{slice_get-get_or}
use Rattle.std.specs.List.{range_with_len}
use Rattle.std.specs.Option.{unwrap_or}
use Rattle.std.specs.Prelude.{drop, map, nat_lt}
use Rattle.rc_base.specs.Contexts.Issue.{stream_of, effect_at}
use Rattle.rc_base.specs.Orders.Journal.{SyncState, is_member, after, IsLegalFrom}
use Rattle.rc_base.specs.Orders.Sync.{client_count, ops_of, waits_below, wait_of, sync_row_of, sync_lists_of}
use Rattle.rc_base.specs.declared.scene.Scene.{Scene}
use Rattle.rc_base.specs.declared.state.Effect.{Effect}
use Rattle.rc_base.specs.declared.state.Effect.TheVariants as effect
use Rattle.rc_base.specs.declared.sync.Entry.{Entry}
use Rattle.rc_base.specs.declared.sync.Entry.TheVariants.{Meet, Swap, Give, Take}
use Rattle.rc_base.specs.declared.sync.SyncLists.{SyncLists}
use Rattle.rc_base.specs.declared.sync.SyncRow.{SyncRow}
use Rattle.rc_base.specs.declared.sync.WaitAt.{WaitAt}
use Rattle.scene_lemmas.proofs.Scenes.{scene_client_count}
use Rattle.order_model.proofs.JournalsInTurn.{head_used}
use Rattle.order_model.specs.Laws.{SwapsAreFew}
use Rattle.order_model.specs.Report.{frame_count, is_swap_entry}

shorter : (b : Bool) (ws : List WaitAt) → length (cond b (drop 1 ws) ws) ≤ length ws
shorter true [] = omega arith
shorter true (w ∷ ws) = omega arith
shorter false ws = omega arith

more_frames : (e : Entry) (es : List Entry) → frame_count (e ∷ es) ≡ cond (is_swap_entry e) 1 0 + frame_count es
more_frames e es = sum_by-cons (λ x. cond (is_swap_entry x) 1 0) e es

module _ (syncs : SyncLists) (some : 0 < client_count syncs) where
  swaps_within : (journal : List Entry) (s : SyncState) → IsLegalFrom syncs s journal → frame_count journal ≤ length (s.rest 0)
  swaps_within [] s h = omega arith
  swaps_within (Meet barrier members ∷ es) s h =
      let e : Entry = Meet barrier members in
      let a = swaps_within es (after syncs s e) h.1 in
      let b = more_frames e es in
      let c = shorter (is_member (client_count syncs) e 0) (s.rest 0) in
      omega (arith, a, b, c)
  swaps_within (Swap ∷ es) s h =
      let a = swaps_within es (after syncs s Swap) h.1 in
      let b = more_frames Swap es in
      let in_it : nat_lt 0 (client_count syncs) ≡ true = lt-ltb 0 (client_count syncs) some in
      let c = head_used (s.rest 0) _ (h.0.next 0 in_it) in
      let d : length (cond (nat_lt 0 (client_count syncs)) (drop 1 (s.rest 0)) (s.rest 0)) ≡ length (drop 1 (s.rest 0)) =
      ap (λ x. length (cond x (drop 1 (s.rest 0)) (s.rest 0))) in_it in
      omega (arith, a, b, c, d)
  swaps_within (Give semaphore client ∷ es) s h =
      let e : Entry = Give semaphore client in
      let a = swaps_within es (after syncs s e) h.1 in
      let b = more_frames e es in
      let c = shorter (is_member (client_count syncs) e 0) (s.rest 0) in
      omega (arith, a, b, c)
  swaps_within (Take semaphore client ∷ es) s h =
      let e : Entry = Take semaphore client in
      let a = swaps_within es (after syncs s e) h.1 in
      let b = more_frames e es in
      let c = shorter (is_member (client_count syncs) e 0) (s.rest 0) in
      omega (arith, a, b, c)

one_wait : (place : ℕ) (x : Effect) → length (wait_of place x) ≤ 1
one_wait place effect.Quiet = omega arith
one_wait place (effect.Refused fault) = omega arith
one_wait place (effect.Block block) = omega arith
one_wait place (effect.Clear mask) = omega arith
one_wait place (effect.Shared part) = omega arith
one_wait place (effect.Sync op) = omega arith

few_waits : (scene : Scene) (client n : ℕ) → length (waits_below scene client n) ≤ n
unfolding waits_below
few_waits scene client zero = omega arith
few_waits scene client (suc n) =
    let a = few_waits scene client n in
    let b = one_wait n (effect_at scene client n) in
    let c = length-append (waits_below scene client n) (wait_of n (effect_at scene client n)) in
    omega (arith, a, b, c)

first_ops : (scene : Scene) → 0 < length scene.streams → ops_of (sync_lists_of scene) 0 ≡ waits_below scene 0 (length (stream_of scene 0))
unfolding sync_lists_of
first_ops scene some =
    let rows : List SyncRow = map (sync_row_of scene) (range_with_len 0 (length scene.streams)) in
    let none : SyncRow = record { ops = []; length = 0 } in
    let low : 0 < length rows = (let c = length-map-range_with_len (sync_row_of scene) 0 (length scene.streams) in omega (arith, c, some)) in
    ap (λ o. (unwrap_or o none).ops) (slice_get-get_or rows 0 none low)
    ∙ ap (λ (r : SyncRow). r.ops) (get_or-map-range_with_len (sync_row_of scene) 0 (length scene.streams) 0 0 none some (omega arith))

pub few_swaps : SwapsAreFew
few_swaps scene journal some h =
    let c = scene_client_count scene in
    let a = swaps_within (sync_lists_of scene) (omega (arith, c, some)) journal (record { rest = ops_of (sync_lists_of scene); units = _ }) h in
    let b = ap length (first_ops scene some) in
    let d = few_waits scene 0 (length (stream_of scene 0)) in
    omega (arith, a, b, d)

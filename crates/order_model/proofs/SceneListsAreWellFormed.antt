-- The lists of a scene are well formed.
use Rattle.std.proofs.Common.{◌≡◌, ℕ, zero, suc, ◌+◌, ◌<◌, ◌≤◌, [], ◌∷◌, length, map, Some, inl, inr, refl, sym, ◌∙◌, subst, arith, ◌⊎◌}
use Rattle.std.proofs.lemmas.Bool.{cases_lt}
use Rattle.std.proofs.lemmas.List.{map-append}
use Rattle.std.proofs.lemmas.List.FromFn.{get_or-map-range_with_len}
use Rattle.std.proofs.lemmas.Option.{unwrap_or-slice_get}
use Rattle.std.specs.List.{range_with_len}
use Rattle.rc_base.specs.Lists.{at_name, AreRising}
use Rattle.rc_base.specs.Contexts.Issue.{effect_at, stream_of}
use Rattle.rc_base.specs.Orders.Sync.{IsWellFormed, client_count, client_row, length_of, count_of, wait_of, waits_below, sync_row_of, sync_lists_of, places_of}
use Rattle.rc_base.specs.declared.scene.Scene.{Scene}
use Rattle.rc_base.specs.declared.state.Effect.{Effect}
use Rattle.rc_base.specs.declared.state.Effect.TheVariants as effect
use Rattle.rc_base.specs.declared.sync.SyncRow.{SyncRow}
use Rattle.rc_base.specs.declared.sync.WaitAt.{WaitAt}
use Rattle.scene_lemmas.proofs.Scenes.{scene_client_count}
use Rattle.order_model.proofs.ClientsBeyond.{ops_past}
use Rattle.order_model.proofs.RisingNumbers.{rising_with}

-- at most one operation, at its command's place
one_or_none : (n : ℕ) (e : Effect) → (places_of (wait_of n e) ≡ []) ⊎ (places_of (wait_of n e) ≡ n ∷ [])
one_or_none n (effect.Sync op) = inr refl
one_or_none n effect.Quiet = inl refl
one_or_none n (effect.Refused f) = inl refl
one_or_none n (effect.Block b) = inl refl
one_or_none n (effect.Clear m) = inl refl
one_or_none n (effect.Shared t) = inl refl

pub rising_below : (scene : Scene) (client n : ℕ) → AreRising 0 (places_of (waits_below scene client n)) n
unfolding waits_below
rising_below scene client zero = omega arith
rising_below scene client (suc n) =
    let ws = waits_below scene client n in
    let new = wait_of n (effect_at scene client n) in
    subst (λ ns. AreRising 0 ns (suc n)) (sym (map-append (λ (w : WaitAt). w.place) ws new))
    (rising_with 0 (places_of ws) (places_of new) n (one_or_none n (effect_at scene client n)) (rising_below scene client n))

-- ---- rows

pub scene_row : (scene : Scene) (c : ℕ) → c < length scene.streams → client_row (sync_lists_of scene) c ≡ sync_row_of scene c
unfolding sync_lists_of
scene_row scene c lt =
    let rows = map (sync_row_of scene) (range_with_len 0 (length scene.streams)) in
    let e : 0 + c ≡ c = omega arith in
    unwrap_or-slice_get rows c _ ∙ get_or-map-range_with_len (sync_row_of scene) 0 (length scene.streams) c c _ lt e

scene_counts : (scene : Scene) → ((b k : ℕ) → at_name scene.decl.barriers b ≡ Some k → 0 < k) → (b k : ℕ) → count_of (sync_lists_of scene) b ≡ Some k → 0 < k
unfolding sync_lists_of
scene_counts scene h b k e = h b k e

pub scene_lists_well_formed : (scene : Scene) → 0 < length scene.streams → ((b k : ℕ) → at_name scene.decl.barriers b ≡ Some k → 0 < k) → IsWellFormed (sync_lists_of scene)
scene_lists_well_formed scene some counts = record {
  some = omega (arith, scene_client_count scene, some);
  counts = scene_counts scene counts;
  rising = λ c. elim (cases_lt c (length scene.streams)) [
    | inl lt ↦ subst (λ (r : SyncRow). AreRising 0 (places_of r.ops) r.length) (sym (scene_row scene c lt)) (rising_below scene c (length (stream_of scene c)))
    | inr ge ↦
        let past : client_count (sync_lists_of scene) ≤ c = omega (arith, scene_client_count scene, ge) in
        subst (λ ws. AreRising 0 (places_of ws) (length_of (sync_lists_of scene) c)) (sym (ops_past (sync_lists_of scene) c past)) (omega arith)
  ];
}

-- Scenes within the limits can be drawn, and can be run by a cluster.
use Rattle.std.proofs.Common.{◌≡◌, ℕ, zero, suc, ◌&&◌, true, List, [], length, sym, subst, arith, true≢false, leb-true, lt-ltb}
use Rattle.std.specs.Prelude.{nat_le, nat_lt, slice_index}
use Rattle.std.proofs.lemmas.Bool.{and_parts, and_from}
use Rattle.std.proofs.lemmas.Option.{unwrap_or-slice_get}
use Rattle.rc_base.specs.Formats.Within.{IsWithin, IsLayoutFor}
use Rattle.rc_base.specs.declared.scene.Scene.{Scene}
use Rattle.rc_base.specs.declared.window.Layout.{Layout}
use Rattle.rc_base.proofs.WithinLimits.{width_within, height_within, clients_within, few_barriers, short_streams, counts_some, shared_within, tiles_within, depth_within}
use Rattle.scene_lemmas.proofs.Scenes.{scene_client_count}
use Rattle.order_model.specs.Scenes.{HasSides, IsDrawableScene, IsRunnable}
use Rattle.order_model.proofs.SceneListsAreWellFormed.{scene_lists_well_formed}

pub within_has_sides : (scene : Scene) → IsWithin scene → HasSides scene.decl
within_has_sides scene within zero named = absurd (true≢false (sym named))
within_has_sides scene within (suc n) named =
    let low = leb-true (suc n) (length scene.decl.shared) (and_parts (nat_lt 0 (suc n)) (nat_le (suc n) (length scene.decl.shared)) named).1 in
    let some = shared_within scene within.limits within.sizes n (omega (arith, low)) in
    subst (λ (size : List ℕ). (nat_lt 0 (slice_index size 0) && nat_lt 0 (slice_index size 1)) ≡ true) (sym (unwrap_or-slice_get scene.decl.shared n []))
    (and_from _ _ (lt-ltb 0 _ some.0) (lt-ltb 0 _ some.1))

pub within_is_drawable : (scene : Scene) → IsWithin scene → IsDrawableScene scene
within_is_drawable scene within =
    let clients = clients_within scene within.limits in
    let counts = counts_some scene within.limits in
    record {
      width = width_within scene within.limits;
      height = height_within scene within.limits;
      some = clients.0;
      few = clients.1;
      short = short_streams scene within.limits;
      commands = within.commands;
      sides = within_has_sides scene within;
      barriers = few_barriers scene within.limits;
      counts = counts;
      formed = scene_lists_well_formed scene clients.0 counts;
      clients = let count = scene_client_count scene in omega (arith, count, clients);
    }

pub within_is_runnable : (scene : Scene) (l : Layout) (depth : ℕ) → IsWithin scene → IsLayoutFor scene l depth → IsRunnable scene l depth
within_is_runnable scene l depth within layout =
    let clients = clients_within scene within.limits in
    let barriers = few_barriers scene within.limits in
    let tiles = tiles_within scene l depth layout in
    let deep = depth_within scene l depth layout in
    record {
      some = clients.0;
      few = clients.1;
      short = short_streams scene within.limits;
      commands = within.commands;
      sides = within_has_sides scene within;
      barriers = omega (arith, barriers);
      counts = counts_some scene within.limits;
      some_tiles = tiles.0;
      few_tiles = tiles.1;
      some_depth = deep.0;
      little_depth = deep.1;
    }

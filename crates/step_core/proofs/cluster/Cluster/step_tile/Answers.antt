use Rattle.std.proofs.Common.{◌+◌, List, Ok, refl, ap, sym, subst, ◌∙◌, length}
use Rattle.std.specs.Global.{Global}
use Rattle.std.specs.Prelude.{Vec}
use Rattle.std.specs.Vec.{with_items}
use Rattle.rc_base.specs.declared.plain_lane.PlainLane.{PlainLane}
use Rattle.rc_base.specs.declared.state.Parcel.{Parcel}
use Rattle.world_model.specs.declared.moves.Move.TheVariants.{Tile as TileMove}
use Rattle.step_core.specs.Settling.{CanSettle}
use Rattle.step_core.specs.declared.port.Port.{Port}
use Rattle.step_core.proofs.Changes.{kept_at, settled_at, stepped_at}
use Rattle.step_core.proofs.Lanes.{items_are}
use Rattle.step_core.proofs.Said.{told}
use Rattle.step_core.proofs.TileMoves.{settles, tile_lacks, tile_lets_go, tile_steps}
use Rattle.step_core.proofs.cluster.Cluster.step_tile.Goals as goal

pub settle-requires : goal.settle-requires
settle-requires c =
    let at = c.args.self.now in
    let tile = c.args.tile in
    let r = c.step_of_tile-moved.result in
    let s = c.step_of_tile-moved.ensures in
    let cores' = c.step_of_tile-moved.new.cores in
    let rows' = c.step_of_tile-moved.new.rows in
    let lanes' = c.step_of_tile-moved.new.lanes in
    let e = c.deref_mut.ensures.value in
    let f = c.deref_mut-2.ensures.value in
    let g = c.deref_mut-3.ensures.value in
    let stepped = stepped_at tile r _ at.tiles.items _ (with_items at.tiles cores').items _ at.parcels.items _ (with_items at.parcels rows').items _
    at.grants.items _ (with_items at.grants lanes').items
    e (sym (items_are at.tiles cores' (s.cores_changed.count ∙ ap length e)))
    f (sym (items_are at.parcels rows' (s.rows_changed.count ∙ ap length f)))
    g (sym (items_are at.grants lanes' (s.lanes_changed.count ∙ ap length g))) s in
    let v = c.requires.seen.view in
    let low = rw v.tiles.count at c.requires.tile in
    let d = c.index.result.now in
    let can = settles c.requires.seen.scene c.requires.seen.l c.requires.seen.depth tile at c.requires.seen.model r (with_items at.tiles cores') (with_items at.parcels rows')
    (with_items at.grants lanes') v low stepped d in
    subst (λ (ps : List (Vec Port Global)). CanSettle tile ps c.deref.result.now) (sym c.deref_mut-4.ensures.value)
    (subst (λ (xs : List (PlainLane Parcel)). CanSettle tile at.ports.items xs) (sym (c.deref.ensures.value ∙ ap (λ (x : Vec (PlainLane Parcel) Global). x.items) c.index.ensures)) can)

pub returns-in-Ok-keep_shown-clause-turn : goal.returns-in-Ok-keep_shown-clause-turn
returns-in-Ok-keep_shown-clause-turn c scene l depth w v =
    let at = c.args.self.now in
    let tile = c.args.tile in
    let r = c.step_of_tile-moved.result in
    let s = c.step_of_tile-moved.ensures in
    let cores' = c.step_of_tile-moved.new.cores in
    let rows' = c.step_of_tile-moved.new.rows in
    let lanes' = c.step_of_tile-moved.new.lanes in
    let e = c.deref_mut.ensures.value in
    let f = c.deref_mut-2.ensures.value in
    let g = c.deref_mut-3.ensures.value in
    let stepped = stepped_at tile r _ at.tiles.items _ (with_items at.tiles cores').items _ at.parcels.items _ (with_items at.parcels rows').items _
    at.grants.items _ (with_items at.grants lanes').items
    e (sym (items_are at.tiles cores' (s.cores_changed.count ∙ ap length e)))
    f (sym (items_are at.parcels rows' (s.rows_changed.count ∙ ap length f)))
    g (sym (items_are at.grants lanes' (s.lanes_changed.count ∙ ap length g))) s in
    let low = rw v.tiles.count at c.requires.tile in
    let p = c.deref_mut-4.ensures.value in
    let ports' = c.settle.new.ports in
    let settled = settled_at tile _ at.ports.items _ (with_items at.ports ports').items _ _ p
    (sym (items_are at.ports ports' (c.settle.ensures.count ∙ ap length p))) refl c.settle.ensures in
    let lanes_are = λ (d : Vec (PlainLane Parcel) Global). c.deref.ensures.value
    ∙ ap (λ (x : Vec (PlainLane Parcel) Global). x.items) (c.index.ensures ∙ stepped.rows_changed.is c.index.result.now ∙ sym (stepped.rows_changed.is d)) in
    let m = c.in-Ok.moved in
    let h = c.deref_mut-in-Ok.ensures.value in
    let lists' = c.keep_shown.new.lists in
    let kept = kept_at tile m _ at.parts.items _ (with_items at.parts lists').items h (sym (items_are at.parts lists' (c.keep_shown.ensures.count ∙ ap length h)))
    c.in-Ok-keep_shown.ensures.kept in
    let done = tile_steps scene l depth tile at w r (with_items at.tiles cores') (with_items at.parcels rows') (with_items at.grants lanes') v low stepped
    (with_items at.ports ports') (with_items at.parts lists') c.deref.result.now lanes_are settled kept.count m c.in-Ok.is kept in
    told scene l depth w at _ _ _ _ _ (ap (λ n. n + 1 + tile) (sym v.clients.count)) (ap (λ a. Ok (TileMove tile a)) (sym c.in-Ok-keep_shown.ensures.said)) done

pub returns-in-Err-keep_shown-clause-turn : goal.returns-in-Err-keep_shown-clause-turn
returns-in-Err-keep_shown-clause-turn c scene l depth w v =
    let at = c.args.self.now in
    let tile = c.args.tile in
    let r = c.step_of_tile-moved.result in
    let s = c.step_of_tile-moved.ensures in
    let cores' = c.step_of_tile-moved.new.cores in
    let rows' = c.step_of_tile-moved.new.rows in
    let lanes' = c.step_of_tile-moved.new.lanes in
    let e = c.deref_mut.ensures.value in
    let f = c.deref_mut-2.ensures.value in
    let g = c.deref_mut-3.ensures.value in
    let stepped = stepped_at tile r _ at.tiles.items _ (with_items at.tiles cores').items _ at.parcels.items _ (with_items at.parcels rows').items _
    at.grants.items _ (with_items at.grants lanes').items
    e (sym (items_are at.tiles cores' (s.cores_changed.count ∙ ap length e)))
    f (sym (items_are at.parcels rows' (s.rows_changed.count ∙ ap length f)))
    g (sym (items_are at.grants lanes' (s.lanes_changed.count ∙ ap length g))) s in
    let low = rw v.tiles.count at c.requires.tile in
    let p = c.deref_mut-4.ensures.value in
    let ports' = c.settle.new.ports in
    let settled = settled_at tile _ at.ports.items _ (with_items at.ports ports').items _ _ p
    (sym (items_are at.ports ports' (c.settle.ensures.count ∙ ap length p))) refl c.settle.ensures in
    let lanes_are = λ (d : Vec (PlainLane Parcel) Global). c.deref.ensures.value
    ∙ ap (λ (x : Vec (PlainLane Parcel) Global). x.items) (c.index.ensures ∙ stepped.rows_changed.is c.index.result.now ∙ sym (stepped.rows_changed.is d)) in
    let m = c.in-Ok.moved in
    let h = c.deref_mut-in-Ok.ensures.value in
    let lists' = c.keep_shown.new.lists in
    let lists_are = items_are at.parts lists' (c.keep_shown.ensures.count ∙ ap length h) in
    let count = ap length lists_are ∙ c.keep_shown.ensures.count ∙ ap length h in
    let done = tile_lets_go scene l depth tile at w r (with_items at.tiles cores') (with_items at.parcels rows') (with_items at.grants lanes') v low stepped
    (with_items at.ports ports') (with_items at.parts lists') c.deref.result.now lanes_are settled count m _ c.in-Ok.is c.in-Err-keep_shown.ensures.swapped in
    told scene l depth w at _ _ _ _ _ (ap (λ n. n + 1 + tile) (sym v.clients.count)) refl done

pub returns-in-Err-clause-turn : goal.returns-in-Err-clause-turn
returns-in-Err-clause-turn c scene l depth w v =
    let at = c.args.self.now in
    let tile = c.args.tile in
    let r = c.step_of_tile-moved.result in
    let s = c.step_of_tile-moved.ensures in
    let cores' = c.step_of_tile-moved.new.cores in
    let rows' = c.step_of_tile-moved.new.rows in
    let lanes' = c.step_of_tile-moved.new.lanes in
    let e = c.deref_mut.ensures.value in
    let f = c.deref_mut-2.ensures.value in
    let g = c.deref_mut-3.ensures.value in
    let stepped = stepped_at tile r _ at.tiles.items _ (with_items at.tiles cores').items _ at.parcels.items _ (with_items at.parcels rows').items _
    at.grants.items _ (with_items at.grants lanes').items
    e (sym (items_are at.tiles cores' (s.cores_changed.count ∙ ap length e)))
    f (sym (items_are at.parcels rows' (s.rows_changed.count ∙ ap length f)))
    g (sym (items_are at.grants lanes' (s.lanes_changed.count ∙ ap length g))) s in
    let low = rw v.tiles.count at c.requires.tile in
    let p = c.deref_mut-4.ensures.value in
    let ports' = c.settle.new.ports in
    let settled = settled_at tile _ at.ports.items _ (with_items at.ports ports').items _ _ p
    (sym (items_are at.ports ports' (c.settle.ensures.count ∙ ap length p))) refl c.settle.ensures in
    let lanes_are = λ (d : Vec (PlainLane Parcel) Global). c.deref.ensures.value
    ∙ ap (λ (x : Vec (PlainLane Parcel) Global). x.items) (c.index.ensures ∙ stepped.rows_changed.is c.index.result.now ∙ sym (stepped.rows_changed.is d)) in
    let done = tile_lacks scene l depth tile at w r (with_items at.tiles cores') (with_items at.parcels rows') (with_items at.grants lanes') v low stepped
    (with_items at.ports ports') at.parts c.deref.result.now lanes_are settled refl _ c.in-Err.is in
    told scene l depth w at _ _ _ _ _ (ap (λ n. n + 1 + tile) (sym v.clients.count)) refl done

use Rattle.std.proofs.Common.{[], ◌<◌, sym, subst, ◌∙◌}
use Rattle.std.specs.Prelude.{slice_index_or}
use Rattle.rc_base.specs.Cluster.Tiles.{tile_count}
use Rattle.step_core.specs.Runnable.{IsNewTileCore}
use Rattle.step_core.specs.Worlds.{AreLanesOf, ArePortsOf, AreRowsOf}
use Rattle.step_core.proofs.FirstViews.{first_view}
use Rattle.step_core.proofs.cluster.Cluster.new.Goals as goal

pub returns : goal.returns
returns c =
    let s = c.args.scene.now in
    let l = c.args.layout.now in
    let depth = c.args.depth in
    let n = c.len-client_count.result in
    let e = c.len-client_count.ensures in
    let tiles = c.in_ok-tiles.tiles.items in
    first_view s l depth _ c.requires.layout c.in_ok-clients.ensures (c.in_ok-manager.ensures.clients ∙ e) c.in_ok-manager.ensures.tiles
    (λ syncs a. c.in_ok-manager.ensures.progress syncs (a ∙ sym e))
    c.in_ok-tiles.ensures.count
    (λ i d lt. subst (λ k. IsNewTileCore s.decl k l i (slice_index_or tiles i d)) e (c.in_ok-tiles.ensures.new i d lt))
    (subst (λ k. AreRowsOf depth k (tile_count l) (λ client tile. []) c.in_ok-parcels.parcels.items) e
    (subst (λ k. AreRowsOf depth n k (λ client tile. []) c.in_ok-parcels.parcels.items) c.from.ensures c.in_ok-parcels.ensures))
    (subst (λ k. ArePortsOf depth k (tile_count l) (λ client tile. []) c.in_ok-ports.ports.items) e
    (subst (λ k. ArePortsOf depth n k (λ client tile. []) c.in_ok-ports.ports.items) c.from-2.ensures c.in_ok-ports.ensures))
    (subst (λ k. AreLanesOf depth k (λ i. []) c.in_ok-requests.requests.items) e c.in_ok-requests.ensures)
    (subst (λ k. AreLanesOf depth k (λ i. []) c.in_ok-grants.grants.items) c.from-3.ensures c.in_ok-grants.ensures)
    (c.in_ok-parts.ensures.count ∙ c.from-4.ensures)
    (λ i d lt. c.in_ok-parts.ensures.empty i d (subst (λ k. i < k) (sym c.from-4.ensures) lt))

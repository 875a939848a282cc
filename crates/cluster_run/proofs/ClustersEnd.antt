-- A cluster that has run has ended.
use Rattle.std.proofs.Common.{◌<◌, length, ◌∙◌, arith}
use Rattle.rc_base.proofs.Paired.{some_item}
use Rattle.cluster_run.specs.Clusters.{ClustersEnd}

module _ {R : Type 0} where
  pub clusters_end : ClustersEnd R
  clusters_end scene l names crew tasks h run = record {
    clients = run.clients.count ∙ h.clients;
    tiles = run.tiles.count ∙ h.tiles;
    client = λ c w low.
        let n = h.clients in
        let low' : c < length crew.clients.items = omega arith in
        let first = some_item crew.clients.items c low' in
        (run.clients.at c first w low').led scene l c (names.parcels c) (names.requests c) (h.client c first low);
    clients_end = λ c w low.
        let n = h.clients in
        let low' : c < length crew.clients.items = omega arith in
        (run.clients.at c (some_item crew.clients.items c low') w low').over_is;
    manager = run.manager.led _ _ _ _ h.manager;
    manager_ends = run.manager.over_is;
    tile = λ t w low.
        let n = h.tiles in
        let low' : t < length crew.tiles.items = omega arith in
        let first = some_item crew.tiles.items t low' in
        (run.tiles.at t first w low').led scene l t (λ c. names.parcels c t) (names.grants t) (names.parts t) (h.tile t first low);
    tiles_end = λ t w low.
        let n = h.tiles in
        let low' : t < length crew.tiles.items = omega arith in
        (run.tiles.at t (some_item crew.tiles.items t low') w low').over_is;
  }

use Rattle.std.proofs.Common.{◌||◌, List, refl, sym, ◌∙◌, subst, arith}
use Rattle.std.proofs.lemmas.Bool.{or_parts}
use Rattle.std.specs.Prelude.{Vec}
use Rattle.std.specs.Global.{Global}
use Rattle.rc_base.specs.declared.state.Parcel.{Parcel}
use Rattle.tile_queues.specs.Grids.{AreGrid}
use Rattle.tile_queues.specs.declared.ends.LaneOut.{LaneOut}
use Rattle.cluster_run.proofs.Apart.{ample_clients, ample_tiles}
use Rattle.cluster_run.proofs.ClosedCrews.{AreFronts, asking_paired, closed, grid, hearing_paired, orderly, showing_into}
use Rattle.cluster_run.proofs.cores.cores_of.Goals as goal

pub close_all-requires : goal.close_all-requires
close_all-requires g c =
    let of = c.requires.ended in
    let clients = c.client_parts-clients.result in
    subst (λ (columns : List (Vec (LaneOut Parcel g.row.R.Denot) Global)). AreGrid clients.rows.items columns) (sym c.deref_mut.ensures.value)
    (grid of.0 of.1 of.2 c.args.crew of.3 clients c.client_parts-clients.ensures c.tile_parts-tiles.result c.tile_parts-tiles.ensures
    c.named_rows_and_columns_are_a_grid.ensures)

pub close_list-requires : goal.close_list-requires
close_list-requires g c =
    let of = c.requires.ended in
    asking_paired of.0 of.1 of.2 c.args.crew of.3 c.client_parts-clients.result c.client_parts-clients.ensures c.tile_parts-tiles.result c.tile_parts-tiles.ensures
    c.named_ends_are_paired.ensures

pub close_list-requires-2 : goal.close_list-requires-2
close_list-requires-2 g c =
    let of = c.requires.ended in
    hearing_paired of.0 of.1 of.2 c.args.crew of.3 c.client_parts-clients.result c.client_parts-clients.ensures c.tile_parts-tiles.result c.tile_parts-tiles.ensures
    c.named_ends_are_paired-2.ensures

pub returns-clause-closed : goal.returns-clause-closed
returns-clause-closed g c unlacking scene l names ended =
    let clients = c.client_parts-clients.result in
    let tiles = c.tile_parts-tiles.result in
    let n = c.args.crew.clients.ok.0 in
    let m = c.args.crew.tiles.ok.0 in
    let rows = clients.rows.ok.0 in
    let none = or_parts (clients.short || tiles.short) c.is_short.result unlacking in
    let parts = or_parts clients.short tiles.short none.0 in
    closed scene l names c.args.crew ended clients c.client_parts-clients.ensures tiles c.tile_parts-tiles.ensures
    (let some = c.requires.some.0 in let all = ended.clients in omega (arith, some, all, n))
    (let some = c.requires.some.1 in let all = ended.tiles in omega (arith, some, all, m))
    (subst (λ (columns : List (Vec (LaneOut Parcel g.row.R.Denot) Global)). AreFronts clients.rows.items columns) c.deref_mut.ensures.value
    (λ i t d e a b low t_low. c.close_all.ensures i t d e a b (omega (arith, low, rows)) t_low))
    c.close_list.ensures c.close_list-2.ensures parts.0 parts.1 (sym c.is_short.ensures ∙ none.1)

pub returns-clause-orderly : goal.returns-clause-orderly
returns-clause-orderly g c scene l names ended =
    let clients = c.client_parts-clients.result in
    let n = c.args.crew.clients.ok.0 in
    let m = c.args.crew.tiles.ok.0 in
    let rows = clients.rows.ok.0 in
    orderly scene l names c.args.crew ended clients c.client_parts-clients.ensures c.tile_parts-tiles.result c.tile_parts-tiles.ensures
    (let some = c.requires.some.0 in let all = ended.clients in omega (arith, some, all, n))
    (let some = c.requires.some.1 in let all = ended.tiles in omega (arith, some, all, m))
    (subst (λ (columns : List (Vec (LaneOut Parcel g.row.R.Denot) Global)). AreFronts clients.rows.items columns) c.deref_mut.ensures.value
    (λ i t d e a b low t_low. c.close_all.ensures i t d e a b (omega (arith, low, rows)) t_low))
    c.close_list.ensures c.close_list-2.ensures

pub returns-clause-cores : goal.returns-clause-cores
returns-clause-cores g c unlacking =
    let clients = c.client_parts-clients.result in
    let tiles = c.tile_parts-tiles.result in
    let none = or_parts (clients.short || tiles.short) c.is_short.result unlacking in
    let parts = or_parts clients.short tiles.short none.0 in (
      refl,
      record {
        clients_are = ample_clients c.client_parts-clients.ensures.cores_are parts.0;
        ample = sym c.is_short.ensures ∙ none.1;
        tiles_are = ample_tiles c.tile_parts-tiles.ensures.cores_are parts.1;
      },
    )

pub returns-clause-parts : goal.returns-clause-parts
returns-clause-parts g c scene l names ended =
    showing_into scene l names c.args.crew ended c.client_parts-clients.result c.client_parts-clients.ensures c.tile_parts-tiles.result c.tile_parts-tiles.ensures

use Rattle.std.proofs.Common.{◌≡◌, List, length, ◌∙◌, subst, arith}
use Rattle.rc_base.specs.Cluster.Tiles.{tile_count}
use Rattle.rc_base.specs.declared.command.Command.{Command}
use Rattle.tile_queues.specs.Grids.{IsNewGrid}
use Rattle.cluster_run.specs.NewWorkers.{IsSceneOf}
use Rattle.cluster_run.proofs.NewCrews.{new_crew_is}
use Rattle.cluster_run.proofs.crew.new_crew.Goals as goal
use Rattle.cluster_run.proofs.crew.new_crew.Goals.{In_ok-clients, In_ok-grid}

grid_is : (g : _) (c : In_ok-grid g) → IsNewGrid c.args.depth (length c.args.scene.streams) (tile_count c.args.layout.now) c.in_ok-grid.grid.ins.items c.in_ok-grid.grid.outs.items
grid_is g c =
    let ins = c.in_ok-grid.grid.ins.items in
    let outs = c.in_ok-grid.grid.outs.items in
    subst (λ (streams : List (List Command)). IsNewGrid c.args.depth (length streams) (tile_count c.args.layout.now) ins outs) c.streams.ensures
    (subst (λ m. IsNewGrid c.args.depth (length c.streams.result.now) m ins outs) c.from.ensures c.in_ok-grid.ensures)

scene_is : (g : _) (c : In_ok-clients g) → length c.in_ok-grid.grid.ins.items ≡ length c.args.scene.streams
    → IsSceneOf c.args.scene c.in_ok-clients.clients.decl (length c.in_ok-clients.clients.requests.items)
scene_is g c rows =
    let new = c.in_ok-clients.ensures.new in
    record {
      within = c.requires.within;
      decl_is = c.in_ok-clients.ensures.decl;
      clients_are = new.requests_are.count ∙ new.workers_are.count ∙ rows;
    }

pub new_clients-requires-clause-few : goal.new_clients-requires-clause-few
new_clients-requires-clause-few g c = (c.scenes_within_limits.ensures.drawable c.args.scene c.requires.within).few

pub new_clients-requires-clause-depth : goal.new_clients-requires-clause-depth
new_clients-requires-clause-depth g c =
    let can = c.scenes_within_limits.ensures.runnable c.args.scene c.args.layout.now c.args.depth c.requires.within c.requires.layout in (can.some_depth, can.little_depth)

pub new_clients-requires-clause-lanes : goal.new_clients-requires-clause-lanes
new_clients-requires-clause-lanes g c client row low =
    let grid = grid_is g (goal.at.new_clients-requires-clause-lanes g c).In_ok-grid in
    let n = grid.rows in
    grid.row client row (omega (arith, n, low))

pub new_manager-requires-clause-scene : goal.new_manager-requires-clause-scene
new_manager-requires-clause-scene g c =
    let at = goal.at.new_manager-requires-clause-scene g c in (c.args.scene, scene_is g at.In_ok-clients (grid_is g at.In_ok-grid).rows)

pub returns-clause-new : goal.returns-clause-new
returns-clause-new g c =
    let scene = c.args.scene in
    let l = c.args.layout.now in
    let at = goal.at.returns-clause-new g c in
    let can = c.scenes_within_limits.ensures.runnable scene l c.args.depth c.requires.within c.requires.layout in
    let grid = grid_is g at.In_ok-grid in
    new_crew_is scene l c.args.depth c.in_ok-grid.grid.ins.items c.in_ok-grid.grid.outs.items
    (record { clients = c.in_ok-clients.clients.workers; manager = c.in_ok-manager.manager; tiles = c.in_ok-tiles.tiles.workers })
    c.in_ok-clients.clients.requests c.in_ok-tiles.tiles.grants c.in_ok-tiles.tiles.parts can.some can.some_tiles grid c.in_ok-clients.ensures.new
    c.in_ok-tiles.ensures (c.in_ok-manager.ensures scene (scene_is g at.In_ok-clients grid.rows))

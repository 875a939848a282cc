use Rattle.std.specs.Prelude.{slice_index_or}
use Rattle.step_core.proofs.Changes.{changed_at}
use Rattle.step_core.proofs.carry.carry_between.Goals as goal

pub returns : goal.returns
returns c = record {
  port = slice_index_or c.args.ports.now c.args.tile c.index-ports-tile.result;
  port' = c.carry_over.new.port;
  lane = slice_index_or c.args.lanes.now c.args.client c.index-lanes-client.result;
  lane' = c.carry_over.new.lane;
  port_changed = changed_at c.args.ports.now c.args.tile c.index-ports-tile.result c.carry_over.new.port c.requires.port;
  lane_changed = changed_at c.args.lanes.now c.args.client c.index-lanes-client.result c.carry_over.new.lane c.requires.lane;
  over = c.carry_over.ensures;
}

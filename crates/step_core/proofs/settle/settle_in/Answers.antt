use Rattle.std.proofs.Common.{◌∙◌}
use Rattle.std.specs.Prelude.{slice_index_or}
use Rattle.step_core.proofs.Changes.{changed_at}
use Rattle.step_core.proofs.settle.settle_in.Goals as goal

pub returns : goal.returns
returns c = record {
  port = slice_index_or c.args.ports.now c.args.tile c.index-ports-tile.result;
  port' = c.settle.new.self;
  changed = changed_at c.args.ports.now c.args.tile c.index-ports-tile.result c.settle.new.self c.requires.column_in;
  empty = c.settle.ensures.sent;
  count = c.settle.ensures.count ∙ c.count.ensures;
  depth = c.settle.ensures.depth;
}

use Rattle.std.proofs.Common.{refl, rules}
use Rattle.tile_server.proofs.TileSteps.{failed_step, performed_step}
use Rattle.tile_server.proofs.tile_core.TileCore.perform_entry.Goals as goal

pub returns-in-Ok : goal.returns-in-Ok
returns-in-Ok c = record {
  step = performed_step c.args.self.now _ c.args.entry c.requires.due refl refl c.requires.unshown c.in-Ok.ensures.done refl refl;
  clients = search rules;
  grants = search rules;
}

pub returns-in-Err : goal.returns-in-Err
returns-in-Err c = record {
  step = failed_step c.args.self.now _ c.args.entry c.requires.due refl refl c.in-Err.ensures.unchanged refl;
  clients = search rules;
  grants = search rules;
}

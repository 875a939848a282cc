use Rattle.std.proofs.Common.{refl, rules}
use Rattle.tile_server.proofs.TileSteps.{failed_step, shown_step}
use Rattle.tile_server.proofs.tile_core.TileCore.show_part.Goals as goal

pub returns-in-Ok : goal.returns-in-Ok
returns-in-Ok c = record {
  step = shown_step c.args.self.now _ c.args.part c.requires.due refl refl c.requires.part c.in-Ok.ensures.done c.saturating_add-self.ensures refl;
  clients = search rules;
  grants = search rules;
}

pub returns-in-Err : goal.returns-in-Err
returns-in-Err c = record {
  step = failed_step c.args.self.now _ _ c.requires.due refl refl c.in-Err.ensures.unchanged refl;
  clients = search rules;
  grants = search rules;
}

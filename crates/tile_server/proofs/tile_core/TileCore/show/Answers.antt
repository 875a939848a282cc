use Rattle.std.proofs.Common.{refl, rules}
use Rattle.tile_server.proofs.TileSteps.{due_still, failed_step, step_from}
use Rattle.tile_server.proofs.tile_core.TileCore.show.Goals as goal

pub show_part-requires-clause-due : goal.show_part-requires-clause-due
show_part-requires-clause-due c = due_still c.args.self.now c.next_part.new.self c.next_part.ensures.same _ c.requires

pub returns-in-Ok : goal.returns-in-Ok
returns-in-Ok c = record {
  step = step_from c.args.self.now c.next_part.new.self c.next_part.ensures.same c.show_part.result c.show_part.new.self c.show_part.ensures.step;
  clients = c.show_part.ensures.clients;
  grants = c.show_part.ensures.grants;
}

pub returns-in-Err : goal.returns-in-Err
returns-in-Err c =
    let mid = c.next_part.new.self in
    record {
      step = step_from c.args.self.now mid c.next_part.ensures.same _ _
          (failed_step mid _ _ (due_still c.args.self.now mid c.next_part.ensures.same _ c.requires) refl refl
          (record { clients = refl; held = refl; closed = refl; known = refl; no_more = refl; log = refl }) refl);
      clients = search rules;
      grants = search rules;
    }

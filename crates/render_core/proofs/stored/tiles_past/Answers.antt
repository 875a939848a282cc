use Rattle.std.proofs.Common.{sym}
use Rattle.render_core.proofs.stored.tiles_past.Goals as goal

pub returns-in-Ok : goal.returns-in-Ok
returns-in-Ok c = sym (c.in-Ok.ensures c.args.scene.now (sym c.decl.ensures)).0

pub returns-in-Err : goal.returns-in-Err
returns-in-Err c = sym (c.in-Err.ensures c.args.scene.now (sym c.decl.ensures))

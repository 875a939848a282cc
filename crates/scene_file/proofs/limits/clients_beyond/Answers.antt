use Rattle.std.proofs.Common.{sym, arith}
use Rattle.scene_file.proofs.LimitsByParts.{decl_limit}
use Rattle.scene_file.proofs.limits.clients_beyond.Goals as goal

pub returns-in-Err : goal.returns-in-Err
returns-in-Err c s e n = decl_limit c.args.decl.now c.args.clients c.in-Err.limit (sym c.in-Err.ensures.judged) s e n

pub returns-in-Ok : goal.returns-in-Ok
returns-in-Ok c s e n = absurd (omega (arith, c.requires, c.in-Ok.ensures.within.1))

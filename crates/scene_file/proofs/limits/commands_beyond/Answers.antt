use Rattle.std.proofs.Common.{sym}
use Rattle.scene_file.proofs.LimitsByParts.{decl_limit, commands_limit}
use Rattle.scene_file.proofs.limits.commands_beyond.Goals as goal

pub returns-in-Err : goal.returns-in-Err
returns-in-Err c s e n k = decl_limit c.args.decl.now c.args.clients c.in-Err.limit (sym c.in-Err.ensures.judged) s e n

pub returns-in-Ok : goal.returns-in-Ok
returns-in-Ok c s e n k = commands_limit c.args.decl.now c.args.clients c.args.commands (sym c.in-Ok.ensures.judged) c.requires s e n k

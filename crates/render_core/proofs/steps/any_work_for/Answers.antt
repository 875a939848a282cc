use Rattle.std.proofs.Common.{rules}
use Rattle.render_core.proofs.StoredWork.{refused_too, whole}
use Rattle.render_core.proofs.steps.any_work_for.Goals as goal

pub returns-in-Ok : goal.returns-in-Ok
returns-in-Ok g c = record { obtained = whole _ _ _ _ c.in-Ok.work c.in-Ok.ensures.obtained; later = search rules }

pub returns-in-Err : goal.returns-in-Err
returns-in-Err g c = record { obtained = refused_too _ _ _ _ c.in-Err.refusal c.in-Err.ensures.obtained; later = search rules }

use Rattle.std.proofs.Common.{refl}
use Rattle.render_core.specs.Findings.Finding.{Outside}
use Rattle.uses.proofs.jobs.limited.Goals as goal

pub returns : goal.returns
returns g c task input found limit asked holds short gives past = c.run_filtered.ensures.refuses task input (Outside limit) 4 asked holds (short, (found, gives, past)) refl

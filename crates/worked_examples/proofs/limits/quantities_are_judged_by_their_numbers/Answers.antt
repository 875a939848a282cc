use Rattle.std.proofs.Common.{refl}
use Rattle.rc_base.specs.Formats.Limits.{limit_of, held_limit}
use Rattle.worked_examples.proofs.limits.quantities_are_judged_by_their_numbers.Goals as goal

pub returns : goal.returns
unfolding limit_of held_limit
returns c = record { width = refl; clients = refl; pixels = refl; fits = refl; held = refl; held_fits = refl; least = refl }

use Rattle.happens_before.proofs.NamesGoFirst.{linear_extensions, races_real, exactly_before, scene_settled}
use Rattle.happens_before.proofs.laws.races_are_real.Goals as goal

pub returns-clause-extensions : goal.returns-clause-extensions
returns-clause-extensions c = linear_extensions

pub returns-clause-either : goal.returns-clause-either
returns-clause-either c = races_real

pub returns-clause-before : goal.returns-clause-before
returns-clause-before c = exactly_before

pub returns-clause-ordered : goal.returns-clause-ordered
returns-clause-ordered c = scene_settled

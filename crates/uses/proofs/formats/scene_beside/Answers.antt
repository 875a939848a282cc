use Rattle.std.proofs.Common.{◌≡◌, ℕ, List, None, Result, Ok, Err}
use Rattle.std.specs.Prelude.{IfOk}
use Rattle.rc_base.specs.Formats.Limits.{limit_of}
use Rattle.rc_base.specs.Formats.Spelling.{SpellsScene}
use Rattle.rc_base.specs.declared.scene.Scene.{Scene}
use Rattle.scene_file.specs.Laws.{ScenesAreOne}
use Rattle.scene_file.specs.declared.fault.SceneFault.{SceneFault}
use Rattle.uses.proofs.formats.scene_beside.Goals as goal

is_one : (bytes : List ℕ) (r : Result Scene SceneFault) (s : Scene) → IfOk r (λ x. SpellsScene bytes x × (limit_of x ≡ None)) → ScenesAreOne → SpellsScene bytes s → IfOk r (λ x. x ≡ s)
is_one bytes (Ok x) s found one spells = one bytes x s found.0 spells
is_one bytes (Err e) s found one spells = tt

pub returns : goal.returns
returns g c s spells = is_one _ c.read_scene_beside.result s c.read_scene_beside.ensures.found c.bytes_spell_one_scene.ensures spells

use Rattle.std.proofs.Common.{◌≡◌, ◌<◌, ℕ, false, Option, Some, None, Result, Ok, Err}
use Rattle.std.specs.Prelude.{IfOk, IfSome}
use Rattle.rc_base.specs.declared.out_of_memory.OutOfMemory.{OutOfMemory}
use Rattle.rc_base.specs.declared.scene.Scene.{Scene}
use Rattle.rc_base.specs.declared.sync.Name.{Name}
use Rattle.sort_last.specs.Offends.{offends, IsFirstOffenceIfAny}
use Rattle.sort_last.specs.declared.survey.LastSurvey.{LastSurvey}
use Rattle.uses.proofs.layers.first_offence.Goals as goal

none_before : (scene : Scene) (offence : Option Name) → IsFirstOffenceIfAny scene offence → IfSome offence (λ n. (place : ℕ) → place < n.place → offends scene n.client place ≡ false)
none_before scene (Some n) first = first.places
none_before scene None first = tt

gives : (r : Result LastSurvey OutOfMemory) (scene : Scene) → IfOk r (λ (s : LastSurvey). IsFirstOffenceIfAny scene s.offence)
    → IfOk r (λ (s : LastSurvey). IfSome s.offence (λ n. (place : ℕ) → place < n.place → offends scene n.client place ≡ false))
gives (Ok s) scene first = none_before scene s.offence first
gives (Err e) scene first = tt

pub returns : goal.returns
returns g c = gives c.survey_last.result c.args.scene.now c.survey_last.ensures.offence

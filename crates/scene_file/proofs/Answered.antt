-- All that is said of an answer to the bytes of a scene.
use Rattle.std.proofs.Common.{ℕ, List, Result}
use Rattle.rc_base.specs.declared.scene.Scene.{Scene}
use Rattle.rc_base.specs.Formats.Limits.{limit_of}
use Rattle.rc_base.specs.Formats.Spelling.{SpellsScene, plain_form}
use Rattle.scene_file.specs.declared.fault.SceneFault.{SceneFault}
use Rattle.scene_file.specs.Faults.{FailsAsScene, IsReadBy, IsSceneRead}
use Rattle.scene_file.proofs.BothForms.{one_scene, fault_no_scene, one_fault}
use Rattle.scene_file.proofs.AnswersForced.{only_scene, only_limit, only_malformed}
use Rattle.scene_file.proofs.WrittenSpells.{read_typed, if_ok_map}

-- by what was found, or what is wrong
pub answered : (bytes : List ℕ) (r : Result Scene SceneFault) → IsReadBy (λ s. s) SpellsScene limit_of FailsAsScene bytes r → IsSceneRead bytes r
answered bytes r k =
    record {
      found = k.found;
      malformed = k.malformed;
      limit = k.limit;
      only = only_scene SpellsScene limit_of FailsAsScene one_scene fault_no_scene one_fault bytes r k;
      malformed_only = only_malformed SpellsScene limit_of FailsAsScene one_scene fault_no_scene one_fault bytes r k;
      limit_only = only_limit SpellsScene limit_of FailsAsScene one_scene fault_no_scene one_fault bytes r k;
      fields = if_ok_map r (λ s h. read_typed plain_form bytes s.decl s.streams h.0) k.found;
      within = if_ok_map r (λ s h. let typed = read_typed plain_form bytes s.decl s.streams h.0 in record { limits = h.1; commands = typed.1; sizes = typed.0.shared }) k.found;
    }

use Rattle.rc_base.specs.Formats.Spelling.{list_form}
use Rattle.scene_file.specs.Faults.{SpellsListScene, FailsAsListScene, list_limit_of}
use Rattle.scene_file.proofs.BothForms.{one_list_scene, fault_no_list_scene, one_list_fault}
use Rattle.scene_file.proofs.AnswersForced.{only_scene, only_limit, only_malformed}
use Rattle.scene_file.proofs.WrittenSpells.{read_typed, if_ok_map}
use Rattle.scene_file.proofs.lists.read_list_scene.Goals as goal

pub returns-clause-only : goal.returns-clause-only
returns-clause-only c =
    only_scene SpellsListScene list_limit_of FailsAsListScene one_list_scene fault_no_list_scene one_list_fault c.args.bytes.now c.read_judged.result c.read_judged.ensures

pub returns-clause-malformed_only : goal.returns-clause-malformed_only
returns-clause-malformed_only c =
    only_malformed SpellsListScene list_limit_of FailsAsListScene one_list_scene fault_no_list_scene one_list_fault c.args.bytes.now c.read_judged.result c.read_judged.ensures

pub returns-clause-limit_only : goal.returns-clause-limit_only
returns-clause-limit_only c =
    only_limit SpellsListScene list_limit_of FailsAsListScene one_list_scene fault_no_list_scene one_list_fault c.args.bytes.now c.read_judged.result c.read_judged.ensures

pub returns-clause-fields : goal.returns-clause-fields
returns-clause-fields c = if_ok_map c.read_judged.result (λ s h. read_typed list_form c.args.bytes.now s.decl s.streams h.0) c.read_judged.ensures.found

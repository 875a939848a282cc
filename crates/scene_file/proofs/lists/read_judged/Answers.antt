use Rattle.std.proofs.Common.{subst}
use Rattle.packet_bytes.specs.Lists.{is_list_swap}
use Rattle.rc_base.specs.Formats.Spelling.{list_form}
use Rattle.scene_file.specs.Counting.{SpellsCounted}
use Rattle.scene_file.specs.Letters.{list_letters}
use Rattle.scene_file.specs.declared.list_scene.ListScene.{ListScene}
use Rattle.scene_file.specs.Faults.{SpellsListScene, FailsAsListScene, list_limit_of}
use Rattle.scene_file.proofs.CommandsCounted.{fault_told, kept_same, judged_found, judged_form, judged_beyond, not_beyond}
use Rattle.scene_file.proofs.lists.read_judged.Goals as goal

pub returns-in-Ok : goal.returns-in-Ok
returns-in-Ok c =
    let known = subst (SpellsCounted list_form is_list_swap c.args.bytes.now) (kept_same c.in-Ok.counted) c.in-Ok.ensures.found in
    let s : ListScene = record { decl = known.decl; streams = known.streams } in
    let judged = c.within_limits.ensures s known.counts in
    record {
      found = judged_found SpellsListScene list_limit_of FailsAsListScene c.args.bytes.now s known.spells c.within_limits.result judged;
      malformed = judged_form SpellsListScene list_limit_of FailsAsListScene c.args.bytes.now s known.spells c.within_limits.result judged;
      limit = judged_beyond SpellsListScene list_limit_of FailsAsListScene c.args.bytes.now s known.spells c.within_limits.result judged;
    }

pub returns-in-Err : goal.returns-in-Err
returns-in-Err c = record {
  found = tt;
  malformed = fault_told list_form list_letters.all c.args.bytes.now c.in-Err.broken c.fault_at.result c.fault_at.ensures c.in-Err.ensures.fails;
  limit = not_beyond SpellsListScene list_limit_of c.args.bytes.now c.in-Err.broken c.fault_at.result c.fault_at.ensures;
}

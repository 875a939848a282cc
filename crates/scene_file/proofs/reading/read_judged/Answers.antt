use Rattle.rc_base.specs.Formats.Limits.{limit_of}
use Rattle.rc_base.specs.Formats.Spelling.{SpellsScene, plain_form}
use Rattle.scene_file.specs.Counting.{counted_as}
use Rattle.scene_file.specs.Letters.{plain_letters}
use Rattle.scene_file.proofs.CommandsCounted.{fault_told, judged_seen, not_beyond}
use Rattle.scene_file.proofs.reading.read_judged.Goals as goal

pub returns-in-Ok : goal.returns-in-Ok
returns-in-Ok g c =
    judged_seen g.K.KeptStream.scene c.args.bytes.now (counted_as g.K.KeptStream.commands c.in-Ok.counted) c.within_limits.result c.in-Ok.ensures.found c.within_limits.ensures

pub returns-in-Err : goal.returns-in-Err
returns-in-Err g c = record {
  found = tt;
  malformed = fault_told plain_form plain_letters.all c.args.bytes.now c.in-Err.broken c.fault_at.result c.fault_at.ensures c.in-Err.ensures.fails;
  limit = not_beyond SpellsScene limit_of c.args.bytes.now c.in-Err.broken c.fault_at.result c.fault_at.ensures;
}

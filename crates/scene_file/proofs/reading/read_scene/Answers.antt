use Rattle.scene_file.proofs.Answered.{answered}
use Rattle.scene_file.proofs.reading.read_scene.Goals as goal

pub returns-clause-only : goal.returns-clause-only
returns-clause-only c = (answered c.args.bytes.now c.read_judged.result c.read_judged.ensures).only

pub returns-clause-malformed_only : goal.returns-clause-malformed_only
returns-clause-malformed_only c = (answered c.args.bytes.now c.read_judged.result c.read_judged.ensures).malformed_only

pub returns-clause-limit_only : goal.returns-clause-limit_only
returns-clause-limit_only c = (answered c.args.bytes.now c.read_judged.result c.read_judged.ensures).limit_only

pub returns-clause-fields : goal.returns-clause-fields
returns-clause-fields c = (answered c.args.bytes.now c.read_judged.result c.read_judged.ensures).fields

pub returns-clause-within : goal.returns-clause-within
returns-clause-within c = (answered c.args.bytes.now c.read_judged.result c.read_judged.ensures).within

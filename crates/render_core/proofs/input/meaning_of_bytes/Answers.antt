use Rattle.run_words.specs.declared.job.Form.TheVariants.{Bytes}
use Rattle.render_core.proofs.Inputs.{read_plainly}
use Rattle.render_core.proofs.input.meaning_of_bytes.Goals as goal

pub returns-in-Ok-scene_of_bytes-clause-read : goal.returns-in-Ok-scene_of_bytes-clause-read
returns-in-Ok-scene_of_bytes-clause-read g c =
    read_plainly Bytes c.args.input.now c.in-Ok-scene_of_bytes.scene c.in-Ok-scene_of_bytes.ensures.read.0 c.in-Ok-scene_of_bytes.ensures.read.1 c.plain.result c.plain.ensures.scene c.plain.ensures.faults

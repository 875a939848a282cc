use Rattle.std.proofs.Common.{sym, subst}
use Rattle.run_words.specs.declared.job.Form.TheVariants.{Bytes}
use Rattle.render_core.specs.Refusals.{IsRefusedInput}
use Rattle.render_core.proofs.Inputs.{refused_without_lists}
use Rattle.render_core.proofs.reader.stored_beside.Goals as goal

pub returns-in-Err-clause-refused_bytes : goal.returns-in-Err-clause-refused_bytes
returns-in-Err-clause-refused_bytes g c = λ other.
    let r = c.read_stored_scene_beside in
    subst (IsRefusedInput Bytes c.args.input.now) (sym c.refusal_of.ensures)
    (refused_without_lists c.args.input.now c.requires c.in-Err.fault r.result c.in-Err.is r.ensures.only r.ensures.limit_only r.ensures.malformed r.ensures.limit other)

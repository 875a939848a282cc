use Rattle.std.proofs.Common.{ℕ, ◌≤◌, List, length, subst, sym}
use Rattle.rc_base.specs.Outside.Ends.{use_of}
use Rattle.rc_base.specs.Outside.Transfer.{byte_limit}
use Rattle.run_words.specs.declared.job.Form.TheVariants.{Bytes}
use Rattle.render_core.proofs.Inputs.{faults_few}
use Rattle.render_core.proofs.Performing.{input_cause, took_of}
use Rattle.render_core.proofs.StoredWork.{reads_bytes}
use Rattle.render_core.proofs.stored.stored_meaning_for.Goals as goal

pub returns-in-Ok-clause-few : goal.returns-in-Ok-clause-few
returns-in-Ok-clause-few g c = faults_few _ _ _ c.in-Ok.ensures.read

pub returns-in-Err-clause-refused : goal.returns-in-Err-clause-refused
returns-in-Err-clause-refused g c =
    let source = use_of g.S.Source.left g.S.Source.faults c.args.source.now c.read_all.new.source in
    let input = c.in_ok-input.input in
    let taken = c.in_ok-input.ensures.taken in
    let short : length input ≤ byte_limit = subst (λ (l : List ℕ). length l ≤ byte_limit) (sym taken.2.0) taken.2.1 in
    input_cause c.args.job Bytes (reads_bytes c.args.job c.requires) source input
    (took_of source taken.0 input c.in_ok-input.ensures.cause taken.1 taken.2.0 short c.in_ok-input.ensures.end) c.in-Err.refusal c.in-Err.ensures.refused

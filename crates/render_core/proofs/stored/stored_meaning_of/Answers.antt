use Rattle.std.proofs.Common.{ℕ, List, rules, subst}
use Rattle.run_words.specs.declared.job.Form.TheVariants.{Bytes}
use Rattle.render_core.specs.Refusals.{BeginPlain, IsRead, IsRefusedInput}
use Rattle.render_core.specs.Stored.{meaning_in}
use Rattle.render_core.proofs.Inputs.{read_plainly}
use Rattle.render_core.proofs.stored.stored_meaning_of.Goals as goal

pub returns-in-Ok-clause-read : goal.returns-in-Ok-clause-read
returns-in-Ok-clause-read g c =
    let read = c.in-Ok.ensures.read in
    let plain = c.stored_plain in
    let x = meaning_in plain.result in
    subst (λ (l : List ℕ). IsRead Bytes l x) c.as_slice-bytes.ensures (read_plainly Bytes _ c.in-Ok.scene read.0 read.1 x plain.ensures.scene plain.ensures.faults)

pub returns-clause-refused : goal.returns-clause-refused
returns-clause-refused g c =
    let other : BeginPlain c.as_slice-bytes.result.now = search rules in
    subst (λ (l : List ℕ). IsRefusedInput Bytes l c.in-Err.refusal) c.as_slice-bytes.ensures (c.in-Err.ensures.refused_bytes other)

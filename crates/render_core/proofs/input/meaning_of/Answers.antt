use Rattle.std.proofs.Common.{ℕ, List, sym, subst}
use Rattle.run_words.specs.declared.job.Form.{Form}
use Rattle.run_words.specs.declared.job.Form.TheVariants.{PlainBytes, Text}
use Rattle.render_core.specs.Refusals.{IsRead}
use Rattle.render_core.proofs.Inputs.{read_plainly}
use Rattle.render_core.proofs.input.meaning_of.Goals as goal

pub returns-in-PlainBytes-clause-read : goal.returns-in-PlainBytes-clause-read
returns-in-PlainBytes-clause-read g c =
    let x = c.plain.result in
    let read = c.in_ok-scene_of_bytes-in-PlainBytes.ensures.read in
    subst (λ (f : Form). IsRead f c.args.input x) (sym c.in-PlainBytes.is)
    (subst (λ (l : List ℕ). IsRead PlainBytes l x) c.as_slice-in-PlainBytes.ensures
    (read_plainly PlainBytes _ c.in_ok-scene_of_bytes-in-PlainBytes.field-0 read.0 read.1 x c.plain.ensures.scene c.plain.ensures.faults))

pub returns-clause-read : goal.returns-clause-read
returns-clause-read g c =
    let x = c.plain-in-Text.result in
    let read = c.in_ok-scene_of_text-in-Text.ensures.read in
    subst (λ (f : Form). IsRead f c.args.input x) (sym c.in-Text.is)
    (subst (λ (l : List ℕ). IsRead Text l x) c.as_slice-in-Text.ensures
    (read_plainly Text _ c.in_ok-scene_of_text-in-Text.field-0 read.0 read.1 x c.plain-in-Text.ensures.scene c.plain-in-Text.ensures.faults))

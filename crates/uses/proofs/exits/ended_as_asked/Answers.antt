use Rattle.std.proofs.Common.{◌≡◌, ◌≢◌, ℕ, List, Option, Some, inl, inr, ap, sym, ◌∙◌, arith}
use Rattle.std.proofs.lemmas.Result.{IfOk-weaker}
use Rattle.rc_base.specs.Outside.Ends.{Used}
use Rattle.order_model.specs.declared.record.Record.{Record}
use Rattle.run_words.specs.Jobs.{AskFiltered, Task}
use Rattle.render_core.specs.Findings.{refused_with, Finding}
use Rattle.render_core.specs.Findings.Finding.{Long, Malformed, Outside, Unsuited, Sound}
use Rattle.render_core.specs.Outcomes.{Cause, Ran}
use Rattle.render_core.specs.Outcomes.Cause.{SourceFailed, InputRefused, ImageFailed}
use Rattle.render_core.specs.Outcomes.Ran.{Usage, Done, NotesFailed, Stuck, RaceFound, Refused, NoMemory}
use Rattle.render_main.specs.Exits.{EndsUsed}
use Rattle.render_main.specs.Processes.{AreRun}
use Rattle.std.specs.declared.string.String.{String}
use Rattle.std.specs.Global.{Global}
use Rattle.uses.proofs.exits.ended_as_asked.Goals as goal

-- what is found is refused with 3, 4 or 12
of_finding : (finding : Finding) (status : ℕ) → refused_with finding ≡ Some status → status ≢ 1
of_finding Long status is one = absurd (let four : Some 4 ≡ Some 1 = is ∙ ap Some one in cc)
of_finding Malformed status is one = absurd (let three : Some 3 ≡ Some 1 = is ∙ ap Some one in cc)
of_finding (Outside limit) status is one = absurd (let four : Some 4 ≡ Some 1 = is ∙ ap Some one in cc)
of_finding (Unsuited name) status is one = absurd (let twelve : Some 12 ≡ Some 1 = is ∙ ap Some one in cc)
of_finding (Sound work) status is one = absurd (let none = is in cc)

of_cause : (task : Task) (source image : Used) (status : ℕ) (line : List ℕ) (kept : Option Record) → Cause task source image status line kept → status ≢ 1
of_cause task source image status line kept (SourceFailed reads two line_is failed none) one = omega (arith, two, one)
of_cause task source image status line kept (InputRefused judged none) one = of_finding judged.judged.finding status judged.judged.refused one
of_cause task source image status line kept (ImageFailed six o due ends cut kept_is) one = omega (arith, six, one)

of_run : (asks : Task → Type 0) (source image notes : Used) (status : ℕ) (kept : Option Record) → Ran asks source image notes status kept → (task : Task) → asks task
    → status ≢ 1
of_run asks source image notes status kept (Usage is none noted unkept) task asked one = none task asked
of_run asks source image notes status kept (Done is done) task asked one = omega (arith, is, one)
of_run asks source image notes status kept (NotesFailed is done) task asked one = omega (arith, is, one)
of_run asks source image notes status kept (Stuck is done) task asked one = omega (arith, is, one)
of_run asks source image notes status kept (RaceFound is done) task asked one = omega (arith, is, one)
of_run asks source image notes status kept (Refused for) task asked one = of_cause for.0 source image status for.2.line kept for.2.cause one
of_run asks source image notes status kept (NoMemory is noted unkept) task asked one = omega (arith, is, one)

of_words : (words : List (String Global)) (ends : EndsUsed) (status : ℕ) → AreRun words ends status → (task : Task) → AskFiltered words task → status ≢ 1
of_words words ends status are task asked one = elim are.outcome [
  | inl ended ↦ of_run (AskFiltered words) ends.source ends.image ends.notes status ended.0 ended.1 task asked one
  | inr lacks ↦ omega (arith, lacks.status_is, one)
]

pub returns : goal.returns
returns g c =
    IfOk-weaker c.args.args _ _ (λ all are task asked one. of_words _ _ _ are task asked (sym c.report.ensures ∙ one)) c.run_process.ensures.ran

use Rattle.std.proofs.Common.{◌≡◌, ℕ, ◌⊎◌, List, Option, inl, inr, refl, arith}
use Rattle.std.proofs.lemmas.Result.{IfOk-weaker}
use Rattle.std.specs.Io.KnownBytes.{Appends}
use Rattle.std.specs.declared.string.String.{String}
use Rattle.std.specs.Global.{Global}
use Rattle.rc_base.specs.Outside.Causes.{Rose}
use Rattle.rc_base.specs.Outside.Ends.{Noted, Used}
use Rattle.order_model.specs.declared.record.Record.{Record}
use Rattle.run_words.specs.Jobs.{AskFiltered, Task}
use Rattle.run_words.specs.Lines.{usage_line}
use Rattle.render_core.specs.Outcomes.{Ran}
use Rattle.render_core.specs.Outcomes.Ran.{Usage, Done, NotesFailed, Stuck, RaceFound, Refused, NoMemory}
use Rattle.render_main.specs.Exits.{EndsUsed}
use Rattle.render_main.specs.Processes.{AreRun}
use Rattle.uses.proofs.exits.told_of_no_task.Goals as goal

none_rose : (before after : ℕ) → before ≡ 0 → after ≡ 0 → Rose before after → ⊥
none_rose before after first last (inl less) = omega (arith, first, last, less)
none_rose before after first last (inr ends) = omega (arith, first, ends.0)

-- notes that didn't fail hold the lines
held : (e : Used) (lines : List ℕ) → Noted e lines → e.faults_before ≡ 0 → e.faults_after ≡ 0 → Appends e.before e.after lines
held e lines (inl took) first last = took.0
held e lines (inr failed) first last = absurd (none_rose e.faults_before e.faults_after first last failed.0.rose)

of_run : (asks : Task → Type 0) (source image notes : Used) (status : ℕ) (kept : Option Record) → notes.faults_before ≡ 0 → Ran asks source image notes status kept
    → ((task : Task) → asks task → ⊥) → (status ≡ 7) ⊎ (notes.faults_after ≡ 0 → Appends notes.before notes.after usage_line)
of_run asks source image notes status kept first (Usage is none noted unkept) nothing = inr (λ last. held notes usage_line noted first last)
of_run asks source image notes status kept first (Done is for) nothing = absurd (nothing for.0 for.1)
of_run asks source image notes status kept first (NotesFailed is for) nothing = absurd (nothing for.0 for.1)
of_run asks source image notes status kept first (Stuck is for) nothing = absurd (nothing for.0 for.1)
of_run asks source image notes status kept first (RaceFound is for) nothing = absurd (nothing for.0 for.1)
of_run asks source image notes status kept first (Refused for) nothing = absurd (nothing for.0 for.1)
of_run asks source image notes status kept first (NoMemory is noted unkept) nothing = inl is

of_words : (words : List (String Global)) (ends : EndsUsed) (status : ℕ) → ends.notes.faults_before ≡ 0 → AreRun words ends status
    → ((task : Task) → AskFiltered words task → ⊥) → (status ≡ 7) ⊎ (ends.notes.faults_after ≡ 0 → Appends ends.notes.before ends.notes.after usage_line)
of_words words ends status first are nothing = elim are.outcome [
  | inl ended ↦ of_run (AskFiltered words) ends.source ends.image ends.notes status ended.0 first ended.1 nothing
  | inr lacks ↦ inl lacks.status_is
]

pub returns : goal.returns
returns g c = IfOk-weaker c.args.args _ _ (λ all are nothing. of_words _ _ _ refl are nothing) c.run_process.ensures.ran

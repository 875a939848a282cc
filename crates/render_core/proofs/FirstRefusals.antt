-- A run ends with the status of what refused its task first.
use Rattle.std.proofs.Common.{◌≡◌, ℕ, ◌⊎◌, inl, inr, List}
use Rattle.std.specs.declared.option.Option.{Option}
use Rattle.rc_base.specs.Outside.Ends.{Used}
use Rattle.order_model.specs.declared.record.Record.{Record}
use Rattle.run_words.specs.Jobs.{AskFiltered, AskPlainly, ForTask, Task}
use Rattle.render_core.specs.Laws.{RefusalsComeInOrder, FirstRefusal, Unread, Unfit, Waiting, Racing, Unwritten, Untold, Unrefused}
use Rattle.render_core.specs.Outcomes.{Cause, SourceFailed, InputRefused, ImageFailed, Ran, Usage, Done, NotesFailed, Stuck, RaceFound, Refused, NoMemory}

by_cause : (task : Task) (source image notes : Used) (status : ℕ) (line : List ℕ) (kept : Option Record) → Cause task source image status line kept
    → FirstRefusal task source image notes status kept
by_cause task source image notes status line kept (SourceFailed reads is told failed none) = Unread is reads failed
by_cause task source image notes status line kept (InputRefused judged none) =
    Unfit judged.input judged.judged.finding judged.took judged.judged.is judged.judged.refused
by_cause task source image notes status line kept (ImageFailed is o due complete cut kept_is) = Unwritten is o due complete kept_is cut.failed

ordered : (asks : Task → Type 0) (source image notes : Used) (status : ℕ) (kept : Option Record) → Ran asks source image notes status kept
    → (status ≡ 7) ⊎ (((status ≡ 1) × ((task : Task) → asks task → ⊥)) ⊎ ForTask asks (λ task. FirstRefusal task source image notes status kept))
ordered asks source image notes status kept (Usage is none noted unkept) = inr (inl (is, none))
ordered asks source image notes status kept (Done is named) =
    let done = named.2 in
    inr (inr (named.0, named.1, Unrefused is done.o done.due done.complete done.kept_is done.calm_image done.calm_notes))
ordered asks source image notes status kept (NotesFailed is named) =
    let untold = named.2 in
    inr (inr (named.0, named.1, Untold is untold.o untold.due untold.complete untold.kept_is untold.calm_image untold.failed))
ordered asks source image notes status kept (Stuck is named) =
    let stuck = named.2 in inr (inr (named.0, named.1, Waiting is stuck.o stuck.due stuck.ends stuck.kept_is))
ordered asks source image notes status kept (RaceFound is named) =
    let raced = named.2 in inr (inr (named.0, named.1, Racing is raced.o raced.due raced.ends raced.kept_is))
ordered asks source image notes status kept (Refused named) =
    let refused = named.2 in
    inr (inr (named.0, named.1, by_cause named.0 source image notes status refused.line kept refused.cause))
ordered asks source image notes status kept (NoMemory is noted unkept) = inl is

pub in_order : RefusalsComeInOrder
in_order words = (ordered (AskPlainly words), ordered (AskFiltered words))

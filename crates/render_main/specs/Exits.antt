-- How the program ends.
use Rattle.std.specs.Prelude.{ℕ, List}
use Rattle.std.specs.declared.option.Option.{Option}
use Rattle.rc_base.specs.Outside.Ends.{Used}
use Rattle.rc_base.specs.Outside.Standard.{StdSinkModel, StdSourceModel}

-- the status, and the source, the image and the notes as the run left them
pub record ExitModel : Type 0 where
  pub status : ℕ
  pub source : StdSourceModel
  pub image : StdSinkModel
  pub notes : StdSinkModel

-- what became of the three ends
pub record EndsUsed : Type 0 where
  pub source : Used
  pub image : Used
  pub notes : Used

-- what became of them in a run that found this to be read, and this written already
abbrev pub ends_of : Option (List ℕ) → Option (List ℕ) → Option (List ℕ) → ExitModel → EndsUsed
ends_of input output error exit = record {
  source = record { before = input; after = exit.source.left; faults_before = 0; faults_after = exit.source.faults };
  image = record { before = output; after = exit.image.held; faults_before = 0; faults_after = exit.image.faults };
  notes = record { before = error; after = exit.notes.held; faults_before = 0; faults_after = exit.notes.faults };
}

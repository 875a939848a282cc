-- What the program does with what its process is given.
use Rattle.std.specs.Prelude.{◌≡◌, ℕ, ◌⊎◌, List}
use Rattle.std.specs.declared.string.String.{String}
use Rattle.std.specs.Global.{Global}
use Rattle.rc_base.specs.Outside.Ends.{Used, IsCalm, Noted}
use Rattle.run_words.specs.Jobs.{AskFiltered}
use Rattle.run_words.specs.Lines.{usage_line}
use Rattle.render_core.specs.Outcomes.{Ended}
use Rattle.render_main.specs.Exits.{EndsUsed}

-- the end is as it was
abbrev pub IsAsBefore : Used → Type 0
IsAsBefore e = (e.after ≡ e.before) × IsCalm e

-- there was no memory for the words, or for the chain that they name: the status is 7, and all ends are as they were
pub record LacksWords (ends : EndsUsed) (status : ℕ) : Type 0 where
  pub status_is : status ≡ 7
  pub source : IsAsBefore ends.source
  pub image : IsAsBefore ends.image
  pub notes : IsAsBefore ends.notes

-- the words are none of text: the status is 1, the line of usage was noted, and nothing was read or shown
pub record IsNoText (ends : EndsUsed) (status : ℕ) : Type 0 where
  pub status_is : status ≡ 1
  pub source : IsAsBefore ends.source
  pub image : IsAsBefore ends.image
  pub notes : Noted ends.notes usage_line

-- the words were run, behind the filters that they begin with, or there was no memory for them
pub record AreRun (words : List (String Global)) (ends : EndsUsed) (status : ℕ) : Type 0 where
  pub outcome : Ended (AskFiltered words) ends.source ends.image ends.notes status ⊎ LacksWords ends status

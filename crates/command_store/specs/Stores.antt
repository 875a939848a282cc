-- Commands in the form in which they are kept.
use Rattle.std.specs.Prelude.{◌≡◌, ℕ, ◌<◌, ◌≤◌, List, ◌++◌, Some, length, map, slice_get, slice_index_or}
use Rattle.rc_base.specs.declared.command.Command.{Command}
use Rattle.rc_base.specs.declared.command.Command.TheVariants as cmd
use Rattle.command_store.specs.declared.command.StoredCommand.{StoredCommand}
use Rattle.command_store.specs.declared.command.StoredCommand.TheVariants as stored
use Rattle.command_store.specs.declared.form.CommandForm.{CommandForm}
use Rattle.command_store.specs.declared.form.CommandForm.TheVariants as form

-- the command that is stored so, where these are kept whole
abbrev pub command_of : List Command → StoredCommand → Command
command_of others (stored.Begin mode) = cmd.Begin mode
command_of others stored.End = cmd.End
command_of others (stored.Vertex pos) = cmd.Vertex pos
command_of others (stored.Color color) = cmd.Color color
command_of others (stored.TexCoord s t) = cmd.TexCoord s t
command_of others (stored.Other number) = slice_index_or others number cmd.End

abbrev pub commands_in : List Command → List StoredCommand → List Command
commands_in others kept = map (command_of others) kept

-- where it is the number of one that is kept whole, there are more than that
abbrev pub HasItsOther : ℕ → StoredCommand → Type 0
HasItsOther count s = (number : ℕ) → s ≡ stored.Other number → number < count

-- the command is stored so
abbrev pub IsStoredAs : List Command → StoredCommand → Command → Type 0
IsStoredAs others s c = (command_of others s ≡ c) × HasItsOther (length others) s

-- the list has at most one more, at its end
abbrev pub GrewByAtMostOne : List Command → List Command → Type 0
GrewByAtMostOne before after = (more : List Command) × (after ≡ before ++ more) × (length more ≤ 1)

-- what is kept whole is there, and is no more than all
pub record AreStored (others : List Command) (kept : List StoredCommand) : Type 0 where
  pub there : (place number : ℕ) → slice_get kept place ≡ Some (stored.Other number) → number < length others
  pub few : length others ≤ length kept

-- commands that were written, and for how many more there is room
pub record Written : Type 0 where
  pub commands : List Command
  pub room : ℕ

-- the form has all of the command
abbrev pub IsBorrowedFrom : CommandForm → Command → Type 0
IsBorrowedFrom (form.Begin mode) c = c ≡ cmd.Begin mode.now
IsBorrowedFrom form.End c = c ≡ cmd.End
IsBorrowedFrom (form.Vertex pos) c = c ≡ cmd.Vertex pos.now
IsBorrowedFrom (form.Color color) c = c ≡ cmd.Color color.now
IsBorrowedFrom (form.TexCoord s t) c = c ≡ cmd.TexCoord s.now t.now
IsBorrowedFrom (form.Other command) c = c ≡ command.now

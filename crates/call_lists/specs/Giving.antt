-- What a stream has given so far, and what some commands more that are met do to it.
use Rattle.std.specs.Prelude.{◌≡◌, ◌+◌, List, ◌++◌, length, Result, Ok, Err}
use Rattle.rc_base.specs.declared.list_command.ListCommand.{ListCommand}
use Rattle.call_lists.specs.declared.answer.ExpandFault.{ExpandFault}
use Rattle.call_lists.specs.declared.given.Given.{Given}
use Rattle.call_lists.specs.Expansion.{plain_commands, costs, stored, TellsTooLong}

-- these commands were met behind what was given before
pub record Adds (before after : Given) (commands : List ListCommand) : Type 0 where
  pub given : after.commands ≡ stored (before.commands ++ plain_commands commands)
  pub counted : after.count ≡ before.count + length (plain_commands commands)
  pub spent : after.spent ≡ before.spent + costs commands

-- the same of a function that may have failed at one of the commands
abbrev pub Meets : Given → Given → List ListCommand → Result (Unit {0}) ExpandFault → Type 0
Meets before after commands (Ok _) = Adds before after commands
Meets before after commands (Err e) = TellsTooLong before.spent commands e

-- Where the code of an expansion stands.
use Rattle.std.specs.Prelude.{◌≡◌, ℕ, List, ◌++◌, Option, Some, None}
use Rattle.rc_base.specs.declared.list_command.ListCommand.{ListCommand}
use Rattle.rc_base.specs.declared.state.Fault.{Fault}
use Rattle.call_lists.specs.declared.record.Record.{Record}
use Rattle.call_lists.specs.declared.standing.Standing.{Standing}
use Rattle.call_lists.specs.Expansion.{Lists, ListState, fault_at, list_fault, state_after}
use Rattle.call_lists.specs.Expansion.ListState.{Calling, Recording}

abbrev pub state_with_record : Lists → Option Record → ListState
state_with_record lists None = Calling lists
state_with_record lists (Some r) = Recording lists r.name r.commands

abbrev pub state_of : Standing → ListState
state_of s = state_with_record s.lists s.recording

-- it stands where the command leaves it
abbrev pub IsAfter : Standing → ListCommand → Standing → Type 0
IsAfter before command after = state_of after ≡ state_after (state_of before) command

-- the command's fault, where it has one, is noted behind the others
abbrev pub IsNoted : Standing → ℕ → ListCommand → List (ℕ × Fault) → List (ℕ × Fault) → Type 0
IsNoted standing place command before after = after ≡ before ++ fault_at place (list_fault (state_of standing) command)

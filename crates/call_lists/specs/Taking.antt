-- What taking a command of a stream does.
use Rattle.std.specs.Prelude.{ℕ, List, Result, OnOk}
use Rattle.rc_base.specs.declared.list_command.ListCommand.{ListCommand}
use Rattle.rc_base.specs.declared.state.Fault.{Fault}
use Rattle.call_lists.specs.declared.answer.ExpandFault.{ExpandFault}
use Rattle.call_lists.specs.declared.given.Given.{Given}
use Rattle.call_lists.specs.declared.standing.Standing.{Standing}
use Rattle.call_lists.specs.Expansion.{met_at}
use Rattle.call_lists.specs.Giving.{Meets}
use Rattle.call_lists.specs.Standing.{IsAfter, IsNoted, state_of}

-- what is met at the command was met, and where all went well the stream stands behind the command, whose fault is noted
pub record IsTaken (place : ℕ) (command : ListCommand) (before after : Standing) (noted noted_after : List (ℕ × Fault)) (met met_after : Given)
    (result : Result (Unit {0}) ExpandFault) : Type 0 where
  pub state : OnOk result (IsAfter before command after)
  pub faults : OnOk result (IsNoted before place command noted noted_after)
  pub given : Meets met met_after (met_at (state_of before) command) result

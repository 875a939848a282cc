-- How far an expansion has come.
use Rattle.std.specs.Prelude.{◌≡◌, ℕ, List, take}
use Rattle.rc_base.specs.declared.state.Fault.{Fault}
use Rattle.rc_base.specs.declared.list_command.ListCommand.{ListCommand}
use Rattle.call_lists.specs.declared.given.Given.{Given}
use Rattle.call_lists.specs.declared.standing.Standing.{Standing}
use Rattle.call_lists.specs.Expansion.{first_state, state_from, met_from, faults_from}
use Rattle.call_lists.specs.Standing.{state_of}
use Rattle.call_lists.specs.Giving.{Adds}

-- so many commands of a stream were taken
pub record HasTaken (stream : List ListCommand) (count : ℕ) (first : Given) (standing : Standing) (faults : List (ℕ × Fault)) (given : Given) : Type 0 where
  pub state : state_of standing ≡ state_from first_state (take count stream)
  pub faults_are : faults ≡ faults_from first_state 0 (take count stream)
  pub adds : Adds first given (met_from first_state (take count stream))

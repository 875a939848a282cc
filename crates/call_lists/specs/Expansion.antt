-- What a stream with call lists means: the plain commands that are met when its lists are called.
use Rattle.std.specs.Prelude.{◌≡◌, ℕ, zero, suc, ◌+◌, ◌<◌, ◌≤◌, Bool, List, [], ◌∷◌, ◌++◌, length, take, replicate, sum_by, Option, Some, None, is_some, unwrap_or, Result, Ok, Err, ◌⊎◌, if◌then◌else◌}
use Rattle.std.specs.List.{flat_map}
use Rattle.rc_base.specs.Lists.{at_name, with_name}
use Rattle.rc_base.specs.Contexts.Faults.{is_name}
use Rattle.rc_base.specs.declared.command.Command.{Command}
use Rattle.rc_base.specs.declared.state.Fault.{Fault}
use Rattle.rc_base.specs.declared.state.Fault.TheVariants.{InvalidValue, InvalidOperation}
use Rattle.rc_base.specs.declared.list_command.ListCommand.{ListCommand}
use Rattle.rc_base.specs.declared.list_command.ListCommand.TheVariants.{Plain, NewList, EndList, CallList}
use Rattle.rc_base.specs.Formats.Spelling.{list_payload}
use Rattle.call_lists.specs.declared.answer.Expansion.{Expansion}
use Rattle.call_lists.specs.declared.answer.ExpandFault.{ExpandFault}
use Rattle.call_lists.specs.declared.answer.ExpandFault.TheVariants as fault

-- ---- the lists

-- the commands of each list, in the order of their names from 1; a list that does not exist has none
abbrev pub Lists : Type 0
Lists = List (List ListCommand)

-- none of the 64 lists exists
abbrev pub no_lists : Lists
no_lists = replicate 64 []

-- the commands of a list as it stands
abbrev pub list_at : Lists → ℕ → List ListCommand
list_at lists name = unwrap_or (at_name lists name) []

-- Where a stream stands: the lists as they are, and where a list is being recorded, its name and its commands so far.
pub data ListState : Type 0 where
  Calling : (lists : Lists) → ListState
  Recording : (lists : Lists) (name : ℕ) (commands : List ListCommand) → ListState

abbrev pub first_state : ListState
first_state = Calling no_lists

abbrev pub is_list_name : ℕ → Bool
is_list_name name = is_name name 64

-- ---- which commands are refused, and what the others do to the lists

abbrev pub name_fault : ℕ → Option Fault
name_fault name = if is_list_name name then None else Some InvalidValue

-- the first rule that a command breaks, or none
abbrev pub list_fault : ListState → ListCommand → Option Fault
list_fault x (Plain c) = None
list_fault (Calling lists) (NewList name) = name_fault name
list_fault (Recording lists recorded commands) (NewList name) = Some InvalidOperation
list_fault (Calling lists) EndList = Some InvalidOperation
list_fault (Recording lists recorded commands) EndList = None
list_fault x (CallList name) = name_fault name

-- An accepted command begins a recording, is recorded, or ends the recording, which is then the list of its name.
abbrev pub state_with : ListState → ListCommand → ListState
state_with (Calling lists) (Plain c) = Calling lists
state_with (Calling lists) (NewList name) = Recording lists name []
state_with (Calling lists) EndList = Calling lists
state_with (Calling lists) (CallList name) = Calling lists
state_with (Recording lists name commands) (Plain c) = Recording lists name (commands ++ Plain c ∷ [])
state_with (Recording lists name commands) (NewList other) = Recording lists name (commands ++ NewList other ∷ [])
state_with (Recording lists name commands) EndList = Calling (with_name lists name commands)
state_with (Recording lists name commands) (CallList other) = Recording lists name (commands ++ CallList other ∷ [])

-- a refused command is left out
abbrev pub state_after : ListState → ListCommand → ListState
state_after x c = if is_some (list_fault x c) then x else state_with x c

-- the state behind some commands
abbrev pub state_from : ListState → List ListCommand → ListState
state_from x [] = x
state_from x (c ∷ cs) = state_from (state_after x c) cs

-- ---- which commands are met

-- how many lists deep a call is followed
abbrev pub most_levels : ℕ
most_levels = 8

-- A command is met, and where it is a call, what the call gives after it.
abbrev pub met_with : (ℕ → List ListCommand) → ListCommand → List ListCommand
met_with call (Plain c) = Plain c ∷ []
met_with call (NewList name) = NewList name ∷ []
met_with call EndList = EndList ∷ []
met_with call (CallList name) = CallList name ∷ call name

-- what is met in a list, and in those that it calls, so many lists deep
unfoldable pub called : Lists → ℕ → ℕ → List ListCommand
called lists zero name = []
called lists (suc levels) name = flat_map (met_with (called lists levels)) (list_at lists name)

-- What is met where a stream has come to a command: outside a recording it and what it calls, within one nothing but the EndList that ends it.
abbrev pub met_at : ListState → ListCommand → List ListCommand
met_at (Calling lists) c = met_with (called lists most_levels) c
met_at (Recording lists name commands) (Plain c) = []
met_at (Recording lists name commands) (NewList other) = []
met_at (Recording lists name commands) EndList = EndList ∷ []
met_at (Recording lists name commands) (CallList other) = []

-- what is met in the commands of a stream, from a state on
abbrev pub met_from : ListState → List ListCommand → List ListCommand
met_from x [] = []
met_from x (c ∷ cs) = met_at x c ++ met_from (state_after x c) cs

unfoldable pub met : List ListCommand → List ListCommand
met stream = met_from first_state stream

-- ---- what a stream gives

abbrev pub plain_of : ListCommand → List Command
plain_of (Plain c) = c ∷ []
plain_of (NewList name) = []
plain_of EndList = []
plain_of (CallList name) = []

-- the plain ones among some commands
abbrev pub plain_commands : List ListCommand → List Command
plain_commands commands = flat_map plain_of commands

-- a command costs one, and one for each byte of its payload
abbrev pub cost_of : ListCommand → ℕ
cost_of c = 1 + length (list_payload c)

abbrev pub costs : List ListCommand → ℕ
costs commands = sum_by cost_of commands

-- the place and the fault of a command that is refused
abbrev pub fault_at : ℕ → Option Fault → List (ℕ × Fault)
fault_at place None = []
fault_at place (Some f) = (place, f) ∷ []

-- the refused commands of a stream, from a state and a place on
abbrev pub faults_from : ListState → ℕ → List ListCommand → List (ℕ × Fault)
faults_from x place [] = []
faults_from x place (c ∷ cs) = fault_at place (list_fault x c) ++ faults_from (state_after x c) (place + 1) cs

unfoldable pub list_faults : List ListCommand → List (ℕ × Fault)
list_faults stream = faults_from first_state 0 stream

-- ---- the limit

-- the most that all streams may cost
abbrev pub most_cost : ℕ
most_cost = 67108864

-- the first commands of an expansion, which are stored: one more than a scene may have
unfoldable pub stored : List Command → List Command
stored commands = take 1048577 commands

-- what a stream means, where so much was spent before
unfoldable pub expansion_of : List ListCommand → ℕ → Expansion
expansion_of stream spent = record {
  commands = stored (plain_commands (met stream));
  count = length (plain_commands (met stream));
  faults = list_faults stream;
  spent = spent + costs (met stream);
}

-- The sum of the costs passes the limit at a command: up to the command before it is within, and with it it is not.
pub record Passes (spent : ℕ) (commands : List ListCommand) (sum : ℕ) : Type 0 where
  pub front : List ListCommand
  pub command : ListCommand
  pub rest : List ListCommand
  pub parts : commands ≡ front ++ command ∷ rest
  pub within : spent + costs front ≤ most_cost
  pub sum_is : sum ≡ spent + costs front + cost_of command
  pub passed : most_cost < sum

-- where an expansion fails by its costs, their sum passes the limit
abbrev pub TellsTooLong : ℕ → List ListCommand → ExpandFault → Type 0
TellsTooLong spent commands (fault.TooLong sum) = Passes spent commands sum
TellsTooLong spent commands fault.OutOfMemory = Unit {0}

-- ---- what is answered unless memory runs out

-- the answer is this, or that memory ran out
abbrev pub AnswersOrLacks : {A : Type 0} → Result A ExpandFault → Result A ExpandFault → Type 0
AnswersOrLacks result answer = (result ≡ answer) ⊎ (result ≡ Err fault.OutOfMemory)

-- the sum with which the costs pass the limit is told
abbrev pub TellsEachSum : {A : Type 0} → ℕ → List ListCommand → Result A ExpandFault → Type 0
TellsEachSum spent commands result = (sum : ℕ) → Passes spent commands sum → AnswersOrLacks result (Err (fault.TooLong sum))

-- Laws on expansions.
use Rattle.std.specs.Prelude.{◌≡◌, ℕ, zero, suc, ◌+◌, ◌<◌, ◌≤◌, true, List, [], ◌∷◌, ◌++◌, Some, length, map, replicate}
use Rattle.std.specs.List.{flat_map, AllByRecursion}
use Rattle.rc_base.specs.Formats.Commands.{IsCommand}
use Rattle.rc_base.specs.Formats.Spelling.{IsListCommand}
use Rattle.rc_base.specs.Lists.{IsIn, with_name}
use Rattle.rc_base.specs.declared.command.Command.{Command}
use Rattle.rc_base.specs.declared.list_command.ListCommand.{ListCommand}
use Rattle.rc_base.specs.declared.list_command.ListCommand.TheVariants.{Plain, NewList, EndList, CallList}
use Rattle.rc_base.specs.declared.state.Fault.{Fault}
use Rattle.call_lists.specs.declared.streams.Expansions.{Expansions}
use Rattle.call_lists.specs.Expansion.{Lists, list_at, is_list_name, list_fault, first_state, state_from, met_from, met, plain_commands, costs, list_faults, most_cost, stored, Passes}
use Rattle.call_lists.specs.Expansion.ListState.{Calling}
use Rattle.call_lists.specs.Scenes.{cost_told, expanded, AreExpanded}

-- ---- streams that make and call no list

-- A stream of plain commands means itself: each of its commands is met once and nothing else is, each is given, and none is refused.
abbrev pub PlainStreamsMeanThemselves : Type 0
PlainStreamsMeanThemselves =
    (commands : List Command)
    → (met (map (λ c. Plain c) commands) ≡ map (λ c. Plain c) commands)
    × (plain_commands (met (map (λ c. Plain c) commands)) ≡ commands)
    × (list_faults (map (λ c. Plain c) commands) ≡ [])

-- ---- recordings

-- a command that a recording takes
abbrev pub IsRecordable : ListCommand → Type 0
IsRecordable (Plain c) = Unit {0}
IsRecordable (NewList name) = ⊥
IsRecordable EndList = ⊥
IsRecordable (CallList name) = is_list_name name ≡ true

-- the commands of a recording, from the one that begins it to the one that ends it
abbrev pub recording : ℕ → List ListCommand → List ListCommand
recording name commands = NewList name ∷ (commands ++ EndList ∷ [])

-- A recording makes the list of its name, and nothing but its first and its last command is met.
abbrev pub RecordingsMakeLists : Type 0
RecordingsMakeLists =
    (lists : Lists) (name : ℕ) (commands : List ListCommand) → is_list_name name ≡ true → AllByRecursion IsRecordable commands
    → (state_from (Calling lists) (recording name commands) ≡ Calling (with_name lists name commands))
    × (met_from (Calling lists) (recording name commands) ≡ NewList name ∷ EndList ∷ [])

-- ---- calls

-- a command whose call, if it is one, leads where P holds
abbrev pub LeadsTo : (ℕ → Type 0) → ListCommand → Type 0
LeadsTo P (Plain c) = Unit {0}
LeadsTo P (NewList name) = Unit {0}
LeadsTo P EndList = Unit {0}
LeadsTo P (CallList name) = P name

-- the calls of these commands lead at most so many lists deep
unfoldable pub CallsWithin : Lists → ℕ → List ListCommand → Type 0
CallsWithin lists zero commands = AllByRecursion (LeadsTo (λ _. ⊥)) commands
CallsWithin lists (suc levels) commands = AllByRecursion (LeadsTo (λ name. CallsWithin lists levels (list_at lists name))) commands

-- A call outside a recording means its list's commands in its place, where these call no more than seven lists deep.
abbrev pub CallsMeanTheirLists : Type 0
CallsMeanTheirLists =
    (front rest : List ListCommand) (lists : Lists) (name : ℕ) → state_from first_state front ≡ Calling lists → CallsWithin lists 7 (list_at lists name)
    → plain_commands (met (front ++ CallList name ∷ rest)) ≡ plain_commands (met (front ++ (list_at lists name ++ rest)))

-- A call of a list that has plain commands and calls itself behind them gives these commands eight times.
abbrev pub CallsEndAtTheEighthList : Type 0
CallsEndAtTheEighthList =
    (front : List ListCommand) (lists : Lists) (name : ℕ) (commands : List Command) → state_from first_state front ≡ Calling lists
    → list_at lists name ≡ map (λ c. Plain c) commands ++ CallList name ∷ []
    → plain_commands (met (front ++ CallList name ∷ [])) ≡ plain_commands (met front) ++ flat_map (λ part. part) (replicate 8 commands)

-- ---- refused commands

-- A refused command is left out of what the stream gives, and its place and its fault are noted.
abbrev pub RefusedCommandsAreLeftOut : Type 0
RefusedCommandsAreLeftOut =
    (front rest : List ListCommand) (c : ListCommand) (f : Fault) → list_fault (state_from first_state front) c ≡ Some f
    → (plain_commands (met (front ++ c ∷ rest)) ≡ plain_commands (met (front ++ rest)))
    × IsIn (length front, f) (list_faults (front ++ c ∷ rest))

-- ---- costs

-- The sum passes the limit at some command exactly where the sum of all does, and with one sum.
abbrev pub LimitsArePassedOnce : Type 0
LimitsArePassedOnce =
    (spent : ℕ) (commands : List ListCommand) → spent ≤ most_cost
    → (most_cost < spent + costs commands → (sum : ℕ) × Passes spent commands sum)
    × ((sum : ℕ) → Passes spent commands sum → most_cost < spent + costs commands)
    × ((sum other : ℕ) → Passes spent commands sum → Passes spent commands other → sum ≡ other)

-- What is told of costs within the limit is their sum, and of others the sum where they pass it.
abbrev pub CostsAreTold : Type 0
CostsAreTold =
    (spent : ℕ) (commands : List ListCommand) → spent ≤ most_cost
    → (spent + costs commands ≤ most_cost → cost_told spent commands ≡ spent + costs commands)
    × ((sum : ℕ) → Passes spent commands sum → cost_told spent commands ≡ sum)

-- ---- what is given

-- Where the fields of a stream's commands are in their ranges, so are those of the commands that it means.
abbrev pub ExpansionsStayInRange : Type 0
ExpansionsStayInRange = (stream : List ListCommand) → AllByRecursion IsListCommand stream → AllByRecursion IsCommand (expanded stream)

-- Where there is room for all commands they are all stored: of one stream, and of streams that mean no more commands than a scene may have.
abbrev pub ExpansionsAreWhole : Type 0
ExpansionsAreWhole =
    ((stream : List ListCommand) → length (expanded stream) ≤ 1048577 → stored (expanded stream) ≡ expanded stream)
    × ((streams : List (List ListCommand)) (x : Expansions) → AreExpanded streams x → x.count ≤ 1048576 → x.streams ≡ map expanded streams)

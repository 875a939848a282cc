-- Scenes with call lists: what all their streams cost, and the scene that they mean.
use Rattle.std.specs.Prelude.{◌≡◌, ℕ, ◌+◌, ◌<◌, ◌^◌, nat_lt, List, [], ◌∷◌, length, map, sum_by, if◌then◌else◌}
use Rattle.std.specs.List.{flat_map}
use Rattle.rc_base.specs.declared.command.Command.{Command}
use Rattle.rc_base.specs.declared.list_command.ListCommand.{ListCommand}
use Rattle.call_lists.specs.declared.streams.Expansions.{Expansions}
use Rattle.call_lists.specs.Expansion.{most_cost, cost_of, costs, met, plain_commands, stored, list_faults}

-- The sum that is told of costs: where it passes the limit at a command its sum there, and else that of all commands.
unfoldable pub cost_told : ℕ → List ListCommand → ℕ
cost_told spent [] = spent
cost_told spent (c ∷ cs) = if nat_lt most_cost (spent + cost_of c) then spent + cost_of c else cost_told (spent + cost_of c) cs

-- what is met in some streams, one after the other
abbrev pub met_in : List (List ListCommand) → List ListCommand
met_in streams = flat_map met streams

-- the stream that a stream means
abbrev pub expanded : List ListCommand → List Command
expanded stream = plain_commands (met stream)

-- how many commands all streams mean
abbrev pub expanded_count : List (List ListCommand) → ℕ
expanded_count streams = sum_by (λ stream. length (expanded stream)) streams

-- the places of a stream are numbers of 32 bits
abbrev pub IsShort : List ListCommand → Type 0
IsShort stream = length stream < 2 ^ 32

-- These are the expansions of some streams.
pub record AreExpanded (streams : List (List ListCommand)) (x : Expansions) : Type 0 where
  pub streams_are : x.streams ≡ map (λ stream. stored (expanded stream)) streams
  pub faults_are : x.faults ≡ map list_faults streams
  pub counted : x.count ≡ expanded_count streams
  pub paid : x.spent ≡ costs (met_in streams)

-- The expansions of some streams, and of one more.
use Rattle.std.specs.Prelude.{◌≡◌, ◌+◌, ◌≤◌, List, [], ◌∷◌, ◌++◌, ℕ, length, take}
use Rattle.rc_base.specs.declared.list_command.ListCommand.{ListCommand}
use Rattle.call_lists.specs.declared.streams.Expansions.{Expansions}
use Rattle.call_lists.specs.Expansion.{costs, met, stored, list_faults}
use Rattle.call_lists.specs.Scenes.{expanded, AreExpanded}

-- one stream more was expanded
pub record HasExpanded (old new : Expansions) (stream : List ListCommand) : Type 0 where
  pub streams_are : new.streams ≡ old.streams ++ stored (expanded stream) ∷ []
  pub faults_are : new.faults ≡ old.faults ++ list_faults stream ∷ []
  pub counted : new.count ≡ old.count + length (expanded stream)
  pub paid : new.spent ≡ old.spent + costs (met stream)
  pub within : new.spent ≤ 67108864
  pub few : new.count ≤ new.spent

-- so many of some streams were expanded
pub record HasCome (streams : List (List ListCommand)) (count : ℕ) (x : Expansions) : Type 0 where
  pub are : AreExpanded (take count streams) x
  pub within : x.spent ≤ 67108864
  pub few : x.count ≤ x.spent

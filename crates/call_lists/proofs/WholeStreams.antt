-- Expansions that are stored whole.
use Rattle.std.proofs.Common.{◌≡◌, ◌≤◌, List, [], ◌∷◌, length, map, refl, ◌∙◌, arith}
use Rattle.std.proofs.lemmas.List.Sums.{sum_by-cons}
use Rattle.rc_base.specs.declared.list_command.ListCommand.{ListCommand}
use Rattle.call_lists.specs.declared.streams.Expansions.{Expansions}
use Rattle.call_lists.specs.Expansion.{stored}
use Rattle.call_lists.specs.Scenes.{expanded, expanded_count, AreExpanded}
use Rattle.call_lists.proofs.Stored.{stored_short}

pub one_whole : (stream : List ListCommand) → length (expanded stream) ≤ 1048577 → stored (expanded stream) ≡ expanded stream
one_whole stream few = stored_short (expanded stream) few

each_whole : (streams : List (List ListCommand)) → expanded_count streams ≤ 1048576 → map (λ stream. stored (expanded stream)) streams ≡ map expanded streams
each_whole [] few = refl
each_whole (s ∷ ss) few =
    let sum = sum_by-cons (λ (stream : List ListCommand). length (expanded stream)) s ss in
    λ i. one_whole s (omega (arith, few, sum)) i ∷ each_whole ss (omega (arith, few, sum)) i

pub all_whole : (streams : List (List ListCommand)) (x : Expansions) → AreExpanded streams x → x.count ≤ 1048576 → x.streams ≡ map expanded streams
all_whole streams x are few = are.streams_are ∙ each_whole streams (omega (arith, few, are.counted))

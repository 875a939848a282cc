use Rattle.std.proofs.lemmas.List.{get_or-replicate}
use Rattle.worker_crew.proofs.owed.Owed.new.Goals as goal

pub invariant_of-result : goal.invariant_of-result
invariant_of-result c = record { none = λ _ place low. get_or-replicate 64 place 0 0 low }

use Rattle.std.proofs.Common.{length}
use Rattle.scene_text.proofs.RestCounted.{Counted}
use Rattle.scene_text.proofs.tally.count_rest.Given as goal

abbrev pub invariant-loop-rest : goal.invariant-loop-rest
invariant-loop-rest l = Counted l.text l.before l.line l.rest (record { clients = l.clients; commands = l.commands })

abbrev pub decreases-loop-rest : goal.decreases-loop-rest
decreases-loop-rest l = length l.rest

use Rattle.std.proofs.Common.{◌≡◌}
use Rattle.std.specs.Prelude.{map}
use Rattle.std.specs.List.{range_with_len}
use Rattle.stream_replay.specs.Clients.{client_after}
use Rattle.stream_replay.proofs.client.clients_of.Given as goal

abbrev pub invariant-loop : goal.invariant-loop
invariant-loop g l = l.clients.items ≡ map (λ client. client_after (g.S.SceneStore.scene l.scene) client 0) (range_with_len 0 l.counter)

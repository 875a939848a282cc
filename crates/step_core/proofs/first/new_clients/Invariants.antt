use Rattle.std.proofs.Common.{◌≡◌, ℕ, ◌<◌, length}
use Rattle.std.specs.Prelude.{slice_index_or}
use Rattle.client_issue.specs.declared.client.ClientCore.{ClientCore}
use Rattle.step_core.specs.Runnable.{new_client}
use Rattle.step_core.specs.Worlds.{IsClientOf}
use Rattle.step_core.proofs.first.new_clients.Given as goal

abbrev pub invariant-loop-client : goal.invariant-loop-client
invariant-loop-client l = record {
  count : length l.cores.items ≡ l.client;
  at : (i : ℕ) (d : ClientCore) → i < l.client → IsClientOf l.scene l.layout i (new_client l.scene l.layout i) (slice_index_or l.cores.items i d);
}

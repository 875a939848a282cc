use Rattle.std.proofs.Common.{◌≡◌, length}
use Rattle.rc_base.specs.Cluster.Tiles.{tile_count}
use Rattle.client_issue.specs.Cores.{layout_of}
use Rattle.cluster_tests.proofs.packed.Sent.go.Given as goal

abbrev pub invariant-loop : goal.invariant-loop
invariant-loop l = length l.self.tiles.items ≡ tile_count (layout_of l.self.core)

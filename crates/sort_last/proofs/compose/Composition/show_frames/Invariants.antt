use Rattle.std.proofs.Common.{◌<◌, ◌≤◌, ◌-◌}
use Rattle.sort_last.specs.Composed.{IsUpTo}
use Rattle.sort_last.proofs.compose.Composition.show_frames.Given as goal

abbrev pub invariant-batches : goal.invariant-batches
invariant-batches g l = record {
  order : l.first ≤ l.end;
  some : l.first < l.all.end → l.first < l.end;
  most : l.end ≤ l.all.end;
  shown : IsUpTo l.all.scene.now l.first l.end l.self;
}

abbrev pub decreases-batches : goal.decreases-batches
decreases-batches g l = l.all.end - l.first

use Rattle.std.proofs.Common.{◌≡◌, ℕ, ◌<◌, ◌≤◌, true}
use Rattle.rc_base.specs.Contexts.Issue.{context_after}
use Rattle.stream_replay.specs.Runs.{is_gathered_at}
use Rattle.stream_replay.proofs.replay.gather_at.Given as goal

abbrev pub invariant-loop-place : goal.invariant-loop-place
invariant-loop-place g l =
    let s = g.S.SceneStore.scene l.scene in
    record {
      context : l.context ≡ context_after s l.client l.place;
      gathered : (place : ℕ) → l.from ≤ place → place < l.place → is_gathered_at s l.client place ≡ true;
    }

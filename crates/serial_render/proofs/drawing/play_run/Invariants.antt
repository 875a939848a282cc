use Rattle.std.proofs.Common.{◌+◌, ◌-◌, ◌≤◌}
use Rattle.std.specs.Prelude.{max}
use Rattle.serial_render.specs.Played.{HasPlayed, names_below}
use Rattle.serial_render.specs.Runs.{names_of_runs, run_at}
use Rattle.serial_render.proofs.drawing.play_run.Given as goal

abbrev pub invariant-loop-place : goal.invariant-loop-place
invariant-loop-place g l =
    let r = run_at l.runs l.index in
    record {
      low : r.first ≤ l.place;
      most : l.place ≤ max r.first (r.last + 1);
      played : HasPlayed (g.S.SceneStore.scene l.scene) (names_of_runs l.runs) (names_below l.runs l.index l.place) l.stage;
    }

abbrev pub decreases-loop-place : goal.decreases-loop-place
decreases-loop-place g l = (run_at l.runs l.index).last + 1 - l.place

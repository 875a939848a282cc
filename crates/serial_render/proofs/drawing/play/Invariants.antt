use Rattle.std.proofs.Common.{take}
use Rattle.serial_render.specs.Played.{HasPlayed}
use Rattle.serial_render.specs.Runs.{names_of_runs}
use Rattle.serial_render.proofs.drawing.play.Given as goal

abbrev pub invariant-loop-index : goal.invariant-loop-index
invariant-loop-index g l = record { played : HasPlayed (g.S.SceneStore.scene l.scene) (names_of_runs l.runs) (names_of_runs (take l.index l.runs)) l.stage }

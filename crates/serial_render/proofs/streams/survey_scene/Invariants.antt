use Rattle.serial_render.specs.Surveyed.{AreSurveyed}
use Rattle.serial_render.proofs.streams.survey_scene.Given as goal

abbrev pub invariant-loop-client : goal.invariant-loop-client
invariant-loop-client g l = record { surveyed : AreSurveyed (g.S.SceneStore.scene l.scene) l.client l.rows l.faults }

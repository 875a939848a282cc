use Rattle.std.proofs.Common.{◌≡◌}
use Rattle.serial_render.specs.Surveyed.{survey_after}
use Rattle.serial_render.proofs.streams.survey_client.Given as goal

abbrev pub invariant-loop-place : goal.invariant-loop-place
invariant-loop-place g l = record { survey : l.survey ≡ survey_after (g.S.SceneStore.scene l.scene) l.client l.place }

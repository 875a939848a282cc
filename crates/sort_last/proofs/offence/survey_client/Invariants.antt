use Rattle.std.proofs.Common.{◌≡◌}
use Rattle.serial_render.specs.Surveyed.{survey_after}
use Rattle.sort_last.specs.Offends.{has_drawn}
use Rattle.sort_last.specs.Runs.{IsFirstBelow}
use Rattle.sort_last.proofs.offence.survey_client.Given as goal

abbrev pub invariant-loop-place : goal.invariant-loop-place
invariant-loop-place l = record {
  survey : l.survey ≡ survey_after l.scene l.client l.place;
  drawn : l.drawn ≡ has_drawn l.scene l.client l.place;
  first : IsFirstBelow l.scene l.client l.place l.first;
}

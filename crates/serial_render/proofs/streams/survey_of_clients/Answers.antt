use Rattle.std.proofs.Common.{◌∙◌, ap, sym, subst}
use Rattle.rc_base.specs.declared.scene.Decl.{Decl}
use Rattle.serial_render.specs.Turns.{CanTakeTurns}
use Rattle.serial_render.proofs.ScenesTakeTurns.{takes_turns}
use Rattle.serial_render.proofs.SurveyedStreams.{lists_are, faults_are, faults_count}
use Rattle.serial_render.proofs.streams.survey_of_clients.Goals as goal

pub returns-clause-syncs : goal.returns-clause-syncs
returns-clause-syncs g c =
    lists_are (g.S.SceneStore.scene c.args.scene.now) c.args.rows c.in_ok-from_slice.field-0 c.in_ok-from_slice-2.field-0 c.requires.surveyed.rows_are
    (c.in_ok-from_slice.ensures ∙ c.as_slice.ensures ∙ ap (λ (d : Decl). d.barriers) c.decl.ensures) (c.in_ok-from_slice-2.ensures ∙ c.as_slice-2.ensures ∙ ap (λ (d : Decl). d.semaphores) c.decl-2.ensures)

pub returns-clause-clients : goal.returns-clause-clients
returns-clause-clients g c = faults_count (g.S.SceneStore.scene c.args.scene.now) c.args.faults c.requires.surveyed.faults_are

pub returns-clause-faults : goal.returns-clause-faults
returns-clause-faults g c = faults_are (g.S.SceneStore.scene c.args.scene.now) c.args.faults c.requires.surveyed.faults_are

pub returns-clause-turns : goal.returns-clause-turns
returns-clause-turns g c = subst CanTakeTurns (sym (returns-clause-syncs g c)) (takes_turns (g.S.SceneStore.scene c.args.scene.now) c.requires.within)

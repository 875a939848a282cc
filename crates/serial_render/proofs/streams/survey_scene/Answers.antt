use Rattle.std.proofs.Common.{◌≡◌, ℕ, length, arith, subst}
use Rattle.serial_render.specs.Surveyed.{AreSurveyed}
use Rattle.serial_render.proofs.SurveyedStreams.{one_more_surveyed}
use Rattle.serial_render.proofs.streams.survey_scene.Goals as goal

pub loop-client-init : goal.loop-client-init
loop-client-init g c = record { surveyed = record { rows_are = c.new-rows.ensures; faults_are = c.new-faults.ensures } }

pub loop-client-preserved : goal.loop-client-preserved
loop-client-preserved g c = record {
  surveyed = one_more_surveyed (g.S.SceneStore.scene c.args.scene.now) c.loop-client.client c.loop-client.rows _ c.loop-client.faults _ c.in_ok-row.row c.in_ok-row.refused
      c.loop-client.invariant.surveyed c.in_ok-push.ensures.items c.in_ok-push-2.ensures.items c.in_ok-row.ensures.row c.in_ok-row.ensures.faults;
}

pub survey_of_clients-requires-clause-surveyed : goal.survey_of_clients-requires-clause-surveyed
survey_of_clients-requires-clause-surveyed g c =
    let all : c.loop-client.client ≡ length (g.S.SceneStore.scene c.args.scene.now).streams = omega (arith, c.loop-client-test.false, c.loop-client.auto.client-end, c.client_count-client-end.ensures) in
    subst (λ (n : ℕ). AreSurveyed (g.S.SceneStore.scene c.args.scene.now) n c.loop-client.rows c.loop-client.faults) all c.loop-client.invariant.surveyed

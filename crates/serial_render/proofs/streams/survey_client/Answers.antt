use Rattle.std.proofs.Common.{◌≡◌, length, ap, arith, ◌∙◌}
use Rattle.rc_base.specs.Contexts.Issue.{stream_of}
use Rattle.serial_render.specs.Surveyed.{survey_after}
use Rattle.serial_render.proofs.streams.survey_client.Goals as goal

pub finish-requires-clause-whole : goal.finish-requires-clause-whole
finish-requires-clause-whole g c =
    let s = g.S.SceneStore.scene c.args.scene.now in
    let all : c.loop-place.place ≡ length (stream_of s c.args.client) = omega (arith, c.loop-place-test.false, c.loop-place.auto.place-end, c.stream_length-place-end.ensures) in
    c.loop-place.invariant.survey ∙ ap (survey_after s c.args.client) all

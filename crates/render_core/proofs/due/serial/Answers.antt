use Rattle.std.proofs.Common.{refl, sym, subst, rules}
use Rattle.rc_base.specs.Drawing.Serial.{frame_pixel}
use Rattle.rc_base.specs.declared.window.Layout.{Layout}
use Rattle.frame_out.specs.Writing.{AreWritable}
use Rattle.render_core.specs.Due.{work_on}
use Rattle.render_core.proofs.Dues.{serial_due}
use Rattle.render_core.proofs.due.serial.Goals as goal

pub report_of-requires : goal.report_of-requires
report_of-requires g c = c.in_ok-run.ensures.default.few

pub render_runs-requires-clause-within : goal.render_runs-requires-clause-within
render_runs-requires-clause-within g c = record { limits = c.requires.within; commands = c.requires.well.1; sizes = c.requires.well.0.shared }

pub render_runs-requires-clause-legal : goal.render_runs-requires-clause-legal
render_runs-requires-clause-legal g c = c.in_ok-run.ensures.default.maximal.0

pub returns : goal.returns
returns g c = record {
  outcome =
      let scene = (g.S.SceneStore.scene c.args.scene.now) in
      let is = c.in_ok-run.ensures.default in
      serial_due (work_on scene c.args.refused.now c.args.counted.now) c.in_ok-run.run' is c.ending_of.result c.ending_of.ensures c.in_ok-notes.notes
      (c.in_ok-notes.ensures scene is) c.in_ok-frames.frames c.in_ok-frames.ensures;
  writable =
      let scene = (g.S.SceneStore.scene c.args.scene.now) in
      let run = c.in_ok-run.run' in
      let window : Layout = record { width = scene.decl.width; height = scene.decl.height; columns = 1; rows = 1 } in
      subst AreWritable (sym c.in_ok-frames.ensures)
      (c.frames_of_scenes_are_writable.ensures scene window run.journal (frame_pixel scene run.order) c.requires.within (record { width = refl; height = refl }) c.in_ok-run.ensures.default.maximal.0);
  refused = search rules;
}

use Rattle.std.proofs.Common.{length, refl, sym, ap, subst, arith}
use Rattle.rc_base.specs.Drawing.Serial.{frame_pixel}
use Rattle.rc_base.specs.declared.window.Layout.{Layout}
use Rattle.rc_base.proofs.WithinLimits.{clients_within, counts_some}
use Rattle.frame_out.specs.Writing.{AreWritable}
use Rattle.render_core.specs.Due.{work_on}
use Rattle.render_core.proofs.Dues.{last_due, lawful}
use Rattle.render_core.proofs.due.last.Goals as goal

pub survey_last-requires-after_bounds : goal.survey_last-requires-after_bounds
survey_last-requires-after_bounds g c κs within = record { limits = c.requires.within; commands = c.requires.well.1; sizes = c.requires.well.0.shared }

pub render_judged-requires-clause-within : goal.render_judged-requires-clause-within
render_judged-requires-clause-within g c κs within = record { limits = c.requires.within; commands = c.requires.well.1; sizes = c.requires.well.0.shared }

pub short_report-requires : goal.short_report-requires
short_report-requires g c =
    let clients = clients_within c.args.scene.now c.requires.within in
    let count = c.in_ok-syncs.ensures.clients in
    let shown = ap length c.as_slice.ensures in
    omega (arith, clients, count, shown)

pub returns-clause-outcome : goal.returns-clause-outcome
returns-clause-outcome g c =
    let surveyed = c.in_ok-syncs.ensures in
    let run = c.in-Ok.run' in
    let is = c.in-Ok.ensures in
    last_due c.args.scene.now c.in_ok-syncs.field-0.survey.syncs surveyed.syncs run.journal run.waiting is.journal is.waiting is.at c.in_ok-syncs.field-0.survey.faults
    surveyed.clients surveyed.faults (work_on c.args.scene.now c.args.refused.now c.args.counted.now) refl run.frames (is.frames) c.in_ok-notes.notes (cc (c.in_ok-notes.ensures, c.as_slice.ensures, c.as_slice-2.ensures)) c.ending_of-ending.result
    c.ending_of-ending.ensures

pub returns-clause-writable : goal.returns-clause-writable
returns-clause-writable g c =
    let scene = c.args.scene.now in
    let surveyed = c.in_ok-syncs.ensures in
    let run = c.in-Ok.run' in
    let is = c.in-Ok.ensures in
    let clients = clients_within scene c.requires.within in
    let window : Layout = record { width = scene.decl.width; height = scene.decl.height; columns = 1; rows = 1 } in
    subst AreWritable (sym is.frames)
    (c.frames_of_scenes_are_writable.ensures scene window run.journal (frame_pixel scene _) c.requires.within (record { width = refl; height = refl })
    (lawful scene c.in_ok-syncs.field-0.survey.syncs surveyed.syncs run.journal run.waiting is.journal is.waiting is.at
    (c.scene_lists_are_well_formed.ensures scene clients.0 (counts_some scene c.requires.within)) c.default_journal_is_maximal.ensures))

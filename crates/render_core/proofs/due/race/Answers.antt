use Rattle.std.proofs.Common.{None, ℕ, List, sym, ap, ◌∙◌, subst, rules}
use Rattle.rc_base.specs.Orders.Footprints.{footprint_of}
use Rattle.rc_base.specs.Orders.Journal.{IsMaximal}
use Rattle.rc_base.specs.Orders.Order.{IsPermitted}
use Rattle.rc_base.specs.declared.sync.Name.{Name}
use Rattle.rc_base.specs.declared.sync.SyncLists.{SyncLists}
use Rattle.race_check.specs.Races.{IsVerdict}
use Rattle.run_words.specs.declared.job.Job.TheVariants.{Race}
use Rattle.render_core.specs.Due.{IsOutcome, journal_of, short_due, work_on}
use Rattle.render_core.proofs.Dues.{race_due}
use Rattle.render_core.proofs.due.race.Goals as goal

pub report_of-requires : goal.report_of-requires
report_of-requires g c = c.in_ok-run.ensures.default.few

pub check_scene_races-requires-clause-within : goal.check_scene_races-requires-clause-within
check_scene_races-requires-clause-within g c = record { limits = c.requires.within; commands = c.requires.well.1; sizes = c.requires.well.0.shared }

pub check_scene_races-requires-clause-maximal : goal.check_scene_races-requires-clause-maximal
check_scene_races-requires-clause-maximal g c =
    let is = c.in_ok-run.ensures.default in subst (λ (s : SyncLists). IsMaximal s c.in_ok-run.run'.journal) (sym is.syncs) is.maximal

pub check_scene_races-requires-clause-permitted : goal.check_scene_races-requires-clause-permitted
check_scene_races-requires-clause-permitted g c =
    let run = c.in_ok-run.run' in
    let is = c.in_ok-run.ensures.default in
    subst (λ (o : List Name). IsPermitted run.syncs run.journal o) (sym c.in_ok-order.ensures)
    (subst (λ (s : SyncLists). IsPermitted s run.journal run.order) (sym is.syncs) is.permitted)

pub returns-clause-due : goal.returns-clause-due
returns-clause-due g c = record {
  outcome =
      let scene = (g.S.SceneStore.scene c.args.scene.now) in
      let work = work_on scene c.args.refused.now c.args.counted.now in
      let run = c.in_ok-run.run' in
      let is = c.in_ok-run.ensures.default in
      let v = c.in_ok-verdict.verdict in
      let notes = c.in_ok-notes.notes in
      let ending = c.race_ending.result in
      let told = c.as_bytes.ensures.value ∙ c.in_ok-line.ensures in
      let lines = c.in_ok-notes.ensures scene is ∙ ap (λ (l : List ℕ). short_due work l (journal_of scene)) told in
      let found = subst (λ (s : SyncLists). IsVerdict s run.journal run.order (footprint_of scene) v) is.syncs
      (subst (λ (o : List Name). IsVerdict run.syncs run.journal o (footprint_of scene) v) c.in_ok-order.ensures c.in_ok-verdict.ensures.verdict) in
      subst (λ (l : List ℕ). IsOutcome Race work (record { image = l; notes = notes; ending = ending; kept = None })) (sym c.new.ensures)
      (race_due work run is v found notes lines ending c.race_ending.ensures);
  writable = search rules;
  refused = search rules;
}

-- What is due for a scene is one thing.
use Rattle.std.proofs.Common.{◌≡◌, ℕ, false, true, List, None, sym, ap, ◌∙◌}
use Rattle.rc_base.specs.Formats.Limits.{limit_of}
use Rattle.rc_base.specs.Orders.Footprints.{footprint_of}
use Rattle.rc_base.specs.Orders.Order.{default_order}
use Rattle.rc_base.specs.Orders.Sync.{sync_lists_of}
use Rattle.order_model.specs.Laws.{DefaultJournalIsMaximal, DefaultOrdersArePermitted, SceneListsAreWellFormed}
use Rattle.race_check.specs.Laws.{EachOrderHasOneVerdict}
use Rattle.tile_model.specs.Laws.{LimitsGiveSides}
use Rattle.tile_model.specs.Scenes.{IsInRange, HasSides}
use Rattle.world_model.specs.Laws.{FinishedRunsLeaveOneRecord}
use Rattle.run_words.specs.declared.job.Cluster.{Cluster}
use Rattle.run_words.specs.declared.job.Job.{Job}
use Rattle.run_words.specs.declared.job.Job.TheVariants.{Render, Simulate, Serial, Last, Check, Race, Demo}
use Rattle.render_core.specs.Due.{Outcome, IsStepped, IsOutcome, IsRaced, journal_of, raced, seeded_picks}
use Rattle.run_words.specs.declared.work.Work.{Work}
use Rattle.run_words.specs.Jobs.{has_threads, origin_of}
use Rattle.run_words.specs.Asked.{layout_for, IsWell}
use Rattle.rc_base.proofs.WithinLimits.{clients_within, counts_some}
use Rattle.render_core.proofs.Recorded.{is_by_record, outcome_by}

same_due : (o other x : Outcome) → o ≡ x → other ≡ x → other ≡ o
same_due o other x e f = f ∙ sym e

module _ (cluster : Cluster) (work : Work) where
  one_cluster : (picks : List ℕ) → FinishedRunsLeaveOneRecord → IsInRange work.scene → HasSides work.scene.decl → (o other : Outcome) → IsStepped cluster picks work o
      → IsStepped cluster picks work other → other ≡ o
  one_cluster picks law ranged sides o other a b =
      let same : b.recorded.record_kept ≡ a.recorded.record_kept =
      law work.scene (layout_for cluster work.scene) cluster.depth a.stepped.rounds b.stepped.rounds picks a.stepped.moves b.stepped.moves a.stepped.world b.stepped.world
      a.recorded.record_kept b.recorded.record_kept ranged sides a.stepped.finished b.stepped.finished a.stepped.record_of b.stepped.record_of in
      is_by_record cluster work other b.recorded ∙ ap (outcome_by cluster work) same ∙ sym (is_by_record cluster work o a.recorded)

-- the default order of a scene within the limits is permitted, so it has one verdict
module _ (verdicts : EachOrderHasOneVerdict) (formed : SceneListsAreWellFormed) (maximal : DefaultJournalIsMaximal) (permits : DefaultOrdersArePermitted) where
  pub one_raced : (work : Work) → limit_of work.scene ≡ None → (o other : Outcome) → IsRaced work o → IsRaced work other → other ≡ o
  one_raced work within o other a b =
      let scene = work.scene in
      let syncs = sync_lists_of scene in
      let well = formed scene (clients_within scene within).0 (counts_some scene within) in
      let permitted = permits syncs (journal_of scene) well (maximal syncs well).0 in
      let same : b.told ≡ a.told = verdicts syncs (journal_of scene) (footprint_of scene) (default_order syncs (journal_of scene)) permitted b.told a.told b.is a.is in
      b.due ∙ ap (raced work) same ∙ sym a.due

pub one_outcome : FinishedRunsLeaveOneRecord → LimitsGiveSides → ((work : Work) → limit_of work.scene ≡ None → (o other : Outcome) → IsRaced work o → IsRaced work other → other ≡ o)
    → (job : Job) (work : Work) (o other : Outcome) → has_threads job ≡ false
    → IsWell (origin_of job) work.scene → limit_of work.scene ≡ None → IsOutcome job work o → IsOutcome job work other → other ≡ o
unfolding IsOutcome
one_outcome law give one (Render cluster) work o other alone well within h k = let same : true ≡ false = alone in absurd cc
one_outcome law give one (Simulate seed cluster) work o other alone well within h k =
    one_cluster cluster work (seeded_picks seed cluster work.scene) law well.1 (give work.scene well.0 within) o other h k
one_outcome law give one Serial work o other alone well within h k = same_due o other _ h k
one_outcome law give one Last work o other alone well within h k = same_due o other _ h k
one_outcome law give one Check work o other alone well within h k = same_due o other _ h k
one_outcome law give one Race work o other alone well within h k = one work within o other h k
one_outcome law give one (Demo seed size cluster) work o other alone well within h k = let same : true ≡ false = alone in absurd cc
one_outcome law give one job work o other alone well within h k = same_due o other _ h.0 k.0

use Rattle.std.proofs.Common.{◌≡◌, ◌⊎◌, ℕ, Bool, true, Option, inl, inr, ap, ◌∙◌}
use Rattle.std.specs.Prelude.{if◌then◌else◌}
use Rattle.rc_base.specs.Orders.Sync.{sync_lists_of}
use Rattle.rc_base.specs.Outside.Ends.{Used}
use Rattle.order_model.specs.Report.{is_stuck}
use Rattle.order_model.specs.declared.record.Record.{Record}
use Rattle.run_words.specs.Statuses.{ending_status}
use Rattle.run_words.specs.declared.job.Job.TheVariants.{Check}
use Rattle.run_words.specs.declared.told.Ending.TheVariants.{Complete, Stuck}
use Rattle.run_words.specs.declared.work.Work.{Work}
use Rattle.render_core.specs.Due.{default_ending, journal_of, judged_in_order, IsOutcome, Outcome}
use Rattle.render_core.specs.Outcomes.{IsJobDone}
use Rattle.uses.proofs.jobs.told_stuck.Goals as goal

tells : (work : Work) (image notes : Used) (status : ℕ) (kept : Option Record) → IsJobDone Check work image notes status kept
    → is_stuck (sync_lists_of work.scene) (journal_of work.scene) ≡ true → status ≡ 5
unfolding IsOutcome default_ending
tells work image notes status kept done stuck =
    let due : done.o ≡ judged_in_order work = done.due in
    done.status_is ∙ ap (λ (o : Outcome). ending_status o.ending) due ∙ ap (λ (b : Bool). ending_status (if b then Stuck else Complete)) stuck

or_lacks : (work : Work) (image notes : Used) (status : ℕ) (kept : Option Record) → (status ≡ 7) ⊎ IsJobDone Check work image notes status kept
    → is_stuck (sync_lists_of work.scene) (journal_of work.scene) ≡ true → (status ≡ 7) ⊎ (status ≡ 5)
or_lacks work image notes status kept (inl lacks) stuck = inl lacks
or_lacks work image notes status kept (inr done) stuck = inr (tells work image notes status kept done stuck)

pub returns : goal.returns
returns g c work free stuck =
    or_lacks work _ _ _ _ (c.run_alone.ensures.completes _ free.input work free.asked free.holds free.is_input free.image_stays free.notes_stay) stuck

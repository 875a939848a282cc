use Rattle.std.proofs.Common.{◌≡◌, ◌⊎◌, ℕ, Option, inl, inr, ◌∙◌}
use Rattle.rc_base.specs.Outside.Ends.{Used}
use Rattle.order_model.specs.declared.record.Record.{Record}
use Rattle.run_words.specs.declared.job.Cluster.{Cluster}
use Rattle.run_words.specs.declared.job.Job.TheVariants.{Simulate}
use Rattle.run_words.specs.declared.work.Work.{Work}
use Rattle.render_core.specs.Due.{seeded_picks, IsOutcome, IsStepped}
use Rattle.render_core.specs.Outcomes.{IsJobDone}
use Rattle.uses.specs.Jobs.{FollowsSeed}
use Rattle.uses.proofs.jobs.seeded.Goals as goal

follows : (seed : ℕ) (cluster : Cluster) (work : Work) (image notes : Used) (status : ℕ) (kept : Option Record) → IsJobDone (Simulate seed cluster) work image notes status kept
    → FollowsSeed seed cluster work.scene kept
unfolding IsOutcome
follows seed cluster work image notes status kept done =
    let due : IsStepped cluster (seeded_picks seed cluster work.scene) work done.o = done.due in
    record { told = due.recorded.record_kept; kept_is = done.kept_is ∙ due.recorded.kept; stepped = due.stepped }

or_lacks : (seed : ℕ) (cluster : Cluster) (work : Work) (image notes : Used) (status : ℕ) (kept : Option Record)
    → (status ≡ 7) ⊎ IsJobDone (Simulate seed cluster) work image notes status kept → (status ≡ 7) ⊎ FollowsSeed seed cluster work.scene kept
or_lacks seed cluster work image notes status kept (inl lacks) = inl lacks
or_lacks seed cluster work image notes status kept (inr done) = inr (follows seed cluster work image notes status kept done)

pub returns : goal.returns
returns g c seed cluster work free =
    or_lacks seed cluster work _ _ _ _ (c.run_alone.ensures.completes _ free.input work free.asked free.holds free.is_input free.image_stays free.notes_stay)

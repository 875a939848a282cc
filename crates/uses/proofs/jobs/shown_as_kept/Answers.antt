use Rattle.std.proofs.Common.{◌≡◌, ℕ, Option, Some, None, inl}
use Rattle.std.specs.Prelude.{IfSome}
use Rattle.rc_base.specs.Outside.Ends.{Used}
use Rattle.order_model.specs.declared.record.Record.{Record}
use Rattle.run_words.specs.Jobs.{Task}
use Rattle.render_core.specs.Outcomes.{IsHeadline}
use Rattle.uses.specs.Jobs.{ShowsItself}
use Rattle.uses.proofs.jobs.shown_as_kept.Goals as goal

shows : (kept : Option Record) (asks : Task → Type 0) (source image : Used) (status : ℕ) → IfSome kept (IsHeadline asks source image status) → status ≡ 0
    → IfSome kept (ShowsItself asks source image)
shows (Some r) asks source image status h done = record {
  task = h.task;
  asked = h.named;
  cluster = h.cluster;
  clustered = h.clustered;
  work = h.work;
  has = h.has;
  given = h.whole (inl done);
}
shows None asks source image status h done = tt

pub returns : goal.returns
returns g c done = shows c.run_alone.result.kept _ _ _ _ c.run_alone.ensures.headline done

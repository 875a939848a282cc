-- The orders of a kept record are permitted.
use Rattle.std.proofs.Common.{◌≡◌, None, refl, sym, ap, ◌∙◌, subst, arith}
use Rattle.std.specs.Prelude.{IfSome}
use Rattle.std.specs.declared.option.Option.{Option}
use Rattle.rc_base.specs.Orders.Order.{IsPermitted}
use Rattle.run_words.specs.declared.work.Work.{Work}
use Rattle.rc_base.specs.declared.sync.SyncLists.{SyncLists}
use Rattle.order_model.specs.Report.{tile_order}
use Rattle.order_model.specs.declared.record.Record.{Record}
use Rattle.run_words.specs.declared.job.Cluster.{Cluster}
use Rattle.run_words.specs.declared.job.Job.TheVariants.{Render, Simulate, Serial, Last, Check, Race, Demo}
use Rattle.render_core.specs.Due.{Outcome, IsRecorded, IsOutcome}
use Rattle.render_core.specs.Laws.{KeptOrdersArePermitted}
use Rattle.render_core.specs.Outcomes.{KeepsOrders}

keeps_none : (o x : Outcome) → x.kept ≡ None → o ≡ x → IfSome o.kept KeepsOrders
keeps_none o x none e = subst (λ (k : Option Record). IfSome k KeepsOrders) (sym (ap (λ (a : Outcome). a.kept) e ∙ none)) tt

module _ (cluster : Cluster) (work : Work) (o : Outcome) (is : IsRecorded cluster work o) where
  -- over the record's own lists, which are the scene's
  pub keeps_orders : KeepsOrders is.record_kept
  keeps_orders tile below =
      let count = is.lawful.count in
      subst (λ (s : SyncLists). IsPermitted s is.record_kept.journal (tile_order is.record_kept tile)) (sym is.lawful.lists)
      (is.permitted tile (omega (arith, count, below)))

  keeps_some : IfSome o.kept KeepsOrders
  keeps_some = subst (λ (k : Option Record). IfSome k KeepsOrders) (sym is.kept) keeps_orders

pub kept_orders : KeptOrdersArePermitted
unfolding IsOutcome
kept_orders (Render cluster) work o h = keeps_some cluster work o h
kept_orders (Simulate seed cluster) work o h = keeps_some cluster work o h.recorded
kept_orders Serial work o h = keeps_none o _ refl h
kept_orders Last work o h = keeps_none o _ refl h
kept_orders Check work o h = keeps_none o _ refl h
kept_orders Race work o h = keeps_none o _ refl h.due
kept_orders (Demo seed size cluster) work o h = keeps_some cluster work o h
kept_orders job work o h = keeps_none o _ refl h.0

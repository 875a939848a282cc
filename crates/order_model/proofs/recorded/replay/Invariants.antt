use Rattle.std.proofs.Common.{◌≡◌, [], drop}
use Rattle.rc_base.specs.Orders.Journal.{start}
use Rattle.order_model.specs.Counted.{IsOrderMade, logged_behind}
use Rattle.order_model.specs.Log.{logged}
use Rattle.order_model.proofs.recorded.replay.Given as goal

abbrev pub invariant-loop-line : goal.invariant-loop-line
invariant-loop-line l = record {
  counted : IsOrderMade l.syncs l.journal l.recording.read l.recording.used l.recording.counts l.recording.order;
  order : logged_behind l.syncs l.journal l.recording.read (drop l.line-index l.log) l.recording.order ≡ logged l.syncs (start l.syncs) l.journal l.log [];
}

use Rattle.std.proofs.Common.{◌++◌, [], ◌∷◌, sym, subst}
use Rattle.std.specs.Vec.Iter.{into_iter_items}
use Rattle.run_record.specs.Frames.{IsQueueOf}
use Rattle.rc_base.specs.Lists.{ArePaired}
use Rattle.rc_base.proofs.Paired.{paired_more, goes_on}
use Rattle.run_record.proofs.frames.queues_of.Goals as goal

pub loop-list-preserved : goal.loop-list-preserved
loop-list-preserved c = record {
  whole = goes_on c.args.lists.items c.loop-list.yielded (into_iter_items c.loop-list.list-iterator) (into_iter_items c.next.new.self) c.in-Some.list
      c.loop-list.invariant.whole c.in-Some.ensures.steps.0;
  paired = subst (λ ys. ArePaired IsQueueOf (c.loop-list.yielded ++ c.in-Some.list ∷ []) ys) (sym c.in_ok-push.ensures.items)
      (paired_more IsQueueOf c.loop-list.yielded c.loop-list.queues.items c.in-Some.list c.from.result c.loop-list.invariant.paired c.from.ensures.0);
}

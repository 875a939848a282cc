use Rattle.std.specs.Vec.Iter.{into_iter_items}
use Rattle.run_record.proofs.KeptMore.{kept_more}
use Rattle.rc_base.proofs.Paired.{goes_on}
use Rattle.run_record.proofs.kept.kept_lists.Goals as goal

pub loop-client-preserved : goal.loop-client-preserved
loop-client-preserved c = record {
  whole = goes_on c.args.clients.items c.loop-client.yielded (into_iter_items c.loop-client.client-iterator) (into_iter_items c.next.new.self) c.in-Some.client
      c.loop-client.invariant.whole c.in-Some.ensures.steps.0;
  kept = kept_more c.loop-client.yielded c.in-Some.client c.args.tiles c.loop-client.lists c.add.new.self c.into_kept.result c.into_kept.ensures
      c.in_ok-add.ensures c.loop-client.invariant.kept;
}

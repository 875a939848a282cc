use Rattle.std.proofs.Common.{◌++◌, [], ◌∷◌, sym, subst}
use Rattle.std.specs.Vec.Iter.{into_iter_items}
use Rattle.rc_base.specs.Lists.{ArePaired}
use Rattle.run_record.specs.Gathering.{IsLogOf}
use Rattle.rc_base.proofs.Paired.{paired_more, goes_on}
use Rattle.run_record.proofs.kept.logs_of.Goals as goal

pub loop-tile-preserved : goal.loop-tile-preserved
loop-tile-preserved c = record {
  whole = goes_on c.args.tiles.items c.loop-tile.yielded (into_iter_items c.loop-tile.tile-iterator) (into_iter_items c.next.new.self) c.in-Some.tile
      c.loop-tile.invariant.whole c.in-Some.ensures.steps.0;
  paired = subst (λ ys. ArePaired IsLogOf (c.loop-tile.yielded ++ c.in-Some.tile ∷ []) ys) (sym c.in_ok-push.ensures.items)
      (paired_more IsLogOf c.loop-tile.yielded c.loop-tile.logs c.in-Some.tile c.into_log.result c.loop-tile.invariant.paired c.into_log.ensures);
}

use Rattle.std.proofs.Common.{List, sym, subst}
use Rattle.std.specs.Prelude.{slice_index_or}
use Rattle.std.specs.Vec.{with_items}
use Rattle.step_core.specs.Settling.{CanSettleIn, IsSettledIn}
use Rattle.step_core.specs.declared.port.Port.{Port}
use Rattle.step_core.proofs.Changes.{changed_at}
use Rattle.step_core.proofs.Lanes.{items_are}
use Rattle.step_core.proofs.settle.settle_to.Goals as goal

pub settle_in-requires : goal.settle_in-requires
settle_in-requires c = subst (λ (xs : List Port). CanSettleIn c.args.tile xs c.args.lane.now) (sym c.deref_mut.ensures.value) (c.requires.can c.index-ports-client.result)

pub returns : goal.returns
returns c =
    let tile = c.args.tile in
    let lane = c.args.lane.now in
    let row = slice_index_or c.args.ports.now c.args.client c.index-ports-client.result in
    let ports' = c.settle_in.new.ports in
    let first = subst (λ (xs : List Port). IsSettledIn tile xs ports' lane) c.deref_mut.ensures.value c.settle_in.ensures in
    record {
      line = row;
      line' = with_items row ports';
      changed = changed_at c.args.ports.now c.args.client c.index-ports-client.result (with_items row ports') c.requires.row_in;
      settled = subst (λ (xs : List Port). IsSettledIn tile row.items xs lane) (sym (items_are row ports' first.changed.count)) first;
    }

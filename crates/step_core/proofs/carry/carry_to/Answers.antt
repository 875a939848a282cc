use Rattle.std.proofs.Common.{◌<◌, List, length, sym, subst}
use Rattle.std.specs.Prelude.{slice_index_or}
use Rattle.std.specs.Vec.{with_items}
use Rattle.rc_base.specs.declared.plain_lane.PlainLane.{PlainLane}
use Rattle.rc_base.specs.declared.state.Parcel.{Parcel}
use Rattle.step_core.specs.Ports.{IsCarriedIn, IsPortOf}
use Rattle.step_core.specs.declared.port.Port.{Port}
use Rattle.step_core.proofs.Changes.{changed_at}
use Rattle.step_core.proofs.Lanes.{items_are}
use Rattle.step_core.proofs.carry.carry_to.Goals as goal

pub carry_between-requires-clause-port : goal.carry_between-requires-clause-port
carry_between-requires-clause-port c = subst (λ (xs : List Port). c.args.tile < length xs) (sym c.deref_mut.ensures.value)
    (c.requires.port_place.column_in c.index-ports-client.result)

pub carry_between-requires-clause-lane : goal.carry_between-requires-clause-lane
carry_between-requires-clause-lane c = subst (λ (xs : List (PlainLane Parcel)). c.args.client < length xs) (sym c.deref_mut-2.ensures.value)
    (c.requires.lane_place.column_in c.index-rows-tile.result)

pub carry_between-requires-clause-tells : goal.carry_between-requires-clause-tells
carry_between-requires-clause-tells c d e =
    subst (λ (xs : List Port). IsPortOf (slice_index_or xs c.args.tile d) (slice_index_or c.deref_mut-2.result.now c.args.client e)) (sym c.deref_mut.ensures.value)
    (subst (λ (ys : List (PlainLane Parcel)). IsPortOf (slice_index_or (slice_index_or c.args.ports.now c.args.client c.index-ports-client.result).items c.args.tile d)
    (slice_index_or ys c.args.client e)) (sym c.deref_mut-2.ensures.value)
    (c.requires.tells c.index-ports-client.result d c.index-rows-tile.result e))

pub returns : goal.returns
returns c =
    let client = c.args.client in
    let tile = c.args.tile in
    let row = slice_index_or c.args.ports.now client c.index-ports-client.result in
    let lanes = slice_index_or c.args.rows.now tile c.index-rows-tile.result in
    let ports' = c.carry_between.new.ports in
    let lanes' = c.carry_between.new.lanes in
    let first = subst (λ (ys : List (PlainLane Parcel)). IsCarriedIn client tile row.items ports' ys lanes') c.deref_mut-2.ensures.value
    (subst (λ (xs : List Port). IsCarriedIn client tile xs ports' c.deref_mut-2.result.now lanes') c.deref_mut.ensures.value c.carry_between.ensures) in
    let done = subst (λ (ys : List (PlainLane Parcel)). IsCarriedIn client tile row.items (with_items row ports').items lanes.items ys)
    (sym (items_are lanes lanes' first.lane_changed.count))
    (subst (λ (xs : List Port). IsCarriedIn client tile row.items xs lanes.items lanes') (sym (items_are row ports' first.port_changed.count)) first) in
    record {
      port = done.port;
      port' = done.port';
      lane = done.lane;
      lane' = done.lane';
      ports_changed = record {
        line = row;
        line' = with_items row ports';
        rows_changed = changed_at c.args.ports.now client c.index-ports-client.result (with_items row ports') c.requires.port_place.row_in;
        line_changed = done.port_changed;
      };
      rows_changed = record {
        line = lanes;
        line' = with_items lanes lanes';
        rows_changed = changed_at c.args.rows.now tile c.index-rows-tile.result (with_items lanes lanes') c.requires.lane_place.row_in;
        line_changed = done.lane_changed;
      };
      over = done.over;
    }

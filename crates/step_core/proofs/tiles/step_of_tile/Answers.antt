use Rattle.std.proofs.Common.{List, sym, subst}
use Rattle.std.specs.Prelude.{slice_index_or}
use Rattle.std.specs.Vec.{with_items}
use Rattle.rc_base.specs.declared.plain_lane.PlainLane.{PlainLane}
use Rattle.rc_base.specs.declared.state.Parcel.{Parcel}
use Rattle.step_core.specs.Changes.{IsTileCoreStep}
use Rattle.step_core.proofs.Changes.{changed_at}
use Rattle.step_core.proofs.Lanes.{items_are}
use Rattle.step_core.proofs.tiles.step_of_tile.Goals as goal

pub returns : goal.returns
returns c =
    let e = c.step.ensures in
    let a = slice_index_or c.args.cores.now c.args.tile c.index-cores-tile.result in
    let b = c.step.new.self in
    let g = slice_index_or c.args.lanes.now c.args.tile c.index-lanes-tile.result in
    let h = c.step.new.grants in
    let row = slice_index_or c.args.rows.now c.args.tile c.index-rows-tile.result in
    let given = c.deref_mut.result.now in
    let left = c.step.new.clients in
    let core : IsTileCoreStep e.step.0 a b given left g h = record {
      row_depths = e.client_lanes;
      lane_depth = e.grant_lane;
      step = e.step.2.0;
      taken = e.step.2.1;
      empty = e.step.2.2;
      heard = e.step.2.3;
      unheard = e.step.2.4;
    } in
    let first : IsTileCoreStep e.step.0 a b row.items left g h = subst (λ (xs : List (PlainLane Parcel)). IsTileCoreStep e.step.0 a b xs left g h)
    c.deref_mut.ensures.value core in
    record {
      deed = e.step.0;
      answered = sym e.step.1;
      core = a;
      core' = b;
      row = row;
      row' = with_items row left;
      lane = g;
      lane' = h;
      cores_changed = changed_at c.args.cores.now c.args.tile c.index-cores-tile.result b c.requires.core;
      rows_changed = changed_at c.args.rows.now c.args.tile c.index-rows-tile.result (with_items row left) c.requires.row;
      lanes_changed = changed_at c.args.lanes.now c.args.tile c.index-lanes-tile.result h c.requires.lane;
      step = subst (λ (xs : List (PlainLane Parcel)). IsTileCoreStep e.step.0 a b row.items xs g h)
          (sym (items_are row left first.row_depths.count)) first;
    }

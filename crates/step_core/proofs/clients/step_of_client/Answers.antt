use Rattle.std.proofs.Common.{List, sym, subst}
use Rattle.std.specs.Prelude.{slice_index_or}
use Rattle.std.specs.Vec.{with_items}
use Rattle.step_core.specs.Changes.{IsClientCoreStep}
use Rattle.step_core.specs.declared.port.Port.{Port}
use Rattle.step_core.proofs.Changes.{changed_at}
use Rattle.step_core.proofs.Lanes.{items_are}
use Rattle.step_core.proofs.clients.step_of_client.Goals as goal

pub returns : goal.returns
returns c =
    let e = c.step.ensures in
    let a = slice_index_or c.args.cores.now c.args.client c.index-cores-client.result in
    let b = c.step.new.self in
    let g = slice_index_or c.args.lanes.now c.args.client c.index-lanes-client.result in
    let h = c.step.new.requests in
    let row = slice_index_or c.args.ports.now c.args.client c.index-ports-client.result in
    let given = c.deref_mut.result.now in
    let left = c.step.new.tiles in
    let core : IsClientCoreStep e.step.0 a b given left g h = record {
      same_ports = e.tile_lanes;
      lane_depth = e.request_lane;
      step = e.step.2;
      sent = e.step.3;
      requested = e.step.4;
    } in
    let first : IsClientCoreStep e.step.0 a b row.items left g h = subst (λ (xs : List Port). IsClientCoreStep e.step.0 a b xs left g h)
    c.deref_mut.ensures.value core in
    record {
      deed = e.step.0;
      answered = sym e.step.1;
      core = a;
      core' = b;
      row = row;
      row' = with_items row left;
      lane = g;
      lane' = h;
      cores_changed = changed_at c.args.cores.now c.args.client c.index-cores-client.result b c.requires.core;
      ports_changed = changed_at c.args.ports.now c.args.client c.index-ports-client.result (with_items row left) c.requires.row;
      lanes_changed = changed_at c.args.lanes.now c.args.client c.index-lanes-client.result h c.requires.lane;
      step = subst (λ (xs : List Port). IsClientCoreStep e.step.0 a b row.items xs g h)
          (sym (items_are row left first.same_ports.count)) first;
    }

use Rattle.std.proofs.Common.{List, refl, ap, sym, subst, ◌∙◌, length}
use Rattle.std.specs.Prelude.{Vec}
use Rattle.std.specs.Global.{Global}
use Rattle.std.specs.Vec.{with_items}
use Rattle.rc_base.specs.declared.plain_lane.PlainLane.{PlainLane}
use Rattle.rc_base.specs.declared.state.Parcel.{Parcel}
use Rattle.step_core.specs.Ports.{CanCarry, where_appended}
use Rattle.step_core.specs.declared.port.Port.{Port}
use Rattle.step_core.proofs.Changes.{Carried, carried_at, client_at, ports_count, rows_count}
use Rattle.step_core.proofs.ClientMoves.{moved_in}
use Rattle.step_core.proofs.ClientWorlds.{answer_in, carries, client_steps}
use Rattle.step_core.proofs.Lanes.{items_are}
use Rattle.step_core.proofs.Said.{told}
use Rattle.step_core.proofs.cluster.Cluster.step_client.Goals as goal

pub carry-requires : goal.carry-requires
carry-requires c =
    let at = c.args.self.now in
    let number = c.args.client in
    let r = c.step_of_client.result in
    let s = c.step_of_client.ensures in
    let cores' = c.step_of_client.new.cores in
    let ports' = c.step_of_client.new.ports in
    let lanes' = c.step_of_client.new.lanes in
    let e = c.deref_mut.ensures.value in
    let f = c.deref_mut-2.ensures.value in
    let g = c.deref_mut-3.ensures.value in
    let stepped = client_at number r _ at.clients.items _ (with_items at.clients cores').items _ at.ports.items _ (with_items at.ports ports').items
    _ at.requests.items _ (with_items at.requests lanes').items
    e (sym (items_are at.clients cores' (s.cores_changed.count ∙ ap length e)))
    f (sym (items_are at.ports ports' (s.ports_changed.count ∙ ap length f)))
    g (sym (items_are at.requests lanes' (s.lanes_changed.count ∙ ap length g))) s in
    let v = c.requires.seen.view in
    let low = rw v.clients.count at c.requires.client in
    let can = carries c.requires.seen.scene c.requires.seen.l c.requires.seen.depth number at c.requires.seen.model r (with_items at.clients cores')
    (with_items at.ports ports').items (with_items at.requests lanes') v low stepped in
    let m = c.in-Ok.answer in
    subst (λ (ps : List (Vec Port Global)). where_appended m (λ tile. CanCarry number tile ps c.deref_mut-in-Ok-2.result.now) (Unit {0}))
    (sym c.deref_mut-in-Ok.ensures.value)
    (subst (λ (rs : List (Vec (PlainLane Parcel) Global)). where_appended m (λ tile. CanCarry number tile (with_items at.ports ports').items rs) (Unit {0}))
    (sym c.deref_mut-in-Ok-2.ensures.value)
    (subst (λ m. where_appended m (λ tile. CanCarry number tile (with_items at.ports ports').items at.parcels.items) (Unit {0})) (ap moved_in c.in-Ok.is) can))

pub returns-in-Ok-clause-turn : goal.returns-in-Ok-clause-turn
returns-in-Ok-clause-turn c scene l depth w v =
    let at = c.args.self.now in
    let number = c.args.client in
    let r = c.step_of_client.result in
    let s = c.step_of_client.ensures in
    let cores' = c.step_of_client.new.cores in
    let ports' = c.step_of_client.new.ports in
    let lanes' = c.step_of_client.new.lanes in
    let e = c.deref_mut.ensures.value in
    let f = c.deref_mut-2.ensures.value in
    let g = c.deref_mut-3.ensures.value in
    let stepped = client_at number r _ at.clients.items _ (with_items at.clients cores').items _ at.ports.items _ (with_items at.ports ports').items
    _ at.requests.items _ (with_items at.requests lanes').items
    e (sym (items_are at.clients cores' (s.cores_changed.count ∙ ap length e)))
    f (sym (items_are at.ports ports' (s.ports_changed.count ∙ ap length f)))
    g (sym (items_are at.requests lanes' (s.lanes_changed.count ∙ ap length g))) s in
    let low = rw v.clients.count at c.requires.client in
    let m = c.in-Ok.answer in
    let carried = carried_at number m _ (with_items at.ports ports').items _ (with_items (with_items at.ports ports') c.carry.new.ports).items
    _ at.parcels.items _ (with_items at.parcels c.carry.new.rows).items
    c.deref_mut-in-Ok.ensures.value (sym (items_are (with_items at.ports ports') c.carry.new.ports (ports_count number m _ _ _ _ c.carry.ensures ∙ ap length c.deref_mut-in-Ok.ensures.value)))
    c.deref_mut-in-Ok-2.ensures.value (sym (items_are at.parcels c.carry.new.rows (rows_count number m _ _ _ _ c.carry.ensures ∙ ap length c.deref_mut-in-Ok-2.ensures.value)))
    c.carry.ensures in
    let done = client_steps scene l depth number at w r (with_items at.clients cores') (with_items at.ports ports').items (with_items at.requests lanes') v low stepped
    (with_items (with_items at.ports ports') c.carry.new.ports) (with_items at.parcels c.carry.new.rows)
    (subst (λ m. Carried number m (with_items at.ports ports').items (with_items (with_items at.ports ports') c.carry.new.ports).items at.parcels.items (with_items at.parcels c.carry.new.rows).items)
    (sym (ap moved_in c.in-Ok.is)) carried) in
    told scene l depth w at _ _ _ _ _ refl (ap (answer_in number) c.in-Ok.is) done

pub returns-in-Err-clause-turn : goal.returns-in-Err-clause-turn
returns-in-Err-clause-turn c scene l depth w v =
    let at = c.args.self.now in
    let number = c.args.client in
    let r = c.step_of_client.result in
    let s = c.step_of_client.ensures in
    let cores' = c.step_of_client.new.cores in
    let ports' = c.step_of_client.new.ports in
    let lanes' = c.step_of_client.new.lanes in
    let e = c.deref_mut.ensures.value in
    let f = c.deref_mut-2.ensures.value in
    let g = c.deref_mut-3.ensures.value in
    let stepped = client_at number r _ at.clients.items _ (with_items at.clients cores').items _ at.ports.items _ (with_items at.ports ports').items
    _ at.requests.items _ (with_items at.requests lanes').items
    e (sym (items_are at.clients cores' (s.cores_changed.count ∙ ap length e)))
    f (sym (items_are at.ports ports' (s.ports_changed.count ∙ ap length f)))
    g (sym (items_are at.requests lanes' (s.lanes_changed.count ∙ ap length g))) s in
    let low = rw v.clients.count at c.requires.client in
    let done = client_steps scene l depth number at w r (with_items at.clients cores') (with_items at.ports ports').items (with_items at.requests lanes') v low stepped
    (with_items at.ports ports') at.parcels
    (subst (λ m. Carried number m (with_items at.ports ports').items (with_items at.ports ports').items at.parcels.items at.parcels.items)
    (sym (ap moved_in c.in-Err.is)) (refl, refl)) in
    told scene l depth w at _ _ _ _ _ refl (ap (answer_in number) c.in-Err.is) done

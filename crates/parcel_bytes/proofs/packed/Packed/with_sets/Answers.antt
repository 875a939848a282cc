use Rattle.std.proofs.Common.{◌≡◌, length, ap, sym, subst, ◌∙◌}
use Rattle.std.specs.Prelude.{IfOk}
use Rattle.rc_base.specs.declared.state.Parcel.{Parcel}
use Rattle.rc_base.specs.Cluster.Parcels.{is_end}
use Rattle.parcel_bytes.proofs.Fronts.{begins_within, in_bytes, place_within, same_sets, with_sets}
use Rattle.parcel_bytes.proofs.ParcelsAreRead.{is_in}
use Rattle.parcel_bytes.proofs.packed.Packed.with_sets.Goals as goal

pub front_with-requires-clause-place : goal.front_with-requires-clause-place
front_with-requires-clause-place c = place_within c.parts-act.result.0.now c.parts-act.result.1 c.args.self c.parts-act.ensures

pub is_front-requires : goal.is_front-requires
is_front-requires c = begins_within c.parts-act.result.0.now c.parts-act.result.1 c.args.self c.parts-act.ensures

pub with_act-requires : goal.with_act-requires
with_act-requires c = begins_within c.parts-act.result.0.now c.parts-act.result.1 c.args.self c.parts-act.ensures

pub returns-then-is_front : goal.returns-then-is_front
returns-then-is_front c =
    same_sets c.parts-act.result.0.now c.parts-act.result.1 c.args.self c.args.sets.now c.in_ok-front.front c.parts-act.ensures c.requires.few c.in_ok-front.ensures.typed
    c.in_ok-front.ensures.front (c.is_front.ensures c.if-is_front.true)

pub pack-requires-clause-written : goal.pack-requires-clause-written
pack-requires-clause-written c =
    in_bytes c.in_ok-written.written.bytes c.in_ok-written.written.act (record c.args.self { sets = c.args.sets.now })
    (with_sets c.parts-act.result.0.now c.parts-act.result.1 c.args.self c.args.sets.now c.in_ok-front.front c.parts-act.ensures c.requires.few c.in_ok-front.ensures.typed
    c.in_ok-front.ensures.front c.in_ok-written.written.bytes c.in_ok-written.written.act c.in_ok-written.ensures.bytes c.in_ok-written.ensures.act)

pub pack-requires-clause-sets : goal.pack-requires-clause-sets
pack-requires-clause-sets c =
    let w = with_sets c.parts-act.result.0.now c.parts-act.result.1 c.args.self c.args.sets.now c.in_ok-front.front c.parts-act.ensures c.requires.few c.in_ok-front.ensures.typed
    c.in_ok-front.ensures.front c.in_ok-written.written.bytes c.in_ok-written.written.act c.in_ok-written.ensures.bytes c.in_ok-written.ensures.act in
    ap (λ (q : Parcel). length q.sets) (sym (is_in c.in_ok-written.written.bytes (record c.args.self { sets = c.args.sets.now }) w.spells))

pub pack-requires-clause-end : goal.pack-requires-clause-end
pack-requires-clause-end c =
    let w = with_sets c.parts-act.result.0.now c.parts-act.result.1 c.args.self c.args.sets.now c.in_ok-front.front c.parts-act.ensures c.requires.few c.in_ok-front.ensures.typed
    c.in_ok-front.ensures.front c.in_ok-written.written.bytes c.in_ok-written.written.act c.in_ok-written.ensures.bytes c.in_ok-written.ensures.act in
    c.is_end.ensures ∙ ap (λ (q : Parcel). is_end q.act) (sym (is_in c.in_ok-written.written.bytes (record c.args.self { sets = c.args.sets.now }) w.spells))

pub returns : goal.returns
returns c =
    let w = with_sets c.parts-act.result.0.now c.parts-act.result.1 c.args.self c.args.sets.now c.in_ok-front.front c.parts-act.ensures c.requires.few c.in_ok-front.ensures.typed
    c.in_ok-front.ensures.front c.in_ok-written.written.bytes c.in_ok-written.written.act c.in_ok-written.ensures.bytes c.in_ok-written.ensures.act in
    subst (λ (q : Parcel). IfOk c.pack.result (λ (packed : Parcel). packed ≡ q)) (is_in c.in_ok-written.written.bytes (record c.args.self { sets = c.args.sets.now }) w.spells) c.pack.ensures

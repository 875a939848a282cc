use Rattle.std.proofs.Common.{arith, get_or, sym, ◌∙◌}
use Rattle.std.proofs.lemmas.List.{get_or_default}
use Rattle.rc_base.specs.declared.sync.Name.{Name}
use Rattle.order_model.proofs.SpotsOfNames.{first_within, first_found, first_not_here}
use Rattle.order_model.proofs.spots.first_at.Goals as goal

pub returns-then-is_from : goal.returns-then-is_from
returns-then-is_from c =
    let o = c.args.order.now in
    let k = c.loop-spot.spot in
    let n : Name = get_or o k record { client = 0; place = 0 } in
    let found = first_found o c.args.client c.args.place k n (omega arith) (get_or_default o k record { client = 0; place = 0 } n (omega arith)) (sym c.is_from.ensures ∙ c.if-is_from.true) in
    omega (arith, found, c.loop-spot.invariant)

pub loop-spot-preserved : goal.loop-spot-preserved
loop-spot-preserved c =
    let o = c.args.order.now in
    let k = c.loop-spot.spot in
    let n : Name = get_or o k record { client = 0; place = 0 } in
    first_not_here o c.args.client c.args.place k n (omega arith) (get_or_default o k record { client = 0; place = 0 } n (omega arith)) (sym c.is_from.ensures ∙ c.if-is_from.false) c.loop-spot.invariant

pub returns : goal.returns
returns c = omega (arith, first_within c.args.order.now c.args.client c.args.place)

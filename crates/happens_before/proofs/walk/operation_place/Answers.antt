use Rattle.std.proofs.Common.{◌≡◌, ◌<◌, ◌≤◌, length, sym, ap, ◌∙◌, arith, get_or, ltb-true}
use Rattle.std.specs.Prelude.{option_map}
use Rattle.std.proofs.lemmas.Bool.{ltb-false}
use Rattle.std.proofs.lemmas.Option.{slice_get_past}
use Rattle.rc_base.specs.declared.sync.WaitAt.{WaitAt}
use Rattle.happens_before.proofs.PlacesOfOperations.{op_below}
use Rattle.happens_before.proofs.walk.operation_place.Goals as goal

pub returns-in-Some-clause-small : goal.returns-in-Some-clause-small
returns-in-Some-clause-small c =
    let ops = c.args.row.now.ops in
    let w : WaitAt = c.in-Some.wait.now in
    let within = ltb-true c.args.number (length c.as_slice.result.now) (sym c.in-Some.ensures.lookup.0) in
    let lt : c.args.number < length ops = omega (arith, ap length c.as_slice.ensures) in
    let is : w ≡ get_or ops c.args.number w = c.in-Some.ensures.lookup.1 ∙ ap (λ xs. get_or xs c.args.number w) c.as_slice.ensures in
    let below : (get_or ops c.args.number w).place < c.args.row.now.length = op_below 0 ops c.args.row.now.length c.args.number w c.requires lt in
    omega (arith, ap (λ (x : WaitAt). x.place) is)

pub returns-in-None-clause-place : goal.returns-in-None-clause-place
returns-in-None-clause-place c =
    let ops = c.args.row.now.ops in
    let past = ltb-false c.args.number (length c.as_slice.result.now) (sym c.in-None.ensures.lookup.0) in
    let ge : length ops ≤ c.args.number = omega (arith, ap length c.as_slice.ensures) in
    sym (ap (option_map (λ (w : WaitAt). w.place)) (slice_get_past ops c.args.number ge))

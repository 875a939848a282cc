use Rattle.std.proofs.Common.{◌≡◌, ℕ, ◌+◌, ◌-◌, ◌++◌, [], ◌∷◌, List, ◌∙◌, ap, sym, arith, append_assoc}
use Rattle.std.proofs.lemmas.List.{append-nil}
use Rattle.rc_base.specs.Orders.Order.{names_from}
use Rattle.rc_base.specs.declared.sync.Name.{Name}
use Rattle.serial_render.proofs.AddedInTurn.{names_from_more}
use Rattle.serial_render.proofs.runs.add_names.Goals as goal

pub loop-place-init : goal.loop-place-init
loop-place-init c =
    let r = c.args.run.now in
    let none : r.first - r.first ≡ 0 = omega arith in
    record {
      most = omega arith;
      names = c.in_ok-reserve.ensures.items ∙ sym (ap (λ (n : ℕ). c.args.names.now.items ++ names_from r.client r.first n) none ∙ append-nil c.args.names.now.items);
      room = omega (arith, c.in_ok-reserve.ensures.ok, c.reserve.ensures.len, c.saturating_sub.ensures);
    }

pub push_reserved-requires : goal.push_reserved-requires
push_reserved-requires c = omega (arith, c.loop-place.invariant.room, c.loop-place-test.true)

pub loop-place-preserved : goal.loop-place-preserved
loop-place-preserved c =
    let r = c.args.run.now in
    let place = c.loop-place.place in
    let n = place - r.first in
    let name : Name = record { client = r.client; place = place } in
    let more : place + 1 - r.first ≡ n + 1 = omega (arith, c.loop-place.auto.place) in
    record {
      most = omega (arith, c.loop-place-test.true);
      names = c.push_reserved.ensures.items
          ∙ ap (λ (l : List Name). l ++ name ∷ []) c.loop-place.invariant.names
          ∙ append_assoc c.args.names.now.items (names_from r.client r.first n) (name ∷ [])
          ∙ ap (λ (l : List Name). c.args.names.now.items ++ l) (sym (names_from_more r.client r.first n place (omega (arith, c.loop-place.auto.place))))
          ∙ ap (λ (k : ℕ). c.args.names.now.items ++ names_from r.client r.first k) (sym more);
      room = omega (arith, c.push_reserved.ensures.len, c.push_reserved.ensures.capacity, c.loop-place.invariant.room, c.loop-place-test.true);
    }

pub returns : goal.returns
returns c =
    let r = c.args.run.now in
    let last : c.loop-place.place - r.first ≡ r.last + 1 - r.first = omega (arith, c.loop-place.invariant.most, c.loop-place.auto.place, c.loop-place-test.false) in
    c.loop-place.invariant.names ∙ ap (λ (k : ℕ). c.args.names.now.items ++ names_from r.client r.first k) last

use Rattle.std.proofs.Common.{◌≡◌, ◌∙◌, ◌&&◌, sym, arith, take, get_or, pos}
use Rattle.std.proofs.lemmas.List.{take_all}
use Rattle.std.specs.Ordering.{int_eq}
use Rattle.std.specs.Cmp.Lexicographic.{pointwise}
use Rattle.geometry.proofs.SameNumbers.{same_next}
use Rattle.geometry.proofs.identities.are_same.Goals as goal

pub loop-i-preserved : goal.loop-i-preserved
loop-i-preserved c =
    let l = c.loop-i in
    let a = c.args.a.now in
    let b = c.args.b.now in
    let so_far : l.same ≡ pointwise int_eq (take l.i a) (take l.i b) = l.invariant in
    let here : c.is_same-same.result ≡ int_eq (get_or a l.i (pos 0)) (get_or b l.i (pos 0)) = c.is_same-same.ensures in
    let both : (l.same && c.is_same-same.result) ≡ (pointwise int_eq (take l.i a) (take l.i b) && int_eq (get_or a l.i (pos 0)) (get_or b l.i (pos 0))) =
    λ j. so_far j && here j in
    both ∙ sym (same_next a b l.i (omega (arith, c.told-a, c.loop-i-test.true)) (omega (arith, c.told-b, c.loop-i-test.true)))

pub returns : goal.returns
returns c =
    let l = c.loop-i in
    let a = c.args.a.now in
    let b = c.args.b.now in
    let so_far : l.same ≡ pointwise int_eq (take l.i a) (take l.i b) = l.invariant in
    let whole_a : take l.i a ≡ a = take_all l.i a (omega (arith, c.told-a, c.loop-i-test.false)) in
    let whole_b : take l.i b ≡ b = take_all l.i b (omega (arith, c.told-b, c.loop-i-test.false)) in
    so_far ∙ (λ j. pointwise int_eq (whole_a j) (whole_b j))

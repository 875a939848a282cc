use Rattle.std.proofs.Common.{◌≡◌, ◌<◌, ◌+◌, ◌++◌, length, vec_len, get_or, take, sym, ap, ◌∙◌, subst, arith, add-one}
use Rattle.std.proofs.Math.Seq.{take-suc}
use native.Mathlib.Decide.{ℕ_discrete}
use mathlib.Core.Logic.{dite}
use Rattle.tile_queues.specs.Ends.{sent_of, taken_of, lane_in}
use Rattle.rc_base.specs.Lists.{IsFront}
use Rattle.rc_base.proofs.Paired.{some_item}
use Rattle.tile_queues.proofs.Lasts.{shorter}
use Rattle.tile_queues.proofs.closing.close_list.Goals as goal

pub close_last-requires : goal.close_last-requires
close_last-requires g c =
    let was = c.loop-a.invariant in
    let xs = c.args.ins.items in
    let os = c.args.outs.now.items in
    let k = vec_len c.pop.new.self in
    let one : k + 1 ≡ vec_len c.loop-a.ins = c.in-Some.ensures.cases in
    let low : k < length xs = let n = c.args.ins.ok.0 in let w = was.short in omega arith in
    let high : k < length os = let n = c.requires.count in omega arith in
    let b = some_item os k high in
    let top = shorter xs c.pop.new.self.items c.in-Some.a k low (ap (λ j. take j xs) one ∙ sym was.ins ∙ c.in-Some.ensures.items) in
    record {
      front = take k os;
      last = get_or os k b;
      items = was.outs ∙ ap (λ j. take j os) (sym one) ∙ ap (λ n. take n os) (add-one k) ∙ take-suc os k b high;
      lane = c.requires.at k c.in-Some.a b low ∙ ap (λ x. lane_in x) (sym (top.1 c.in-Some.a));
    }

pub loop-a-preserved : goal.loop-a-preserved
loop-a-preserved g c =
    let was = c.loop-a.invariant in
    let xs = c.args.ins.items in
    let os = c.args.outs.now.items in
    let k = vec_len c.pop.new.self in
    let one : k + 1 ≡ vec_len c.loop-a.ins = c.in-Some.ensures.cases in
    let low : k < length xs = let n = c.args.ins.ok.0 in let w = was.short in omega arith in
    let high : k < length os = let n = c.requires.count in omega arith in
    let top = shorter xs c.pop.new.self.items c.in-Some.a k low (ap (λ j. take j xs) one ∙ sym was.ins ∙ c.in-Some.ensures.items) in
    let h = c.close_last.ensures in
    let end = shorter os c.close_last.new.outs.items h.last k high (ap (λ j. take j os) one ∙ sym was.outs ∙ h.items) in
    record {
      short = let w = was.short in omega arith;
      ins = top.0;
      outs = end.0;
      ordered = λ i a b above below.
          dite (ℕ_discrete i k)
          (λ (is : i ≡ k). subst (λ j. IsFront (taken_of (get_or os j b)) (sent_of (get_or xs j a))) (sym is)
          (h.order.0, ap (λ x. sent_of x) (sym (top.1 a)) ∙ h.order.1 ∙ ap (λ x. taken_of x ++ h.order.0) (end.1 b)))
          (λ ne. was.ordered i a b (omega arith) below);
    }

use Rattle.std.proofs.Common.{◌≡◌, ◌<◌, ◌+◌, length, vec_len, get_or, take, sym, ap, ◌∙◌, subst, arith}
use native.Mathlib.Decide.{ℕ_discrete}
use mathlib.Core.Logic.{dite}
use Rattle.tile_queues.proofs.Lasts.{shorter, opens, closes, cuts}
use Rattle.rc_base.specs.Lists.{IsFront}
use Rattle.tile_queues.specs.Ends.{sent_of, taken_of}
use Rattle.tile_queues.proofs.closing.close_all.Goals as goal

pub close_row-requires : goal.close_row-requires
close_row-requires g c =
    let was = c.loop-row.invariant in
    let xs = c.args.ins.items in
    let k = vec_len c.pop.new.self in
    let one : k + 1 ≡ vec_len c.loop-row.ins = c.in-Some.ensures.cases in
    let low : k < length xs = let n = c.args.ins.ok.0 in let w = was.short in omega arith in
    let top = shorter xs c.pop.new.self.items c.in-Some.row k low (ap (λ j. take j xs) one ∙ sym was.ins ∙ c.in-Some.ensures.items) in
    opens xs c.args.outs.now c.loop-row.outs k c.in-Some.row c.requires low was.size
    (λ t e h. was.outs t e h ∙ ap (λ j. take j (get_or c.args.outs.now t e).items) (sym one)) top.1

pub loop-row-preserved : goal.loop-row-preserved
loop-row-preserved g c =
    let was = c.loop-row.invariant in
    let xs = c.args.ins.items in
    let os = c.args.outs.now in
    let k = vec_len c.pop.new.self in
    let one : k + 1 ≡ vec_len c.loop-row.ins = c.in-Some.ensures.cases in
    let low : k < length xs = let n = c.args.ins.ok.0 in let w = was.short in omega arith in
    let top = shorter xs c.pop.new.self.items c.in-Some.row k low (ap (λ j. take j xs) one ∙ sym was.ins ∙ c.in-Some.ensures.items) in
    let rows = c.in-Some.row.ok.0 in
    let all = closes xs os c.loop-row.outs k c.in-Some.row c.requires low was.size
    (λ t e h. was.outs t e h ∙ ap (λ j. take j (get_or os t e).items) (sym one)) top.1
    c.close_row.new.outs (λ t d e h. c.close_row.ensures.closed t d e (omega arith)) in
    record {
      short = let w = was.short in omega arith;
      ins = top.0;
      size = c.close_row.ensures.size ∙ was.size;
      outs = cuts xs os c.loop-row.outs k c.in-Some.row c.requires low was.size
          (λ t e h. was.outs t e h ∙ ap (λ j. take j (get_or os t e).items) (sym one)) top.1
          c.close_row.new.outs (λ t d e h. c.close_row.ensures.closed t d e (omega arith));
      ordered = λ c' t d e a b above below h.
          dite (ℕ_discrete c' k)
          (λ (is : c' ≡ k). subst (λ j. IsFront (taken_of (get_or (get_or os t e).items j b)) (sent_of (get_or (get_or xs j d).items t a)))
          (sym is) (all t d e a b h).1)
          (λ ne. was.ordered c' t d e a b (omega arith) below h);
    }

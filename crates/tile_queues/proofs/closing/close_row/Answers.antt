use Rattle.std.proofs.Common.{◌≡◌, ◌<◌, ◌+◌, length, get_or, sym, ◌∙◌, subst, arith}
use Rattle.std.proofs.lemmas.Grind.{common_steps}
use Rattle.rc_base.proofs.Paired.{each_next, same_default}
use Rattle.tile_queues.specs.Grids.{IsOpen, IsClosed}
use Rattle.tile_queues.proofs.closing.close_row.Goals as goal

pub close_last-requires : goal.close_last-requires
close_last-requires g c =
    let was = c.loop-a.invariant in
    let a = c.in-Some.a in
    let x = c.index-outs-t.result in
    let t = c.loop-a.t in
    let step = c.in-Some.ensures.steps in
    let same : a ≡ get_or c.args.ins.items t a = let h = was.rest 0 a in grind (arith, common_steps) in
    let low : t < length c.args.ins.items = let n = c.args.ins.ok.0 in let k = was.count in omega arith in
    let open_one : IsOpen (get_or c.args.ins.items t a) (get_or c.args.outs.now t x) = c.requires.at t a x low in
    subst (λ y. IsOpen y (get_or c.loop-a.outs t x)) (sym same)
    (subst (λ y. IsOpen (get_or c.args.ins.items t a) y) (sym (was.later t x (omega arith))) open_one)

pub loop-a-preserved : goal.loop-a-preserved
loop-a-preserved g c =
    let was = c.loop-a.invariant in
    let a = c.in-Some.a in
    let t = c.loop-a.t in
    let step = c.in-Some.ensures.steps in
    record {
      count = grind (arith, common_steps);
      rest = λ k d below. let h = was.rest (k + 1) d in grind (arith, common_steps);
      size = grind (arith, common_steps);
      later = λ k e below. let h = was.later k e in grind (arith, common_steps);
      each =
          each_next (λ a x y. IsClosed a x y) c.args.ins.items c.args.outs.now c.loop-a.outs t c.close_last.new.outs (omega arith) was.each
          (λ d e.
          let same : a ≡ get_or c.args.ins.items t d = let h = was.rest 0 d in grind (arith, common_steps) in
          let here : get_or c.loop-a.outs t c.index-outs-t.result ≡ get_or c.args.outs.now t e =
          same_default c.loop-a.outs t c.index-outs-t.result e (omega arith) ∙ was.later t e (omega arith) in
          subst (λ b. IsClosed b (get_or c.args.outs.now t e) c.close_last.new.outs) same
          (subst (λ x. IsClosed a x c.close_last.new.outs) here c.close_last.ensures));
    }

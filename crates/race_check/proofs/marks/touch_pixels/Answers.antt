use Rattle.std.proofs.Common.{◌≡◌, ◌+◌, ◌*◌, ◌<◌, ◌∙◌, false, length, ap, arith, refl, subst, sym}
use Rattle.std.proofs.Math.ListN.{length-set}
use Rattle.race_check.specs.Finds.{IsFirst, IsFoundIn, OrBefore, cell_at, mark, marked, run_has}
use Rattle.race_check.specs.Touches.{AreTouched, IsFoundWhere}
use Rattle.race_check.specs.declared.verdict.Spot.TheVariants.{Pixel}
use Rattle.race_check.proofs.TouchesInTurn.{cells_as, cells_none, cells_then, finds_as, finds_none, finds_then, pixel_cells, pixel_finds, pixel_run, run_more, run_none, run_to}
use Rattle.race_check.proofs.marks.touch_pixels.Goals as goal

pub loop-x-init : goal.loop-x-init
loop-x-init c =
    let v = c.args.visit.now in
    let run = c.args.run in
    let cells = c.args.pixels.now.cells.items in
    record {
      from = omega arith;
      size = refl;
      cells = cells_as (λ x y. false) (run_has (run_to run run.from)) v cells cells (cells_none v cells) (λ x y lx ly. run_none run x y);
      best = finds_as (λ x y. false) (run_has (run_to run run.from)) v cells c.args.best c.args.best (finds_none v cells c.args.best) (λ x y lx ly. run_none run x y);
    }

pub loop-x-preserved : goal.loop-x-preserved
loop-x-preserved c =
    let v = c.args.visit.now in
    let run = c.args.run in
    let x = c.loop-x.x in
    let start = c.args.pixels.now.cells.items in
    let cells = c.loop-x.pixels.cells.items in
    let new = c.mark.new.self.cells.items in
    let inv = c.loop-x.invariant in
    let q = run.row * v.width + x in
    let wide : x < v.width = omega (arith, c.requires.run.2) in
    let index : c.row_start-start.result + x ≡ q = ap (λ s. s + x) c.row_start-start.ensures in
    let moved : new ≡ mark v.name cells q = c.mark.ensures ∙ ap (mark v.name cells) index in
    let here = subst (λ i. IsFirst (OrBefore c.loop-x.best (IsFoundIn v.name.client v.clock (cell_at cells i) (Pixel x run.row))) c.look-best.result) index c.look-best.ensures in
    let one = subst (AreTouched (run_has (pixel_run run.row x)) v cells) (sym moved) (pixel_cells v cells run.row x (inv.size ∙ c.requires.visit.size) wide c.requires.run.0) in
    record {
      from = omega (arith, inv.from);
      size = ap length moved ∙ length-set cells q (marked v.name (cell_at cells q)) ∙ inv.size;
      cells = cells_then (run_has (run_to run x)) (run_has (pixel_run run.row x)) (run_has (run_to run (x + 1))) v start cells new inv.cells one (λ u y lu ly. run_more run x u y inv.from);
      best = finds_then (run_has (run_to run x)) (run_has (pixel_run run.row x)) (run_has (run_to run (x + 1))) v start cells c.args.best c.loop-x.best c.look-best.result inv.cells inv.best
          (pixel_finds v cells run.row x c.loop-x.best c.look-best.result wide c.requires.run.0 here) (λ u y lu ly. run_more run x u y inv.from);
    }

pub returns-clause-cells : goal.returns-clause-cells
returns-clause-cells c =
    let end : c.loop-x.x ≡ c.args.run.to = omega (arith, c.loop-x.auto.x-end c.requires.run.1) in
    subst (λ k. AreTouched (run_has (run_to c.args.run k)) c.args.visit.now c.args.pixels.now.cells.items c.loop-x.pixels.cells.items) end c.loop-x.invariant.cells

pub returns-clause-best : goal.returns-clause-best
returns-clause-best c =
    let end : c.loop-x.x ≡ c.args.run.to = omega (arith, c.loop-x.auto.x-end c.requires.run.1) in
    subst (λ k. IsFirst (OrBefore c.args.best (IsFoundWhere (run_has (run_to c.args.run k)) c.args.visit.now c.args.pixels.now.cells.items)) c.loop-x.best) end c.loop-x.invariant.best

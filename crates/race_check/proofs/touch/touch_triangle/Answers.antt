use Rattle.std.proofs.Common.{◌≡◌, ◌∙◌, false, ℤ, arith, ap, refl, sym, subst, rules}
use Rattle.std.proofs.lemmas.Int.{ints}
use Rattle.race_check.specs.Finds.{run_has}
use Rattle.race_check.specs.Touches.{IsTouch, triangle_has}
use Rattle.race_check.proofs.TouchesInTurn.{rows_below, touch_none, touch_then, touch_as, first_rows, last_rows, rows_more, span_of_part, run_inside}
use Rattle.race_check.proofs.touch.touch_triangle.Goals as goal

pub rows-init : goal.rows-init
rows-init c =
    let same = c.into_iter-span-iterator.ensures.into_iter_gives in
    let v = c.args.tri.now.v in
    let part = c.args.part in
    let cells = c.args.pixels.now.cells.items in
    let row : c.into_iter-span-iterator.result.y ≡ part.y0 = ap (λ t. t.y) same ∙ c.spans-span-items.ensures.row in
    record {
      triangle = ap (λ t. t.tri.now) same ∙ c.spans-span-items.ensures.triangle;
      part = ap (λ t. t.rect) same ∙ c.spans-span-items.ensures.rect;
      from = omega (arith, ints);
      size = refl;
      touched = subst (λ (y : ℤ). IsTouch (rows_below v part y) c.args.visit.now cells cells c.args.seen c.args.seen) (sym row)
          (touch_as (λ x y. false) (rows_below v part part.y0) c.args.visit.now cells cells c.args.seen c.args.seen
          (touch_none c.args.visit.now cells c.args.seen) (λ x y lx ly. first_rows v part x y));
    }

pub run_of-requires-clause-row : goal.run_of-requires-clause-row
run_of-requires-clause-row c =
    let i = c.rows.invariant in
    let n = rw (i.triangle, i.part) at c.in-Some.ensures.steps.0.0 in
    (span_of_part c.args.tri.now.v c.args.visit.now.width c.args.visit.now.height c.args.part c.rows.span-iterator.y c.in-Some.span c.requires.part n i.from).row

pub run_of-requires-clause-rows : goal.run_of-requires-clause-rows
run_of-requires-clause-rows c =
    let i = c.rows.invariant in
    let n = rw (i.triangle, i.part) at c.in-Some.ensures.steps.0.0 in
    let h = (span_of_part c.args.tri.now.v c.args.visit.now.width c.args.visit.now.height c.args.part c.rows.span-iterator.y c.in-Some.span c.requires.part n i.from).rows in
    omega (arith, ints)

pub run_of-requires-clause-left : goal.run_of-requires-clause-left
run_of-requires-clause-left c =
    let i = c.rows.invariant in
    let n = rw (i.triangle, i.part) at c.in-Some.ensures.steps.0.0 in
    (span_of_part c.args.tri.now.v c.args.visit.now.width c.args.visit.now.height c.args.part c.rows.span-iterator.y c.in-Some.span c.requires.part n i.from).left

pub run_of-requires-clause-right : goal.run_of-requires-clause-right
run_of-requires-clause-right c =
    let i = c.rows.invariant in
    let n = rw (i.triangle, i.part) at c.in-Some.ensures.steps.0.0 in
    let h = (span_of_part c.args.tri.now.v c.args.visit.now.width c.args.visit.now.height c.args.part c.rows.span-iterator.y c.in-Some.span c.requires.part n i.from).right in
    omega (arith, ints)

pub touch_run-seen-requires-clause-visit : goal.touch_run-seen-requires-clause-visit
touch_run-seen-requires-clause-visit c = record { client = c.requires.visit.client; place = c.requires.visit.place; size = c.rows.invariant.size ∙ c.requires.visit.size }

pub touch_run-seen-requires-clause-run : goal.touch_run-seen-requires-clause-run
touch_run-seen-requires-clause-run c =
    let i = c.rows.invariant in
    let n = rw (i.triangle, i.part) at c.in-Some.ensures.steps.0.0 in
    let h = span_of_part c.args.tri.now.v c.args.visit.now.width c.args.visit.now.height c.args.part c.rows.span-iterator.y c.in-Some.span c.requires.part n i.from in
    run_inside c.args.visit.now.width c.args.visit.now.height c.in-Some.span c.run_of.result h c.run_of.ensures.row c.run_of.ensures.from c.run_of.ensures.to

pub rows-preserved : goal.rows-preserved
rows-preserved c =
    let i = c.rows.invariant in
    let e = c.in-Some.ensures.steps in
    let v = c.args.tri.now.v in
    let part = c.args.part in
    let z = c.rows.span-iterator.y in
    let s = c.in-Some.span in
    let r = c.run_of.result in
    let n = rw (i.triangle, i.part) at e.0.0 in
    let from = n.from in
    let start = c.args.pixels.now.cells.items in
    let old = c.rows.pixels.cells.items in
    let new = c.touch_run-seen.new.pixels.cells.items in
    record {
      triangle = ap (λ t. t.now) e.1 ∙ i.triangle;
      part = e.2 ∙ i.part;
      from = omega (arith, ints, e.0.1);
      size = c.touch_run-seen.ensures.size ∙ i.size;
      touched = touch_then (rows_below v part z) (run_has r) (rows_below v part c.next.new.self.y) c.args.visit.now start old new c.args.seen c.rows.seen c.touch_run-seen.result i.touched c.touch_run-seen.ensures.touched
          (λ x y lx ly. rows_more v part z c.next.new.self.y s r x y n i.from e.0.1 c.run_of.ensures.row c.run_of.ensures.from c.run_of.ensures.to);
    }

pub returns : goal.returns
returns c = record {
  size = search rules;
  touched =
      let i = c.rows.invariant in
      let e = c.in-None.ensures.steps in
      let n = rw (i.triangle, i.part) at e.0.0 in
      let v = c.args.tri.now.v in
      let part = c.args.part in
      let z = c.rows.span-iterator.y in
      touch_as (rows_below v part z) (triangle_has v part) c.args.visit.now c.args.pixels.now.cells.items c.rows.pixels.cells.items c.args.seen c.rows.seen i.touched
      (λ x y lx ly. last_rows v part z x y n);
}

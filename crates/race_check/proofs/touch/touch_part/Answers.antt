use Rattle.std.proofs.Common.{◌≡◌, ◌+◌, ◌<◌, ◌≤◌, ℕ, false, pos, ℤ, ◌≤ℤ◌, ◌<ℤ◌, arith, ap, refl, sym, ◌∙◌, w32, to_z, of_z, rules}
use Rattle.std.proofs.lemmas.Int.{ints}
use Rattle.race_check.specs.Finds.{IsRunIn, run_has}
use Rattle.race_check.specs.Touches.{part_has}
use Rattle.race_check.specs.declared.run.Run.{Run}
use Rattle.race_check.proofs.TouchesInTurn.{touch_none, touch_then, touch_as}
use Rattle.race_check.proofs.TrianglesBeside.{no_columns, no_rows, rows_up_to, part_rows, rows_none, rows_one_more}
use Rattle.race_check.proofs.touch.touch_part.Goals as goal

pub returns-then-part : goal.returns-then-part
returns-then-part c = record {
  size = search rules;
  touched =
      let cells = c.args.pixels.now.cells.items in
      touch_as (λ x y. false) (part_has c.args.part) c.args.visit.now cells cells c.args.seen c.args.seen
      (touch_none c.args.visit.now cells c.args.seen) (let e : c.args.part.x1 ≤ℤ c.args.part.x0 = omega (arith, ints) in λ x y lx ly. no_columns c.args.part x y e);
}

pub returns-then-part-2 : goal.returns-then-part-2
returns-then-part-2 c = record {
  size = search rules;
  touched =
      let cells = c.args.pixels.now.cells.items in
      touch_as (λ x y. false) (part_has c.args.part) c.args.visit.now cells cells c.args.seen c.args.seen
      (touch_none c.args.visit.now cells c.args.seen) (let e : c.args.part.y1 ≤ℤ c.args.part.y0 = omega (arith, ints) in λ x y lx ly. no_rows c.args.part x y e);
}

pub loop-row-init : goal.loop-row-init
loop-row-init c =
    let cells = c.args.pixels.now.cells.items in
    let r = c.run_of-run.result in
    record {
      from = omega arith;
      size = refl;
      touched = touch_as (λ x y. false) (rows_up_to r r.row) c.args.visit.now cells cells c.args.seen c.args.seen
          (touch_none c.args.visit.now cells c.args.seen) (λ x y lx ly. rows_none r x y);
    }

row_ok : (width height : ℕ) (row from to end : ℕ) (x0 x1 y1 : ℤ) → x0 ≡ pos from → x1 ≡ pos to → y1 ≡ pos end → x0 <ℤ x1 → x1 ≤ℤ pos width → y1 ≤ℤ pos height → row < end → IsRunIn width height (record { row = row; from = from; to = to })
row_ok width height row from to end x0 x1 y1 a b c d e f lt = (omega (arith, ints), omega (arith, ints), omega (arith, ints))

pub touch_run-seen-requires-clause-run : goal.touch_run-seen-requires-clause-run
touch_run-seen-requires-clause-run c =
    let r = c.run_of-run.result in
    let p = c.args.part in
    let x0 : to_z w32 (of_z w32 p.x0) ≡ p.x0 = omega (arith, ints) in
    let x1 : to_z w32 (of_z w32 p.x1) ≡ p.x1 = omega (arith, ints) in
    let y0 : to_z w32 (of_z w32 p.y0) ≡ p.y0 = omega (arith, ints) in
    let y1 : to_z w32 (of_z w32 p.y1) ≡ p.y1 = omega (arith, ints) in
    let is_from : p.x0 ≡ pos r.from = sym x0 ∙ c.run_of-run.ensures.from in
    let is_to : p.x1 ≡ pos r.to = sym x1 ∙ c.run_of-run.ensures.to in
    let is_row : p.y0 ≡ pos r.row = sym y0 ∙ c.run_of-run.ensures.row in
    let is_end : p.y1 ≡ pos c.row_of-end.result = sym y1 ∙ c.row_of-end.ensures in
    let some : p.x0 <ℤ p.x1 = omega (arith, ints) in
    row_ok c.args.visit.now.width c.args.visit.now.height c.loop-row.row r.from r.to c.row_of-end.result p.x0 p.x1 p.y1 is_from is_to is_end some c.requires.part.right c.requires.part.top (omega arith)

pub touch_run-seen-requires-clause-visit : goal.touch_run-seen-requires-clause-visit
touch_run-seen-requires-clause-visit c = record { client = c.requires.visit.client; place = c.requires.visit.place; size = c.loop-row.invariant.size ∙ c.requires.visit.size }

pub loop-row-preserved : goal.loop-row-preserved
loop-row-preserved c =
    let r = c.run_of-run.result in
    let k = c.loop-row.row in
    let here : Run = record { row = k; from = r.from; to = r.to } in
    let inv = c.loop-row.invariant in
    let e = c.touch_run-seen.ensures in
    record {
      from = omega (arith, inv.from);
      size = e.size ∙ inv.size;
      touched = touch_then (rows_up_to r k) (run_has here) (rows_up_to r (k + 1)) c.args.visit.now c.args.pixels.now.cells.items c.loop-row.pixels.cells.items c.touch_run-seen.new.pixels.cells.items
          c.args.seen c.loop-row.seen c.touch_run-seen.result inv.touched e.touched (λ x y lx ly. rows_one_more r here k x y inv.from refl refl refl);
    }

pub returns : goal.returns
returns c = record {
  size = search rules;
  touched =
      let r = c.run_of-run.result in
      let p = c.args.part in
      let x0 : to_z w32 (of_z w32 p.x0) ≡ p.x0 = omega (arith, ints) in
      let x1 : to_z w32 (of_z w32 p.x1) ≡ p.x1 = omega (arith, ints) in
      let y0 : to_z w32 (of_z w32 p.y0) ≡ p.y0 = omega (arith, ints) in
      let y1 : to_z w32 (of_z w32 p.y1) ≡ p.y1 = omega (arith, ints) in
      let is_from : p.x0 ≡ pos r.from = sym x0 ∙ c.run_of-run.ensures.from in
      let is_to : p.x1 ≡ pos r.to = sym x1 ∙ c.run_of-run.ensures.to in
      let is_row : p.y0 ≡ pos r.row = sym y0 ∙ c.run_of-run.ensures.row in
      let is_end : p.y1 ≡ pos c.row_of-end.result = sym y1 ∙ c.row_of-end.ensures in
      let k = c.loop-row.row in
      let end : c.row_of-end.result ≡ k =
      (let up : r.row ≤ c.row_of-end.result = (let a = is_row in let b = is_end in omega (arith, ints)) in omega (arith, c.loop-row.auto.row-end up)) in
      touch_as (rows_up_to r k) (part_has p) c.args.visit.now c.args.pixels.now.cells.items c.loop-row.pixels.cells.items c.args.seen c.loop-row.seen c.loop-row.invariant.touched
      (λ x y lx ly. part_rows p r k x y is_row is_from is_to (is_end ∙ ap pos end));
}

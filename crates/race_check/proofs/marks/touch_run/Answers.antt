use Rattle.std.proofs.Common.{◌||◌, ◌∙◌, nat_lt, sym, ap, rules}
use Rattle.race_check.proofs.TouchesInTurn.{run_some}
use Rattle.race_check.proofs.marks.touch_run.Goals as goal

pub returns-then-seen : goal.returns-then-seen
returns-then-seen c = record {
  size = search rules;
  touched =
      let run = c.args.run in
      let v = c.args.visit.now in
      record {
        cells = c.touch_pixels.ensures.cells;
        best = c.touch_pixels.ensures.best;
        some = run_some v.width v.height run c.args.seen.some _ c.requires.run (c.if-seen.true ∙ sym (ap (λ k. k || nat_lt run.from run.to) c.if-seen.true));
      };
}

pub returns-else-seen : goal.returns-else-seen
returns-else-seen c = record {
  size = search rules;
  touched =
      let run = c.args.run in
      let v = c.args.visit.now in
      record {
        cells = c.touch_pixels.ensures.cells;
        best = c.touch_pixels.ensures.best;
        some = run_some v.width v.height run c.args.seen.some _ c.requires.run (sym (ap (λ k. k || nat_lt run.from run.to) c.if-seen.false));
      };
}

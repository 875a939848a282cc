use Rattle.std.proofs.Common.{arith, refl, rules}
use Rattle.std.proofs.lemmas.Grind.{common_steps}
use Rattle.draw_device.proofs.Runs.{row_from, nothing_left, drawn_behind}
use Rattle.draw_device.proofs.rows.stage_row.Goals as goal

pub returns-then-from-run : goal.returns-then-from-run
returns-then-from-run c =
    let a = c.args in
    let s = a.setup.now in
    let h = c.first_visible-from.ensures in
    record {
      spare = refl;
      drawn = record {
        colors = refl;
        depths = refl;
        drawn = drawn_behind s.state.now s.texture.now s.tri.now.v a.run _ a.colors.now a.depths.now _ c.requires.row.alike h
            (nothing_left s.state.now s.texture.now s.tri.now.v a.run _ _ c.if-from-run.true);
      };
    }

pub color_row-requires-clause-covered : goal.color_row-requires-clause-covered
color_row-requires-clause-covered c k low high =
    let e = c.first_visible-from.ensures.low in
    c.requires.row.covered k (omega (arith, e)) high

pub put_row-requires-clause-row : goal.put_row-requires-clause-row
put_row-requires-clause-row c = record {
  row = row_from c.args.setup.now.tri.now.v c.args.run _ _ _ refl refl refl c.first_visible-from.ensures.low c.requires.row;
  laid = first_of (search rules, grind (arith, common_steps));
}

pub returns : goal.returns
returns c =
    let a = c.args in
    let s = a.setup.now in
    let h = c.first_visible-from.ensures in
    let d = c.put_row.ensures.drawn in
    record {
      spare = first_of (search rules, grind (arith, common_steps));
      drawn = record {
        colors = d.colors;
        depths = d.depths;
        drawn = drawn_behind s.state.now s.texture.now s.tri.now.v a.run _ a.colors.now a.depths.now _ c.requires.row.alike h d.drawn;
      };
    }

use Rattle.std.proofs.Common.{◌≡◌, ◌+◌, ◌∙◌, pos, arith, refl, int_eq, int_le, int_lt, ◌&&◌, rules}
use Rattle.std.proofs.lemmas.Int.{ints}
use Rattle.draw_device.proofs.grid.Grid.column_run.Goals as goal

pub offset-across-requires-clause-low : goal.offset-across-requires-clause-low
offset-across-requires-clause-low c =
    let a = c.requires.part.left in
    let b = c.requires.column.left in
    omega (arith, ints)

pub offset-from-requires-clause-low : goal.offset-from-requires-clause-low
offset-from-requires-clause-low c =
    let a = c.requires.part.bottom in
    let b = c.requires.column.low in
    omega (arith, ints)

pub offset-to-requires-clause-low : goal.offset-to-requires-clause-low
offset-to-requires-clause-low c =
    let a = c.requires.part.bottom in
    let b = c.requires.column.low in
    let d = c.requires.column.order in
    omega (arith, ints)

pub returns : goal.returns
returns c =
    let g = c.args.self.now.extent in
    let p = c.requires.part in
    let o = c.requires.column in
    let p0 = p.left in
    let p1 = p.right in
    let p2 = p.bottom in
    let p3 = p.top in
    let o0 = o.left in
    let o1 = o.right in
    let o2 = o.low in
    let o3 = o.order in
    let o4 = o.high in
    let ex : c.args.column.x ≡ pos (g.left + c.offset-across.result) = omega (arith, ints) in
    let e0 : c.args.column.y0 ≡ pos (g.bottom + c.offset-from.result) = omega (arith, ints) in
    let e1 : c.args.column.y1 ≡ pos (g.bottom + c.offset-to.result) = omega (arith, ints) in
    record {
      run = record { order = omega (arith, ints); inside = omega (arith, ints); few = search rules };
      left = refl;
      bottom = refl;
      width = refl;
      top = omega (arith, ints);
      only = record {
        left = omega (arith, ints);
        right = omega (arith, ints);
        low = omega (arith, ints);
        order = omega (arith, ints);
        high = omega (arith, ints);
        exact = λ x y a b d u. o.exact x y a b d u ∙ (λ i. int_eq x (ex i) && (int_le (e0 i) y && int_lt y (e1 i)));
      };
    }

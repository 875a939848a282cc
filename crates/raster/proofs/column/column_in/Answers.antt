use Rattle.std.proofs.Common.{refl, rules, arith, to_z-of_z, w32, FitsSigned}
use Rattle.std.proofs.lemmas.Int.{ints}
use Rattle.raster.proofs.column.column_in.Goals as goal

pub returns : goal.returns
returns c =
    let p = c.args.part in
    let f : FitsSigned w32 p.x0 = search rules in
    let g : FitsSigned w32 p.y0 = search rules in
    let h : FitsSigned w32 p.y1 = search rules in
    let k : FitsSigned w32 c.args.rect.y0 = search rules in
    let m : FitsSigned w32 c.max-y0.result = record { sfits = c.max-y0.type_inv } in
    let e = simp (to_z-of_z g, to_z-of_z k) at c.max-y0.ensures.value in
    rw (to_z-of_z f, to_z-of_z h, to_z-of_z m) (record {
      one = c.if-not-is_column.ensures.one refl;
      column = refl;
      low = e;
      some = omega (arith, ints);
      high = refl;
    })

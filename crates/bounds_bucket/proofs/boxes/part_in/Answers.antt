use Rattle.std.proofs.Common.{◌≡◌, ◌+ℤ◌, ◌&&◌, rules, w32, to_z, of_z}
use Rattle.std.specs.Prelude.{int_le, int_lt}
use Rattle.rc_base.specs.Numbers.{entry}
use Rattle.bounds_bucket.proofs.Cutting.{part_is}
use Rattle.bounds_bucket.proofs.boxes.part_in.Goals as goal

pub returns : goal.returns
returns c =
    let ax : to_z w32 (of_z w32 (entry c.args.area 0)) ≡ entry c.args.area 0 = search rules in
    let ay : to_z w32 (of_z w32 (entry c.args.area 1)) ≡ entry c.args.area 1 = search rules in
    let aw : to_z w32 (of_z w32 (entry c.args.area 2)) ≡ entry c.args.area 2 = search rules in
    let ah : to_z w32 (of_z w32 (entry c.args.area 3)) ≡ entry c.args.area 3 = search rules in
    rw c.rect_of.ensures
    (part_is c.args.rect (record { x0 = c.cut.result.from; y0 = c.cut-2.result.from; x1 = c.cut.result.end; y1 = c.cut-2.result.end })
    (λ p. int_le (entry c.args.area 0) p && int_lt p (entry c.args.area 0 +ℤ entry c.args.area 2))
    (λ p. int_le (entry c.args.area 1) p && int_lt p (entry c.args.area 1 +ℤ entry c.args.area 3))
    (simp (c.columns_of.ensures, ax, aw) at c.cut.ensures) (simp (c.rows_of.ensures, ay, ah) at c.cut-2.ensures))

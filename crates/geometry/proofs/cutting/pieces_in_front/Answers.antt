use Rattle.std.proofs.Common.{◌≡◌, true, false, rules, refl}
use Rattle.rc_base.specs.Drawing.Pieces.{is_in_front}
use Rattle.rc_base.proofs.Polygons.{front_all, front_ab, front_ac, front_a, front_bc, front_b, front_c, front_none}
use Rattle.geometry.proofs.cutting.pieces_in_front.Goals as goal

pub returns-in-true-true-true : goal.returns-in-true-true-true
returns-in-true-true-true c =
    let f : is_in_front c.args.a.now ≡ true = search rules in
    let g : is_in_front c.args.b.now ≡ true = search rules in
    let h : is_in_front c.args.c.now ≡ true = search rules in
    let e = front_all c.args.a.now c.args.b.now c.args.c.now f g h in
    rw e c.one.ensures

pub returns-in-true-true-false : goal.returns-in-true-true-false
returns-in-true-true-false c =
    let f : is_in_front c.args.a.now ≡ true = search rules in
    let g : is_in_front c.args.b.now ≡ true = search rules in
    let h : is_in_front c.args.c.now ≡ false = search rules in
    let e = front_ab c.args.a.now c.args.b.now c.args.c.now f g h in
    rw e (rw (c.crossing_point.ensures, c.crossing_point-in-true-true-false.ensures) at c.two.ensures)

pub returns-in-true-false-true : goal.returns-in-true-false-true
returns-in-true-false-true c =
    let f : is_in_front c.args.a.now ≡ true = search rules in
    let g : is_in_front c.args.b.now ≡ false = search rules in
    let h : is_in_front c.args.c.now ≡ true = search rules in
    let e = front_ac c.args.a.now c.args.b.now c.args.c.now f g h in
    rw e (rw (c.crossing_point-in-true-false-true.ensures, c.crossing_point-in-true-false-true-2.ensures) at c.two-in-true-false-true.ensures)

pub returns-in-true-false-false : goal.returns-in-true-false-false
returns-in-true-false-false c =
    let f : is_in_front c.args.a.now ≡ true = search rules in
    let g : is_in_front c.args.b.now ≡ false = search rules in
    let h : is_in_front c.args.c.now ≡ false = search rules in
    let e = front_a c.args.a.now c.args.b.now c.args.c.now f g h in
    rw e (rw (c.crossing_point-in-true-false-false.ensures, c.crossing_point-in-true-false-false-2.ensures) at c.one-in-true-false-false.ensures)

pub returns-in-false-true-true : goal.returns-in-false-true-true
returns-in-false-true-true c =
    let f : is_in_front c.args.a.now ≡ false = search rules in
    let g : is_in_front c.args.b.now ≡ true = search rules in
    let h : is_in_front c.args.c.now ≡ true = search rules in
    let e = front_bc c.args.a.now c.args.b.now c.args.c.now f g h in
    rw e (rw (c.crossing_point-in-false-true-true.ensures, c.crossing_point-in-false-true-true-2.ensures) at c.two-in-false-true-true.ensures)

pub returns-in-false-true-false : goal.returns-in-false-true-false
returns-in-false-true-false c =
    let f : is_in_front c.args.a.now ≡ false = search rules in
    let g : is_in_front c.args.b.now ≡ true = search rules in
    let h : is_in_front c.args.c.now ≡ false = search rules in
    let e = front_b c.args.a.now c.args.b.now c.args.c.now f g h in
    rw e (rw (c.crossing_point-in-false-true-false.ensures, c.crossing_point-in-false-true-false-2.ensures) at c.one-in-false-true-false.ensures)

pub returns-in-false-false-true : goal.returns-in-false-false-true
returns-in-false-false-true c =
    let f : is_in_front c.args.a.now ≡ false = search rules in
    let g : is_in_front c.args.b.now ≡ false = search rules in
    let h : is_in_front c.args.c.now ≡ true = search rules in
    let e = front_c c.args.a.now c.args.b.now c.args.c.now f g h in
    rw e (rw (c.crossing_point-in-false-false-true.ensures, c.crossing_point-in-false-false-true-2.ensures) at c.one-in-false-false-true.ensures)

pub returns-in-false-false-false : goal.returns-in-false-false-false
returns-in-false-false-false c =
    let f : is_in_front c.args.a.now ≡ false = search rules in
    let g : is_in_front c.args.b.now ≡ false = search rules in
    let h : is_in_front c.args.c.now ≡ false = search rules in
    rw (front_none c.args.a.now c.args.b.now c.args.c.now f g h) (record { first = refl; second = refl; all = refl })

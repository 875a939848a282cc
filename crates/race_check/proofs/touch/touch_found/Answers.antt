use Rattle.std.proofs.Common.{◌≡◌, ◌||◌, ◌∷◌, [], Bool, true, false, refl, rules}
use Rattle.race_check.specs.Touches.{triangle_has, triangles_have}
use Rattle.race_check.proofs.TouchesInTurn.{touch_none, touch_as}
use Rattle.race_check.proofs.touch.touch_found.Goals as goal

or_false : (b : Bool) → (b || false) ≡ b
or_false true = refl
or_false false = refl

pub returns-in-Some : goal.returns-in-Some
returns-in-Some c = record {
  size = search rules;
  touched =
      let v = c.in-Some.t.v in
      rw c.in-Some.is
      (touch_as (triangle_has v c.args.part) (triangles_have (v ∷ []) c.args.part) c.args.visit.now c.args.pixels.now.cells.items c.touch_triangle.new.pixels.cells.items c.args.seen c.touch_triangle.result
      c.touch_triangle.ensures.touched (λ x y lx ly. or_false (triangle_has v c.args.part x y)));
}

pub returns-in-None : goal.returns-in-None
returns-in-None c = record {
  size = search rules;
  touched =
      rw c.in-None.is (touch_none c.args.visit.now c.args.pixels.now.cells.items c.args.seen);
}

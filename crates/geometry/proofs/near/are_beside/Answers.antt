use Rattle.std.proofs.Common.{◌≡◌, inl, inr, arith, w32, w64, to_z, of_z}
use Rattle.std.proofs.lemmas.Int.{ints}
use Rattle.geometry.proofs.near.are_beside.Goals as goal

pub returns-then-are_outside : goal.returns-then-are_outside
returns-then-are_outside c e =
    let ax : to_z w32 (of_z w32 c.args.a.now.x) ≡ c.args.a.now.x = omega (arith, ints) in
    let bx : to_z w32 (of_z w32 c.args.b.now.x) ≡ c.args.b.now.x = omega (arith, ints) in
    let cx : to_z w32 (of_z w32 c.args.c.now.x) ≡ c.args.c.now.x = omega (arith, ints) in
    let low : to_z w64 (of_z w64 c.args.near.now.left) ≡ c.args.near.now.left = omega (arith, ints) in
    let high : to_z w64 (of_z w64 c.args.near.now.right) ≡ c.args.near.now.right = omega (arith, ints) in
    inl (rw (ax, bx, cx, low, high) at c.are_outside.ensures e)

pub returns-else-are_outside : goal.returns-else-are_outside
returns-else-are_outside c e =
    let ay : to_z w32 (of_z w32 c.args.a.now.y) ≡ c.args.a.now.y = omega (arith, ints) in
    let by : to_z w32 (of_z w32 c.args.b.now.y) ≡ c.args.b.now.y = omega (arith, ints) in
    let cy : to_z w32 (of_z w32 c.args.c.now.y) ≡ c.args.c.now.y = omega (arith, ints) in
    let low : to_z w64 (of_z w64 c.args.near.now.bottom) ≡ c.args.near.now.bottom = omega (arith, ints) in
    let high : to_z w64 (of_z w64 c.args.near.now.top) ≡ c.args.near.now.top = omega (arith, ints) in
    inr (rw (ay, by, cy, low, high) at c.are_outside-else-are_outside.ensures e)

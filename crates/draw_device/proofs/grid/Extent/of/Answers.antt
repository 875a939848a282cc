use Rattle.std.proofs.Common.{◌≡◌, ◌+◌, pos, arith}
use Rattle.std.proofs.lemmas.Int.{ints}
use Rattle.draw_device.proofs.grid.Extent.of.Goals as goal

pub returns-clause-rect : goal.returns-clause-rect
returns-clause-rect c =
    let r = c.args.rect in
    let left = c.side.result in
    let bottom = c.side-2.result in
    let x0 : pos left ≡ r.x0 = omega (arith, ints) in
    let y0 : pos bottom ≡ r.y0 = omega (arith, ints) in
    let x1 : pos (left + c.side-3.result) ≡ r.x1 = omega (arith, ints) in
    let y1 : pos (bottom + c.side-4.result) ≡ r.y1 = omega (arith, ints) in
    λ i. record { x0 = x0 i; y0 = y0 i; x1 = x1 i; y1 = y1 i }

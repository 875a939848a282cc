use Rattle.std.proofs.Common.{◌≡◌, arith, w32, to_z, of_z, to_z-of_z, FitsSigned}
use Rattle.std.proofs.lemmas.Int.{ints}
use Rattle.bounds_bucket.proofs.Cutting.{between_is}
use Rattle.bounds_bucket.proofs.boxes.between.Goals as goal

pub returns : goal.returns
returns c =
    let from : to_z w32 (of_z w32 c.args.range.from) ≡ c.args.range.from = omega (arith, ints) in
    let end : to_z w32 (of_z w32 c.args.range.end) ≡ c.args.range.end = omega (arith, ints) in
    let least : to_z w32 (of_z w32 c.args.ends.least) ≡ c.args.ends.least = omega (arith, ints) in
    let greatest : to_z w32 (of_z w32 c.args.ends.greatest) ≡ c.args.ends.greatest = omega (arith, ints) in
    let first : FitsSigned w32 c.first_from.result = record { sfits = c.first_from.type_inv } in
    let last : FitsSigned w32 c.end_after.result = record { sfits = c.end_after.type_inv } in
    let larger : FitsSigned w32 c.larger.result = record { sfits = c.larger.type_inv } in
    let smaller : FitsSigned w32 c.smaller.result = record { sfits = c.smaller.type_inv } in
    rw (to_z-of_z larger, to_z-of_z smaller)
    (between_is c.args.range c.args.ends c.first_from.result c.end_after.result c.larger.result c.smaller.result
    (simp least at c.first_from.ensures.above) (simp least at c.first_from.ensures.below)
    (simp greatest at c.end_after.ensures.below) (simp greatest at c.end_after.ensures.above)
    (simp (from, to_z-of_z first) at c.larger.ensures) (simp (end, to_z-of_z last) at c.smaller.ensures))

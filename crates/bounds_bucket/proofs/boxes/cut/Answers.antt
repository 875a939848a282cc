use Rattle.std.proofs.Common.{◌≡◌, ◌∙◌, ℤ, ◌+ℤ◌, ◌&&◌, ap, arith, w32, w64, to_z, of_z, to_z-of_z, FitsSigned}
use Rattle.std.proofs.lemmas.Int.{ints}
use Rattle.std.specs.Prelude.{int_lt}
use Rattle.bounds_bucket.specs.Ranges.{is_among}
use Rattle.bounds_bucket.proofs.Cutting.{cut_is}
use Rattle.bounds_bucket.proofs.boxes.cut.Goals as goal

pub returns : goal.returns
returns c =
    let from : to_z w32 (of_z w32 c.args.range.from) ≡ c.args.range.from = omega (arith, ints) in
    let low = to_z-of_z c.ranges.low in
    let size = to_z-of_z c.ranges.size in
    let end : FitsSigned w64 c.sum.result = record { sfits = c.sum.type_inv } in
    let whole : c.sum.result ≡ (c.args.low +ℤ c.args.size) = simp (low, size) at c.sum.ensures in
    let larger : FitsSigned w32 c.larger.result = record { sfits = c.larger.type_inv } in
    let cut : FitsSigned w32 c.cut_end.result = record { sfits = c.cut_end.type_inv } in
    let exact = λ (p : ℤ). c.cut_end.ensures p ∙ ap (λ (z : ℤ). is_among c.args.range p && int_lt p z) (to_z-of_z end ∙ whole) in
    rw (to_z-of_z larger, to_z-of_z cut)
    (cut_is c.args.range c.args.low (c.args.low +ℤ c.args.size) c.larger.result c.cut_end.result (simp (from, low) at c.larger.ensures)
    exact)

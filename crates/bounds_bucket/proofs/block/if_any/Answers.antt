use Rattle.std.proofs.Common.{◌≡◌, arith, w32, to_z, of_z}
use Rattle.std.proofs.lemmas.Int.{ints}
use Rattle.plain_lemmas.proofs.Numbers.{from_int_le, from_int_le_false}
use Rattle.bounds_bucket.proofs.Grown.{spans_none, spans_some}
use Rattle.bounds_bucket.proofs.block.if_any.Goals as goal

pub returns-then-extent : goal.returns-then-extent
returns-then-extent c corners h =
    let e = c.args.extent.across in
    let l : to_z w32 (of_z w32 c.args.extent.across.least) ≡ c.args.extent.across.least = omega (arith, ints) in
    let g : to_z w32 (of_z w32 c.args.extent.across.greatest) ≡ c.args.extent.across.greatest = omega (arith, ints) in
    spans_some corners c.args.extent (from_int_le e.least e.greatest (simp (l, g) at c.if-extent.true)) h

pub returns-else-extent : goal.returns-else-extent
returns-else-extent c corners h =
    let e = c.args.extent.across in
    let l : to_z w32 (of_z w32 c.args.extent.across.least) ≡ c.args.extent.across.least = omega (arith, ints) in
    let g : to_z w32 (of_z w32 c.args.extent.across.greatest) ≡ c.args.extent.across.greatest = omega (arith, ints) in
    let past = from_int_le_false e.least e.greatest (simp (l, g) at c.if-extent.false) in
    spans_none corners c.args.extent (λ order. omega (arith, ints, order, past)) h

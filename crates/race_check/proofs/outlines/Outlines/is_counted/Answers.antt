use Rattle.std.proofs.Common.{inl, inr, arith}
use Rattle.race_check.proofs.outlines.Outlines.is_counted.Goals as goal

pub returns : goal.returns
returns c t =
    let either = c.is_either_counted.ensures c.if-not-is_either_counted.false in
    let written = c.is_counted.ensures c.if-not-is_counted.false in
    let read = c.is_counted-2.ensures c.if-not-is_counted-2.false in
    let sampled = c.is_counted-3.ensures t in
    record {
      pixels = λ d lt. elim (either d lt) [
        | inl h ↦ inl (λ i k. omega (arith, h, c.greatest-rows.ensures d lt i k))
        | inr h ↦ inr (λ i k. omega (arith, h, c.greatest-columns.ensures d lt i k))
      ];
      written = λ d lt. (λ i k. omega (arith, written d lt, c.greatest-written.ensures d lt i k), λ i k. omega (arith, read d lt, c.greatest-read.ensures d lt i k));
      sampled = λ d lt i k. omega (arith, sampled d lt, c.greatest-sampled.ensures d lt i k);
    }

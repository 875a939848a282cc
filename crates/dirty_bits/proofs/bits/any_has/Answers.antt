use Rattle.std.proofs.Common.{arith, sym, ap, ◌∙◌}
use Rattle.std.specs.Prelude.{ℕ}
use Rattle.plain_lemmas.proofs.Ranges.{any_in_range}
use Rattle.dirty_bits.specs.Bits.{is_dirty}
use Rattle.dirty_bits.proofs.bits.any_has.Goals as goal

pub returns-then-has : goal.returns-then-has
returns-then-has c =
    sym (any_in_range (λ e. is_dirty c.args.words.now e c.args.server) c.args.start _ c.loop-place.place c.loop-place.invariant.low (omega arith)
    (ap (λ (k : ℕ). is_dirty c.args.words.now k c.args.server) (sym c.from.ensures) ∙ sym c.has.ensures ∙ c.if-has.true))

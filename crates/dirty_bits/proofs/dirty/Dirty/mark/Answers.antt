use Rattle.std.proofs.Common.{◌==◌, ◌||◌, ℕ, arith, ap, ◌∙◌}
use Rattle.dirty_bits.specs.Bits.{is_dirty}
use Rattle.dirty_bits.proofs.Levels.{marked_hierarchy, marked_is}
use Rattle.dirty_bits.proofs.dirty.Dirty.mark.Goals as goal

pub invariant_of-self : goal.invariant_of-self
invariant_of-self c =
    let e = c.from.ensures in
    let g = c.from-2.ensures in
    marked_hierarchy c.self.inside.elements c.self.inside.groups c.self.inside.top c.from.result c.from-2.result c.self.told.0 c.self.told.1
    (record {
      group = omega (arith, g, c.group_of.ensures.group);
      low = rw g (omega (arith, e, c.group_of.ensures.low));
      high = rw g (omega (arith, e, c.group_of.ensures.high));
    })
    c.self.invariant

pub returns-clause-marked : goal.returns-clause-marked
returns-clause-marked c = λ e server low.
    let same = c.from.ensures in
    marked_is c.self.inside.elements c.from.result e server (omega (arith, same, c.self.told.0, c.requires)) low
    ∙ ap (λ (k : ℕ). (e == k) || is_dirty c.self.inside.elements e server) same
    ∙ ap (λ words. (e == c.args.element) || is_dirty words e server) c.self.view_is

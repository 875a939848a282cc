use Rattle.std.proofs.Common.{◌≡◌, ◌-◌, ◌==◌, ◌&&◌, not, ℕ, arith, sym, ap, ap₂, ◌∙◌}
use Rattle.std.specs.Prelude.{slice_index, slice_set}
use Rattle.std.specs.List.{range_with_len, list_any}
use Rattle.rc_base.specs.Contexts.Elements.{group_sizes}
use Rattle.dirty_bits.specs.Bits.{is_dirty}
use Rattle.element_table.specs.Groups.{group_start}
use Rattle.dirty_bits.proofs.Levels.{IsCleared, cleared_hierarchy, cleared_is, next_start}
use Rattle.dirty_bits.proofs.dirty.Dirty.clear.Goals as goal

is_cleared : (c : goal.After-self-1)
    → IsCleared c.self.inside.elements (slice_set c.self.inside.elements c.from-place.result c.without.result) c.from-place.result c.args.server
is_cleared c =
    let same = c.from-place.ensures in
    cleared_is c.self.inside.elements c.from-place.result c.args.server c.without.result (omega (arith, same, c.self.told.0, c.requires.element)) c.without.ensures

pub invariant_of-self : goal.invariant_of-self
invariant_of-self c =
    let e = c.from-place.ensures in
    let g = c.from-place-2.ensures in
    let new = slice_set c.self.inside.elements c.from-place.result c.without.result in
    let from : c.group_start.result ≡ group_start c.from-place-2.result = c.group_start.ensures.start ∙ ap group_start (sym g) in
    let next = next_start c.group_of-group.result c.group_of-group.ensures.group in
    let size : c.group_start-2.result - c.group_start.result ≡ slice_index group_sizes c.from-place-2.result =
    omega (arith, c.group_start.ensures.start, c.group_start-2.ensures.start, next) ∙ ap (slice_index group_sizes) (sym g) in
    cleared_hierarchy c.self.inside.elements new c.from-place.result c.args.server (is_cleared c)
    c.self.inside.groups c.self.inside.top c.from-place-2.result c.lowered.result c.lowered-self-inside.result
    c.any_has-stays.result c.any_has-stays-2.result c.requires.server c.self.told.1
    (record {
      group = omega (arith, g, c.group_of-group.ensures.group);
      low = rw g (omega (arith, e, c.group_of-group.ensures.low));
      high = rw g (omega (arith, e, c.group_of-group.ensures.high));
    })
    c.self.invariant
    (record { bits = c.lowered.ensures })
    (c.any_has-stays.ensures ∙ ap₂ (λ (a n : ℕ). list_any (λ k. is_dirty new k c.args.server) (range_with_len a n)) from size)
    (record { bits = c.lowered-self-inside.ensures })
    c.any_has-stays-2.ensures

pub returns-clause-cleared : goal.returns-clause-cleared
returns-clause-cleared c = λ e s low.
    (is_cleared c).bits e s low
    ∙ ap (λ (k : ℕ). is_dirty c.self.inside.elements e s && not (e == k && s == c.args.server)) c.from-place.ensures
    ∙ ap (λ words. is_dirty words e s && not (e == c.args.element && s == c.args.server)) c.self.view_is

use Rattle.std.proofs.Common.{◌≡◌, ◌++◌, ◌+◌, ◌-◌, ℕ, List, arith, sym, ap, ◌∙◌, true≢false}
use Rattle.std.specs.Prelude.{if◌then◌else◌, slice_index}
use Rattle.std.specs.List.{flat_map, range_with_len}
use Rattle.std.proofs.lemmas.List.{append-nil}
use Rattle.dirty_bits.specs.Bits.{is_dirty}
use Rattle.element_table.specs.Groups.{group_start}
use Rattle.dirty_bits.proofs.Levels.{group_within, next_start}
use Rattle.dirty_bits.proofs.Ranges.{none_at}
use Rattle.rc_base.specs.Contexts.Elements.{group_sizes}
use Rattle.rc_base.specs.declared.state.ElementSet.{ElementSet}
use Rattle.state_update.specs.Knowledge.{element_sets}
use Rattle.state_update.proofs.InTurn.{added, nothing_in, nothing_of}
use Rattle.state_update.proofs.examination.Examination.add_group.Goals as goal

pub returns-then-not-group_dirty-clause-added : goal.returns-then-not-group_dirty-clause-added
returns-then-not-group_dirty-clause-added c =
    let f = element_sets c.args.self.now.told.now c.args.self.now.context.now c.args.self.now.image in
    let a = group_start c.args.group in
    let n = slice_index group_sizes c.args.group in
    let most = group_within c.args.group c.requires.group in
    let clean = sym c.group_dirty.ensures.answer ∙ c.if-not-group_dirty.true in
    let none = nothing_of f a n (λ e from to.
    c.requires.sound.clean e (omega (arith, to, most)) (none_at (λ e. is_dirty c.args.self.now.dirty.now e c.args.self.now.tile) a n e clean from to)) in
    sym (ap (λ (l : List ElementSet). c.args.sets.now ++ l) none ∙ append-nil c.args.sets.now)

pub returns-in_err-add_element-clause-quiet : goal.returns-in_err-add_element-clause-quiet
returns-in_err-add_element-clause-quiet c = λ none.
    let f = element_sets c.args.self.now.told.now c.args.self.now.context.now c.args.self.now.image in
    let next = next_start c.args.group c.requires.group in
    let here = nothing_in f (group_start c.args.group) (slice_index group_sizes c.args.group) c.loop-element.element none
    c.loop-element.invariant.low (omega (arith, next, c.loop-element-test.true, c.group_start-element-end.ensures.start)) in
    absurd (true≢false (sym (c.in_err-add_element.ensures.quiet here)))

pub loop-element-preserved : goal.loop-element-preserved
loop-element-preserved c =
    let f = element_sets c.args.self.now.told.now c.args.self.now.context.now c.args.self.now.image in
    let low = c.loop-element.invariant.low in
    let looks = c.loop-element.invariant.looks in
    let looked = c.add_element.ensures.looked in
    record {
      low = omega (arith, low);
      sets =
          c.in_ok-add_element.ensures.added ∙ ap (λ (l : List ElementSet). l ++ f c.loop-element.element) c.loop-element.invariant.sets
          ∙ added f c.args.sets.now (group_start c.args.group) c.loop-element.element low;
      looks = omega (arith, low, looks, looked);
    }

size : (c : goal.After-loop-element) → c.loop-element.element - group_start c.args.group ≡ slice_index group_sizes c.args.group
size c =
    let next = next_start c.args.group c.requires.group in
    omega (arith, next, c.loop-element-test.false, c.loop-element.auto.element-end, c.group_start-element-end.ensures.start)

pub returns-clause-added : goal.returns-clause-added
returns-clause-added c =
    let f = element_sets c.args.self.now.told.now c.args.self.now.context.now c.args.self.now.image in
    c.loop-element.invariant.sets
    ∙ ap (λ (n : ℕ). c.args.sets.now ++ flat_map f (range_with_len (group_start c.args.group) n)) (size c)

pub returns-clause-looked : goal.returns-clause-looked
returns-clause-looked c =
    let dirty = sym c.group_dirty.ensures.answer ∙ c.if-not-group_dirty.false in
    c.loop-element.invariant.looks ∙ ap (λ (n : ℕ). c.args.looks.now + 1 + n)
    (size c ∙ sym (ap (λ b. if b then slice_index group_sizes c.args.group else 0) dirty))

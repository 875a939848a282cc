use Rattle.std.proofs.Common.{◌≡◌, ◌++◌, ℕ, List, arith, sym, ap, ◌∙◌, true≢false}
use Rattle.std.specs.Prelude.{slice_index}
use Rattle.std.specs.List.{flat_map, range_with_len}
use Rattle.element_table.specs.Groups.{group_start}
use Rattle.dirty_bits.proofs.Levels.{group_within, next_start}
use Rattle.rc_base.specs.Contexts.Elements.{element_count, group_sizes}
use Rattle.rc_base.specs.declared.state.ElementSet.{ElementSet}
use Rattle.state_update.specs.Knowledge.{element_sets}
use Rattle.state_update.proofs.ByElements.{sets_by_elements}
use Rattle.state_update.proofs.Clearing.{few_looks, looks_end, looks_next}
use Rattle.state_update.proofs.InTurn.{nothing_within, parts_added}
use Rattle.state_update.proofs.examination.Examination.sets.Goals as goal

pub returns-in_err-add_group-clause-quiet : goal.returns-in_err-add_group-clause-quiet
returns-in_err-add_group-clause-quiet c = λ none.
    let f = element_sets c.args.self.now.told.now c.args.self.now.context.now c.args.self.now.image in
    let most = group_within c.loop-group.group c.loop-group-test.true in
    let here = nothing_within f 0 element_count (group_start c.loop-group.group) (slice_index group_sizes c.loop-group.group)
    (sym (sets_by_elements c.args.self.now.told.now c.args.self.now.context.now c.args.self.now.image c.requires.sound.named) ∙ none) (omega arith) (omega (arith, most)) in
    absurd (true≢false (sym (c.in_err-add_group.ensures.quiet here)))

pub loop-group-preserved : goal.loop-group-preserved
loop-group-preserved c =
    let f = element_sets c.args.self.now.told.now c.args.self.now.context.now c.args.self.now.image in
    let g = c.loop-group.group in
    let next = next_start g c.loop-group-test.true in
    let more = looks_next c.args.self.now.dirty.now c.args.self.now.tile g c.loop-group-test.true in
    let most = few_looks c.args.self.now.dirty.now c.args.self.now.tile g in
    let looks = c.loop-group.invariant.looks in
    let few = c.loop-group.invariant.few in
    let looked = c.in_ok-add_group.ensures.looked in
    record {
      sets =
          c.in_ok-add_group.ensures.added
          ∙ ap (λ (l : List ElementSet). l ++ flat_map f (range_with_len (group_start g) (slice_index group_sizes g))) c.loop-group.invariant.sets
          ∙ parts_added f (group_start g) (slice_index group_sizes g)
          ∙ ap (λ (n : ℕ). flat_map f (range_with_len 0 n)) (sym next);
      looks = omega (arith, more, looks, looked);
      risen = (let r = c.loop-group.invariant.risen in let s = c.add_group.ensures.risen in omega (arith, r, s));
      few = omega (arith, most, few, looked);
    }

last : (c : goal.After-loop-group) → c.loop-group.group ≡ 9
last c = omega (arith, c.loop-group-test.false, c.loop-group.auto.group-end)

pub returns-clause-sets : goal.returns-clause-sets
returns-clause-sets c =
    let f = element_sets c.args.self.now.told.now c.args.self.now.context.now c.args.self.now.image in
    c.loop-group.invariant.sets ∙ ap (λ (n : ℕ). flat_map f (range_with_len 0 (group_start n))) (last c)
    ∙ sym (sets_by_elements c.args.self.now.told.now c.args.self.now.context.now c.args.self.now.image c.requires.sound.named)

pub returns-clause-looked : goal.returns-clause-looked
returns-clause-looked c =
    let none = looks_end c.args.self.now.dirty.now c.args.self.now.tile c.loop-group.group (last c) in
    let looks = c.loop-group.invariant.looks in
    let all = last c in
    omega (arith, none, looks, all)

use Rattle.std.proofs.Common.{◌≡◌, ◌<◌, ◌≤◌, ℕ, List, Option, map, length, ap, sym, refl, ◌∙◌, subst, arith}
use Rattle.std.specs.Prelude.{string_bytes, IfSome}
use Rattle.std.specs.declared.string.String.{String}
use Rattle.std.specs.Global.{Global}
use Rattle.rc_base.specs.Outside.Ends.{Used}
use Rattle.spu_chain.specs.declared.rule.SpuRule.{SpuRule}
use Rattle.render_main.specs.Members.{AreLeft}
use Rattle.std.proofs.lemmas.List.{take_all}
use Rattle.std.proofs.lemmas.Option.{IfSome_then}
use Rattle.spu_chain.specs.declared.rule.SpuRule.TheVariants.{Recolour, Drop, Count}
use Rattle.command_line.specs.Filters.{AreNamed}
use Rattle.run_words.specs.Jobs.{AskFiltered}
use Rattle.render_core.specs.Outcomes.{LeavesMembers}
use denote.Param.Object.{read_made}
use Rattle.render_main.proofs.Boxes.{pushed}
use Rattle.render_main.proofs.filtered.run_with_filters.OwnLists as lists
use Rattle.render_main.proofs.filtered.run_with_filters.Goals.{in-Recolour+in_ok-new-in-Recolour+in_ok-push-in-Recolour, in-Cull+in_ok-new-in-Cull+in_ok-push-in-Cull, in-Drop+in_ok-new-in-Drop+in_ok-push-in-Drop, in-Count+in_ok-new-in-Count+in_ok-push-in-Count}
use Rattle.render_main.proofs.filtered.run_with_filters.Goals as goal

-- the rules that members were left with are told
told : (r : Option (List SpuRule)) (words : List (String Global)) (source : Used) (status : ℕ) (before after : List SpuRule)
    → AreNamed (map string_bytes words) before → LeavesMembers (AskFiltered words) source status before after → IfSome r (λ left. left ≡ after)
    → IfSome r (AreLeft words source status)
told r words source status before after named leaves is =
    IfSome_then r {Q = AreLeft words source status} is
    (λ left same. record {
      rules = before;
      named = named;
      leaves = subst (λ l. LeavesMembers (AskFiltered words) source status before l) (sym same) leaves;
    })

pub loop-rule-preserved : goal.loop-rule-preserved
loop-rule-preserved g c =
    let inside : c.loop-rule.rule-index < length c.as_slice-rule-items.result.now = c.loop-rule-test.true in
    elim c.match-rule.branch [
      | in-Recolour+in_ok-new-in-Recolour+in_ok-push-in-Recolour w ↦
          pushed _ _ _ w.into_dyn_box.result _ _ _ _ c.loop-rule.invariant (ap (λ v. v.items) w.chain-is ∙ w.in_ok-push-in-Recolour.ensures.items) inside
          w.in-Recolour.is
          (read_made lists.own-1 ((lists.own-1).entry lists.at-1-1) lists.at-1-1 refl _ (λ j v. j.1.meaning v) w.into_dyn_box.result.vtable w.into_dyn_box.result.value _ w.into_dyn_box.ensures.1 ∙ ap Recolour (ap (λ s. s.tint) w.in_ok-new-in-Recolour.ensures.ok)
          ∙ w.new.ensures)
      | in-Cull+in_ok-new-in-Cull+in_ok-push-in-Cull w ↦
          pushed _ _ _ w.into_dyn_box-in_ok-new-in-Cull.result _ _ _ _ c.loop-rule.invariant (ap (λ v. v.items) w.chain-is ∙ w.in_ok-push-in-Cull.ensures.items) inside
          w.in-Cull.is
          (read_made lists.own-1 ((lists.own-1).entry lists.at-1-2) lists.at-1-2 refl _ (λ j v. j.1.meaning v) w.into_dyn_box-in_ok-new-in-Cull.result.vtable w.into_dyn_box-in_ok-new-in-Cull.result.value _ w.into_dyn_box-in_ok-new-in-Cull.ensures.1)
      | in-Drop+in_ok-new-in-Drop+in_ok-push-in-Drop w ↦
          pushed _ _ _ w.into_dyn_box-in_ok-new-in-Drop.result _ _ _ _ c.loop-rule.invariant (ap (λ v. v.items) w.chain-is ∙ w.in_ok-push-in-Drop.ensures.items) inside
          w.in-Drop.is
          (read_made lists.own-1 ((lists.own-1).entry lists.at-1-3) lists.at-1-3 refl _ (λ j v. j.1.meaning v) w.into_dyn_box-in_ok-new-in-Drop.result.vtable w.into_dyn_box-in_ok-new-in-Drop.result.value _ w.into_dyn_box-in_ok-new-in-Drop.ensures.1
          ∙ ap Drop (ap (λ s. s.opcode) w.in_ok-new-in-Drop.ensures.ok) ∙ w.new-in-Drop.ensures)
      | in-Count+in_ok-new-in-Count+in_ok-push-in-Count w ↦
          pushed _ _ _ w.into_dyn_box-in_ok-new-in-Count.result _ _ _ _ c.loop-rule.invariant (ap (λ v. v.items) w.chain-is ∙ w.in_ok-push-in-Count.ensures.items) inside
          w.in-Count.is
          (read_made lists.own-1 ((lists.own-1).entry lists.at-1-4) lists.at-1-4 refl _ (λ j v. j.1.meaning v) w.into_dyn_box-in_ok-new-in-Count.result.vtable w.into_dyn_box-in_ok-new-in-Count.result.value _ w.into_dyn_box-in_ok-new-in-Count.ensures.1
          ∙ ap Count (ap (λ s. s.count) w.in_ok-new-in-Count.ensures.ok) ∙ w.new-in-Count.ensures)
    ]

pub run_filtered-finish-requires-clause-named : goal.run_filtered-finish-requires-clause-named
run_filtered-finish-requires-clause-named g c κs within =
    let past : length c.as_slice-rule-items.result.now ≤ c.loop-rule.rule-index = omega (arith, c.loop-rule-test.false) in
    subst (AreNamed (map string_bytes c.args.words.now))
    (sym (c.loop-rule.invariant ∙ take_all c.loop-rule.rule-index c.as_slice-rule-items.result.now past ∙ c.as_slice-rule-items.ensures))
    c.in_ok-rules.ensures

pub returns-clause-members : goal.returns-clause-members
returns-clause-members g c =
    let past : length c.as_slice-rule-items.result.now ≤ c.loop-rule.rule-index = omega (arith, c.loop-rule-test.false) in
    told _ _ _ _ _ _
    (subst (AreNamed (map string_bytes c.args.words.now))
    (sym (c.loop-rule.invariant ∙ take_all c.loop-rule.rule-index c.as_slice-rule-items.result.now past ∙ c.as_slice-rule-items.ensures))
    c.in_ok-rules.ensures)
    c.run_filtered-finish.ensures.members c.told_rules-left.ensures

use Rattle.std.proofs.Common.{◌≡◌, true, [], ◌∷◌, sym, ap, ◌∙◌, subst, List, arith}
use Rattle.std.specs.List.{list_all}
use Rattle.std.specs.Vec.Iter.{into_iter_items}
use Rattle.std.proofs.lemmas.Bool.{and_parts}
use Rattle.std.proofs.lemmas.Grind.{common_steps}
use Rattle.rc_base.specs.declared.scene.Decl.{Decl}
use Rattle.rc_base.specs.declared.state.ElementSet.{ElementSet}
use Rattle.tile_model.specs.Boards.{HasSets}
use Rattle.tile_server.specs.Kepts.{kept_of, is_set_value}
use Rattle.tile_server.proofs.MadeSets.{first_and_rest, fit_set, no_sets}
use Rattle.tile_server.proofs.kept.KeptClient.apply_all.Goals as goal

-- the first of the sets and the rest are values
parted : (d : Decl) (left rest : List ElementSet) (x : ElementSet) → left ≡ x ∷ rest → list_all (is_set_value d) left ≡ true
    → (is_set_value d x ≡ true) × (list_all (is_set_value d) rest ≡ true)
parted d left rest x is all = and_parts (is_set_value d x) (list_all (is_set_value d) rest) (sym (ap (list_all (is_set_value d)) is) ∙ all)

pub apply-requires : goal.apply-requires
apply-requires c = record {
  decl = c.requires.decl;
  is = (parted c.requires.decl (into_iter_items c.loop-set.set-iterator) (into_iter_items c.next.new.self) c.in-Some.set c.in-Some.ensures.steps.0
      (c.loop-set.invariant.values c.requires.decl c.requires.are)).0;
}

pub loop-set-init : goal.loop-set-init
loop-set-init c =
    let all = c.into_iter-set-iterator.ensures.into_iter_gives.0 ∙ c.into_vec-set-items.ensures in
    record {
      values = λ d given. subst (λ (l : List ElementSet). list_all (is_set_value d) l ≡ true) (sym all) given;
      completes = λ k had. subst (λ (l : List ElementSet). HasSets l (kept_of c.args.self.now) k) all had;
      fit = λ d given first. first;
    }

pub loop-set-preserved : goal.loop-set-preserved
loop-set-preserved c =
    let was = c.loop-set.invariant in
    let left = into_iter_items c.loop-set.set-iterator in
    let rest = into_iter_items c.next.new.self in
    let x = c.in-Some.set in
    let before = kept_of c.loop-set.self in
    let now = kept_of c.apply.new.self in
    let is : left ≡ x ∷ rest = c.in-Some.ensures.steps.0 in
    record {
      values = λ d given. (parted d left rest x is (was.values d given)).1;
      completes = λ k had. was.completes k (subst (λ (l : List ElementSet). HasSets l before k) (sym is) (first_and_rest x rest before now k c.apply.ensures had));
      fit = λ d given first. fit_set d x before now (parted d left rest x is (was.values d given)).0 c.apply.ensures (was.fit d given first);
    }

pub returns-clause-made : goal.returns-clause-made
returns-clause-made c =
    let none : into_iter_items c.loop-set.set-iterator ≡ [] = let s = c.in-None.ensures.steps in grind (arith, common_steps) in
    c.loop-set.invariant.completes (kept_of c.loop-set.self)
    (subst (λ (l : List ElementSet). HasSets l (kept_of c.loop-set.self) (kept_of c.loop-set.self)) (sym none) (no_sets (kept_of c.loop-set.self)))

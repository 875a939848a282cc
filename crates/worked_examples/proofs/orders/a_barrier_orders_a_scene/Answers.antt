use Rattle.worked_examples.proofs.orders.a_barrier_orders_a_scene.Goals as goal
use Rattle.std.proofs.Common.{◌≡◌, ◌≢◌, ◌<◌, ◌==◌, ◌&&◌, ◌||◌, true, false, List, [], ◌∷◌, ◌⊎◌, inl, inr, refl, sym, ap, ◌∙◌, subst, arith, true≢false, eqb-true}
use Rattle.std.proofs.Math.Seq.{drop-nil}
use Rattle.std.proofs.lemmas.Bool.{cases_Bool, and_parts}
use Rattle.rc_base.specs.Lists.{Stands}
use Rattle.rc_base.specs.Orders.Journal.{start}
use Rattle.rc_base.specs.Orders.Order.{Overlaps, IsPermitted, entry_at}
use Rattle.rc_base.specs.Orders.Order.Precedes.{Parted}
use Rattle.rc_base.specs.Orders.Sync.{units_of}
use Rattle.rc_base.specs.declared.sync.Entry.{Entry}
use Rattle.rc_base.specs.declared.sync.Entry.TheVariants.{Meet}
use Rattle.rc_base.specs.declared.sync.Name.{Name}
use Rattle.worked_examples.specs.Orders.{meeting, parted, zero_first, one_first, name}
use Rattle.order_model.proofs.StandsInLists.{not_both}
use Rattle.worked_examples.proofs.PermittedByTests.{two_permitted}

abbrev journal : List Entry
journal = Meet 1 3 ∷ []

pub returns-clause-one : goal.returns-clause-one
returns-clause-one c = two_permitted meeting journal zero_first 3 3 refl refl refl refl (λ k. rw (drop-nil (units_of meeting k)) tt) refl

pub returns-clause-other : goal.returns-clause-other
returns-clause-other c = two_permitted meeting journal one_first 3 3 refl refl refl refl (λ k. rw (drop-nil (units_of meeting k)) tt) refl

pub returns-clause-conflict : goal.returns-clause-conflict
returns-clause-conflict c = record {
  clients = λ e. omega (arith, e);
  first = (let h : 0 < 3 = omega arith in h);
  second = (let h : 2 < 3 = omega arith in h);
  common = Overlaps.CommonPixel 0 refl refl;
}

pub returns-clause-either_way : goal.returns-clause-either_way
returns-clause-either_way c = record {
  clients = λ e. omega (arith, e);
  first = (let h : 0 < 3 = omega arith in h);
  second = (let h : 0 < 3 = omega arith in h);
  common = Overlaps.CommonPixel 0 refl refl;
}

-- in the other order 0:0 doesn't stand before 1:0
pub returns-clause-unordered : goal.returns-clause-unordered
returns-clause-unordered c ordered =
    let one = returns-clause-one c in
    let other = returns-clause-other c in
    not_both (name 0 0) (name 1 0) one_first other.once
    (ordered (name 0 0) (name 1 0) (returns-clause-either_way c) zero_first one_first one other (inl (refl, inl refl)))
    (inl (refl, inl refl))

-- the two names that draw
which_name : (n : Name) → ((n.client == 0 && n.place == 0) || (n.client == 1 && n.place == 2)) ≡ true → (n ≡ name 0 0) ⊎ (n ≡ name 1 2)
which_name n h = elim (cases_Bool (n.client == 0 && n.place == 0)) [
  | inl t ↦ let k = and_parts (n.client == 0) (n.place == 0) t in inl (λ i. record { client = eqb-true n.client 0 k.0 i; place = eqb-true n.place 0 k.1 i })
  | inr f ↦
      let h' : (false || (n.client == 1 && n.place == 2)) ≡ true = subst (λ b. (b || (n.client == 1 && n.place == 2)) ≡ true) f h in
      let k = and_parts (n.client == 1) (n.place == 2) h' in
      inr (λ i. record { client = eqb-true n.client 1 k.0 i; place = eqb-true n.place 2 k.1 i })
]

-- the barrier puts 0:0 before 1:2 in every permitted order
kept : (o : List Name) → IsPermitted meeting journal o → Stands (name 0 0) (name 1 2) o
kept o p =
    p.sequence (name 0 0) (name 1 2) ((p.names (name 0 0)).1 (let h : 0 < 3 = omega arith in h)) ((p.names (name 1 2)).1 (let h : 2 < 3 = omega arith in h))
    (Parted (entry_at meeting (start meeting) (Meet 1 3)) 1 1 (inl refl) refl refl (omega arith) (omega arith))

two_ordered : (a b : Name) → (a ≡ name 0 0) ⊎ (a ≡ name 1 2) → (b ≡ name 0 0) ⊎ (b ≡ name 1 2) → a.client ≢ b.client
    → (o o' : List Name) → IsPermitted meeting journal o → IsPermitted meeting journal o' → Stands a b o → Stands a b o'
two_ordered a b (inl e) (inl f) ne o o' p p' s = absurd (ne (ap (λ (n : Name). n.client) (e ∙ sym f)))
two_ordered a b (inl e) (inr f) ne o o' p p' s = subst (λ x. Stands x b o') (sym e) (subst (λ y. Stands (name 0 0) y o') (sym f) (kept o' p'))
two_ordered a b (inr e) (inl f) ne o o' p p' s =
    let s' : Stands (name 1 2) (name 0 0) o = subst (λ x. Stands x (name 0 0) o) e (subst (λ y. Stands a y o) f s) in
    absurd (not_both (name 0 0) (name 1 2) o p.once (kept o p) s')
two_ordered a b (inr e) (inr f) ne o o' p p' s = absurd (ne (ap (λ (n : Name). n.client) (e ∙ sym f)))

overlap_is : (a b : Name) → Overlaps parted a b → ((a ≡ name 0 0) ⊎ (a ≡ name 1 2)) × ((b ≡ name 0 0) ⊎ (b ≡ name 1 2))
overlap_is a b (Overlaps.CommonPixel p h k) = (which_name a h, which_name b k)
overlap_is a b (Overlaps.FirstWrites t h k) = absurd (true≢false (sym h))
overlap_is a b (Overlaps.SecondWrites t h k) = absurd (true≢false (sym h))

pub returns-clause-ordered : goal.returns-clause-ordered
returns-clause-ordered c a b conflict = let w = overlap_is a b conflict.common in two_ordered a b w.0 w.1 conflict.clients

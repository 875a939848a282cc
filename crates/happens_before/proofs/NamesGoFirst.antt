-- Permitted orders in which names have changed places: of two names, of which neither is before the other, either may stand first.
use Rattle.std.proofs.Common.{◌≡◌, ◌<◌, List, [], ◌∷◌, ◌++◌, ◌⊎◌, ◌↔◌, inl, inr, refl, sym, ap, subst, append_assoc}
use Rattle.rc_base.specs.Lists.{IsIn, Stands, NoRepeat}
use Rattle.rc_base.specs.Orders.Footprints.{footprint_of, IsOrderedScene}
use Rattle.rc_base.specs.Orders.Journal.{IsLegal, reach_of}
use Rattle.rc_base.specs.Orders.Order.{Footprint, Overlaps, Conflicts, Precedes, IsPermitted, IsOrdered, default_order}
use Rattle.rc_base.specs.Orders.Order.Overlaps.{CommonPixel, FirstWrites, SecondWrites}
use Rattle.rc_base.specs.Orders.Sync.{IsWellFormed, sync_lists_of}
use Rattle.rc_base.specs.declared.scene.Scene.{Scene}
use Rattle.rc_base.specs.declared.sync.Entry.{Entry}
use Rattle.rc_base.specs.declared.sync.Name.{Name}
use Rattle.rc_base.specs.declared.sync.SyncLists.{SyncLists}
use Rattle.order_model.proofs.DefaultOrderIsPermitted.{default_permitted}
use Rattle.order_model.proofs.StandsInLists.{first_in, second_in, not_both, either_first, stands_split, stands_right, in_append, in_left, in_less, in_more, take_out, no_repeat_less}
use Rattle.scene_lemmas.proofs.Numbered.{is_in_behind}
use Rattle.happens_before.specs.Before.{IsBefore, AreConflictsOrdered}
use Rattle.happens_before.specs.Before.IsBefore.{Next, Then}
use Rattle.happens_before.specs.Laws.{IsLinearExtension}
use Rattle.happens_before.proofs.BeforeStands.{before_stands}
use Rattle.happens_before.proofs.PrecedesIsDecided.{some_or_none, precedes_or_not}

pub linear_extensions : (syncs : SyncLists) (js : List Entry) (o : List Name) → IsPermitted syncs js o ↔ IsLinearExtension syncs js o
linear_extensions syncs js o = (
  λ p. record { names = p.names; once = p.once; sequence = before_stands syncs js o p },
  λ e. record { names = e.names; once = e.once; sequence = λ a b i j h. e.sequence a b (Next a b ((e.names a).0 i) ((e.names b).0 j) h) },
)

-- ---- an element goes in front of a part of a list

goes_in : {A : Type 0} (y n : A) (p q r : List A) → IsIn n (p ++ (q ++ y ∷ r)) → IsIn n (p ++ y ∷ (q ++ r))
goes_in y n [] q r i = in_less y n q r i
goes_in y n (x ∷ p) q r (inl e) = inl e
goes_in y n (x ∷ p) q r (inr i) = inr (goes_in y n p q r i)

comes_out : {A : Type 0} (y n : A) (p q r : List A) → IsIn n (p ++ y ∷ (q ++ r)) → IsIn n (p ++ (q ++ y ∷ r))
comes_out y n [] q r (inl e) = subst (λ m. IsIn m (q ++ y ∷ r)) e (is_in_behind y q (y ∷ r) (inl refl))
comes_out y n [] q r (inr i) = in_more y n q r i
comes_out y n (x ∷ p) q r (inl e) = inl e
comes_out y n (x ∷ p) q r (inr i) = inr (comes_out y n p q r i)

goes_once : {A : Type 0} (y : A) (p q r : List A) → NoRepeat (p ++ (q ++ y ∷ r)) → NoRepeat (p ++ y ∷ (q ++ r))
goes_once y [] q r n = no_repeat_less y q r n
goes_once y (x ∷ p) q r n = (λ i. n.0 (comes_out y x p q r i), goes_once y p q r n.1)

-- only what stands in that part changes places with it
goes_past : {A : Type 0} (y a b : A) (q r : List A) → Stands a b (q ++ y ∷ r) → Stands a b (y ∷ (q ++ r)) ⊎ (IsIn a q × (y ≡ b))
goes_past y a b [] r s = inl s
goes_past y a b (x ∷ q) r (inl h) = elim (in_less y b q r h.1) [ inl e ↦ inr (inl h.0, e) | inr i ↦ inl (inr (inl (h.0, i))) ]
goes_past y a b (x ∷ q) r (inr s) = elim (goes_past y a b q r s) [
  | inl k ↦ inl (elim k as (λ k. Stands a b (y ∷ x ∷ (q ++ r))) [ inl h ↦ inl (h.0, inr h.1) | inr t ↦ inr (inr t) ])
  | inr k ↦ inr (inr k.0, k.1)
]

goes_stands : {A : Type 0} (y a b : A) (p q r : List A) → Stands a b (p ++ (q ++ y ∷ r)) → Stands a b (p ++ y ∷ (q ++ r)) ⊎ (IsIn a q × (y ≡ b))
goes_stands y a b [] q r s = goes_past y a b q r s
goes_stands y a b (x ∷ p) q r (inl h) = inl (inl (h.0, goes_in y b p q r h.1))
goes_stands y a b (x ∷ p) q r (inr s) = elim (goes_stands y a b p q r s) [ inl k ↦ inl (inr k) | inr k ↦ inr k ]

-- ---- and so does a name in an order

-- a name may go in front of names of which none precedes it
goes_first : (syncs : SyncLists) (js : List Entry) (y : Name) (p q r : List Name) → ((x : Name) → IsIn x q → Precedes syncs js x y → ⊥)
    → IsPermitted syncs js (p ++ (q ++ y ∷ r)) → IsPermitted syncs js (p ++ y ∷ (q ++ r))
goes_first syncs js y p q r free o = record {
  names = λ n. (λ i. (o.names n).0 (comes_out y n p q r i), λ lt. goes_in y n p q r ((o.names n).1 lt));
  once = goes_once y p q r o.once;
  sequence = λ a b i j h. elim (goes_stands y a b p q r (o.sequence a b (comes_out y a p q r i) (comes_out y b p q r j) h)) [
    | inl s ↦ s
    | inr k ↦ absurd (free a k.0 (subst (λ z. Precedes syncs js a z) (sym k.1) h))
  ];
}

-- Behind p stand names q, each of which is a or one that a is before, and then r. What r has up to b joins q where one of q precedes it, and else
-- goes in front of q. So a is before b, or b comes to stand before a.
either_way : (syncs : SyncLists) (js : List Entry) (a b : Name) (p q r : List Name) → IsIn a q → ((x : Name) → IsIn x q → (a ≡ x) ⊎ IsBefore syncs js a x)
    → IsPermitted syncs js (p ++ (q ++ r)) → IsIn b r → IsBefore syncs js a b ⊎ ((o : List Name) × IsPermitted syncs js o × Stands b a o)
either_way syncs js a b p q [] first behind o i = absurd i
either_way syncs js a b p q (y ∷ r) first behind o i = elim (some_or_none (λ x. Precedes syncs js x y) (λ x. precedes_or_not syncs js x y) q) [
  | inl h ↦
      let before : IsBefore syncs js a y = joins h.0 h.1 h.2 in
      elim i [
        | inl e ↦ inl (subst (IsBefore syncs js a) e before)
        | inr k ↦ either_way syncs js a b p (q ++ y ∷ []) r (in_left a q (y ∷ []) first) (more before)
            (subst (λ l. IsPermitted syncs js (p ++ l)) (sym (append_assoc q (y ∷ []) r)) o) k
      ]
  | inr free ↦
      let o' = goes_first syncs js y p q r free o in
      elim i [
        | inl e ↦ inr (p ++ y ∷ (q ++ r), o', stands_right b a p (y ∷ (q ++ r)) (inl (e, in_left a q r first)))
        | inr k ↦ either_way syncs js a b (p ++ y ∷ []) q r first behind (subst (IsPermitted syncs js) (sym (append_assoc p (y ∷ []) (q ++ r))) o') k
      ]
]
  where
    here : (x : Name) → IsIn x q → x.place < reach_of syncs js x.client
    here x k = (o.names x).0 (is_in_behind x p (q ++ y ∷ r) (in_left x q (y ∷ r) k))

    next : y.place < reach_of syncs js y.client
    next = (o.names y).0 (is_in_behind y p (q ++ y ∷ r) (is_in_behind y q (y ∷ r) (inl refl)))

    joins : (x : Name) → IsIn x q → Precedes syncs js x y → IsBefore syncs js a y
    joins x k h = elim (behind x k) [
      | inl e ↦ Next a y (here a first) next (subst (λ z. Precedes syncs js z y) (sym e) h)
      | inr l ↦ Then a x y l (Next x y (here x k) next h)
    ]

    more : IsBefore syncs js a y → (x : Name) → IsIn x (q ++ y ∷ []) → (a ≡ x) ⊎ IsBefore syncs js a x
    more before x k = elim (in_append x q (y ∷ []) k) [
      | inl l ↦ behind x l
      | inr l ↦ elim l [ inl e ↦ inr (subst (IsBefore syncs js a) e before) | inr none ↦ absurd none ]
    ]

stands_behind : {A : Type 0} (a b : A) (u v : List A) → NoRepeat (u ++ a ∷ v) → Stands a b (u ++ a ∷ v) → IsIn b v
stands_behind a b u v n s = elim (stands_split a b u (a ∷ v) s) [
  | inl i ↦ absurd ((no_repeat_less a u v n).0 (in_left a u v i))
  | inr k ↦ elim k [ inl h ↦ h.1 | inr t ↦ second_in a b v t ]
]

-- of two names of a permitted order the first is before the second, or another one has them the other way round
pub before_or_behind : (syncs : SyncLists) (js : List Entry) (o : List Name) → IsPermitted syncs js o → (a b : Name) → Stands a b o
    → IsBefore syncs js a b ⊎ ((o' : List Name) × IsPermitted syncs js o' × Stands b a o')
before_or_behind syncs js o h a b s =
    let t = take_out a o (first_in a b o s) in
    let h' = subst (IsPermitted syncs js) t.2 h in
    either_way syncs js a b t.0 (a ∷ []) t.1 (inl refl) (λ x (i : IsIn x (a ∷ [])). elim i [ inl e ↦ inl e | inr none ↦ absurd none ]) h'
    (stands_behind a b t.0 t.1 h'.once (subst (Stands a b) t.2 s))

-- ---- what that says of races

pub races_real : (syncs : SyncLists) (js : List Entry) (o : List Name) → IsPermitted syncs js o → (a b : Name) → IsIn a o → IsIn b o → (a ≡ b → ⊥)
    → (IsBefore syncs js a b → ⊥) → (IsBefore syncs js b a → ⊥)
    → ((u : List Name) × IsPermitted syncs js u × Stands a b u) × ((v : List Name) × IsPermitted syncs js v × Stands b a v)
races_real syncs js o h a b i j differ not not' = elim (either_first a b o i j) [
  | inl e ↦ absurd (differ e)
  | inr k ↦ elim k [
    | inl s ↦ elim (before_or_behind syncs js o h a b s) [ inl l ↦ absurd (not l) | inr v ↦ ((o, h, s), v) ]
    | inr s ↦ elim (before_or_behind syncs js o h b a s) [ inl l ↦ absurd (not' l) | inr u ↦ (u, (o, h, s)) ]
  ]
]

-- what stands before a name in every permitted order is before it
pub stands_is_before : (syncs : SyncLists) (js : List Entry) (o : List Name) → IsPermitted syncs js o → (a b : Name)
    → ((u : List Name) → IsPermitted syncs js u → Stands a b u) → IsBefore syncs js a b
stands_is_before syncs js o h a b all = elim (before_or_behind syncs js o h a b (all o h)) [
  | inl l ↦ l
  | inr v ↦ absurd (not_both a b v.0 v.1.once (all v.0 v.1) v.2)
]

pub exactly_before : (syncs : SyncLists) (js : List Entry) (o : List Name) → IsPermitted syncs js o → (a b : Name)
    → IsBefore syncs js a b ↔ ((u : List Name) → IsPermitted syncs js u → Stands a b u)
exactly_before syncs js o h a b = (λ l u k. before_stands syncs js u k a b l, stands_is_before syncs js o h a b)

overlap_the_other_way : {P : Type 0} (f : Footprint P) (a b : Name) → Overlaps f a b → Overlaps f b a
overlap_the_other_way f a b (CommonPixel p u v) = CommonPixel p v u
overlap_the_other_way f a b (FirstWrites texture w u) = SecondWrites texture w u
overlap_the_other_way f a b (SecondWrites texture w u) = FirstWrites texture w u

the_other_way : {P : Type 0} (syncs : SyncLists) (js : List Entry) (f : Footprint P) (a b : Name) → Conflicts syncs js f a b → Conflicts syncs js f b a
the_other_way syncs js f a b c = record { clients = λ e. c.clients (sym e); first = c.second; second = c.first; common = overlap_the_other_way f a b c.common }

-- where conflicting names keep their sequence, one is before the other
pub order_settled : {P : Type 0} (syncs : SyncLists) (js : List Entry) (f : Footprint P) (o : List Name) → IsPermitted syncs js o → IsOrdered syncs js f → AreConflictsOrdered syncs js f
order_settled syncs js f o h ordered a b clash = elim (either_first a b o ((h.names a).1 clash.first) ((h.names b).1 clash.second)) [
  | inl e ↦ absurd (clash.clients (ap (λ (n : Name). n.client) e))
  | inr k ↦ elim k [
    | inl s ↦ inl (stands_is_before syncs js o h a b (λ u p. ordered a b clash o u h p s))
    | inr s ↦ inr (stands_is_before syncs js o h b a (λ u p. ordered b a (the_other_way syncs js f a b clash) o u h p s))
  ]
]

pub scene_settled : (scene : Scene) (js : List Entry) → IsWellFormed (sync_lists_of scene) → IsLegal (sync_lists_of scene) js → IsOrderedScene scene js → AreConflictsOrdered (sync_lists_of scene) js (footprint_of scene)
scene_settled scene js well legal = order_settled (sync_lists_of scene) js (footprint_of scene) (default_order (sync_lists_of scene) js) (default_permitted (sync_lists_of scene) js well legal)

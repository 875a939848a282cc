-- What is before a name stands before it in every permitted order.
use Rattle.std.proofs.Common.{List, [], ◌∷◌, inl, inr, sym, subst}
use Rattle.rc_base.specs.Lists.{IsIn, Stands, NoRepeat}
use Rattle.rc_base.specs.Orders.Footprints.{footprint_of, IsOrderedScene}
use Rattle.rc_base.specs.Orders.Order.{Footprint, IsPermitted, IsOrdered}
use Rattle.rc_base.specs.Orders.Sync.{sync_lists_of}
use Rattle.rc_base.specs.declared.scene.Scene.{Scene}
use Rattle.rc_base.specs.declared.sync.Entry.{Entry}
use Rattle.rc_base.specs.declared.sync.Name.{Name}
use Rattle.rc_base.specs.declared.sync.SyncLists.{SyncLists}
use Rattle.order_model.proofs.StandsInLists.{second_in, not_both}
use Rattle.happens_before.specs.Before.{IsBefore, AreConflictsOrdered}
use Rattle.happens_before.specs.Before.IsBefore.{Next, Then}

-- in a list without repetition what stands between two elements does
pub stands_through : {A : Type 0} (a b c : A) (o : List A) → NoRepeat o → Stands a b o → Stands b c o → Stands a c o
stands_through a b c [] n s t = absurd s
stands_through a b c (x ∷ o) n (inl h) (inl k) = absurd (n.0 (subst (λ y. IsIn y o) (sym k.0) h.1))
stands_through a b c (x ∷ o) n (inl h) (inr k) = inl (h.0, second_in b c o k)
stands_through a b c (x ∷ o) n (inr h) (inl k) = absurd (n.0 (subst (λ y. IsIn y o) (sym k.0) (second_in a b o h)))
stands_through a b c (x ∷ o) n (inr h) (inr k) = inr (stands_through a b c o n.1 h k)

pub before_stands : (syncs : SyncLists) (js : List Entry) (o : List Name) → IsPermitted syncs js o → (a b : Name) → IsBefore syncs js a b → Stands a b o
before_stands syncs js o p a b (Next _ _ la lb h) = p.sequence a b ((p.names a).1 la) ((p.names b).1 lb) h
before_stands syncs js o p a b (Then _ c _ h k) = stands_through a c b o p.once (before_stands syncs js o p a c h) (before_stands syncs js o p c b k)

pub settled_in_order : {P : Type 0} (syncs : SyncLists) (js : List Entry) (f : Footprint P) → AreConflictsOrdered syncs js f → IsOrdered syncs js f
settled_in_order syncs js f h a b clash o o' p p' s = elim (h a b clash) [
  | inl k ↦ before_stands syncs js o' p' a b k
  | inr k ↦ absurd (not_both a b o p.once s (before_stands syncs js o p b a k))
]

pub conflicts_ordered : (scene : Scene) (js : List Entry) → AreConflictsOrdered (sync_lists_of scene) js (footprint_of scene) → IsOrderedScene scene js
conflicts_ordered scene js h = settled_in_order (sync_lists_of scene) js (footprint_of scene) h

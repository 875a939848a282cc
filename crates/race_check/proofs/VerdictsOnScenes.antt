-- What a verdict says of all permitted orders.
use Rattle.std.proofs.Common.{◌≡◌, ◌↔◌, List, inl, inr, sym, subst}
use Rattle.rc_base.specs.Orders.Footprints.{footprint_of, IsOrderedScene}
use Rattle.rc_base.specs.Orders.Order.{IsPermitted, IsOrdered}
use Rattle.rc_base.specs.Orders.Sync.{sync_lists_of}
use Rattle.rc_base.specs.declared.scene.Scene.{Scene}
use Rattle.rc_base.specs.declared.sync.Entry.{Entry}
use Rattle.rc_base.specs.declared.sync.Name.{Name}
use Rattle.rc_base.specs.declared.sync.SyncLists.{SyncLists}
use Rattle.happens_before.specs.Before.{AreConflictsOrdered}
use Rattle.happens_before.proofs.BeforeStands.{conflicts_ordered}
use Rattle.happens_before.proofs.NamesGoFirst.{before_or_behind, order_settled}
use Rattle.race_check.specs.Laws.{ToldRacesAreReal}
use Rattle.race_check.specs.declared.verdict.Verdict.{Verdict}
use Rattle.race_check.specs.declared.verdict.Verdict.TheVariants.{Ordered}

-- a verdict that is Ordered exactly where conflicts are ordered is so exactly where the scene is
pub scene_exact : (scene : Scene) (syncs : SyncLists) (journal : List Entry) (order : List Name) (v : Verdict) → syncs ≡ sync_lists_of scene → IsPermitted syncs journal order
    → (v ≡ Ordered) ↔ AreConflictsOrdered syncs journal (footprint_of scene) → (v ≡ Ordered) ↔ IsOrderedScene scene journal
scene_exact scene syncs journal order v lists p h = (
  λ e. conflicts_ordered scene journal (subst (λ (l : SyncLists). AreConflictsOrdered l journal (footprint_of scene)) lists (h.0 e)),
  λ o. h.1 (order_settled syncs journal (footprint_of scene) order p (subst (λ (l : SyncLists). IsOrdered l journal (footprint_of scene)) (sym lists) o)),
)

pub told_races_real : ToldRacesAreReal
told_races_real syncs journal f order p first second spot h = (
  (order, p, h.stands),
  elim (before_or_behind syncs journal order p first second h.stands) [
    | inl before ↦ absurd (h.unordered.not_before before)
    | inr other ↦ other
  ],
)

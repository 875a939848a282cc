-- Which conflicts of commands nothing orders, and the verdict on an order of commands.
use Rattle.std.specs.Prelude.{◌≡◌, ℕ, ◌<◌, ◌≤◌, true, List, ◌⊎◌}
use Rattle.rc_base.specs.Formats.Within.{IsWithin}
use Rattle.rc_base.specs.Lists.{Stands}
use Rattle.rc_base.specs.Orders.Footprints.{footprint_of}
use Rattle.rc_base.specs.Orders.Order.{Footprint, Conflicts, IsPermitted, Uses}
use Rattle.rc_base.specs.Orders.Sync.{sync_lists_of}
use Rattle.rc_base.specs.declared.scene.Scene.{Scene}
use Rattle.rc_base.specs.declared.sync.Entry.{Entry}
use Rattle.rc_base.specs.declared.sync.Name.{Name}
use Rattle.rc_base.specs.declared.sync.SyncLists.{SyncLists}
use Rattle.happens_before.specs.Before.{IsBefore, AreConflictsOrdered}
use Rattle.race_check.specs.declared.verdict.Spot.{Spot}
use Rattle.race_check.specs.declared.verdict.Spot.TheVariants.{Pixel, Shared}
use Rattle.race_check.specs.declared.verdict.Verdict.{Verdict}
use Rattle.race_check.specs.declared.verdict.Verdict.TheVariants.{Ordered, Race}

-- Two names conflict, and the first isn't before the second. Where the first stands earlier in a permitted order, neither is before the other: they race.
pub record ConflictsUnordered {P : Type 0} (syncs : SyncLists) (journal : List Entry) (f : Footprint P) (a b : Name) : Type 0 where
  pub conflict : Conflicts syncs journal f a b
  pub not_before : IsBefore syncs journal a b → ⊥

-- they conflict at the spot
abbrev pub OverlapsAt : Footprint (ℕ × ℕ) → Name → Name → Spot → Type 0
OverlapsAt f a b (Pixel x y) = (f.touches a (x, y) ≡ true) × (f.touches b (x, y) ≡ true)
OverlapsAt f a b (Shared texture) = ((f.writes a texture ≡ true) × Uses f b texture) ⊎ ((f.writes b texture ≡ true) × Uses f a texture)

-- spots in their sequence: shared textures by their names, then pixels, rows rising and in a row columns rising
abbrev pub IsNoLater : Spot → Spot → Type 0
IsNoLater (Shared s) (Shared t) = s ≤ t
IsNoLater (Shared s) (Pixel u v) = Unit {0}
IsNoLater (Pixel x y) (Shared t) = ⊥
IsNoLater (Pixel x y) (Pixel u v) = (y < v) ⊎ ((y ≡ v) × (x ≤ u))

-- The race that is told of an order: `second` is the first name that conflicts with an earlier one that isn't before it; of these earlier ones `first`
-- is of the lowest client, and of this client the last; the spot is the first one at which the two conflict.
pub record IsFirstRace (syncs : SyncLists) (journal : List Entry) (order : List Name) (f : Footprint (ℕ × ℕ)) (first second : Name) (spot : Spot) : Type 0 where
  pub stands : Stands first second order
  pub unordered : ConflictsUnordered syncs journal f first second
  pub earliest : (a b : Name) → Stands a b order → Stands b second order → ConflictsUnordered syncs journal f a b → ⊥
  pub lowest : (a : Name) → Stands a second order → ConflictsUnordered syncs journal f a second → first.client ≤ a.client
  pub last : (a : Name) → Stands a second order → ConflictsUnordered syncs journal f a second → a.client ≡ first.client → a.place ≤ first.place
  pub at : OverlapsAt f first second spot
  pub nearest : (other : Spot) → OverlapsAt f first second other → IsNoLater spot other

-- the verdict on an order
abbrev pub IsVerdict : SyncLists → List Entry → List Name → Footprint (ℕ × ℕ) → Verdict → Type 0
IsVerdict syncs journal order f Ordered = AreConflictsOrdered syncs journal f
IsVerdict syncs journal order f (Race first second spot) = IsFirstRace syncs journal order f first second spot

-- the lists are those of a scene within the limits, and the journal permits the order
pub record IsOrderOfScene (scene : Scene) (syncs : SyncLists) (journal : List Entry) (order : List Name) : Type 0 where
  pub within : IsWithin scene
  pub lists : syncs ≡ sync_lists_of scene
  pub permitted : IsPermitted syncs journal order

-- nothing races in the scene: of every two conflicting commands one is before the other
abbrev pub NoRaces : SyncLists → List Entry → Scene → Type 0
NoRaces syncs journal scene = AreConflictsOrdered syncs journal (footprint_of scene)

-- the verdict on an order of a scene's commands
abbrev pub IsVerdictOn : Scene → SyncLists → List Entry → List Name → Verdict → Type 0
IsVerdictOn scene syncs journal order v = IsVerdict syncs journal order (footprint_of scene) v

-- the verdict says that nothing races
abbrev pub SaysOrdered : Verdict → Type 0
SaysOrdered v = v ≡ Ordered

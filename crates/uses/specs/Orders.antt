-- What callers say of orders and of races.
use Rattle.std.specs.Prelude.{◌≡◌, ◌≢◌, ℕ, ◌<◌, true, List, Some}
use Rattle.rc_base.specs.Lists.{IsFront, IsIn, Stands}
use Rattle.rc_base.specs.Orders.Footprints.{footprint_of}
use Rattle.rc_base.specs.Orders.Journal.{reach_of}
use Rattle.rc_base.specs.Orders.Order.{PlacedEntry, Conflicts, entries_of}
use Rattle.rc_base.specs.declared.scene.Scene.{Scene}
use Rattle.rc_base.specs.declared.sync.Entry.{Entry}
use Rattle.rc_base.specs.declared.sync.Name.{Name}
use Rattle.rc_base.specs.declared.sync.SyncLists.{SyncLists}
use Rattle.rc_base.specs.declared.window.Layout.{Layout}
use Rattle.order_model.specs.Sent.{IsRecordOf}
use Rattle.order_model.specs.declared.record.Record.{Record}
use Rattle.happens_before.specs.Before.{IsBefore}

-- at each entry the names before a member's operation stand before the names behind any member's
abbrev pub PartsNames : SyncLists → List Entry → List Name → Type 0
PartsNames syncs journal order =
    (m : PlacedEntry) (a b : Name) (i j : ℕ) → IsIn m (entries_of syncs journal) → m.at a.client ≡ Some i → m.at b.client ≡ Some j
    → a.place < i → j < b.place → IsIn a order → IsIn b order → Stands a b order

-- no two commands of the scene conflict
abbrev pub NoneConflict : SyncLists → List Entry → Scene → Type 0
NoneConflict syncs journal scene = (a b : Name) → Conflicts syncs journal (footprint_of scene) a b → ⊥

-- two names of different clients that are carried out touch one pixel, and neither is before the other
pub record RaceAtAPixel (syncs : SyncLists) (journal : List Entry) (scene : Scene) (a b : Name) : Type 0 where
  pub clients : a.client ≢ b.client
  pub first : a.place < reach_of syncs journal a.client
  pub second : b.place < reach_of syncs journal b.client
  pub pixel : ℕ × ℕ
  pub touched : (footprint_of scene).touches a pixel ≡ true
  pub touched_too : (footprint_of scene).touches b pixel ≡ true
  pub not_before : IsBefore syncs journal a b → ⊥
  pub not_behind : IsBefore syncs journal b a → ⊥

-- a whole run of the scene on the tiles of a layout has a journal that begins with this one
pub record BeginsARun (scene : Scene) (l : Layout) (journal : List Entry) : Type 0 where
  pub kept : Record
  pub lawful : IsRecordOf scene l kept
  pub begins : IsFront journal kept.journal

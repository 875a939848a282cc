-- A journal that goes on: what holds of a tile whatever the journal goes on with holds where it has gone on.
use Rattle.std.proofs.Common.{◌≡◌, ℕ, List, [], ◌++◌, sym, ap, ◌∙◌, append_assoc, append-nil}
use Rattle.rc_base.specs.Orders.Journal.{IsLegal}
use Rattle.rc_base.specs.Orders.Sync.{sync_lists_of}
use Rattle.rc_base.specs.declared.scene.Scene.{Scene}
use Rattle.rc_base.specs.declared.sync.Entry.{Entry}
use Rattle.rc_base.specs.declared.sync.SyncLists.{SyncLists}
use Rattle.rc_base.specs.declared.window.Layout.{Layout}
use Rattle.world_model.specs.Sound.{GoesOnTo, IsTileSound}
use Rattle.world_model.specs.Tiles.{Tile}

-- a legal journal goes on to itself
pub goes_on_to_itself : (syncs : SyncLists) (now : List Entry) → IsLegal syncs now → GoesOnTo syncs now now
goes_on_to_itself syncs now legal = record { more = []; whole = sym (append-nil now); legal = legal }

pub goes_on_from_before : (syncs : SyncLists) (before more now later : List Entry) → now ≡ before ++ more → GoesOnTo syncs now later → GoesOnTo syncs before later
goes_on_from_before syncs before more now later e g = record {
  more = more ++ g.more;
  whole = g.whole ∙ ap (λ js. js ++ g.more) e ∙ append_assoc before more g.more;
  legal = g.legal;
}

pub tile_goes_on : (scene : Scene) (l : Layout) (tile : ℕ) (before more now : List Entry) (a : Tile) → now ≡ before ++ more → IsTileSound scene l tile before a → IsTileSound scene l tile now a
tile_goes_on scene l tile before more now a e h = record {
  stands = λ later g. h.stands later (goes_on_from_before (sync_lists_of scene) before more now later e g);
  parts = record {
    count = h.parts.count;
    pixels = λ later g. h.parts.pixels later (goes_on_from_before (sync_lists_of scene) before more now later e g);
  };
}

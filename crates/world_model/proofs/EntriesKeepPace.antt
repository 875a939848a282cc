-- The manager grants an entry once each tile has all entries before it, and no tile has performed more than was granted.
use Rattle.std.proofs.Common.{◌≡◌, ◌≢◌, ◌⊎◌, ℕ, ◌+◌, ◌==◌, ◌<◌, ◌≤◌, false, List, [], ◌∷◌, ◌++◌, length, inl, inr, refl, sym, ap, ◌∙◌, subst, arith, append-nil, length-append, eqb-true}
use Rattle.std.proofs.lemmas.Bool.{cases_Bool, ltb-false}
use Rattle.std.specs.Prelude.{Ok, Err}
use Rattle.rc_base.specs.Cluster.Tiles.{tile_count}
use Rattle.rc_base.specs.Orders.Book.{is_declared}
use Rattle.rc_base.specs.Orders.Sync.{sync_lists_of}
use Rattle.rc_base.specs.declared.scene.Scene.{Scene}
use Rattle.rc_base.specs.declared.sync.Entry.{Entry}
use Rattle.rc_base.specs.declared.sync.Grant.TheVariants as grant_item
use Rattle.rc_base.specs.declared.sync.Request.{Request}
use Rattle.rc_base.specs.declared.sync.Request.TheVariants as request
use Rattle.rc_base.specs.declared.sync.SyncLists.{SyncLists}
use Rattle.rc_base.specs.declared.window.Layout.{Layout}
use Rattle.order_model.specs.Report.{frame_count}
use Rattle.order_model.specs.Standing.{Progress, performed_in}
use Rattle.sync_manager.specs.Progress.{ManagerProgress, IsNextDeed, progress_after}
use Rattle.sync_manager.specs.declared.deed.ManagerDeed.{ManagerDeed}
use Rattle.sync_manager.specs.declared.deed.ManagerDeed.TheVariants.{Delivers, FindsFull, Grants, Receives, Loses, FindsNoRequest, Drops, FindsNoneLeft, Finishes}
use Rattle.tile_model.specs.Items.{shown_frames}
use Rattle.plain_lemmas.proofs.Numbers.{at_one_or_other}
use Rattle.world_model.specs.Flowing.{IsFlowing}
use Rattle.world_model.specs.Moves.{IsTileMoveSeeing}
use Rattle.world_model.specs.Tiles.{Tile}
use Rattle.world_model.specs.Turns.{Turn, IsShortTileMoveSeeing, IsTurnSeeing}
use Rattle.world_model.specs.Turns.Turn.{ClientTurn, ManagerTurn, TileTurn}
use Rattle.world_model.specs.World.{World, Lanes}
use Rattle.world_model.proofs.ShownParts.{frames_append, frames_of_front, lost_shows}
use Rattle.world_model.proofs.TilesAtRest.{front}

-- ---- a deed of the manager

module _ (syncs : SyncLists) (tiles : ℕ) (d : ManagerProgress) where
  -- a request grants nothing
  same_journal : (client : ℕ) (r : Request) → (progress_after syncs d (Receives client r)).book.journal ≡ d.book.journal
  same_journal client (request.Op place op) = elim (cases_Bool (is_declared syncs op)) [ inl t ↦ rw t refl | inr f ↦ rw f refl ]
  same_journal client request.End = refl

  -- what the journal goes on with
  pub journal_goes_on : (deed : ManagerDeed) → (more : List Entry) × ((progress_after syncs d deed).book.journal ≡ d.book.journal ++ more)
  journal_goes_on (Delivers t (grant_item.Entry e)) = ([], sym (append-nil d.book.journal))
  journal_goes_on (Delivers t grant_item.NoMore) = ([], sym (append-nil d.book.journal))
  journal_goes_on (FindsFull t) = ([], sym (append-nil d.book.journal))
  journal_goes_on (Grants e) = (e ∷ [], refl)
  journal_goes_on (Receives client r) = ([], same_journal client r ∙ sym (append-nil d.book.journal))
  journal_goes_on (Loses client place op) = ([], sym (append-nil d.book.journal))
  journal_goes_on FindsNoRequest = ([], sym (append-nil d.book.journal))
  journal_goes_on (Drops client r) = ([], sym (append-nil d.book.journal))
  journal_goes_on FindsNoneLeft = ([], sym (append-nil d.book.journal))
  journal_goes_on Finishes = ([], sym (append-nil d.book.journal))

  abbrev IsNear : ManagerProgress → ℕ → Type 0
  IsNear d tile = length d.book.journal ≤ d.delivered tile + 1

  -- each entry but the last is with the tile
  deed_near : (deed : ManagerDeed) (tile : ℕ) → tile < tiles → IsNextDeed syncs tiles d deed → IsNear d tile → IsNear (progress_after syncs d deed) tile
  deed_near (Delivers t (grant_item.Entry e)) tile lt next near = elim (cases_Bool (tile == t)) [
    | inl here ↦ let same : tile ≡ t = eqb-true tile t here in rw here (let e = ap d.delivered same in omega (arith, near, e))
    | inr off ↦ rw off near
  ]
  deed_near (Delivers t grant_item.NoMore) tile lt next near = near
  deed_near (FindsFull t) tile lt next near = near
  deed_near (Grants e) tile lt next near =
      let all = ltb-false (d.delivered tile) (length d.book.journal) (next.0 tile lt) in
      let more = length-append d.book.journal (e ∷ []) in
      omega (arith, all, more)
  deed_near (Receives client r) tile lt next near = let e = ap length (same_journal client r) in omega (arith, e, near)
  deed_near (Loses client place op) tile lt next near = near
  deed_near FindsNoRequest tile lt next near = near
  deed_near (Drops client r) tile lt next near = near
  deed_near FindsNoneLeft tile lt next near = near
  deed_near Finishes tile lt next near = near

-- ---- a turn

-- each entry but the last is with each tile, and no tile has shown more frames than were granted
pub record KeepsPace (l : Layout) (w : World) : Type 0 where
  pub pace : (tile : ℕ) → tile < tile_count l → length w.manager.book.journal ≤ w.manager.delivered tile + 1
  pub few : (tile : ℕ) → tile < tile_count l → shown_frames (w.tiles tile).progress ≤ frame_count w.manager.book.journal

module _ (scene : Scene) (l : Layout) (depth : ℕ) where
  abbrev SameTiles : World → World → Type 0
  SameTiles w v = (tile : ℕ) → tile < tile_count l → v.tiles tile ≡ w.tiles tile

  alike : (w v : World) → v.manager ≡ w.manager → SameTiles w v → KeepsPace l w → KeepsPace l v
  alike w v manager tiles h = record {
    pace = λ tile lt. subst (λ (d : ManagerProgress). length d.book.journal ≤ d.delivered tile + 1) (sym manager) (h.pace tile lt);
    few = λ tile lt.
        let a = ap (λ (a : Tile). shown_frames a.progress) (tiles tile lt) in
        let j = ap (λ (d : ManagerProgress). frame_count d.book.journal) manager in
        let b = h.few tile lt in
        omega (arith, a, j, b);
  }

  by_manager : (w v : World) (deed : ManagerDeed) → IsNextDeed (sync_lists_of scene) (tile_count l) w.manager deed → v.manager ≡ progress_after (sync_lists_of scene) w.manager deed
      → SameTiles w v → KeepsPace l w → KeepsPace l v
  by_manager w v deed next manager tiles h = record {
    pace = λ tile lt. subst (λ (d : ManagerProgress). length d.book.journal ≤ d.delivered tile + 1) (sym manager)
        (deed_near (sync_lists_of scene) (tile_count l) w.manager deed tile lt next (h.pace tile lt));
    few = λ tile lt.
        let a = ap (λ (a : Tile). shown_frames a.progress) (tiles tile lt) in
        let more = journal_goes_on (sync_lists_of scene) (tile_count l) w.manager deed in
        let j = ap (λ (d : ManagerProgress). frame_count d.book.journal) manager ∙ ap frame_count more.1 ∙ frames_append w.manager.book.journal more.0 in
        let b = h.few tile lt in
        omega (arith, a, j, b);
  }

  by_tile : (w v : World) (tile : ℕ) → v.manager ≡ w.manager → ((i : ℕ) → i < tile_count l → i ≢ tile → v.tiles i ≡ w.tiles i)
      → (tile < tile_count l → shown_frames (v.tiles tile).progress ≤ frame_count v.manager.book.journal) → KeepsPace l w → KeepsPace l v
  by_tile w v tile manager others here h = record {
    pace = λ i lt. subst (λ (d : ManagerProgress). length d.book.journal ≤ d.delivered i + 1) (sym manager) (h.pace i lt);
    few = at_one_or_other (λ i. i < tile_count l → shown_frames (v.tiles i).progress ≤ frame_count v.manager.book.journal) tile here
        (λ i ne lt.
        let a = ap (λ (a : Tile). shown_frames a.progress) (others i lt ne) in
        let j = ap (λ (d : ManagerProgress). frame_count d.book.journal) manager in
        let b = h.few i lt in
        omega (arith, a, j, b));
  }

  -- where the tile has performed nothing
  still_few : (w v : World) (tile : ℕ) → v.manager ≡ w.manager → shown_frames (v.tiles tile).progress ≡ shown_frames (w.tiles tile).progress → KeepsPace l w → tile < tile_count l
      → shown_frames (v.tiles tile).progress ≤ frame_count v.manager.book.journal
  still_few w v tile manager same h lt =
      let j = ap (λ (d : ManagerProgress). frame_count d.book.journal) manager in
      let b = h.few tile lt in
      omega (arith, same, j, b)

  -- a tile that isn't short has performed a front of the journal
  front_few : (v : World) → IsFlowing scene l v → (tile : ℕ) → tile < tile_count l → (v.tiles tile).short ≡ false
      → shown_frames (v.tiles tile).progress ≤ frame_count v.manager.book.journal
  front_few v f tile lt ample =
      let more = front scene l v f tile lt ample in
      frames_of_front (performed_in (v.tiles tile).progress.log) (v.tiles tile).progress.learnt more.0 v.manager.book.journal more.1

  pub pace_kept : (w v : World) (seen : Lanes) (turn : Turn) → IsFlowing scene l v → IsTurnSeeing scene l depth w seen turn v → KeepsPace l w → KeepsPace l v
  pace_kept w v seen (ClientTurn client (Ok answer)) f m h = alike w v m.step.only.manager m.step.only.tiles h
  pace_kept w v seen (ClientTurn client (Err error)) f m h = alike w v m.step.only.manager m.step.only.tiles h
  pace_kept w v seen (ManagerTurn answer) f m h = by_manager w v m.step.deed m.step.next m.step.manager m.step.only.tiles h
  pace_kept w v seen (TileTurn tile (Ok answer)) f m h = by m.step
    where
      by : IsTileMoveSeeing scene l depth w seen tile answer v ⊎ IsShortTileMoveSeeing scene l depth w seen tile answer v → KeepsPace l v
      by (inl t) = by_tile w v tile t.only.manager t.only.tiles (λ lt. front_few v f tile lt (t.step.still_ample ∙ t.step.ample)) h
      by (inr t) = by_tile w v tile t.only.manager t.only.tiles
          (still_few w v tile t.only.manager (ap (λ (q : Progress). shown_frames q) t.progress ∙ lost_shows (w.tiles tile).progress t.item) h) h
  pace_kept w v seen (TileTurn tile (Err error)) f m h = by_tile w v tile m.step.only.manager m.step.only.tiles
      (still_few w v tile m.step.only.manager (ap (λ (q : Progress). shown_frames q) m.step.progress ∙ lost_shows (w.tiles tile).progress m.step.item) h) h

-- What is collected of a cluster in which all have ended is what its run leaves.
use Rattle.std.proofs.Common.{◌≡◌, ℕ, ◌+◌, ◌<◌, ◌≤◌, List, [], ◌++◌, length, take, Option, Some, refl, sym, ap, ◌∙◌, subst, arith, append-nil}
use Rattle.std.proofs.lemmas.List.{take-append-le}
use Rattle.std.proofs.lemmas.List.FromFn.{length-map-range_with_len, get_or-map-range_with_len}
use Rattle.std.proofs.lemmas.Option.{slice_get-get_or, slice_get_within, get_or_from_slice_get}
use Rattle.std.specs.List.{range_with_len}
use Rattle.std.specs.Option.{option_map_or}
use Rattle.std.specs.Prelude.{map, slice_index_or, Vec}
use Rattle.std.specs.Global.{Global}
use Rattle.rc_base.specs.Cluster.Tiles.{tile_count}
use Rattle.rc_base.specs.Orders.Sync.{sync_lists_of}
use Rattle.rc_base.specs.declared.cluster.TilePart.{TilePart}
use Rattle.rc_base.specs.declared.scene.Decl.{Decl}
use Rattle.rc_base.specs.declared.scene.Scene.{Scene}
use Rattle.rc_base.specs.declared.sync.Entry.{Entry}
use Rattle.rc_base.specs.declared.window.Layout.{Layout}
use Rattle.order_model.specs.Log.{Replays}
use Rattle.order_model.specs.Report.{frame_count}
use Rattle.order_model.specs.Sent.{jobs_of}
use Rattle.order_model.specs.Standing.{performed_in}
use Rattle.order_model.specs.declared.record.LogEntry.{LogEntry}
use Rattle.order_model.specs.declared.record.Record.{Record}
use Rattle.tile_model.specs.Items.{shown_frames}
use Rattle.tile_model.specs.Laws.{SwappedFramesStay}
use Rattle.tile_server.specs.declared.tile_core.TileCore.{TileCore}
use Rattle.run_record.specs.Closed.{AreDone, IsTileFinished}
use Rattle.run_record.specs.Collected.{AreCollected, AreShownAlike, IsSmall, IsWholeRun, DoneRunsAreRecorded, FramesAreInOrder}
use Rattle.run_record.specs.Gathering.{AreEven, AreInFrames, HaveSent, shown_by}
use Rattle.world_model.specs.Laws.{SteppedRunsAreSound, EndedWorldsAreOver, EndedWorldsShowFrames, EndedWorldsTallyAll, IsOver, IsRecordIn}
use Rattle.world_model.specs.Sound.{IsSound}
use Rattle.world_model.proofs.JournalsGoOn.{goes_on_to_itself}
use Rattle.rc_base.proofs.Paired.{some_item}
use Rattle.step_core.specs.CoreRuns.{IsCoreRun, IsGathered}
use Rattle.step_core.specs.Rounds.{HasRun, IsAtEnd}
use Rattle.step_core.specs.Worlds.{IsPartOf}
use Rattle.step_core.specs.declared.rounds.CoreRun.{CoreRun}
use Rattle.step_core.specs.declared.cluster.Cluster.{Cluster}

-- the laws that are cited
pub record GatherLaws : Type 0 where
  pub runs : SteppedRunsAreSound
  pub over : EndedWorldsAreOver
  pub frames : EndedWorldsShowFrames
  pub tallies : EndedWorldsTallyAll
  pub recorded : DoneRunsAreRecorded
  pub ordered : FramesAreInOrder
  pub stay : SwappedFramesStay

module _ (laws : GatherLaws) (scene : Scene) (l : Layout) (world : Cluster) (h : HasRun scene l world) where
  abbrev journal : List Entry
  journal = h.model.manager.book.journal

  sound : IsSound scene l h.model
  sound = laws.runs scene l h.depth h.picks h.moves h.model h.runnable.commands h.runnable.sides h.run

  -- ---- what can be collected

  log_of : ℕ → List LogEntry
  log_of t = (h.model.tiles t).progress.log

  the_record : Record
  the_record = record { journal = h.model.manager.book.journal; logs = map log_of (range_with_len 0 (tile_count l)); syncs = sync_lists_of scene }

  is_record : IsRecordIn scene l h.model the_record
  unfolding the_record log_of
  is_record =
      let count = length-map-range_with_len log_of 0 (tile_count l) in
      record {
        syncs = refl;
        journal = refl;
        count = count;
        logs = λ t lt. slice_get-get_or (map log_of (range_with_len 0 (tile_count l))) t [] (omega (arith, count, lt))
            ∙ ap (λ log. Some log) (get_or-map-range_with_len log_of 0 (tile_count l) t t [] lt (omega arith));
      }

  even : AreEven (frame_count h.model.manager.book.journal) world.parts.items
  unfolding the_record
  even = record {
    each = λ t d lt.
        let low : t < tile_count l = (let a = h.view.parts.count in omega (arith, a, lt)) in
        (h.view.parts.at t d low).count ∙ (laws.frames scene l h.model the_record sound h.ended is_record t low).count;
  }

  pub collectable : AreShownAlike world.parts.items
  collectable = record {
    frames = frame_count h.model.manager.book.journal;
    even = even;
    some = (let a = h.view.parts.count in let b = h.runnable.some_tiles in omega (arith, a, b));
  }

  -- ---- what is collected

  have_sent : HaveSent scene l world.clients.items
  have_sent = record {
    at = λ i d lt.
        let low : i < length scene.streams = (let a = h.view.seen.clients.count in omega (arith, a, lt)) in
        let one = h.view.seen.clients.at i d low in
        record { whose = one.whose; ample = one.short ∙ h.view.ample.clients i low; all = one.left ∙ h.ended.clients i low };
  }

  -- ---- all are done

  small : IsSmall scene
  small = record { some = h.runnable.some; few = h.runnable.few; short = h.runnable.short }

  over : IsOver scene l h.model
  over = laws.over scene l h.model h.runnable.commands sound h.ended

  list_finished : (t : ℕ) (d : TileCore) (e : Vec TilePart Global) → t < tile_count l
      → IsTileFinished scene l t journal (slice_index_or world.tiles.items t d) (slice_index_or world.parts.items t e).items
  list_finished t d e lt =
      let core = h.view.seen.tiles.at t d lt in
      let shown = h.view.parts.at t e lt in
      let tile = sound.tiles t lt in
      let pixels = (h.model.tiles t).parts in
      let list = (slice_index_or world.parts.items t e).items in
      let p = (h.model.tiles t).progress in
      let under = over.under_way t lt in
      let swapped : frame_count (take (performed_in p.log) journal) ≡ shown_frames p =
      ap (λ es. frame_count (take (performed_in p.log) es)) under.learnt.1
      ∙ ap frame_count (take-append-le (performed_in p.log) p.learnt under.learnt.0 under.performed) in
      let replays : Replays (sync_lists_of scene) journal (λ client. jobs_of scene l client t) (p.log ++ []) =
      subst (λ log. Replays (sync_lists_of scene) journal (λ client. jobs_of scene l client t) log) (sym (append-nil p.log)) under.replays in
      record {
        ample = core.short ∙ h.view.ample.tiles t lt;
        progress = (h.model.tiles t).progress;
        stands = core.progress;
        under_way = over.under_way t lt;
        done = over.done t lt;
        frames = record {
          count = shown.count ∙ tile.parts.count;
          each = λ k part is low.
              let within : k < length list = slice_get_within list k part is in
              let inside : k < length pixels = (let c = shown.count in omega (arith, c, within)) in
              let x = some_item pixels k inside in
              let mine = shown.at k x part inside low in
              let enough : k + 1 ≤ frame_count (take (performed_in p.log) journal) =
              (let n = shown.count in let c = tile.parts.count in omega (arith, n, c, within, swapped)) in
              let same : slice_index_or list k part ≡ part = get_or_from_slice_get list k part part is in
              let of = subst (λ q. IsPartOf l t (k + 1) (slice_index_or pixels k x) q) same mine in
              record {
                tile = of.tile;
                frame = of.frame;
                count = of.count;
                pixel = λ a b has. of.pixel a b has ∙ ap (λ v. Some v)
                    (tile.parts.pixels journal (goes_on_to_itself (sync_lists_of scene) journal over.legal) [] replays k (slice_index_or pixels k x) (slice_get-get_or pixels k x inside) a b has
                    ∙ (laws.stay scene l t journal p.log [] (k + 1) a b over.legal replays enough).1);
              };
        };
      }

  -- the parts in the tile's list
  shown_is : (t : ℕ) (e : Vec TilePart Global) → t < tile_count l → shown_by world.parts.items t ≡ (slice_index_or world.parts.items t e).items
  shown_is t e lt = ap (λ (o : Option (Vec TilePart Global)). option_map_or (λ (list : Vec TilePart Global). list.items) o [])
      (slice_get-get_or world.parts.items t e (let c = h.view.parts.count in omega (arith, c, lt)))

  tile_finished : (t : ℕ) (d : TileCore) → t < tile_count l
      → IsTileFinished scene l t journal (slice_index_or world.tiles.items t d) (shown_by world.parts.items t)
  tile_finished t d lt =
      let e = some_item world.parts.items t (let c = h.view.parts.count in omega (arith, c, lt)) in
      subst (λ (ps : List TilePart). IsTileFinished scene l t journal (slice_index_or world.tiles.items t d) ps) (sym (shown_is t e lt)) (list_finished t d e lt)

  all_done : AreDone scene l world.clients.items world.manager world.tiles.items (shown_by world.parts.items)
  all_done = record {
    client_total = h.view.seen.clients.count;
    tile_total = h.view.seen.tiles.count;
    sent = have_sent;
    tallies = λ client tile d lt low.
        let here : client < length scene.streams = (let a = h.view.seen.clients.count in omega (arith, a, lt)) in
        (h.view.seen.clients.at client d here).tallies tile ∙ laws.tallies scene l h.model sound h.ended client tile here low;
    progress = h.model.manager;
    stands = h.view.seen.manager.progress;
    arrived = over.arrived;
    over = over.over;
    tile = tile_finished;
  }

  module _ (decl : Decl) (run : CoreRun) (same : decl ≡ scene.decl) (k : AreCollected decl world.clients.items world.manager world.tiles.items run.kept run.tallies run.waiting run.faults)
      (p : (frames : ℕ) → AreEven frames world.parts.items → AreInFrames frames world.parts.items run.parts) where
    whole : IsWholeRun scene l run.kept run.tallies run.waiting run.faults (shown_by world.parts.items)
    whole = laws.recorded scene l world.clients.items world.manager world.tiles.items (shown_by world.parts.items) run.kept run.tallies run.waiting run.faults small all_done
        (subst (λ (x : Decl). AreCollected x world.clients.items world.manager world.tiles.items run.kept run.tallies run.waiting run.faults) same k)

    record_in : IsRecordIn scene l h.model run.kept
    record_in =
        let all = h.view.seen.tiles.count in
        let m = k.logs.count in
        record {
          syncs = whole.run.lawful.lists;
          journal = k.journal (sync_lists_of scene) h.model.manager h.view.seen.manager.progress;
          count = m ∙ all;
          logs = λ t lt.
              let here : t < length world.tiles.items = omega (arith, all, lt) in
              let d = some_item world.tiles.items t here in
              let core = h.view.seen.tiles.at t d lt in
              slice_get-get_or run.kept.logs t [] (omega (arith, m, here))
              ∙ ap (λ log. Some log) (k.logs.at t d [] here (h.model.tiles t).progress core.progress);
        }

    frames : AreInFrames (frame_count run.kept.journal) world.parts.items run.parts
    frames = subst (λ js. AreInFrames (frame_count js) world.parts.items run.parts) (sym record_in.journal) (p (frame_count h.model.manager.book.journal) even)

    pub gathered : IsRecordIn scene l h.model run.kept × IsCoreRun scene l run
    gathered = (
      record_in,
      record {
        lawful = whole.run.lawful;
        parts = laws.ordered scene l run.kept world.parts.items run.parts whole.frames h.view.parts.count frames;
        tallies = whole.run.tallies_are;
        waiting = whole.run.waiting_is;
        faults = whole.run.faults_are;
      },
    )

pub can_collect : (laws : GatherLaws) (decl : Decl) (world : Cluster) → IsAtEnd decl world → AreShownAlike world.parts.items
can_collect laws decl world e = collectable laws e.scene e.l world e.has_run

pub is_gathered : (laws : GatherLaws) (decl : Decl) (world : Cluster) (run : CoreRun)
    → AreCollected decl world.clients.items world.manager world.tiles.items run.kept run.tallies run.waiting run.faults
    → ((frames : ℕ) → AreEven frames world.parts.items → AreInFrames frames world.parts.items run.parts) → IsGathered decl world run
is_gathered laws decl world run k p scene l same h = gathered laws scene l world h decl run same k p

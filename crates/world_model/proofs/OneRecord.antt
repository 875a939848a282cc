-- Finished runs of the same picks leave one record.
use Rattle.std.proofs.Common.{◌≡◌, ◌<◌, List, [], sym, ap, ◌∙◌, arith}
use Rattle.std.proofs.lemmas.List.{ext_get_or}
use Rattle.std.proofs.lemmas.Option.{get_or_from_slice_get}
use Rattle.rc_base.specs.Cluster.Tiles.{tile_count}
use Rattle.rc_base.specs.declared.scene.Scene.{Scene}
use Rattle.rc_base.specs.declared.sync.Entry.{Entry}
use Rattle.rc_base.specs.declared.sync.SyncLists.{SyncLists}
use Rattle.rc_base.specs.declared.window.Layout.{Layout}
use Rattle.order_model.specs.Standing.{Progress}
use Rattle.order_model.specs.declared.record.LogEntry.{LogEntry}
use Rattle.order_model.specs.declared.record.Record.{Record}
use Rattle.sync_manager.specs.Progress.{ManagerProgress}
use Rattle.world_model.specs.Laws.{AreAlike, IsRecordIn, FinishedRunsAreOne, FinishedRunsLeaveOneRecord}
use Rattle.world_model.specs.World.{World}

one_record : (scene : Scene) (l : Layout) (w v : World) (kept other : Record) → AreAlike scene l w v → IsRecordIn scene l w kept → IsRecordIn scene l v other → other ≡ kept
one_record scene l w v kept other alike r s =
    ap (λ (x : List Entry). record { journal = x; logs = other.logs; syncs = other.syncs }) (s.journal ∙ ap (λ (d : ManagerProgress). d.book.journal) alike.manager ∙ sym r.journal)
    ∙ ap (λ (x : List (List LogEntry)). record { journal = kept.journal; logs = x; syncs = other.syncs }) logs
    ∙ ap (λ (x : SyncLists). record { journal = kept.journal; logs = kept.logs; syncs = x }) (s.syncs ∙ sym r.syncs)
  where
    logs : other.logs ≡ kept.logs
    logs = ext_get_or [] other.logs kept.logs (s.count ∙ sym r.count) (λ i lt.
        let low : i < tile_count l = (let a = s.count in omega (arith, a, lt)) in
        get_or_from_slice_get other.logs i (v.tiles i).progress.log [] (s.logs i low) ∙ ap (λ (p : Progress). p.log) (alike.progress i low)
        ∙ sym (get_or_from_slice_get kept.logs i (w.tiles i).progress.log [] (r.logs i low)))

pub leave_one_record : FinishedRunsAreOne → FinishedRunsLeaveOneRecord
leave_one_record one scene l depth rounds count picks moves others w v kept other range sides h k r s =
    one_record scene l w v kept other (one scene l depth rounds count picks moves others w v range sides h k).2 r s

-- What is left of a run.
use Rattle.std.specs.Prelude.{◌≡◌, ℕ, ◌≤◌, Bool, true, List, [], length, ◌↔◌, Option, None, IsSome, IfSome, slice_index_or}
use Rattle.rc_base.specs.Cluster.Tiles.{tile_count}
use Rattle.rc_base.specs.Contexts.Issue.{faults_of}
use Rattle.rc_base.specs.Formats.Limits.{limit_of}
use Rattle.rc_base.specs.Orders.Journal.{IsMaximal, waiting_of}
use Rattle.rc_base.specs.Orders.Order.{IsPermitted, default_order}
use Rattle.rc_base.specs.Orders.Sync.{sync_lists_of}
use Rattle.rc_base.specs.declared.cluster.Tally.{Tally}
use Rattle.rc_base.specs.declared.scene.Scene.{Scene}
use Rattle.rc_base.specs.declared.state.Fault.{Fault}
use Rattle.rc_base.specs.declared.sync.Entry.{Entry}
use Rattle.rc_base.specs.declared.sync.Waiting.{Waiting}
use Rattle.rc_base.specs.declared.window.Layout.{Layout}
use Rattle.order_model.specs.Report.{is_stuck}
use Rattle.order_model.specs.declared.record.Record.{Record}
use Rattle.run_record.specs.Told.{IsRun}
use Rattle.render_core.specs.Due.{ending_by, journal_of, report_due}
use Rattle.render_core.specs.declared.cluster.Account.{Account}
use Rattle.run_words.specs.declared.work.Work.{Work}
use Rattle.render_core.specs.declared.due.DefaultRun.{DefaultRun}

-- these are the scene's refused commands, and who is left waiting by the journal
pub record AreOf (scene : Scene) (faults : List (List (ℕ × Fault))) (journal : List Entry) (waiting : Option Waiting) : Type 0 where
  pub clients : length faults ≡ length scene.streams
  pub faults_are : (client : ℕ) → slice_index_or faults client [] ≡ faults_of scene client
  pub stuck : IsSome waiting ↔ (is_stuck (sync_lists_of scene) journal ≡ true)
  pub waits : IfSome waiting (λ w. (client : ℕ) → slice_index_or w.at client None ≡ waiting_of (sync_lists_of scene) journal client)

-- The scene's lists, the default journal, which is maximal, its order, which it permits, the refused commands, and who is left waiting.
pub record IsDefault (scene : Scene) (run : DefaultRun) : Type 0 where
  pub syncs : run.syncs ≡ sync_lists_of scene
  pub journal : run.journal ≡ journal_of scene
  pub order : run.order ≡ default_order (sync_lists_of scene) (journal_of scene)
  pub are : AreOf scene run.faults run.journal run.waiting
  pub few : length run.faults ≤ 8
  pub maximal : IsMaximal (sync_lists_of scene) run.journal
  pub permitted : IsPermitted (sync_lists_of scene) run.journal run.order

-- ---- of a cluster

-- this is left of a run of a scene within the limits, on 32 tiles at most
pub record IsSmallRun (kept : Record) (tallies : List Tally) (waiting : Option Waiting) (faults : List (List (ℕ × Fault))) : Type 0 where
  pub scene : Scene
  pub layout : Layout
  pub within : limit_of scene ≡ None
  pub tiles : tile_count layout ≤ 32
  pub run : IsRun scene layout kept tallies waiting faults

-- the report of the record, and whether its journal leaves a client waiting
pub record IsAccount (work : Work) (l : Layout) (kept : Record) (orders : Bool) (account : Account) : Type 0 where
  pub notes : account.notes ≡ report_due work l kept orders
  pub ending : account.ending ≡ ending_by work.scene kept.journal

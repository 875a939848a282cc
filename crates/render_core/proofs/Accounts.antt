-- The account of a cluster's run is that of its scene and its record.
use Rattle.std.proofs.Common.{◌≡◌, ℕ, zero, suc, ◌+◌, ◌<◌, ◌≤◌, Bool, List, [], ◌++◌, length, None, refl, sym, ap, ap₂, ◌∙◌, arith, append_assoc}
use Rattle.std.specs.Prelude.{is_some, slice_index_or, if◌then◌else◌}
use Rattle.std.specs.declared.option.Option.{Option}
use Rattle.std.specs.List.{flat_map, range_with_len}
use Rattle.rc_base.specs.Cluster.Tiles.{tile_count}
use Rattle.rc_base.specs.Formats.Limits.{limit_of}
use Rattle.rc_base.specs.Orders.Sync.{client_count}
use Rattle.rc_base.specs.declared.cluster.Tally.{Tally}
use Rattle.rc_base.specs.declared.scene.Scene.{Scene}
use Rattle.rc_base.specs.declared.state.Fault.{Fault}
use Rattle.rc_base.specs.declared.sync.SyncLists.{SyncLists}
use Rattle.rc_base.specs.declared.sync.Waiting.{Waiting}
use Rattle.rc_base.specs.declared.window.Layout.{Layout}
use Rattle.rc_base.proofs.WithinLimits.{clients_within}
use Rattle.client_issue.specs.Cores.{no_tally}
use Rattle.order_model.specs.Report.{count_lines, fault_lines, order_line, order_lines, report_text_of, stuck_lines, tile_line, tile_lines, tile_order}
use Rattle.order_model.specs.declared.record.Record.{Record}
use Rattle.run_record.specs.Told.{IsRun}
use Rattle.run_words.specs.declared.work.Work.{Work}
use Rattle.scene_lemmas.proofs.Scenes.{scene_client_count}
use Rattle.render_core.specs.Due.{ending_by, report_due}
use Rattle.render_core.specs.Runs.{AreOf}
use Rattle.run_words.specs.Reports.{line_of_tile, lines_of_orders, lines_of_run, lines_of_stuck, lines_of_tiles}
use Rattle.run_words.specs.declared.told.Ending.TheVariants.{Complete, Stuck}
use Rattle.render_core.proofs.ReportLines.{faults_told, is_stuck_of, stuck_told}

same_in_range : (f g : ℕ → List ℕ) (a n : ℕ) → ((k : ℕ) → k < n → f (a + k) ≡ g (a + k)) → flat_map f (range_with_len a n) ≡ flat_map g (range_with_len a n)
same_in_range f g a zero same = refl
same_in_range f g a (suc n) same =
    let here : a + 0 ≡ a = omega arith in
    ap₂ (λ (l r : List ℕ). l ++ r) (rw here at (same 0 (omega arith)))
    (same_in_range f g (a + 1) n (λ k lt. let e : a + (k + 1) ≡ (a + 1) + k = omega arith in rw e at (same (k + 1) (omega (arith, lt)))))

-- the lines before a report, and those of the report
joined : (a b c d e f g : List ℕ) → a ++ b ++ c ++ d ++ e ++ f ++ g ≡ a ++ (b ++ c ++ d ++ e ++ f ++ g)
joined a b c d e f g = simp append_assoc

module _ (scene : Scene) (l : Layout) (kept : Record) (tallies : List Tally) (waiting : Option Waiting) (faults : List (List (ℕ × Fault)))
    (is : IsRun scene l kept tallies waiting faults) where
  -- ---- its numbers

  pub few_faults : limit_of scene ≡ None → length faults ≤ 8
  few_faults within = let k = clients_within scene within in let e = is.faults_are.clients in omega (arith, k, e)

  pub few_clients : limit_of scene ≡ None → client_count kept.syncs ≤ 8
  few_clients within = let k = clients_within scene within in let e = ap client_count is.lawful.lists ∙ scene_client_count scene in omega (arith, k, e)

  pub few_logs : tile_count l ≤ 32 → length kept.logs ≤ 32
  few_logs few = let e = is.lawful.count in omega (arith, few, e)

  -- ---- its report

  tile_told : (tile : ℕ) → tile < tile_count l → line_of_tile tile (slice_index_or tallies tile no_tally) ≡ tile_line scene l tile
  tile_told tile low =
      λ i. line_of_tile tile (record { parcels = is.tallies_are.parcels tile low i; sets = is.tallies_are.sets tile low i; looks = is.tallies_are.looks tile low i })

  tiles_told : lines_of_tiles tallies ≡ tile_lines scene l
  tiles_told =
      ap (λ (n : ℕ). flat_map (λ tile. line_of_tile tile (slice_index_or tallies tile no_tally)) (range_with_len 0 n)) is.tallies_are.count
      ∙ same_in_range (λ tile. line_of_tile tile (slice_index_or tallies tile no_tally)) (tile_line scene l) 0 (tile_count l)
      (λ k lt. let z : 0 + k ≡ k = omega arith in rw z (tile_told k lt))

  orders_told : lines_of_orders kept ≡ order_lines l kept
  orders_told = ap (λ (n : ℕ). flat_map (λ tile. flat_map (order_line tile) (tile_order kept tile)) (range_with_len 0 n)) is.lawful.count

  are : AreOf scene faults kept.journal waiting
  are = record { clients = is.faults_are.clients; faults_are = is.faults_are.each; stuck = is.waiting_is.stuck; waits = is.waiting_is.waits }

  waits_told : lines_of_stuck waiting (length faults) ≡ stuck_lines kept.syncs kept.journal
  waits_told = stuck_told scene faults kept.journal waiting are ∙ ap (λ (s : SyncLists). stuck_lines s kept.journal) (sym is.lawful.lists)

  pub notes_told : (work : Work) → work.scene ≡ scene → (orders : Bool) → lines_of_run work faults tallies kept waiting orders ≡ report_due work l kept orders
  unfolding report_text_of
  notes_told work own orders =
      ap (λ (x : List ℕ). work.refused ++ x ++ lines_of_tiles tallies ++ count_lines kept.journal ++ work.counted ++ (if orders then lines_of_orders kept else []) ++ lines_of_stuck waiting (length faults))
      (faults_told scene faults kept.journal is.faults_are.clients is.faults_are.each ∙ ap fault_lines (sym own))
      ∙ ap (λ (x : List ℕ). work.refused ++ fault_lines work.scene ++ x ++ count_lines kept.journal ++ work.counted ++ (if orders then lines_of_orders kept else []) ++ lines_of_stuck waiting (length faults))
      (tiles_told ∙ ap (λ (s : Scene). tile_lines s l) (sym own))
      ∙ ap (λ (x : List ℕ). work.refused ++ fault_lines work.scene ++ tile_lines work.scene l ++ count_lines kept.journal ++ work.counted ++ (if orders then x else []) ++ lines_of_stuck waiting (length faults)) orders_told
      ∙ ap (λ (x : List ℕ). work.refused ++ fault_lines work.scene ++ tile_lines work.scene l ++ count_lines kept.journal ++ work.counted ++ (if orders then order_lines l kept else []) ++ x) waits_told
      ∙ joined work.refused (fault_lines work.scene) (tile_lines work.scene l) (count_lines kept.journal) work.counted (if orders then order_lines l kept else [])
      (stuck_lines kept.syncs kept.journal)

  -- ---- its ending

  pub ending_is : (if is_some waiting then Stuck else Complete) ≡ ending_by scene kept.journal
  ending_is = ap (λ (b : Bool). if b then Stuck else Complete) (is_stuck_of scene kept.journal waiting is.waiting_is.stuck)

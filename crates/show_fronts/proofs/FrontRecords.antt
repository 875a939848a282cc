-- Records, journals and orders of the first n frames, and what they show.
use Rattle.std.proofs.Common.{◌≡◌, ℕ, zero, suc, ◌+◌, ◌<◌, ◌≤◌, min, Bool, true, false, List, [], ◌∷◌, map, take, length, get_or, Option, Some, None, inl, inr, refl, sym, ap, ◌∙◌, subst, arith}
use Rattle.std.specs.Prelude.{slice_get, option_map, is_some}
use Rattle.std.specs.List.{range_with_len}
use Rattle.std.proofs.lemmas.Bool.{cases_lt}
use Rattle.std.proofs.lemmas.List.{length-map, get_or-map, take_all}
use Rattle.std.proofs.lemmas.List.FromFn.{take-map-range_with_len, length-map-range_with_len}
use Rattle.std.proofs.lemmas.Option.{slice_get-map, slice_get-get_or}
use mathlib.Core.Path.{fun_ext}
use Rattle.rc_base.specs.Cluster.Tiles.{tile_at, tile_count}
use Rattle.rc_base.specs.Drawing.Images.{Pixels, image_from, frame_image, frame_images}
use Rattle.rc_base.specs.Numbers.{natural}
use Rattle.rc_base.specs.Orders.Journal.{start, head_wait, waiting_of}
use Rattle.rc_base.specs.Orders.Order.{IsPermitted, default_journal, default_order}
use Rattle.rc_base.specs.Orders.Sync.{IsWellFormed, client_count, sync_lists_of}
use Rattle.rc_base.specs.declared.image.Image.{Image}
use Rattle.rc_base.specs.declared.scene.Scene.{Scene}
use Rattle.rc_base.specs.declared.sync.SyncLists.{SyncLists}
use Rattle.rc_base.specs.declared.sync.WaitAt.{WaitAt}
use Rattle.rc_base.specs.declared.window.Layout.{Layout}
use Rattle.plain_lemmas.proofs.Ranges.{found_in_range}
use Rattle.order_model.specs.Log.{Job, Replays, IsComplete, recorded_order}
use Rattle.order_model.specs.Report.{frame_count, is_stuck, tile_order}
use Rattle.order_model.specs.Sent.{IsRecordOf, jobs_of}
use Rattle.order_model.specs.declared.record.LogEntry.{LogEntry}
use Rattle.order_model.specs.declared.record.Record.{Record}
use Rattle.order_model.proofs.ClientsBeyond.{ops_past}
use Rattle.order_model.proofs.DefaultJournalIsMaximal.{default_maximal}
use Rattle.order_model.proofs.DefaultOrderIsPermitted.{default_permitted}
use Rattle.order_model.proofs.JournalsSwapAlike.{swap_entries_counted}
use Rattle.order_model.proofs.RecordedOrdersArePermitted.{Reached, lawful_record_permitted}
use Rattle.order_model.proofs.RunsShowOneImage.{tile_below}
use Rattle.order_model.proofs.SceneJobsAreSent.{scene_jobs_are_sent}
use Rattle.show_fronts.specs.Fronts.{front, front_journal, front_log, front_record}
use Rattle.show_fronts.specs.Laws.{DefaultJournalsStay, SerialFramesStay, FirstFramesHaveRecords, FrontsHaveTheirFrames, FirstOrdersStay, FirstFramesStay, FrontJournalsAreLegal, FrontsEnd}
use Rattle.show_fronts.proofs.FrontFrames.{same_frame}
use Rattle.show_fronts.proofs.FrontJournals.{front_counts, first_cut, cut_legal, cut_nothing, cut_default, whole_legal, over_where_shown}
use Rattle.show_fronts.proofs.FrontLists.{are_cut, front_formed, jobs_go_on}
use Rattle.show_fronts.proofs.FrontLogs.{Parts, IsEnded, cut_log}
use Rattle.show_fronts.proofs.FrontNames.{IsSplit, is_split, first_names}
use Rattle.show_fronts.proofs.FrontOrders.{recorded_goes_on, default_goes_on}

-- ---- journals

pub default_journals_stay : DefaultJournalsStay
default_journals_stay s n well = cut_default n (sync_lists_of s) (sync_lists_of (front n s)) (are_cut s n) well (front_formed s n well)

pub fronts_have_their_frames : FrontsHaveTheirFrames
fronts_have_their_frames js n = sym (swap_entries_counted (front_journal n js)) ∙ front_counts js n ∙ ap (min n) (swap_entries_counted js)

pub front_journals_are_legal : FrontJournalsAreLegal
front_journals_are_legal s js n well legal =
    let syncs = sync_lists_of s in
    let cut = sync_lists_of (front n s) in
    whole_legal n syncs cut (are_cut s n) well js n (start syncs) (start cut) (first_cut n syncs cut (are_cut s n)) (ops_past syncs) legal

pub fronts_end : FrontsEnd
fronts_end s js n legal count = by (is_stuck cut js) refl
  where
    cut : SyncLists
    cut = sync_lists_of (front n s)

    waits : ℕ → Bool
    waits c = is_some (waiting_of cut js c)

    nobody : (c : ℕ) → waits c ≡ false
    nobody c =
        ap (λ (ws : List WaitAt). is_some (head_wait ws))
        (over_where_shown n (sync_lists_of s) cut (are_cut s n) js n (start (sync_lists_of s)) (start cut) (first_cut n (sync_lists_of s) cut (are_cut s n)) (ops_past (sync_lists_of s)) legal
        (swap_entries_counted js ∙ count) c)

    by : (b : Bool) → is_stuck cut js ≡ b → is_stuck cut js ≡ false
    by false e = e
    by true e = absurd (let k = found_in_range waits 0 (client_count cut) e in let t = k.3 in let f = nobody k.0 in cc (t, f))

-- ---- records

module _ (s : Scene) (l : Layout) (kept : Record) (n : ℕ) (well : IsWellFormed (sync_lists_of s)) (h : IsRecordOf s l kept) where
  abbrev syncs : SyncLists
  syncs = sync_lists_of s

  abbrev cut : SyncLists
  cut = sync_lists_of (front n s)

  first_log : (tile : ℕ) (log : List LogEntry) → slice_get kept.logs tile ≡ Some log
      → IsEnded n syncs cut (are_cut s n) (front_journal n kept.journal) (front_log n kept.journal log) (start cut) (λ c. jobs_of (front n s) l c tile)
  first_log tile log is =
      let jobs : ℕ → List Job = λ c. jobs_of s l c tile in
      let first : ℕ → List Job = λ c. jobs_of (front n s) l c tile in
      let more : ℕ → List Job = λ c. (jobs_go_on s l n c tile).more in
      let sent = scene_jobs_are_sent (front n s) l tile in
      let reached : Reached cut (start cut) (λ c. 0) first = record { rising = sent.rising; all = sent.all } in
      let parts : Parts n (start syncs) jobs first more = record { whole = λ c. (jobs_go_on s l n c tile).whole; none = λ c. (jobs_go_on s l n c tile).none } in
      let complete = h.complete tile log is in
      cut_log n syncs cut (are_cut s n) log kept.journal n (start syncs) (start cut) (λ c. 0) jobs first more (first_cut n syncs cut (are_cut s n)) (ops_past syncs) reached parts
      (λ z c. (let none = (are_cut s n).none z c in omega (arith, none))) h.maximal.0 (h.replays tile log is) complete.entries complete.clients

  some_log : (tile : ℕ) (log : List LogEntry) (o : Option (List LogEntry)) → option_map (front_log n kept.journal) o ≡ Some log
      → (whole : List LogEntry) × (o ≡ Some whole) × (front_log n kept.journal whole ≡ log)
  some_log tile log None e = absurd cc
  some_log tile log (Some whole) e = let same : front_log n kept.journal whole ≡ log = cc in (whole, refl, same)

  cut_of : (tile : ℕ) (log : List LogEntry) → slice_get (map (front_log n kept.journal) kept.logs) tile ≡ Some log
      → (whole : List LogEntry) × (slice_get kept.logs tile ≡ Some whole) × (front_log n kept.journal whole ≡ log)
  cut_of tile log is = some_log tile log (slice_get kept.logs tile) (sym (slice_get-map (front_log n kept.journal) kept.logs tile) ∙ is)

  first_record : IsRecordOf (front n s) l (front_record s n kept)
  first_record = record {
    lists = refl;
    maximal = (
      cut_legal n syncs cut (are_cut s n) kept.journal n (start syncs) (start cut) (first_cut n syncs cut (are_cut s n)) (ops_past syncs) h.maximal.0,
      cut_nothing n syncs cut (are_cut s n) well kept.journal n (start syncs) (start cut) (first_cut n syncs cut (are_cut s n)) (ops_past syncs) h.maximal.0 h.maximal.1,
    );
    count = length-map kept.logs (front_log n kept.journal) ∙ h.count;
    replays = λ tile log is. (
        let w = cut_of tile log is in
        let ended = first_log tile w.0 w.1 in
        subst (λ x. Replays cut (front_journal n kept.journal) (λ client. jobs_of (front n s) l client tile) x) w.2 ended.replays);
    complete = λ tile log is. (
        let w = cut_of tile log is in
        let ended = first_log tile w.0 w.1 in
        let whole : IsComplete cut (front_journal n kept.journal) (λ client. jobs_of (front n s) l client tile) (front_log n kept.journal w.0) =
        record { entries = ended.entries; clients = ended.clients } in
        subst (λ x. IsComplete cut (front_journal n kept.journal) (λ client. jobs_of (front n s) l client tile) x) w.2 whole);
  }

  -- a tile's order begins with the cut scene's
  split : (tile : ℕ) → tile < tile_count l → IsSplit s n (tile_order (front_record s n kept) tile) (tile_order kept tile)
  split tile lt =
      let js = kept.journal in
      let fj = front_journal n js in
      let log = get_or kept.logs tile [] in
      let short = front_log n js log in
      let inside : tile < length kept.logs = subst (λ m. tile < m) (sym h.count) lt in
      let is : slice_get kept.logs tile ≡ Some log = slice_get-get_or kept.logs tile [] inside in
      let short_is : slice_get (map (front_log n js) kept.logs) tile ≡ Some short =
      slice_get-map (front_log n js) kept.logs tile ∙ ap (option_map (front_log n js)) is in
      let cut_log_is : get_or (map (front_log n js) kept.logs) tile [] ≡ short = get_or-map (front_log n js) kept.logs tile [] [] inside in
      let lists : recorded_order kept.syncs js log ≡ recorded_order syncs js log = ap (λ x. recorded_order x js log) h.lists in
      let permitted' : IsPermitted syncs js (recorded_order syncs js log) =
      subst (IsPermitted syncs js) lists (lawful_record_permitted syncs (tile_count l) (jobs_of s l) kept well (scene_jobs_are_sent s l) h tile log is) in
      let permitted : IsPermitted cut fj (recorded_order cut fj short) =
      lawful_record_permitted cut (tile_count l) (jobs_of (front n s) l) (front_record s n kept) (front_formed s n well) (scene_jobs_are_sent (front n s) l) first_record tile short short_is in
      let complete = h.complete tile log is in
      let base : IsSplit s n (recorded_order cut fj short) (recorded_order syncs js log) =
      is_split s n well js (recorded_order cut fj short) (recorded_order syncs js log) (recorded_goes_on n syncs cut (are_cut s n) js log h.maximal.0 complete.entries) permitted permitted' in
      subst (λ x. IsSplit s n (recorded_order cut fj x) (recorded_order kept.syncs js log)) (sym cut_log_is)
      (subst (λ y. IsSplit s n (recorded_order cut fj short) y) (sym lists) base)

pub first_frames_have_records : FirstFramesHaveRecords
first_frames_have_records s l kept n well h = first_record s l kept n well h

pub first_orders_stay : FirstOrdersStay
first_orders_stay s l kept n well h tile lt = first_names s n (tile_order (front_record s n kept) tile) (tile_order kept tile) (split s l kept n well h tile lt)

-- ---- frames

pub first_frames_stay : FirstFramesStay
first_frames_stay s l kept n well some h k le =
    let picture : Pixels → Image = λ pixels. image_from s.decl pixels in
    ap picture (fun_ext (λ x. fun_ext (λ y. (
    let tile = tile_at l (natural x) (natural y) in
    same_frame s n k (tile_order (front_record s n kept) tile) (tile_order kept tile) (split s l kept n well h tile (tile_below l (natural x) (natural y) some)) le x y))))

maps_alike : {A : Type 0} (f g : ℕ → A) (a m : ℕ) → ((k : ℕ) → a ≤ k → k < a + m → f k ≡ g k) → map f (range_with_len a m) ≡ map g (range_with_len a m)
maps_alike f g a zero h = refl
maps_alike f g a (suc m) h =
    ap (λ x. x ∷ map f (range_with_len (a + 1) m)) (h a (omega arith) (omega arith))
    ∙ ap (λ xs. g a ∷ xs) (maps_alike f g (a + 1) m (λ k low high. h k (omega (arith, low)) (omega (arith, high))))

first_of_map : {A : Type 0} (f : ℕ → A) (n m : ℕ) → map f (range_with_len 1 (min n m)) ≡ take n (map f (range_with_len 1 m))
first_of_map f n m = elim (cases_lt m n) [
  | inl lt ↦
      let e : min n m ≡ m = omega (arith, lt) in
      ap (λ k. map f (range_with_len 1 k)) e ∙ sym (take_all n (map f (range_with_len 1 m)) (omega (arith, lt, length-map-range_with_len f 1 m)))
  | inr ge ↦
      let e : min n m ≡ n = omega (arith, ge) in
      ap (λ k. map f (range_with_len 1 k)) e ∙ sym (take-map-range_with_len f 1 m n ge)
]

pub serial_frames_stay : SerialFramesStay
serial_frames_stay s n well =
    let syncs = sync_lists_of s in
    let cut = sync_lists_of (front n s) in
    let well' = front_formed s n well in
    let js = default_journal syncs in
    let fj = front_journal n js in
    let legal = (default_maximal syncs well).0 in
    let legal' = cut_legal n syncs cut (are_cut s n) js n (start syncs) (start cut) (first_cut n syncs cut (are_cut s n)) (ops_past syncs) legal in
    let first = default_order cut fj in
    let whole = default_order syncs js in
    let parted : IsSplit s n first whole =
    is_split s n well js first whole (default_goes_on n syncs cut (are_cut s n) js legal) (default_permitted cut fj well' legal') (default_permitted syncs js well legal) in
    let picture : Pixels → Image = λ pixels. image_from s.decl pixels in
    let same : (k : ℕ) → k ≤ n → frame_image (front n s) first k ≡ frame_image s whole k =
    λ k le. ap picture (fun_ext (λ x. fun_ext (λ y. same_frame s n k first whole parted le x y))) in
    ap (λ j. frame_images (front n s) (default_order cut j) (frame_count j)) (default_journals_stay s n well)
    ∙ ap (λ m. frame_images (front n s) first m) (fronts_have_their_frames js n)
    ∙ maps_alike (frame_image (front n s) first) (frame_image s whole) 1 (min n (frame_count js)) (λ k low high. same k (omega (arith, high)))
    ∙ first_of_map (frame_image s whole) n (frame_count js)

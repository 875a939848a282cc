-- The default journal tells how each maximal journal ends, and what it shows.
use Rattle.std.proofs.Common.{◌≡◌, ℕ, ◌<◌, ◌||◌, Bool, List, [], ◌∷◌, refl, ap, ap₂, subst}
use Rattle.std.specs.Prelude.{is_some, if◌then◌else◌}
use Rattle.std.specs.List.{list_any, range_with_len}
use Rattle.rc_base.specs.Orders.Footprints.{footprint_of}
use Rattle.rc_base.specs.Orders.Journal.{IsMaximal, waiting_of}
use Rattle.rc_base.specs.Orders.Order.{Footprint, IsOrdered}
use Rattle.rc_base.specs.Orders.Sync.{IsWellFormed, client_count, sync_lists_of}
use Rattle.rc_base.specs.declared.sync.Entry.{Entry}
use Rattle.rc_base.specs.declared.sync.SyncLists.{SyncLists}
use Rattle.order_model.specs.Laws.{DefaultJournalIsMaximal, MaximalJournalsAgree, MaximalJournalsEndAlike, SceneListsAreWellFormed}
use Rattle.order_model.specs.Report.{is_stuck}
use Rattle.order_model.specs.Uncontended.{TakesAlone, IsUncontended}
use Rattle.scene_file.specs.Generated.{GeneratedScenesAreWithin}
use Rattle.spu_chain.specs.Laws.{FilteredStaysWithin}
use Rattle.run_words.specs.declared.told.Ending.TheVariants.{Complete, Stuck}
use Rattle.render_core.specs.Due.{default_ending, journal_of}
use Rattle.render_core.specs.Laws.{OrderedRecordsShowOneImage, RecordsAreForeseen}
use Rattle.render_core.proofs.OneImage.{well}

same_any : (f g : ℕ → Bool) → ((c : ℕ) → f c ≡ g c) → (cs : List ℕ) → list_any f cs ≡ list_any g cs
same_any f g same [] = refl
same_any f g same (c ∷ cs) = ap₂ (λ (a b : Bool). a || b) (same c) (same_any f g same cs)

module _ (syncs : SyncLists) (well_formed : IsWellFormed syncs) (ends : MaximalJournalsEndAlike) where
  -- where takers are alone they leave clients waiting alike
  stuck_alike : TakesAlone syncs → (journal other : List Entry) → IsMaximal syncs journal → IsMaximal syncs other → is_stuck syncs journal ≡ is_stuck syncs other
  stuck_alike alone journal other maximal greatest =
      same_any (λ c. is_some (waiting_of syncs journal c)) (λ c. is_some (waiting_of syncs other c))
      (λ c. ap is_some (ends syncs well_formed alone journal other maximal greatest c).0) (range_with_len 0 (client_count syncs))

  -- where nobody contends they reach the same places and permit the same orders, so a scene that is ordered for one is ordered for the other
  ordered_alike : {P : Type 0} → MaximalJournalsAgree → IsUncontended syncs → (f : Footprint P) (journal other : List Entry) → IsMaximal syncs journal
      → IsMaximal syncs other → IsOrdered syncs journal f → IsOrdered syncs other f
  ordered_alike agree uncontended f journal other maximal greatest ordered a b c o p is_o is_p =
      ordered a b
      (record {
        clients = c.clients;
        first = subst (λ (n : ℕ). a.place < n) (ends syncs well_formed uncontended.alone other journal greatest maximal a.client).1 c.first;
        second = subst (λ (n : ℕ). b.place < n) (ends syncs well_formed uncontended.alone other journal greatest maximal b.client).1 c.second;
        common = c.common;
      }) o p
      ((agree syncs well_formed uncontended other journal greatest maximal o).0 is_o) ((agree syncs well_formed uncontended other journal greatest maximal p).0 is_p)

module _ (formed : SceneListsAreWellFormed) (made : GeneratedScenesAreWithin) (stays : FilteredStaysWithin) (maximal : DefaultJournalIsMaximal)
    (ends : MaximalJournalsEndAlike) (agree : MaximalJournalsAgree) (shows : OrderedRecordsShowOneImage) where
  pub foreseen : RecordsAreForeseen
  unfolding default_ending
  foreseen task cluster input work kept of is lawful =
      let syncs = sync_lists_of work.scene in
      let well_formed = well made stays task input work is formed in
      let greatest = maximal syncs well_formed in (
        λ alone. ap (λ (b : Bool). if b then Stuck else Complete)
            (stuck_alike syncs well_formed ends alone kept.journal (journal_of work.scene) lawful.maximal greatest),
        λ uncontended ordered. (shows task cluster input work kept of is lawful
            (ordered_alike syncs well_formed ends agree uncontended (footprint_of work.scene) (journal_of work.scene) kept.journal greatest lawful.maximal ordered)).1
            uncontended,
      )

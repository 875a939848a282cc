-- The lines of reports, client by client.
use Rattle.std.proofs.Common.{◌≡◌, ℕ, inl, inr, Bool, true, false, List, [], ◌∷◌, ◌++◌, length, Option, None, Some, refl, sym, ap, ◌∙◌, append_assoc}
use Rattle.std.specs.Prelude.{◌↔◌, ◌||◌, IsSome, is_some, slice_index_or, codes, if◌then◌else◌}
use Rattle.std.specs.List.{flat_map, range_with_len, list_any}
use Rattle.std.specs.Option.{option_map_or}
use Rattle.std.proofs.lemmas.Bool.{cases_Bool}
use Rattle.rc_base.specs.Contexts.Issue.{faults_of}
use Rattle.rc_base.specs.Orders.Journal.{waiting_of}
use Rattle.rc_base.specs.Orders.Sync.{client_count, sync_lists_of}
use Rattle.rc_base.specs.declared.scene.Scene.{Scene}
use Rattle.rc_base.specs.declared.state.Fault.{Fault}
use Rattle.rc_base.specs.declared.sync.Entry.{Entry}
use Rattle.rc_base.specs.declared.sync.WaitAt.{WaitAt}
use Rattle.rc_base.specs.declared.sync.Waiting.{Waiting}
use Rattle.order_model.specs.Report.{fault_line, client_faults, fault_lines, count_lines, stuck_line, client_stuck, stuck_lines, is_stuck, short_report_of}
use Rattle.run_words.specs.declared.work.Work.{Work}
use Rattle.scene_lemmas.proofs.Scenes.{scene_client_count}
use Rattle.render_core.specs.Due.{short_due}
use Rattle.run_words.specs.Reports.{lines_of_faults, lines_of_stuck, lines_of_turns}
use Rattle.render_core.specs.Runs.{AreOf}

same_lines : (f g : ℕ → List ℕ) → ((x : ℕ) → f x ≡ g x) → (xs : List ℕ) → flat_map f xs ≡ flat_map g xs
same_lines f g same [] = refl
same_lines f g same (x ∷ xs) = ap (λ (l : List ℕ). l ++ flat_map f xs) (same x) ∙ ap (λ (l : List ℕ). g x ++ l) (same_lines f g same xs)

-- where nobody waits there is no line
no_lines : (at : ℕ → Option WaitAt) (xs : List ℕ) → list_any (λ client. is_some (at client)) xs ≡ false
    → flat_map (λ client. option_map_or (stuck_line client) (at client) []) xs ≡ []
no_lines at [] none = refl
no_lines at (x ∷ xs) none = go (at x) refl (λ rest. no_lines at xs rest) where
  go : (o : Option WaitAt) → at x ≡ o
      → (list_any (λ client. is_some (at client)) xs ≡ false → flat_map (λ client. option_map_or (stuck_line client) (at client) []) xs ≡ [])
      → flat_map (λ client. option_map_or (stuck_line client) (at client) []) (x ∷ xs) ≡ []
  go None e later = ap (λ (w : Option WaitAt). option_map_or (stuck_line x) w [] ++ flat_map (λ client. option_map_or (stuck_line client) (at client) []) xs) e
      ∙ later (sym (ap (λ (w : Option WaitAt). is_some w || list_any (λ client. is_some (at client)) xs) e) ∙ none)
  go (Some w) e later = let some : true ≡ false = sym (ap (λ (w : Option WaitAt). is_some w || list_any (λ client. is_some (at client)) xs) e) ∙ none in cc

pub is_stuck_of : (scene : Scene) (journal : List Entry) (waiting : Option Waiting) → (IsSome waiting ↔ (is_stuck (sync_lists_of scene) journal ≡ true))
    → is_some waiting ≡ is_stuck (sync_lists_of scene) journal
is_stuck_of scene journal None h = elim (cases_Bool (is_stuck (sync_lists_of scene) journal)) [
  | inl stuck ↦ (let some : false ≡ true = h.1 stuck in cc)
  | inr free ↦ sym free
]
is_stuck_of scene journal (Some w) h = sym (h.0 refl)

module _ (scene : Scene) (faults : List (List (ℕ × Fault))) (journal : List Entry) where
  pub faults_told : length faults ≡ length scene.streams → ((client : ℕ) → slice_index_or faults client [] ≡ faults_of scene client) → lines_of_faults faults ≡ fault_lines scene
  faults_told count each =
      ap (λ (n : ℕ). flat_map (λ client. flat_map (fault_line client) (slice_index_or faults client [])) (range_with_len 0 n)) count
      ∙ same_lines (λ client. flat_map (fault_line client) (slice_index_or faults client [])) (client_faults scene)
      (λ client. ap (flat_map (fault_line client)) (each client)) (range_with_len 0 (length scene.streams))

  pub stuck_told : (waiting : Option Waiting) → AreOf scene faults journal waiting → lines_of_stuck waiting (length faults) ≡ stuck_lines (sync_lists_of scene) journal
  stuck_told None are =
      let free : is_stuck (sync_lists_of scene) journal ≡ false = sym (is_stuck_of scene journal None are.stuck) in
      let none = no_lines (waiting_of (sync_lists_of scene) journal) (range_with_len 0 (client_count (sync_lists_of scene))) free in
      sym (ap (λ (b : Bool). flat_map (client_stuck (sync_lists_of scene) journal) (range_with_len 0 (client_count (sync_lists_of scene))) ++ (if b then codes "rc: stuck\n" else [])) free
      ∙ ap (λ (l : List ℕ). l ++ []) none)
  stuck_told (Some w) are =
      let stuck : is_stuck (sync_lists_of scene) journal ≡ true = sym (is_stuck_of scene journal (Some w) are.stuck) in
      let waits = same_lines (λ client. option_map_or (stuck_line client) (slice_index_or w.at client None) []) (client_stuck (sync_lists_of scene) journal)
      (λ client. ap (λ (o : Option WaitAt). option_map_or (stuck_line client) o []) (are.waits client)) (range_with_len 0 (length faults)) in
      let count : length faults ≡ client_count (sync_lists_of scene) = are.clients ∙ sym (scene_client_count scene) in
      ap (λ (l : List ℕ). l ++ codes "rc: stuck\n") (waits ∙ ap (λ (n : ℕ). flat_map (client_stuck (sync_lists_of scene) journal) (range_with_len 0 n)) count)
      ∙ sym (ap (λ (b : Bool). flat_map (client_stuck (sync_lists_of scene) journal) (range_with_len 0 (client_count (sync_lists_of scene))) ++ (if b then codes "rc: stuck\n" else [])) stuck)

-- the lines of a report without tiles are those of the scene and of the journal
pub report_told : (work : Work) (faults : List (List (ℕ × Fault))) (journal : List Entry) (waiting : Option Waiting) → AreOf work.scene faults journal waiting → (told : List ℕ)
    → lines_of_turns work faults journal told waiting ≡ short_due work told journal
unfolding short_due short_report_of
report_told work faults journal waiting are told =
    ap (λ (l : List ℕ). work.refused ++ l ++ count_lines journal ++ work.counted ++ told ++ lines_of_stuck waiting (length faults))
    (faults_told work.scene faults journal are.clients are.faults_are)
    ∙ ap (λ (l : List ℕ). work.refused ++ fault_lines work.scene ++ count_lines journal ++ work.counted ++ told ++ l) (stuck_told work.scene faults journal waiting are)
    ∙ joined work.refused (fault_lines work.scene) (count_lines journal) work.counted told (stuck_lines (sync_lists_of work.scene) journal)
  where
    joined : (a b c d e f : List ℕ) → a ++ b ++ c ++ d ++ e ++ f ≡ a ++ (b ++ c ++ (d ++ e) ++ f)
    joined a b c d e f = simp append_assoc

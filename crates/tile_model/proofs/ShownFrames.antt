-- How many frames a tile has shown after an item: one more at a Swap, and as many at every other one.
use Rattle.std.proofs.Common.{◌≡◌, ℕ, zero, suc, ◌+◌, ◌≤◌, false, List, [], ◌∷◌, ◌++◌, ◌⊎◌, length, take, Some, slice_get, inl, inr, refl, sym, ap, ◌∙◌, append-nil, ◌≢◌}
use Rattle.std.proofs.lemmas.Bool.{cases_Bool}
use Rattle.std.proofs.lemmas.List.{take-append-le}
use Rattle.std.proofs.lemmas.List.Sums.{count_by_more_yes, count_by_more_no}
use Rattle.std.proofs.lemmas.Option.{get_or_from_slice_get, slice_get_within}
use Rattle.rc_base.specs.declared.state.Act.{Act}
use Rattle.rc_base.specs.declared.state.Act.TheVariants as act
use Rattle.rc_base.specs.declared.sync.Entry.{Entry}
use Rattle.rc_base.specs.declared.sync.Entry.TheVariants.{Swap}
use Rattle.order_model.specs.Report.{is_swap_entry, frame_count}
use Rattle.order_model.specs.Standing.{Progress, performed_in}
use Rattle.order_model.specs.declared.record.LogEntry.{LogEntry}
use Rattle.order_model.specs.declared.record.LogEntry.TheVariants.{Took, Performed}
use Rattle.order_model.proofs.JournalsInTurn.{performed_more, not_swap, took_more}
use Rattle.tile_model.specs.Items.{after_act, after_item, shown_frames, after_entry, after_performed, after_work}
use Rattle.tile_model.specs.Items.Item.{Due, Granted}

-- ---- how many Swaps are performed

-- the log goes on, and no Swap is performed
pub record ShowsNothing (p q : Progress) : Type 0 where
  pub more : List LogEntry
  pub log : q.log ≡ p.log ++ more
  pub frames : shown_frames q ≡ shown_frames p

-- an entry is performed that isn't a Swap
pub not_shown : (p : Progress) (e : Entry) → slice_get p.learnt (performed_in p.log) ≡ Some e → is_swap_entry e ≡ false → ShowsNothing p (after_item p (Due e))
not_shown p e known other = record {
  more = Performed ∷ [];
  log = refl;
  frames =
      let n = performed_in p.log in
      let one : performed_in (p.log ++ Performed ∷ []) ≡ n + 1 = performed_more p.log Performed in
      ap (λ k. frame_count (take k p.learnt)) one
      ∙ count_by_more_no is_swap_entry p.learnt n e (slice_get_within p.learnt n e known) (ap is_swap_entry (get_or_from_slice_get p.learnt n e e known) ∙ other);
}

-- a Swap is
pub after_swap : (p : Progress) → slice_get p.learnt (performed_in p.log) ≡ Some Swap → shown_frames (after_performed p Swap) ≡ shown_frames p + 1
after_swap p known =
    let n = performed_in p.log in
    let one : performed_in (p.log ++ Performed ∷ []) ≡ n + 1 = performed_more p.log Performed in
    ap (λ k. frame_count (take k p.learnt)) one
    ∙ count_by_more_yes is_swap_entry p.learnt n Swap (slice_get_within p.learnt n Swap known) (ap is_swap_entry (get_or_from_slice_get p.learnt n Swap Swap known))

pub one_shown : (p : Progress) → slice_get p.learnt (performed_in p.log) ≡ Some Swap → shown_frames (after_item p (Due Swap)) ≡ shown_frames p + 1
one_shown p known = after_swap p known

pub after_other : (p : Progress) (e : Entry) → e ≢ Swap → slice_get p.learnt (performed_in p.log) ≡ Some e → shown_frames (after_performed p e) ≡ shown_frames p
after_other p e other known = (not_shown p e known (not_swap e other)).frames

pub after_worked : (p : Progress) (client place : ℕ) → shown_frames (after_work p client place) ≡ shown_frames p
after_worked p client place = ap (λ n. frame_count (take n p.learnt)) (took_more p.log client place)

pub act_shows : (p : Progress) (client : ℕ) (a : Act) (place : ℕ) → ShowsNothing p (after_act p client a place)
act_shows p client (act.Draw block) place = elim (cases_Bool (p.held client)) [
  | inl t ↦ rw t record { more = []; log = sym (append-nil p.log); frames = refl }
  | inr f ↦ rw f record { more = Took client place ∷ []; log = refl; frames = after_worked p client place }
]
act_shows p client (act.Clear mask) place = elim (cases_Bool (p.held client)) [
  | inl t ↦ rw t record { more = []; log = sym (append-nil p.log); frames = refl }
  | inr f ↦ rw f record { more = Took client place ∷ []; log = refl; frames = after_worked p client place }
]
act_shows p client (act.Shared part) place = elim (cases_Bool (p.held client)) [
  | inl t ↦ rw t record { more = []; log = sym (append-nil p.log); frames = refl }
  | inr f ↦ rw f record { more = Took client place ∷ []; log = refl; frames = after_worked p client place }
]
act_shows p client (act.Sync op) place = elim (cases_Bool (p.held client)) [
  | inl t ↦ rw t record { more = []; log = sym (append-nil p.log); frames = refl }
  | inr f ↦ rw f record { more = []; log = sym (append-nil p.log); frames = refl }
]
act_shows p client act.End place = record { more = []; log = sym (append-nil p.log); frames = refl }

pub after_learnt : (p : Progress) (e : Entry) → performed_in p.log ≤ length p.learnt → shown_frames (after_entry p e) ≡ shown_frames p
after_learnt p e le = ap frame_count (take-append-le (performed_in p.log) p.learnt (e ∷ []) le)

pub learns_shows : (p : Progress) (e : Entry) → performed_in p.log ≤ length p.learnt → ShowsNothing p (after_item p (Granted e))
learns_shows p e le = record { more = []; log = sym (append-nil p.log); frames = after_learnt p e le }

-- ---- the parts

pub get_push : {A : Type 0} (xs : List A) (y : A) (k : ℕ) (f : A) → slice_get (xs ++ y ∷ []) k ≡ Some f → (slice_get xs k ≡ Some f) ⊎ ((k ≡ length xs) × (f ≡ y))
get_push [] y zero f h = inr (refl, cc)
get_push [] y (suc k) f h = absurd cc
get_push (x ∷ xs) y zero f h = inl h
get_push (x ∷ xs) y (suc k) f h = elim (get_push xs y k f h) [ inl e ↦ inl e | inr e ↦ inr (ap suc e.0, e.1) ]

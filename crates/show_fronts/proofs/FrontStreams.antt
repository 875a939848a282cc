-- Streams that are cut behind an accepted Swap: what a client's commands mean up to there stays.
use Rattle.std.proofs.Common.{◌≡◌, ℕ, zero, suc, ◌+◌, ◌<◌, ◌≤◌, nat_lt, List, [], length, take, get_or, inl, inr, refl, sym, ap, ◌∙◌, subst, arith, lt-ltb, le-ltb, Some, ◌⊎◌}
use Rattle.std.specs.Prelude.{map}
use Rattle.std.specs.List.{range_with_len}
use Rattle.std.proofs.lemmas.Bool.{cases_lt}
use Rattle.std.proofs.lemmas.List.{get_or_past, get_or-take, length-take-le}
use Rattle.std.proofs.lemmas.List.FromFn.{length-map-range_with_len, get_or-map-range_with_len}
use Rattle.std.proofs.lemmas.Option.{slice_get-get_or}
use Rattle.rc_base.specs.Cluster.Parcels.{parcels_before}
use Rattle.rc_base.specs.Contexts.Issue.{stream_of, command_at, context_after, effect_at, issued_next}
use Rattle.rc_base.specs.Drawing.Serial.{accepted_swaps}
use Rattle.rc_base.specs.Orders.Journal.{how_many}
use Rattle.rc_base.specs.Orders.Sync.{waits_below}
use Rattle.rc_base.specs.declared.command.Command.{Command}
use Rattle.rc_base.specs.declared.command.Command.TheVariants as cmd
use Rattle.rc_base.specs.declared.scene.Scene.{Scene}
use Rattle.rc_base.specs.declared.window.Layout.{Layout}
use Rattle.show_fronts.specs.Fronts.{front_end, front}

-- ---- where a stream is cut

-- among m numbers those below f have fewer than n before them, and f, where it is one of the m, has n
pub record IsEnd (n : ℕ) (before : ℕ → ℕ) (m f : ℕ) : Type 0 where
  pub within : f ≤ m
  pub below : (p : ℕ) → p < f → before p < n
  pub at : (f ≡ m) ⊎ (n ≤ before f)

-- where the last of them has fewer, all have
pub whole_end : (n : ℕ) (before : ℕ → ℕ) → ((p q : ℕ) → p ≤ q → before p ≤ before q) → (m f : ℕ) → IsEnd n before m f → before m < n → f ≡ m
whole_end n before rise m f h lt = elim h.at [ inl e ↦ e | inr ge ↦ (let up = rise f m h.within in absurd (omega (arith, lt, ge, up))) ]

pub end_is : (n : ℕ) (before : ℕ → ℕ) → ((p q : ℕ) → p ≤ q → before p ≤ before q) → (m : ℕ) → IsEnd n before m (how_many (λ p. nat_lt (before p) n) m)
end_is n before rise zero = record { within = omega arith; below = λ p lt. absurd (omega (arith, lt)); at = inl refl }
end_is n before rise (suc m) =
    let h = end_is n before rise m in
    let f = how_many (λ p. nat_lt (before p) n) m in
    elim (cases_lt (before m) n) [
      | inl lt ↦
          let whole : f ≡ m = whole_end n before rise m f h lt in
          rw (lt-ltb (before m) n lt) (record {
            within = omega (arith, whole);
            below = λ p low. (let up = rise p m (omega (arith, low, whole)) in omega (arith, up, lt));
            at = inl (omega (arith, whole));
          })
      | inr ge ↦
          let still : f + 0 ≡ f = omega arith in
          let same : f ≡ m → n ≤ before f = λ e. subst (λ k. n ≤ before k) (sym e) ge in
          let here : n ≤ before f = elim h.at [ inl e ↦ same e | inr le ↦ le ] in
          rw (le-ltb (before m) n ge) (subst (IsEnd n before (suc m)) (sym still) (record { within = (let w = h.within in omega (arith, w)); below = h.below; at = inr here }))
    ]

swaps_step : (s : Scene) (c p : ℕ) → accepted_swaps s c p ≤ accepted_swaps s c (suc p)
unfolding accepted_swaps
swaps_step s c p = omega arith

pub swaps_up : (s : Scene) (c p q : ℕ) → p ≤ q → accepted_swaps s c p ≤ accepted_swaps s c q
swaps_up s c p zero le = let e : p ≡ 0 = omega arith in rw e (omega arith)
swaps_up s c p (suc q) le = elim (cases_lt p (suc q)) [
  | inl lt ↦ (let a = swaps_up s c p q (omega (arith, lt)) in let b = swaps_step s c q in omega (arith, a, b))
  | inr ge ↦ let e : p ≡ suc q = omega (arith, ge, le) in rw e (omega arith)
]

pub front_is : (s : Scene) (n c : ℕ) → IsEnd n (accepted_swaps s c) (length (stream_of s c)) (front_end s n c)
front_is s n c = end_is n (accepted_swaps s c) (swaps_up s c) (length (stream_of s c))

-- ---- the cut streams

module _ (s : Scene) (n c : ℕ) where
  abbrev last : ℕ
  last = front_end s n c

  pub front_stream : stream_of (front n s) c ≡ take (front_end s n c) (stream_of s c)
  front_stream =
      let cut : ℕ → List Command = λ k. take (front_end s n k) (stream_of s k) in
      elim (cases_lt c (length s.streams)) [
        | inl lt ↦ get_or-map-range_with_len cut 0 (length s.streams) c c [] lt (omega arith)
        | inr ge ↦
            let none : stream_of s c ≡ [] = get_or_past s.streams c [] ge in
            let low : length (map cut (range_with_len 0 (length s.streams))) ≤ c = omega (arith, ge, length-map-range_with_len cut 0 (length s.streams)) in
            let w = (front_is s n c).within in
            let zero_end : front_end s n c ≡ 0 = omega (arith, w, ap length none) in
            get_or_past (map cut (range_with_len 0 (length s.streams))) c [] low ∙ sym (ap (λ k. take k (stream_of s c)) zero_end)
      ]

  pub front_length : length (stream_of (front n s) c) ≡ front_end s n c
  front_length = ap length front_stream ∙ length-take-le (front_end s n c) (stream_of s c) (front_is s n c).within

  same_command : (p : ℕ) → p < front_end s n c → command_at (front n s) c p ≡ command_at s c p
  same_command p lt =
      let w = (front_is s n c).within in
      slice_get-get_or (stream_of (front n s) c) p cmd.Swap (omega (arith, lt, front_length))
      ∙ ap Some (ap (λ (l : List Command). get_or l p cmd.Swap) front_stream ∙ get_or-take (front_end s n c) (stream_of s c) p cmd.Swap lt)
      ∙ sym (slice_get-get_or (stream_of s c) p cmd.Swap (omega (arith, lt, w)))

  -- ---- what stays

  pub same_context : (p : ℕ) → p ≤ front_end s n c → context_after (front n s) c p ≡ context_after s c p
  unfolding context_after
  same_context zero le = refl
  same_context (suc p) le =
      let before = same_context p (omega (arith, le)) in
      let command = same_command p (omega (arith, le)) in
      ap (λ x. issued_next x p (command_at (front n s) c p)) before ∙ ap (issued_next (context_after s c p) p) command

  pub same_effect : (p : ℕ) → p < front_end s n c → effect_at (front n s) c p ≡ effect_at s c p
  unfolding effect_at
  same_effect p lt =
      let before = same_context p (omega (arith, lt)) in
      let command = same_command p lt in
      rw (before, command) refl

  pub same_swaps : (p : ℕ) → p ≤ front_end s n c → accepted_swaps (front n s) c p ≡ accepted_swaps s c p
  unfolding accepted_swaps
  same_swaps zero le = refl
  same_swaps (suc p) le =
      let before = same_swaps p (omega (arith, le)) in
      let here = same_effect p (omega (arith, le)) in
      rw (before, here) refl

  pub same_waits : (p : ℕ) → p ≤ front_end s n c → waits_below (front n s) c p ≡ waits_below s c p
  unfolding waits_below
  same_waits zero le = refl
  same_waits (suc p) le =
      let before = same_waits p (omega (arith, le)) in
      let here = same_effect p (omega (arith, le)) in
      rw (before, here) refl

  pub same_parcels : (l : Layout) (tile p : ℕ) → p ≤ front_end s n c → parcels_before (front n s) l c tile p ≡ parcels_before s l c tile p
  unfolding parcels_before
  same_parcels l tile zero le = refl
  same_parcels l tile (suc p) le =
      let before = same_parcels l tile p (omega (arith, le)) in
      let context = same_context p (omega (arith, le)) in
      let here = same_effect p (omega (arith, le)) in
      rw (before, context, here) refl

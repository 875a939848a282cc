-- Which names of an order stand in front: those of the cut scene's order, and no later one.
use Rattle.std.proofs.Common.{◌≡◌, ℕ, ◌+◌, ◌<◌, ◌≤◌, Bool, true, false, List, [], ◌∷◌, ◌++◌, filter, inl, inr, refl, sym, ap, ◌∙◌, subst, arith, lt-ltb, le-ltb, append-nil}
use Rattle.std.proofs.lemmas.Bool.{cases_lt}
use Rattle.std.proofs.lemmas.List.Elements.{filter-append}
use Rattle.rc_base.specs.Drawing.Serial.{accepted_swaps}
use Rattle.rc_base.specs.Lists.{IsIn, NoRepeat}
use Rattle.rc_base.specs.Orders.Journal.{reach_of}
use Rattle.rc_base.specs.Orders.Order.{IsPermitted}
use Rattle.rc_base.specs.Orders.Sync.{IsWellFormed, length_of, sync_lists_of}
use Rattle.rc_base.specs.declared.scene.Scene.{Scene}
use Rattle.rc_base.specs.declared.sync.Entry.{Entry}
use Rattle.rc_base.specs.declared.sync.Name.{Name}
use Rattle.scene_lemmas.proofs.Numbered.{is_in_behind}
use Rattle.order_model.proofs.UsedOperations.{reach_within}
use Rattle.show_fronts.specs.Fronts.{is_in_front, front_end, front, front_journal}
use Rattle.show_fronts.proofs.FrontLists.{are_cut, front_formed, front_stop, scene_length}
use Rattle.show_fronts.proofs.FrontOrders.{ComesFirst}
use Rattle.show_fronts.proofs.FrontStreams.{swaps_up, front_is}

-- ---- lists

all_pass : {A : Type 0} (test : A → Bool) (xs : List A) → ((x : A) → IsIn x xs → test x ≡ true) → filter test xs ≡ xs
all_pass test [] h = refl
all_pass test (x ∷ xs) h = rw (h x (inl refl)) (ap (λ ys. x ∷ ys) (all_pass test xs (λ y i. h y (inr i))))

none_pass : {A : Type 0} (test : A → Bool) (xs : List A) → ((x : A) → IsIn x xs → test x ≡ false) → filter test xs ≡ []
none_pass test [] h = refl
none_pass test (x ∷ xs) h = rw (h x (inl refl)) (none_pass test xs (λ y i. h y (inr i)))

in_both : {A : Type 0} (x : A) (u v : List A) → NoRepeat (u ++ v) → IsIn x u → IsIn x v → ⊥
in_both x [] v once i j = i
in_both x (y ∷ u) v once (inl e) j = once.0 (subst (λ z. IsIn z (u ++ v)) (sym e) (is_in_behind x u v j))
in_both x (y ∷ u) v once (inr i) j = in_both x u v once.1 i j

-- ---- what stands in front

-- of the whole order the first names lie in the cut streams, and the later ones behind them
pub record IsSplit (s : Scene) (n : ℕ) (first whole : List Name) : Type 0 where
  pub later : List Name
  pub is : whole ≡ first ++ later
  pub inside : (m : Name) → IsIn m first → m.place < front_end s n m.client
  pub outside : (m : Name) → IsIn m later → n ≤ accepted_swaps s m.client m.place

pub first_names : (s : Scene) (n : ℕ) (first whole : List Name) → IsSplit s n first whole → first ≡ filter (is_in_front s n) whole
first_names s n first whole h =
    let test = is_in_front s n in
    let kept : filter test first ≡ first = all_pass test first (λ m i. lt-ltb (accepted_swaps s m.client m.place) n ((front_is s n m.client).below m.place (h.inside m i))) in
    let gone : filter test h.later ≡ [] = none_pass test h.later (λ m i. le-ltb (accepted_swaps s m.client m.place) n (h.outside m i)) in
    sym (ap (filter test) h.is ∙ filter-append test first h.later ∙ ap (λ xs. xs ++ filter test h.later) kept ∙ ap (λ xs. first ++ xs) gone ∙ append-nil first)

module _ (s : Scene) (n : ℕ) (well : IsWellFormed (sync_lists_of s)) (js : List Entry) where
  within : (first : List Name) → IsPermitted (sync_lists_of (front n s)) (front_journal n js) first → (m : Name) → IsIn m first → m.place < front_end s n m.client
  within first permitted m i =
      let below = (permitted.names m).0 i in
      let end = reach_within (sync_lists_of (front n s)) (front_journal n js) m.client (front_formed s n well) in
      let stop = front_stop s n m.client in
      omega (arith, below, end, stop)

  -- a later name of the cut stream would stand twice
  behind : (first later whole : List Name) → IsPermitted (sync_lists_of (front n s)) (front_journal n js) first → IsPermitted (sync_lists_of s) js whole
      → whole ≡ first ++ later → ((c : ℕ) → reach_of (sync_lists_of (front n s)) (front_journal n js) c ≡ length_of (sync_lists_of (front n s)) c)
      → (m : Name) → IsIn m later → n ≤ accepted_swaps s m.client m.place
  behind first later whole permitted permitted' e reach m i = elim (cases_lt (accepted_swaps s m.client m.place) n) [
    | inr ge ↦ ge
    | inl lt ↦
        let c = m.client in
        let known = (permitted'.names m).0 (subst (IsIn m) (sym e) (is_in_behind m first later i)) in
        let end = reach_within (sync_lists_of s) js c well in
        let long = scene_length s c in
        let low : m.place < front_end s n c = elim (cases_lt m.place (front_end s n c)) [
          | inl low ↦ low
          | inr ge ↦ elim (front_is s n c).at [
            | inl whole_stream ↦ absurd (omega (arith, known, end, long, ge, whole_stream))
            | inr enough ↦ absurd (let up = swaps_up s c (front_end s n c) m.place ge in omega (arith, enough, up, lt))
          ]
        ] in
        let stop = front_stop s n c in
        let here = reach c in
        let j = (permitted.names m).1 (omega (arith, low, stop, here)) in
        absurd (in_both m first later (subst NoRepeat e permitted'.once) j i)
  ]

  pub is_split : (first whole : List Name) → ComesFirst n (sync_lists_of s) (sync_lists_of (front n s)) (are_cut s n) (front_journal n js) first whole
      → IsPermitted (sync_lists_of (front n s)) (front_journal n js) first → IsPermitted (sync_lists_of s) js whole → IsSplit s n first whole
  is_split first whole (inl same) permitted permitted' = record {
    later = [];
    is = sym same ∙ sym (append-nil first);
    inside = within first permitted;
    outside = λ m i. absurd i;
  }
  is_split first whole (inr r) permitted permitted' = (let on = r.0 in record {
    later = on.0;
    is = on.1;
    inside = within first permitted;
    outside = behind first on.0 whole permitted permitted' on.1 r.1;
  })

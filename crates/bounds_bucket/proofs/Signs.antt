-- Which triangles a state shows, by the sign of their area.
use Rattle.std.proofs.Common.{◌≡◌, ◌∙◌, ℤ, pos, ◌<ℤ◌, ◌≤ℤ◌, Bool, true, false, not, ◌&&◌, ap, refl, sym, arith}
use Rattle.std.specs.Prelude.{◌==◌, ◌||◌, int_lt, if◌then◌else◌}
use Rattle.std.proofs.lemmas.Int.{ints}
use Rattle.std.proofs.lemmas.Bool.Decides.{Decides-int_eq}
use Rattle.fixed_math.proofs.Signs.{above_is, below_is, off}
use Rattle.plain_lemmas.proofs.Numbers.{int_lt_false, from_int_lt_false, same_from_both_bounds}
use Rattle.rc_base.specs.Drawing.Kept.{is_front, is_culled, is_shown}
use Rattle.rc_base.specs.declared.state.State.{State}

-- culling by a facing
abbrev pub culled_by : State → Bool → Bool
culled_by s front = s.cull_on && (s.cull_face == 2 || (if s.cull_face == 0 then front else not front))

pub shown_above : (s : State) (a : ℤ) → pos 0 <ℤ a → is_shown s a ≡ not (culled_by s (s.front_face == 0))
unfolding is_shown
shown_above s a h =
    let nonzero = off a (λ e. omega (arith, ints, e, h)) in
    let front : is_front s a ≡ (s.front_face == 0) = rw (above_is a h, int_lt_false a (pos 0) (omega (arith, ints, h))) (by (s.front_face == 0)) in
    (λ i. not (nonzero i) && not (culled_by s (front i)))
  where
    by : (t : Bool) → (if t then true else false) ≡ t
    by true = refl
    by false = refl

pub shown_below : (s : State) (a : ℤ) → a <ℤ pos 0 → is_shown s a ≡ not (culled_by s (not (s.front_face == 0)))
unfolding is_shown
shown_below s a h =
    let nonzero = off a (λ e. omega (arith, ints, e, h)) in
    let front : is_front s a ≡ not (s.front_face == 0) = rw (below_is a h, int_lt_false (pos 0) a (omega (arith, ints, h))) (by (s.front_face == 0)) in
    (λ i. not (nonzero i) && not (culled_by s (front i)))
  where
    by : (t : Bool) → (if t then false else true) ≡ not t
    by true = refl
    by false = refl

pub no_area : (s : State) (a b : ℤ) → b ≡ a → int_lt (pos 0) b ≡ false → int_lt b (pos 0) ≡ false → int_lt b (pos 0) ≡ is_shown s a
unfolding is_shown
no_area s a b e h k =
    let low : a ≤ℤ pos 0 = let l = from_int_lt_false (pos 0) b h in omega (arith, ints, e, l) in
    let high : pos 0 ≤ℤ a = let l = from_int_lt_false b (pos 0) k in omega (arith, ints, e, l) in
    let zero' : a ≡ pos 0 = same_from_both_bounds a (pos 0) low high in
    k ∙ sym (ap (λ t. not t && not (is_culled s a)) ((Decides-int_eq a (pos 0)).1 zero'))

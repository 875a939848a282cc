-- What a chain makes of a scene within the limits is within them: no quantity grows.
use Rattle.std.proofs.Common.{◌≡◌, ◌∙◌, sym, ap, ap₂, refl, arith, ℕ, suc, ◌+◌, ◌*◌, ◌≤◌, length, map, Bool, true, false, List, [], ◌∷◌, ◌++◌, Option, None, Some}
use Rattle.std.specs.Prelude.{not, if◌then◌else◌, cond, ◌==◌}
use Rattle.std.specs.List.{flat_map, filter, sum_by}
use Rattle.std.proofs.lemmas.Bool.Decides.{nat_tests}
use Rattle.std.proofs.lemmas.List.{length-map}
use Rattle.std.proofs.lemmas.List.Sums.{sum_by-cons, count_by-le-length, length-filter}
use Rattle.std.proofs.Math.Nat.{mul-le-mul_right}
use Rattle.rc_base.specs.declared.command.Rgba.{Rgba}
use Rattle.rc_base.specs.declared.command.Command.{Command}
use Rattle.rc_base.specs.declared.command.Command.TheVariants as cmd
use Rattle.rc_base.specs.declared.scene.Decl.{Decl}
use Rattle.rc_base.specs.declared.scene.Limit.{Limit}
use Rattle.rc_base.specs.declared.scene.Scene.{Scene}
use Rattle.rc_base.specs.Formats.Limits.{Quantity, quantity, is_outside, first_outside, size_area, side, barrier_count, is_swap_command, swaps_in, least_swaps, commands_in, frame_pixels, frame_quantities, quantities_with, held_limit, limit_of}
use Rattle.rc_base.proofs.WithinLimits.{first_within}
use Rattle.spu_chain.specs.declared.rule.SpuRule.{SpuRule}
use Rattle.spu_chain.specs.declared.rule.SpuRule.TheVariants.{Recolour, Cull, Drop, Count}
use Rattle.spu_chain.specs.Filter.{recoloured, culled, is_of, filtered_by, rules_after}
use Rattle.spu_chain.specs.Scenes.{streams_by, scene_by}
use Rattle.spu_chain.specs.Laws.{made_by}
use Rattle.spu_chain.proofs.Chains.{one_member, no_members}

-- ---- Swaps of one command

recoloured_swap : (tint : Rgba) (c : Command) → is_swap_command (recoloured tint c) ≡ is_swap_command c
unfolding recoloured
recoloured_swap tint (cmd.Color c) = refl
recoloured_swap tint c = refl

culled_swap : (c : Command) → is_swap_command (culled c) ≡ is_swap_command c
unfolding culled
culled_swap (cmd.Disable n) = elim (n == 4) as (λ b. is_swap_command (if b then cmd.Enable 4 else cmd.Disable n) ≡ false) [ true ↦ refl | false ↦ refl ]
culled_swap c = refl

-- ---- counts in lists

same_sum : (f : Command → ℕ) (g : Command → Command) → ((c : Command) → f (g c) ≡ f c) → (cs : List Command) → sum_by f (map g cs) ≡ sum_by f cs
same_sum f g same [] = refl
same_sum f g same (c ∷ cs) =
    sum_by-cons f (g c) (map g cs) ∙ ap₂ (λ m n. m + n) (same c) (same_sum f g same cs) ∙ sym (sum_by-cons f c cs)

fewer_sum : (f : Command → ℕ) (q : Command → Bool) (cs : List Command) → sum_by f (filter q cs) ≤ sum_by f cs
fewer_sum f q [] = omega arith
fewer_sum f q (c ∷ cs) =
    let whole = sum_by-cons f c cs in
    let later = fewer_sum f q cs in
    elim (q c) as (λ b. sum_by f (cond b (c ∷ filter q cs) (filter q cs)) ≤ sum_by f (c ∷ cs)) [
      | true ↦ (let kept = sum_by-cons f c (filter q cs) in omega (arith, whole, later, kept))
      | false ↦ omega (arith, whole, later)
    ]

-- ---- one member, and a chain

one_swaps : (r : SpuRule) (cs : List Command) → swaps_in (made_by r cs) ≤ swaps_in cs
one_swaps (Recolour tint) cs =
    let e = same_sum (λ c. cond (is_swap_command c) 1 0) (recoloured tint) (λ c. ap (λ b. cond b 1 0) (recoloured_swap tint c)) cs in omega (arith, e)
one_swaps Cull cs = let e = same_sum (λ c. cond (is_swap_command c) 1 0) culled (λ c. ap (λ b. cond b 1 0) (culled_swap c)) cs in omega (arith, e)
one_swaps (Drop byte) cs = fewer_sum (λ c. cond (is_swap_command c) 1 0) (λ c. not (is_of byte c)) cs
one_swaps (Count n) cs = omega arith

one_length : (r : SpuRule) (cs : List Command) → length (made_by r cs) ≤ length cs
one_length (Recolour tint) cs = let e = length-map cs (recoloured tint) in omega (arith, e)
one_length Cull cs = let e = length-map cs culled in omega (arith, e)
one_length (Drop byte) cs =
    let e = length-filter (λ c. not (is_of byte c)) cs in
    let le = count_by-le-length (λ c. not (is_of byte c)) cs in
    omega (arith, e, le)
one_length (Count n) cs = omega arith

fewer_swaps : (rules : List SpuRule) (cs : List Command) → swaps_in (filtered_by rules cs) ≤ swaps_in cs
fewer_swaps [] cs = let e : swaps_in (filtered_by [] cs) ≡ swaps_in cs = ap swaps_in (no_members cs) in omega (arith, e)
fewer_swaps (r ∷ rs) cs =
    let e : swaps_in (filtered_by (r ∷ rs) cs) ≡ swaps_in (filtered_by rs (made_by r cs)) = ap swaps_in (one_member r rs cs) in
    let later = fewer_swaps rs (made_by r cs) in
    let first = one_swaps r cs in
    omega (arith, e, later, first)

fewer_commands : (rules : List SpuRule) (cs : List Command) → length (filtered_by rules cs) ≤ length cs
fewer_commands [] cs = let e : length (filtered_by [] cs) ≡ length cs = ap length (no_members cs) in omega (arith, e)
fewer_commands (r ∷ rs) cs =
    let e : length (filtered_by (r ∷ rs) cs) ≡ length (filtered_by rs (made_by r cs)) = ap length (one_member r rs cs) in
    let later = fewer_commands rs (made_by r cs) in
    let first = one_length r cs in
    omega (arith, e, later, first)

-- ---- streams

pub same_clients : (rules : List SpuRule) (ss : List (List Command)) → length (streams_by rules ss) ≡ length ss
same_clients rules [] = refl
same_clients rules (s ∷ ss) = ap suc (same_clients (rules_after rules s) ss)

fewer_in_all : (rules : List SpuRule) (ss : List (List Command)) → commands_in (streams_by rules ss) ≤ commands_in ss
fewer_in_all rules [] = omega arith
fewer_in_all rules (s ∷ ss) =
    let whole : commands_in (s ∷ ss) ≡ length s + commands_in ss = sum_by-cons length s ss in
    let kept : commands_in (streams_by rules (s ∷ ss)) ≡ length (filtered_by rules s) + commands_in (streams_by (rules_after rules s) ss) =
    sum_by-cons length (filtered_by rules s) (streams_by (rules_after rules s) ss) in
    let first = fewer_commands rules s in
    let later = fewer_in_all (rules_after rules s) ss in
    omega (arith, whole, kept, first, later)

fewer_least : (rules : List SpuRule) (ss : List (List Command)) → least_swaps (streams_by rules ss) ≤ least_swaps ss
fewer_least rules [] = omega arith
fewer_least rules (s ∷ []) = fewer_swaps rules s
fewer_least rules (s ∷ t ∷ ts) =
    let first = fewer_swaps rules s in
    let later = fewer_least (rules_after rules s) (t ∷ ts) in
    omega (arith, first, later)

-- ---- the table

inside : (outside : Bool) (limit : Limit) (later : Option Limit) → outside ≡ false → later ≡ None → (if outside then Some limit else later) ≡ None
inside outside limit later h k = rw (h) k

-- the same quantities before other ones that are in their ranges
with_tail : (qs rs ts : List Quantity) → first_outside (qs ++ rs) ≡ None → (first_outside rs ≡ None → first_outside ts ≡ None) → first_outside (qs ++ ts) ≡ None
with_tail [] rs ts h k = k h
with_tail (q ∷ qs) rs ts h k =
    let p = first_within q (qs ++ rs) h in
    inside (is_outside q) _ _ p.0 (with_tail qs rs ts p.1 k)

-- a quantity of no least value that doesn't grow, and those behind it
module _ (what value other most : ℕ) (le : other ≤ value) where
  smaller : is_outside (quantity what value 0 most) ≡ false → is_outside (quantity what other 0 most) ≡ false
  smaller h = grind (arith, nat_tests, h, le)

  stays_below : (rs ts : List Quantity) → (first_outside rs ≡ None → first_outside ts ≡ None)
      → first_outside (quantity what value 0 most ∷ rs) ≡ None → first_outside (quantity what other 0 most ∷ ts) ≡ None
  stays_below rs ts k h =
      let p = first_within (quantity what value 0 most) rs h in
      inside (is_outside (quantity what other 0 most)) _ _ (smaller p.0) (k p.1)

abbrev from_barriers : Decl → ℕ → List Quantity → List Quantity
from_barriers d commands rest = map barrier_count d.barriers ++ (quantity 10 (length d.semaphores) 0 64 ∷ quantity 11 commands 0 1048576 ∷ rest)

abbrev from_sides : Decl → ℕ → List Quantity → List Quantity
from_sides d commands rest =
    map side (flat_map (λ size. size) d.shared)
    ++ (quantity 7 (sum_by size_area d.shared) 0 1048576 ∷ quantity 8 (length d.barriers) 0 64 ∷ from_barriers d commands rest)

table_stays : (d : Decl) (n commands fewer : ℕ) (rs ts : List Quantity) → fewer ≤ commands → (first_outside rs ≡ None → first_outside ts ≡ None)
    → first_outside (quantities_with d n commands rs) ≡ None → first_outside (quantities_with d n fewer ts) ≡ None
table_stays d n commands fewer rs ts le k h =
    with_tail (quantity 2 d.width 1 2048 ∷ quantity 3 d.height 1 2048 ∷ quantity 4 n 1 8 ∷ quantity 5 (length d.shared) 0 16 ∷ [])
    (from_sides d commands rs) (from_sides d fewer ts) h
    (λ h2. with_tail (map side (flat_map (λ size. size) d.shared))
    (quantity 7 (sum_by size_area d.shared) 0 1048576 ∷ quantity 8 (length d.barriers) 0 64 ∷ from_barriers d commands rs)
    (quantity 7 (sum_by size_area d.shared) 0 1048576 ∷ quantity 8 (length d.barriers) 0 64 ∷ from_barriers d fewer ts) h2
    (λ h3. with_tail (quantity 7 (sum_by size_area d.shared) 0 1048576 ∷ quantity 8 (length d.barriers) 0 64 ∷ [])
    (from_barriers d commands rs) (from_barriers d fewer ts) h3
    (λ h4. with_tail (map barrier_count d.barriers)
    (quantity 10 (length d.semaphores) 0 64 ∷ quantity 11 commands 0 1048576 ∷ rs)
    (quantity 10 (length d.semaphores) 0 64 ∷ quantity 11 fewer 0 1048576 ∷ ts) h4
    (λ h5. with_tail (quantity 10 (length d.semaphores) 0 64 ∷ [])
    (quantity 11 commands 0 1048576 ∷ rs) (quantity 11 fewer 0 1048576 ∷ ts) h5
    (stays_below 11 commands fewer 1048576 le rs ts k)))))

-- ---- scenes

module _ (rules : List SpuRule) (s : Scene) where
  fewer_pixels : frame_pixels (scene_by rules s) ≤ frame_pixels s
  fewer_pixels = mul-le-mul_right (s.decl.width * s.decl.height) (fewer_least rules s.streams)

  frames_stay : first_outside (frame_quantities s) ≡ None → first_outside (frame_quantities (scene_by rules s)) ≡ None
  frames_stay =
      stays_below 12 (least_swaps s.streams) (least_swaps (streams_by rules s.streams)) 1048576 (fewer_least rules s.streams)
      (quantity 13 (frame_pixels s) 0 2147483648 ∷ []) (quantity 13 (frame_pixels (scene_by rules s)) 0 2147483648 ∷ [])
      (stays_below 13 (frame_pixels s) (frame_pixels (scene_by rules s)) 2147483648 fewer_pixels [] [] (λ h. h))

  pub stays_within : limit_of s ≡ None → limit_of (scene_by rules s) ≡ None
  unfolding limit_of
  stays_within within =
      ap (λ n. first_outside (quantities_with s.decl n (commands_in (streams_by rules s.streams)) (frame_quantities (scene_by rules s)))) (same_clients rules s.streams)
      ∙ table_stays s.decl (length s.streams) (commands_in s.streams) (commands_in (streams_by rules s.streams))
      (frame_quantities s) (frame_quantities (scene_by rules s)) (fewer_in_all rules s.streams) frames_stay within

  pub stays_held : held_limit s ≡ None → held_limit (scene_by rules s) ≡ None
  unfolding held_limit
  stays_held = stays_below 19 (frame_pixels s) (frame_pixels (scene_by rules s)) 33554432 fewer_pixels [] [] (λ h. h)

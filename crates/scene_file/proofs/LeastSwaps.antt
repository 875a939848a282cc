-- Sums and least values that a loop makes.
use Rattle.std.proofs.Common.{◌≡◌, ℕ, ◌+◌, ◌-◌, ◌<◌, ◌≤◌, min, Bool, true, false, cond, List, [], ◌∷◌, length, take, drop, get_or, refl, sym, ap, ◌∙◌, arith}
use Rattle.std.proofs.lemmas.List.{take_all}
use Rattle.std.proofs.lemmas.List.Sums.{count_by_more_no, count_by_more_yes}
use Rattle.rc_base.specs.declared.command.Command.{Command}
use Rattle.rc_base.specs.declared.command.Command.TheVariants as cmd
use Rattle.rc_base.specs.Formats.Limits.{is_swap_command, swaps_in, least_swaps}

-- the least of a number and the swaps of streams
abbrev pub least_with : ℕ → List (List Command) → ℕ
least_with n [] = n
least_with n (s ∷ ss) = least_with (min n (swaps_in s)) ss

least_min : (a b : ℕ) (ss : List (List Command)) → least_with (min a b) ss ≡ min a (least_with b ss)
least_min a b [] = refl
least_min a b (s ∷ ss) = ap (λ (n : ℕ). least_with n ss) (omega arith) ∙ least_min a (min b (swaps_in s)) ss

pub frames_least : (s : List Command) (ss : List (List Command)) → least_swaps (s ∷ ss) ≡ least_with (swaps_in s) ss
frames_least s [] = refl
frames_least s (t ∷ ts) = ap (min (swaps_in s)) (frames_least t ts) ∙ sym (least_min (swaps_in s) (swaps_in t) ts)

-- the first stream, and the others as a slice has them
pub frames_start : (ss : List (List Command)) (first : List Command) (n : ℕ) → 1 ≤ length ss → first ≡ get_or ss 0 first → n ≡ swaps_in first
    → least_with n (take (length ss - 1) (drop 1 ss)) ≡ least_swaps ss
frames_start [] first n some is count = absurd (omega arith)
frames_start (s ∷ ss) first n some is count =
    let whole : take (length (s ∷ ss) - 1) ss ≡ ss = take_all (length (s ∷ ss) - 1) ss (omega arith) in
    ap (least_with n) whole ∙ ap (λ (k : ℕ). least_with k ss) (count ∙ ap swaps_in is) ∙ sym (frames_least s ss)

-- one command more
pub swaps_more : (cs : List Command) (i : ℕ) → i < length cs
    → swaps_in (take (i + 1) cs) ≡ swaps_in (take i cs) + cond (is_swap_command (get_or cs i cmd.End)) 1 0
swaps_more cs i inside = go (is_swap_command (get_or cs i cmd.End)) refl where
  go : (b : Bool) → is_swap_command (get_or cs i cmd.End) ≡ b → swaps_in (take (i + 1) cs) ≡ swaps_in (take i cs) + cond b 1 0
  go true is = count_by_more_yes is_swap_command cs i cmd.End inside is
  go false is = count_by_more_no is_swap_command cs i cmd.End inside is ∙ omega arith

-- Chains behind one another, and members alone.
use Rattle.std.proofs.Common.{sym, ◌≡◌, ◌∙◌, ap, ap₂, refl, arith, ℕ, ◌+◌, length, map, List, [], ◌∷◌, ◌++◌, true, false, None, Some}
use Rattle.std.specs.Prelude.{option_and_then, not, if◌then◌else◌}
use Rattle.std.specs.List.{cons_option, filter}
use Rattle.std.specs.Option.{option_map_or}
use Rattle.rc_base.specs.declared.command.Command.{Command}
use Rattle.rc_base.specs.declared.command.Rgba.{Rgba}
use Rattle.spu_chain.specs.declared.rule.SpuRule.{SpuRule}
use Rattle.spu_chain.specs.declared.rule.SpuRule.TheVariants.{Recolour, Cull, Drop, Count}
use Rattle.spu_chain.specs.Filter.{passed, rule_after, recoloured, culled, is_of, comes_out, rules_behind, filtered_by, rules_after}
use Rattle.spu_chain.specs.Laws.{made_by, MembersFollow, ChainsFollow, ListsFollow, CountsWhatComes}
use Rattle.spu_chain.proofs.Whole.{cons_append}

-- ---- two chains, one command

comes_out_of_both : (first second : List SpuRule) (c : Command) → comes_out (first ++ second) c ≡ option_and_then (comes_out second) (comes_out first c)
comes_out_of_both [] second c = refl
comes_out_of_both (r ∷ rs) second c =
    elim (passed r c) as (λ o. option_and_then (comes_out (rs ++ second)) o ≡ option_and_then (comes_out second) (option_and_then (comes_out rs) o)) [
      | None ↦ refl
      | Some d ↦ comes_out_of_both rs second d
    ]

behind_both : (first second : List SpuRule) (c : Command)
    → rules_behind (first ++ second) c ≡ rules_behind first c ++ option_map_or (rules_behind second) (comes_out first c) second
behind_both [] second c = refl
behind_both (r ∷ rs) second c =
    ap (λ x. rule_after r c ∷ x)
    (elim (passed r c) as (λ o. option_map_or (rules_behind (rs ++ second)) o (rs ++ second)
    ≡ option_map_or (rules_behind rs) o rs ++ option_map_or (rules_behind second) (option_and_then (comes_out rs) o) second) [
      | None ↦ refl
      | Some d ↦ behind_both rs second d
    ])

-- ---- two chains, a list

pub chains_filter : (first second : List SpuRule) (cs : List Command) → filtered_by (first ++ second) cs ≡ filtered_by second (filtered_by first cs)
chains_filter first second [] = refl
chains_filter first second (c ∷ cs) =
    ap₂ (λ o rs. cons_option o (filtered_by rs cs)) (comes_out_of_both first second c) (behind_both first second c)
    ∙ (elim (comes_out first c) as
    (λ o. cons_option (option_and_then (comes_out second) o) (filtered_by (rules_behind first c ++ option_map_or (rules_behind second) o second) cs)
    ≡ filtered_by second (cons_option o (filtered_by (rules_behind first c) cs))) [
      | None ↦ chains_filter (rules_behind first c) second cs
      | Some d ↦ ap (cons_option (comes_out second d)) (chains_filter (rules_behind first c) (rules_behind second d) cs)
    ])

pub chains_rules : (first second : List SpuRule) (cs : List Command)
    → rules_after (first ++ second) cs ≡ rules_after first cs ++ rules_after second (filtered_by first cs)
chains_rules first second [] = refl
chains_rules first second (c ∷ cs) =
    ap (λ rs. rules_after rs cs) (behind_both first second c)
    ∙ (elim (comes_out first c) as
    (λ o. rules_after (rules_behind first c ++ option_map_or (rules_behind second) o second) cs
    ≡ rules_after (rules_behind first c) cs ++ rules_after second (cons_option o (filtered_by (rules_behind first c) cs))) [
      | None ↦ chains_rules (rules_behind first c) second cs
      | Some d ↦ chains_rules (rules_behind first c) (rules_behind second d) cs
    ])

pub chains : ChainsFollow
chains first second cs = (chains_filter first second cs, chains_rules first second cs)

-- ---- no member

pub no_members : (cs : List Command) → filtered_by [] cs ≡ cs
no_members [] = refl
no_members (c ∷ cs) = ap (λ xs. c ∷ xs) (no_members cs)

pub no_rules : (cs : List Command) → rules_after [] cs ≡ []
no_rules [] = refl
no_rules (c ∷ cs) = no_rules cs

module _ {B : Type 0} (f : B → SpuRule) where
  pub nothing_given : (bs : List B) (cs : List Command) → bs ≡ [] → cs ≡ filtered_by (map f bs) cs
  nothing_given bs cs e = sym (ap (λ xs. filtered_by (map f xs) cs) e ∙ no_members cs)

  pub nothing_changed : (bs : List B) (cs : List Command) → bs ≡ [] → map f bs ≡ rules_after (map f bs) cs
  nothing_changed bs cs e = ap (map f) e ∙ sym (ap (λ xs. rules_after (map f xs) cs) e ∙ no_rules cs)

-- ---- two lists

pub lists : ListsFollow
lists rules [] ds = (refl, refl)
lists rules (c ∷ cs) ds =
    let rest = lists (rules_behind rules c) cs ds in (
      ap (cons_option (comes_out rules c)) rest.0 ∙ cons_append (comes_out rules c) (filtered_by (rules_behind rules c) cs) _,
      rest.1,
    )

-- ---- each rule alone, and the members one after the other

-- a member whose rule stays, and that changes each command for itself
mapped_each : (r : SpuRule) (f : Command → Command) → ((c : Command) → passed r c ≡ Some (f c)) → ((c : Command) → rule_after r c ≡ r)
    → (cs : List Command) → filtered_by (r ∷ []) cs ≡ map f cs
mapped_each r f gives stays [] = refl
mapped_each r f gives stays (c ∷ cs) = rw (gives c, stays c) (ap (λ xs. f c ∷ xs) (mapped_each r f gives stays cs))

dropped_each : (byte : ℕ) (cs : List Command) → filtered_by (Drop byte ∷ []) cs ≡ filter (λ c. not (is_of byte c)) cs
dropped_each byte [] = refl
dropped_each byte (c ∷ cs) =
    elim (is_of byte c) as
    (λ b. cons_option (option_and_then (comes_out []) (if b then None else Some c))
    (filtered_by (Drop byte ∷ option_map_or (rules_behind []) (if b then None else Some c) []) cs)
    ≡ (if not b then c ∷ filter (λ d. not (is_of byte d)) cs else filter (λ d. not (is_of byte d)) cs)) [
      | true ↦ dropped_each byte cs
      | false ↦ ap (λ xs. c ∷ xs) (dropped_each byte cs)
    ]

counted_each : (n : ℕ) (cs : List Command) → filtered_by (Count n ∷ []) cs ≡ cs
counted_each n [] = refl
counted_each n (c ∷ cs) = ap (λ xs. c ∷ xs) (counted_each (n + 1) cs)

pub alone : (r : SpuRule) (cs : List Command) → filtered_by (r ∷ []) cs ≡ made_by r cs
alone (Recolour tint) cs = mapped_each (Recolour tint) (recoloured tint) (λ c. refl) (λ c. refl) cs
alone Cull cs = mapped_each Cull culled (λ c. refl) (λ c. refl) cs
alone (Drop byte) cs = dropped_each byte cs
alone (Count n) cs = counted_each n cs

-- a member, and those behind it
pub one_member : (r : SpuRule) (rs : List SpuRule) (cs : List Command) → filtered_by (r ∷ rs) cs ≡ filtered_by rs (made_by r cs)
one_member r rs cs = chains_filter (r ∷ []) rs cs ∙ ap (filtered_by rs) (alone r cs)

pub members : MembersFollow
members [] cs = no_members cs
members (r ∷ rs) cs = one_member r rs cs ∙ members rs (made_by r cs)

-- ---- counts

count_after : (n : ℕ) (cs : List Command) → rules_after (Count n ∷ []) cs ≡ Count (n + length cs) ∷ []
count_after n [] = let same : n ≡ n + 0 = omega arith in ap (λ k. Count k ∷ []) same
count_after n (c ∷ cs) =
    let same : n + 1 + length cs ≡ n + length (c ∷ cs) = omega arith in
    count_after (n + 1) cs ∙ ap (λ k. Count k ∷ []) same

pub counts : CountsWhatComes
counts before behind n cs =
    chains_rules before (Count n ∷ behind) cs
    ∙ ap (λ xs. rules_after before cs ++ xs)
    (chains_rules (Count n ∷ []) behind (filtered_by before cs)
    ∙ ap₂ (λ xs ys. xs ++ rules_after behind ys) (count_after n (filtered_by before cs)) (counted_each n (filtered_by before cs)))

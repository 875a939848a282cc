-- What a chain makes of commands whose fields are in their ranges has fields in their ranges, where the tints of its rules are bytes.
use Rattle.std.proofs.Common.{sym, subst, arith, map, Bool, true, false, List, [], ◌∷◌, None, Some}
use Rattle.std.specs.Prelude.{not, cond, ◌==◌, if◌then◌else◌}
use Rattle.std.specs.List.{AllByRecursion, filter}
use Rattle.std.specs.Option.{option_map_or}
use Rattle.rc_base.specs.declared.command.Rgba.{Rgba}
use Rattle.rc_base.specs.declared.command.Command.{Command}
use Rattle.rc_base.specs.declared.command.Command.TheVariants as cmd
use Rattle.rc_base.specs.Formats.Commands.{IsCommand}
use Rattle.fragment_ops.proofs.Halves.{prod_byte}
use Rattle.spu_chain.specs.declared.rule.SpuRule.{SpuRule}
use Rattle.spu_chain.specs.declared.rule.SpuRule.TheVariants.{Recolour, Cull, Drop, Count}
use Rattle.spu_chain.specs.Filter.{recoloured, culled, is_of, IsTint, HasByteTint, passed, rule_after, rules_behind, filtered_by, rules_after}
use Rattle.spu_chain.specs.Laws.{made_by, FilteredStaysWell}
use Rattle.spu_chain.proofs.Chains.{one_member, no_members}

abbrev AreWell : List Command → Type 0
AreWell cs = AllByRecursion IsCommand cs

-- ---- one command

recoloured_well : (tint : Rgba) → IsTint tint → (c : Command) → IsCommand c → IsCommand (recoloured tint c)
unfolding recoloured
recoloured_well tint t (cmd.Color c) h =
    (prod_byte c.r tint.r h.0 t.0, (prod_byte c.g tint.g h.1.0 t.1, (prod_byte c.b tint.b h.1.1.0 t.2, (prod_byte c.a tint.a h.1.1.1.0 t.3, tt))))
recoloured_well tint t c h = h

culled_well : (c : Command) → IsCommand c → IsCommand (culled c)
unfolding culled
culled_well (cmd.Disable n) h =
    elim (n == 4) as (λ b. IsCommand (if b then cmd.Enable 4 else cmd.Disable n)) [ true ↦ (omega arith, tt) | false ↦ h ]
culled_well c h = h

-- ---- lists

each_map : (g : Command → Command) → ((c : Command) → IsCommand c → IsCommand (g c)) → (cs : List Command) → AreWell cs → AreWell (map g cs)
each_map g keeps [] h = tt
each_map g keeps (c ∷ cs) h = (keeps c h.0, each_map g keeps cs h.1)

each_filter : (q : Command → Bool) (cs : List Command) → AreWell cs → AreWell (filter q cs)
each_filter q [] h = tt
each_filter q (c ∷ cs) h =
    let later = each_filter q cs h.1 in
    elim (q c) as (λ b. AreWell (cond b (c ∷ filter q cs) (filter q cs))) [ true ↦ (h.0, later) | false ↦ later ]

one_well : (r : SpuRule) → HasByteTint r → (cs : List Command) → AreWell cs → AreWell (made_by r cs)
one_well (Recolour tint) t cs h = each_map (recoloured tint) (recoloured_well tint t) cs h
one_well Cull t cs h = each_map culled culled_well cs h
one_well (Drop byte) t cs h = each_filter (λ c. not (is_of byte c)) cs h
one_well (Count n) t cs h = h

list_well : (rules : List SpuRule) → AllByRecursion HasByteTint rules → (cs : List Command) → AreWell cs → AreWell (filtered_by rules cs)
list_well [] t cs h = subst AreWell (sym (no_members cs)) h
list_well (r ∷ rs) t cs h = subst AreWell (sym (one_member r rs cs)) (list_well rs t.1 (made_by r cs) (one_well r t.0 cs h))

-- ---- tints stay

tint_after : (r : SpuRule) (c : Command) → HasByteTint r → HasByteTint (rule_after r c)
tint_after (Count n) c h = tt
tint_after r c h = h

tints_behind : (rules : List SpuRule) (c : Command) → AllByRecursion HasByteTint rules → AllByRecursion HasByteTint (rules_behind rules c)
tints_behind [] c h = tt
tints_behind (r ∷ rs) c h = (
  tint_after r c h.0,
  elim (passed r c) as (λ o. AllByRecursion HasByteTint (option_map_or (rules_behind rs) o rs)) [ None ↦ h.1 | Some d ↦ tints_behind rs d h.1 ],
)

tints_after : (rules : List SpuRule) (cs : List Command) → AllByRecursion HasByteTint rules → AllByRecursion HasByteTint (rules_after rules cs)
tints_after rules [] h = h
tints_after rules (c ∷ cs) h = tints_after (rules_behind rules c) cs (tints_behind rules c h)

pub stays_well : FilteredStaysWell
stays_well rules [] t h = tt
stays_well rules (s ∷ ss) t h = (list_well rules t s h.0, stays_well (rules_after rules s) ss (tints_after rules s t) h.1)

-- What a filter makes of commands.
use Rattle.std.specs.Prelude.{ℕ, ◌==◌, ◌+◌, ◌^◌, ◌<◌, ◌≤◌, Bool, List, [], ◌∷◌, ◌++◌, ◌≡◌, Option, None, Some, option_and_then, fold, if◌then◌else◌}
use Rattle.std.specs.List.{AllByRecursion, cons_option}
use Rattle.std.specs.Option.{option_map_or}
use Rattle.rc_base.specs.declared.command.Rgba.{Rgba}
use Rattle.rc_base.specs.declared.command.Command.{Command}
use Rattle.rc_base.specs.declared.command.Command.TheVariants as cmd
use Rattle.rc_base.specs.Formats.Commands.{opcode_of, opcode_number}
use Rattle.rc_base.specs.Colors.{modulated}
use Rattle.spu_chain.specs.declared.rule.SpuRule.{SpuRule}
use Rattle.spu_chain.specs.declared.rule.SpuRule.TheVariants.{Recolour, Cull, Drop, Count}

-- ---- one member

-- a colour is multiplied by the tint
unfoldable pub recoloured : Rgba → Command → Command
recoloured tint (cmd.Color c) = cmd.Color (modulated c tint)
recoloured tint c = c

-- culling that is switched off is switched on
unfoldable pub culled : Command → Command
culled (cmd.Disable capability) = if capability == 4 then cmd.Enable 4 else cmd.Disable capability
culled c = c

-- the command is of the opcode that this byte stands for
abbrev pub is_of : ℕ → Command → Bool
is_of byte c = opcode_number (opcode_of c) == byte

-- what a member of this rule gives for a command, and the rule that it has then
abbrev pub passed : SpuRule → Command → Option Command
passed (Recolour tint) c = Some (recoloured tint c)
passed Cull c = Some (culled c)
passed (Drop byte) c = if is_of byte c then None else Some c
passed (Count n) c = Some c

abbrev pub rule_after : SpuRule → Command → SpuRule
rule_after (Count n) c = Count (n + 1)
rule_after r c = r

-- the channels of a tint are bytes
abbrev pub IsTint : Rgba → Type 0
IsTint tint = (tint.r < 256) × (tint.g < 256) × (tint.b < 256) × (tint.a < 256)

abbrev pub HasByteTint : SpuRule → Type 0
HasByteTint (Recolour tint) = IsTint tint
HasByteTint r = Unit {0}

-- so many commands more can be counted, to 2^63 at the most
abbrev pub HasRoom : ℕ → SpuRule → Type 0
HasRoom more (Count n) = n + more ≤ 2 ^ 63
HasRoom more r = Unit {0}

abbrev pub HaveRoom : ℕ → List SpuRule → Type 0
HaveRoom more rules = AllByRecursion (HasRoom more) rules

-- ---- a chain: it gives each command to its members in order, until one gives none

-- what comes out for a command, and the rules that the members have then
abbrev pub comes_out : List SpuRule → Command → Option Command
comes_out [] c = Some c
comes_out (r ∷ rs) c = option_and_then (comes_out rs) (passed r c)

abbrev pub rules_behind : List SpuRule → Command → List SpuRule
rules_behind [] c = []
rules_behind (r ∷ rs) c = rule_after r c ∷ option_map_or (rules_behind rs) (passed r c) rs

-- what comes out for a list, one command after the other, and the rules that the members have then
abbrev pub filtered_by : List SpuRule → List Command → List Command
filtered_by rules [] = []
filtered_by rules (c ∷ cs) = cons_option (comes_out rules c) (filtered_by (rules_behind rules c) cs)

abbrev pub rules_after : List SpuRule → List Command → List SpuRule
rules_after rules cs = fold rules_behind rules cs

-- the rules that a front of the list leaves
pub record AreReached (rules : List SpuRule) (cs : List Command) (left : List SpuRule) : Type 0 where
  pub front : List Command
  pub rest : List Command
  pub parts : cs ≡ front ++ rest
  pub left_is : left ≡ rules_after rules front

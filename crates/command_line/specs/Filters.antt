-- The words that name a chain of filters, at the front of a command line.
use Rattle.std.specs.Prelude.{◌≡◌, ℕ, ◌<◌, ◌≤◌, ◌⊎◌, List, [], ◌∷◌, ◌++◌, map, length, codes}
use Rattle.std.specs.List.{flat_map, AllByRecursion}
use Rattle.std.specs.Fmt.{decimal}
use Rattle.rc_base.specs.declared.command.Rgba.{Rgba}
use Rattle.rc_base.specs.declared.command.Opcode.{Opcode}
use Rattle.rc_base.specs.Formats.Commands.{table_row, opcode_number}
use Rattle.spu_chain.specs.declared.rule.SpuRule.{SpuRule}
use Rattle.spu_chain.specs.declared.rule.SpuRule.TheVariants as rule
use Rattle.spu_chain.specs.Filter.{HasByteTint}

-- what stands before a job: a filter, with what its words say
pub data Filter : Type 0 where
  -- colours are multiplied by a tint
  Recolour : (tint : Rgba) → Filter
  -- culling that is switched off is switched on
  Cull : Filter
  -- the commands of an opcode are left out
  Drop : (opcode : Opcode) → Filter
  -- commands are counted
  Count : Filter

-- the word that it begins with, the words that are due behind it, and the rule of the member that it stands for
pub record FilterRow : Type 0 where
  pub word : List ℕ
  pub due : List (List ℕ)
  pub made : SpuRule

abbrev pub tint_words : Rgba → List (List ℕ)
tint_words tint = decimal tint.r ∷ decimal tint.g ∷ decimal tint.b ∷ decimal tint.a ∷ []

-- the filters, one row each; a count begins at 0
abbrev pub filter_row : Filter → FilterRow
filter_row (Recolour tint) = record { word = codes "recolour"; due = tint_words tint; made = rule.Recolour tint }
filter_row Cull = record { word = codes "cull"; due = []; made = rule.Cull }
filter_row (Drop opcode) = record { word = codes "drop"; due = (table_row opcode).name ∷ []; made = rule.Drop (opcode_number opcode) }
filter_row Count = record { word = codes "count"; due = []; made = rule.Count 0 }

abbrev pub filter_word : Filter → List ℕ
filter_word f = (filter_row f).word

abbrev pub due_words : Filter → List (List ℕ)
due_words f = (filter_row f).due

abbrev pub rule_of : Filter → SpuRule
rule_of f = (filter_row f).made

abbrev pub filter_words : Filter → List (List ℕ)
filter_words f = filter_word f ∷ due_words f

-- the channels of its tint are bytes
abbrev pub IsFilter : Filter → Type 0
IsFilter f = HasByteTint (rule_of f)

-- no filter is at the front of the words
abbrev pub NoFilter : List (List ℕ) → Type 0
NoFilter words = (f : Filter) (more : List (List ℕ)) → IsFilter f → words ≡ filter_words f ++ more → ⊥

-- a filter of this rule is at the front of the words, and these are behind it
abbrev pub BeginsWithRule : List (List ℕ) → SpuRule → List (List ℕ) → Type 0
BeginsWithRule words made behind = (f : Filter) × IsFilter f × (words ≡ filter_words f ++ behind) × (made ≡ rule_of f)

-- the first word is one that a filter begins with
abbrev pub BeginsFilter : List (List ℕ) → Type 0
BeginsFilter words = (f : Filter) × (more : List (List ℕ)) × (words ≡ filter_word f ∷ more)

-- the words are those of the filters, and then the rest
pub record LeadsWith (words : List (List ℕ)) (fs : List Filter) (rest : List (List ℕ)) : Type 0 where
  pub parts : words ≡ flat_map filter_words fs ++ rest
  pub each : AllByRecursion IsFilter fs

-- The words begin with at most 16 filters, which have these rules and take so many words; the word behind them begins none.
pub record NamesChain (words : List (List ℕ)) (rules : List SpuRule) (count : ℕ) : Type 0 where
  pub filters : List Filter
  pub rest : List (List ℕ)
  pub leads : LeadsWith words filters rest
  pub most : length filters ≤ 16
  pub ends : BeginsFilter rest → ⊥
  pub rules_are : rules ≡ map rule_of filters
  pub count_is : count ≡ length (flat_map filter_words filters)

-- Behind some filters a filter's word stands without the words that are due behind it.
pub record LacksWords (words : List (List ℕ)) : Type 0 where
  pub filters : List Filter
  pub rest : List (List ℕ)
  pub leads : LeadsWith words filters rest
  pub begins : BeginsFilter rest
  pub lacks : NoFilter rest

-- The words begin with more than 16 filters.
pub record HasTooMany (words : List (List ℕ)) : Type 0 where
  pub filters : List Filter
  pub rest : List (List ℕ)
  pub leads : LeadsWith words filters rest
  pub many : 16 < length filters

-- the leading words name no chain
abbrev pub NamesNone : List (List ℕ) → Type 0
NamesNone words = LacksWords words ⊎ HasTooMany words

-- The members of a chain have the rules that the leading words name, and there is none where they name no chain.
abbrev pub AreNamed : List (List ℕ) → List SpuRule → Type 0
AreNamed words rules = ((count : ℕ) × NamesChain words rules count) ⊎ (NamesNone words × (rules ≡ []))

-- Laws on command lines.
use Rattle.std.specs.Prelude.{◌≡◌, ℕ, ◌≤◌, ◌^◌, List, []}
use Rattle.std.specs.List.{AllByRecursion}
use Rattle.command_line.specs.declared.job.JobName.{JobName}
use Rattle.command_line.specs.Words.{Setting, IsCommandLine}
use Rattle.command_line.specs.Filters.{BeginsFilter, NamesChain, NamesNone}
use Rattle.spu_chain.specs.declared.rule.SpuRule.{SpuRule}
use Rattle.spu_chain.specs.Filter.{HasByteTint, HaveRoom}

-- words are the line of at most one job, and of one list of settings
abbrev pub OneReading : Type 0
OneReading = (words : List (List ℕ)) (job other : JobName) (ss others : List Setting) → IsCommandLine words job ss → IsCommandLine words other others
    → (job ≡ other) × (ss ≡ others)

-- words begin with at most one chain of filters
abbrev pub OneChain : Type 0
OneChain = (words : List (List ℕ)) (rules others : List SpuRule) (count other : ℕ) → NamesChain words rules count → NamesChain words others other
    → (rules ≡ others) × (count ≡ other)

-- words that name a chain aren't among those that name none
abbrev pub ChainIsNotNone : Type 0
ChainIsNotNone = (words : List (List ℕ)) (rules : List SpuRule) (count : ℕ) → NamesChain words rules count → NamesNone words → ⊥

-- words that begin with no filter's word name the chain without members, which takes none of them
abbrev pub NoFilterIsEmptyChain : Type 0
NoFilterIsEmptyChain = (words : List (List ℕ)) → (BeginsFilter words → ⊥) → NamesChain words [] 0

-- a command line of a job doesn't begin with a filter's word
abbrev pub JobBeginsNoFilter : Type 0
JobBeginsNoFilter = (words : List (List ℕ)) (job : JobName) (settings : List Setting) → IsCommandLine words job settings → BeginsFilter words → ⊥

-- the rules that words name have bytes as tints, and their counts begin at 0
abbrev pub NamedRulesBegin : Type 0
NamedRulesBegin = (words : List (List ℕ)) (rules : List SpuRule) (count : ℕ) → NamesChain words rules count
    → AllByRecursion HasByteTint rules × ((n : ℕ) → n ≤ 2 ^ 63 → HaveRoom n rules)

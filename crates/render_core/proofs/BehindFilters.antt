-- What words ask for behind those of filters, and the members of a chain that these name.
use Rattle.std.proofs.Common.{◌≡◌, inl, inr, ℕ, List, [], map, take, drop, length, ◌-◌, length-drop, arith, Ok, Err, Some, sym, ap, subst}
use Rattle.std.specs.Prelude.{String, Option, IfErr, IfOk, IfSome, string_bytes}
use Rattle.std.specs.Global.{Global}
use Rattle.std.specs.declared.result.Result.{Result}
use Rattle.std.proofs.lemmas.List.{take_all}
use Rattle.command_line.specs.Filters.{AreNamed, BeginsFilter, NamesChain, NamesNone}
use Rattle.command_line.specs.Laws.{ChainIsNotNone, JobBeginsNoFilter, NamedRulesBegin, NoFilterIsEmptyChain, OneChain}
use Rattle.rc_base.specs.Outside.Ends.{Used}
use Rattle.spu_chain.specs.declared.rule.SpuRule.{SpuRule}
use Rattle.run_words.specs.declared.job.Job.{Job}
use Rattle.render_core.specs.declared.run_job.Finish.{Finish}
use Rattle.render_core.specs.Finishes.{IsJobless, IsTaskless}
use Rattle.run_words.specs.Jobs.{AskFiltered, AskPlainly, IsJobBehind, IsJob, IsLine, Task}
use Rattle.render_core.specs.Laws.{PlainTasksAreFilteredOnes}
use Rattle.render_core.specs.Refusals.{AreReady}
use Rattle.render_core.proofs.Finishing.{jobless_usage}

-- ---- members

pub no_rules : {B : Type 0} (f : B → SpuRule) (items : List B) → items ≡ [] → map f items ≡ []
no_rules f items e = ap (map f) e

none_ready : AreReady []
none_ready = record { room = λ n most. tt; tints = tt }

-- a chain without members is ready for every scene
pub empty_ready : {B : Type 0} (f : B → SpuRule) (items : List B) → items ≡ [] → AreReady (map f items)
empty_ready f items e = subst AreReady (sym (no_rules f items e)) none_ready

-- and so is one that words name
pub named_ready : NamedRulesBegin → (words : List (List ℕ)) (rules : List SpuRule) → AreNamed words rules → AreReady rules
named_ready law words rules named = elim named [
  | inl chain ↦ (let begin = law words rules chain.0 chain.1 in record { room = begin.1; tints = begin.0 })
  | inr none ↦ subst AreReady (sym none.1) none_ready
]

-- ---- words behind filters

-- the rest of a slice
pub rest_is : {A : Type 0} (n : ℕ) (xs : List A) → take (length xs - n) (drop n xs) ≡ drop n xs
rest_is n xs = subst (λ (k : ℕ). take k (drop n xs) ≡ drop n xs) (length-drop n xs) (take_all (length (drop n xs)) (drop n xs) (omega arith))

-- what a reading says of the chain that it found
pub some_named : (words : List (List ℕ)) (r : Option (List SpuRule × ℕ)) (x : List SpuRule × ℕ) → r ≡ Some x
    → IfSome r (λ x. NamesChain words x.0 x.1) → NamesChain words x.0 x.1
some_named words r x is named = subst (λ (r : Option (List SpuRule × ℕ)). IfSome r (λ x. NamesChain words x.0 x.1)) is named

module _ (one : OneChain) (never : ChainIsNotNone) (words : List (String Global)) where
  -- they ask for the job behind them, with the members that they name
  pub asked_behind : (rules : List SpuRule) (count : ℕ) → NamesChain (map string_bytes words) rules count → (r : Result Job Finish)
      → IfOk r (IsJob (drop count words)) → IfOk r (IsJobBehind words)
  asked_behind rules count chain (Err finish) is = tt
  asked_behind rules count chain (Ok job) is = λ members named. elim named [
    | inl own ↦ (let same = one (map string_bytes words) rules members count own.0 chain own.1 in record {
      count = count;
      chain = subst (λ (rs : List SpuRule). NamesChain (map string_bytes words) rs count) same.0 chain;
      job = is;
    })
    | inr none ↦ absurd (never (map string_bytes words) rules count chain none.0)
  ]

  -- or for nothing
  pub none_behind : (rules : List SpuRule) (count : ℕ) → NamesChain (map string_bytes words) rules count → (notes : Used) (r : Result Job Finish)
      → IfErr r (IsJobless (drop count words) notes) → IfErr r (IsTaskless (AskFiltered words) notes)
  none_behind rules count chain notes (Ok job) none = tt
  none_behind rules count chain notes (Err finish) none = record {
    unkept = none.unkept;
    why = elim none.why [
      | inl usage ↦ inl (usage.0, (λ task asked. usage.1 task.job (behind task asked)), usage.2)
      | inr memory ↦ inr (memory.0, memory.2)
    ];
  } where
    behind : (task : Task) → AskFiltered words task → IsJob (drop count words) task.job
    behind task asked =
        subst (λ (n : ℕ). IsJob (drop n words) task.job) (sym (one (map string_bytes words) rules task.filters count asked.count chain asked.chain).1) asked.job

  -- words that name no chain ask for nothing
  pub unnamed_asks : NamesNone (map string_bytes words) → (task : Task) → AskFiltered words task → ⊥
  unnamed_asks none task asked = never (map string_bytes words) task.filters asked.count asked.chain none

-- ---- words without filters

module _ (one : OneChain) (empty : NoFilterIsEmptyChain) (words : List (String Global)) where
  module _ (task : Task) (asked : AskFiltered words task) (none : BeginsFilter (map string_bytes words) → ⊥) where
    no_filters : (task.filters ≡ []) × (asked.count ≡ 0)
    no_filters = one (map string_bytes words) task.filters [] asked.count 0 asked.chain (empty (map string_bytes words) none)

    -- they ask for the job with no filter
    pub plainly : AskPlainly words task
    plainly = (no_filters.0, subst (λ (n : ℕ). IsJob (drop n words) task.job) no_filters.1 asked.job)

  -- and what asks plainly so begins with no filter's word
  filtered : (task : Task) → (BeginsFilter (map string_bytes words) → ⊥) → AskPlainly words task → AskFiltered words task
  filtered task none asked = record {
    count = 0;
    chain = subst (λ (rs : List SpuRule). NamesChain (map string_bytes words) rs 0) (sym asked.0) (empty (map string_bytes words) none);
    job = asked.1;
  }

-- where they ask for nothing so, that is told whatever memory there is
pub usage_behind : OneChain → NoFilterIsEmptyChain → (words : List (String Global)) (rules : List SpuRule) (count : ℕ) → NamesChain (map string_bytes words) rules count
    → (notes : Used) (r : Result Job Finish) → IfErr r (IsJobless (drop count words) notes)
    → IfErr r (λ finish. (BeginsFilter (map string_bytes words) → ⊥) → (IsLine words → ⊥) → finish.status ≡ 1)
usage_behind one empty words rules count chain notes (Ok job) none = tt
usage_behind one empty words rules count chain notes (Err finish) jobless = λ none other.
    let zero = (one (map string_bytes words) rules [] count 0 chain (empty (map string_bytes words) none)).1 in
    jobless_usage (drop count words) notes finish jobless (λ line. other (subst (λ (n : ℕ). IsLine (drop n words)) zero line))

-- a job that they name is a line's
pub line_of : (words : List (String Global)) (task : Task) → AskPlainly words task → IsLine words
line_of words task asked = (asked.1.name, asked.1.settings, asked.1.line)

pub plain_is_filtered : OneChain → NoFilterIsEmptyChain → JobBeginsNoFilter → PlainTasksAreFilteredOnes
plain_is_filtered one empty jobs words task = (
  λ asked.
      let none = jobs (map string_bytes words) asked.1.name asked.1.settings asked.1.line in (filtered one empty words task none asked, none),
  λ asked. plainly one empty words task asked.0 asked.1,
)

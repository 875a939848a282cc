use Rattle.std.proofs.Common.{ℕ, List, [], Result, Ok, Err, Option, refl, inl}
use Rattle.std.specs.Prelude.{IfOk, IsNone, ◌↔◌}
use Rattle.rc_base.specs.declared.out_of_memory.OutOfMemory.{OutOfMemory}
use Rattle.command_line.specs.Filters.{BeginsFilter, NoFilter, LacksWords}
use Rattle.uses.proofs.program.rules_of.Goals as goal

lacks : (words : List (List ℕ)) → BeginsFilter words → NoFilter words → LacksWords words
lacks words begins none = record { filters = []; rest = words; leads = record { parts = refl; each = tt }; begins = begins; lacks = none }

gives_none : {A : Type 0} (r : Result (Option A) OutOfMemory) (N : Type 0) → N → IfOk r (λ o. IsNone o ↔ N) → IfOk r IsNone
gives_none (Ok o) N holds is = is.1 holds
gives_none (Err e) N holds is = tt

pub returns : goal.returns
returns c begins none = gives_none c.filters.result _ (inl (lacks _ begins none)) c.filters.ensures.none

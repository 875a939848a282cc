-- A command that is accepted keeps each rule.
use Rattle.std.proofs.Common.{◌≡◌, true, List, [], ◌∷◌, None, Some, inl, inr}
use Rattle.std.specs.List.{AllByRecursion}
use Rattle.std.proofs.lemmas.Bool.{cases_Bool}
use Rattle.rc_base.specs.Formats.Commands.{has_codes}
use Rattle.rc_base.specs.Contexts.Context.{ClientContext}
use Rattle.rc_base.specs.Contexts.Faults.{Rule, first_broken, rules, fault_of, is_in_place, has_values, has_image, part_fits, has_room, has_below}
use Rattle.rc_base.specs.declared.command.Command.{Command}

keeps_all : (rs : List Rule) (x : ClientContext) (c : Command) → first_broken rs x c ≡ None → AllByRecursion (λ (r : Rule). r.keeps x c ≡ true) rs
keeps_all [] x c h = tt
keeps_all (r ∷ rs) x c h = elim (cases_Bool (r.keeps x c)) [
  | inl t ↦ (t, keeps_all rs x c (rw t at h))
  | inr f ↦ let k : Some r.fault ≡ None = rw f at h in absurd cc
]

-- what an accepted command keeps
pub record KeepsRules (x : ClientContext) (c : Command) : Type 0 where
  pub place : is_in_place x c ≡ true
  pub codes : has_codes c ≡ true
  pub values : has_values x c ≡ true
  pub image : has_image x c ≡ true
  pub fits : part_fits x c ≡ true
  pub room : has_room x c ≡ true
  pub below : has_below x c ≡ true

pub accepted : (x : ClientContext) (c : Command) → fault_of x c ≡ None → KeepsRules x c
accepted x c h =
    let a = keeps_all rules x c h in
    record {
      place = a.0;
      codes = a.1.0;
      values = a.1.1.0;
      image = a.1.1.1.0;
      fits = a.1.1.1.1.0;
      room = a.1.1.1.1.1.0;
      below = a.1.1.1.1.1.1.0;
    }

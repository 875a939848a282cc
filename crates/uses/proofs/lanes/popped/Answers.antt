use Rattle.std.proofs.Common.{◌≡◌, List, [], ◌∷◌, ◌++◌, Option, Some, None, sym, ◌∙◌, append-nil}
use Rattle.std.specs.Prelude.{IfNone, IfSome}
use Rattle.std.specs.Option.{option_to_list}
use Rattle.uses.proofs.lanes.popped.Goals as goal

grows : {T : Type 0} (r : Option T) (before after : List T) (P Q : Type 0) → IfSome r (λ x. (after ≡ before ++ x ∷ []) × P) → IfNone r ((after ≡ before) × Q)
    → after ≡ before ++ option_to_list r
grows (Some x) before after P Q given none = given.0
grows None before after P Q given none = none.0 ∙ sym (append-nil before)

pub returns : goal.returns
returns g c = grows c.pop.result _ _ _ _ c.pop.ensures.given c.pop.ensures.none

use Rattle.std.proofs.Common.{◌≡◌, List, [], ◌∷◌, ◌++◌, Option, Some, None, sym, ◌∙◌}
use Rattle.std.specs.Prelude.{IfNone, IfSome}
use Rattle.std.specs.Option.{option_to_list}
use Rattle.uses.proofs.lanes.next_left.Goals as goal

is_next : {T : Type 0} (r : Option T) (before after : List T) → IfSome r (λ x. before ≡ x ∷ after) → IfNone r ((before ≡ []) × (after ≡ [])) → before ≡ option_to_list r ++ after
is_next (Some x) before after some none = some
is_next None before after some none = none.0 ∙ sym none.1

pub returns : goal.returns
returns g c = is_next c.next.result _ _ c.next.ensures.some c.next.ensures.none

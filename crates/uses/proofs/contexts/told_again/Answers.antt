use Rattle.std.proofs.Common.{◌≡◌, ℕ, Bool, List, [], ◌∷◌, ◌++◌, Result, Ok, Err, refl, ap₂, ◌∙◌}
use Rattle.std.specs.Prelude.{IfOk}
use Rattle.std.specs.List.{flat_map}
use Rattle.std.proofs.lemmas.Bool.{cond-true}
use Rattle.rc_base.specs.Cluster.Parcels.{examined, set_of, sets_for}
use Rattle.rc_base.specs.Contexts.Context.{ClientContext}
use Rattle.rc_base.specs.Contexts.Elements.{value_in}
use Rattle.rc_base.specs.declared.out_of_memory.OutOfMemory.{OutOfMemory}
use Rattle.rc_base.specs.declared.state.ElementSet.{ElementSet}
use Rattle.rc_base.specs.declared.state.ElementValue.{ElementValue}
use Rattle.uses.specs.Contexts.{AreUnchanged}
use Rattle.uses.proofs.contexts.told_again.Goals as goal

no_sets : (values : ℕ → ElementValue) (x : ClientContext) → AreUnchanged values x → (es : List ℕ) → flat_map (set_of values x) es ≡ []
no_sets values x same [] = refl
no_sets values x same (e ∷ es) =
    ap₂ (λ (a b : List ElementSet). a ++ b) (cond-true _ [] (record { element = e; value = value_in x e } ∷ []) (same e)) (no_sets values x same es)

none_for : (values : ℕ → ElementValue) (x : ClientContext) (draws : Bool) → AreUnchanged values x → sets_for values x draws ≡ []
unfolding sets_for
none_for values x draws same = no_sets values x same (examined x draws)

gives : (r : Result (List ElementSet) OutOfMemory) (values : ℕ → ElementValue) (x : ClientContext) (draws : Bool)
    → IfOk r (λ sets. sets ≡ sets_for values x draws) → AreUnchanged values x → IfOk r (λ sets. sets ≡ [])
gives (Ok sets) values x draws are same = are ∙ none_for values x draws same
gives (Err lack) values x draws are same = tt

pub returns : goal.returns
returns c values known same = gives c.update.result values _ _ (c.update.ensures.sets values known) same

-- What callers say of contexts.
use Rattle.std.specs.Prelude.{◌≡◌, ℕ, true}
use Rattle.rc_base.specs.Contexts.Context.{ClientContext}
use Rattle.rc_base.specs.Contexts.Elements.{same_value, value_in}
use Rattle.rc_base.specs.declared.state.ElementValue.{ElementValue}

-- each element of the context has the value that is here
abbrev pub AreUnchanged : (ℕ → ElementValue) → ClientContext → Type 0
AreUnchanged values x = (e : ℕ) → same_value (values e) (value_in x e) ≡ true

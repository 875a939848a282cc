-- What a test keeps true of two tiles.
use Rattle.std.specs.Prelude.{◌≡◌, ℕ, ◌<◌, false, true, length}
use Rattle.rc_base.specs.Contexts.Context.{ClientContext}
use Rattle.rc_base.specs.Contexts.Elements.{element_count, same_value, value_in}
use Rattle.rc_base.specs.declared.state.ElementValue.{ElementValue}
use Rattle.state_update.specs.Knowledge.{Knows, Tracked, pending}

-- the tile was told each element of the context that isn't pending to it
pub record IsTold (t : Tracked) (tile : ℕ) (x : ClientContext) : Type 0 where
  pub values : ℕ → ElementValue
  pub known : Knows t tile values
  pub settled : (e : ℕ) → e < element_count → pending t tile e ≡ false → same_value (values e) (value_in x e) ≡ true

pub record AreTold (t : Tracked) (x : ClientContext) : Type 0 where
  pub count : length t.told ≡ 2
  pub each : (tile : ℕ) → tile < 2 → IsTold t tile x

-- An alpha test that was prepared once for a draw.
use Rattle.std.specs.Prelude.{◌≡◌, ℕ, Bool}
use Rattle.rc_base.specs.Drawing.PixelStep.{passes_alpha}
use Rattle.rc_base.specs.declared.state.State.{State}
use Rattle.fragment_ops.specs.DepthTests.{passes}
use Rattle.fragment_ops.specs.declared.alpha.AlphaTest.{AlphaTest}

-- a fragment of this alpha passes
abbrev pub keeps_alpha : AlphaTest → ℕ → Bool
keeps_alpha t alpha = passes t.outcomes alpha t.reference

-- prepared for a state
abbrev pub IsAlphaTest : State → AlphaTest → Type 0
IsAlphaTest s t = (alpha : ℕ) → keeps_alpha t alpha ≡ passes_alpha s alpha

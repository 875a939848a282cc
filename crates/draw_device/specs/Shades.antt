-- The colours of a row's fragments, one by one, and how they are written.
use Rattle.std.specs.Prelude.{◌≡◌, ℕ, ◌<◌, ◌≤◌, List, Bool, true, false, Option, None}
use Rattle.rc_base.specs.Pictures.{Picture}
use Rattle.rc_base.specs.Drawing.PixelStep.{fragment_color, written_color}
use Rattle.rc_base.specs.declared.command.Rgba.{Rgba}
use Rattle.rc_base.specs.declared.state.State.{State}
use Rattle.rc_base.specs.declared.window.WindowVertex.{WindowVertex}
use Rattle.fragment_ops.specs.Shortcuts.{blends_over}
use Rattle.raster.specs.Colors.{IsNextColorRamp}
use Rattle.draw_device.specs.Loops.{run_fragment, IsColorAt}
use Rattle.draw_device.specs.declared.run.Run.{Run}
use Rattle.draw_device.specs.declared.shades.Shades.{Shades}
use Rattle.draw_device.specs.declared.shades.Shades.TheVariants as shades

-- the colours of a run's fragments from column k on: one for all, or a ramp that has the one of column k, where no texture changes it
abbrev pub AreShades : State → Option Picture → List WindowVertex → Run → ℕ → Shades → Type 0
AreShades s p v r k (shades.One color) = (j : ℕ) → r.from ≤ j → j < r.to → fragment_color s p (run_fragment v r j) ≡ color
AreShades s p v r k (shades.Ramp ramp) = (p ≡ None) × IsColorAt v r k ramp

-- one column further
abbrev pub AreNextShades : Shades → Shades → Type 0
AreNextShades (shades.One color) new = new ≡ shades.One color
AreNextShades (shades.Ramp ramp) (shades.One color) = ⊥
AreNextShades (shades.Ramp ramp) (shades.Ramp next) = IsNextColorRamp ramp next

-- colours are laid over the stored ones, or written as they are
abbrev pub IsLaid : State → Bool → Type 0
IsLaid s true = blends_over s ≡ true
IsLaid s false = (color old : Rgba) → written_color s color old ≡ color

-- One serial renderer: what the commands of an order, carried out one after the other, leave of a pixel. There are no tiles and no
-- parcels in it.
use Rattle.std.specs.Prelude.{ℕ, zero, suc, ◌+◌, ◌*◌, nat_lt, Bool, true, false, List, fold, replicate, slice_index, if◌then◌else◌, ℤ}
use Rattle.rc_base.specs.Colors.{rgba}
use Rattle.rc_base.specs.Pictures.{with_part}
use Rattle.rc_base.specs.Contexts.Context.{private_image, shared_sides}
use Rattle.rc_base.specs.Contexts.Issue.{context_after, effect_at}
use Rattle.rc_base.specs.Drawing.Window.{depth_most}
use Rattle.rc_base.specs.Drawing.Texel.{SharedTexels, shared_picture}
use Rattle.rc_base.specs.Drawing.Touch.{writes_shared}
use Rattle.rc_base.specs.Drawing.PixelStep.{effect_step}
use Rattle.rc_base.specs.declared.scene.Scene.{Scene}
use Rattle.rc_base.specs.declared.state.Effect.{Effect}
use Rattle.rc_base.specs.declared.state.Effect.TheVariants as eff
use Rattle.rc_base.specs.declared.sync.Name.{Name}
use Rattle.rc_base.specs.declared.sync.SyncOp.TheVariants as op
use Rattle.rc_base.specs.declared.window.Pixel.{Pixel}

-- ---- one command

-- a pixel after a named command, for the shared textures as they are before it
unfoldable pub pixel_step : Scene → Name → SharedTexels → ℤ → ℤ → Pixel → Pixel
pixel_step scene n shared x y old =
    let context = context_after scene n.client n.place in
    effect_step context.state (private_image context) (shared_picture scene.decl.shared shared) (effect_at scene n.client n.place) x y old

-- the shared textures at first are all zeros
abbrev pub blank_textures : Scene → SharedTexels
blank_textures scene name =
    let sides = shared_sides scene.decl.shared name in
    replicate (4 * (slice_index sides 0 * slice_index sides 1)) 0

-- The shared textures of these sides after what a command does: a part without texels writes nothing.
abbrev pub stored : List (List ℕ) → Effect → SharedTexels → SharedTexels
stored sizes eff.Quiet shared name = shared name
stored sizes (eff.Refused fault) shared name = shared name
stored sizes (eff.Block block) shared name = shared name
stored sizes (eff.Clear mask) shared name = shared name
stored sizes (eff.Shared part) shared name =
    if writes_shared (eff.Shared part) name then (with_part (shared_picture sizes shared name) part).texels else shared name
stored sizes (eff.Sync op) shared name = shared name

-- the shared textures after a named command
unfoldable pub textures_step : Scene → SharedTexels → Name → SharedTexels
textures_step scene shared n = stored scene.decl.shared (effect_at scene n.client n.place) shared

-- ---- an order of commands

-- while an order is carried out: the shared textures, and one pixel
pub record Canvas (T X : Type 0) : Type 0 where
  pub shared : T
  pub pixel : X

-- One name is carried out: each writes the shared textures, and those that are shown draw, with the textures as they are before it.
unfoldable pub canvas_step : {T X : Type 0} → (T → Name → T) → (Name → T → X → X) → (Name → Bool) → Canvas T X → Name → Canvas T X
canvas_step stores draws shown canvas n = record {
  shared = stores canvas.shared n;
  pixel = if shown n then draws n canvas.shared canvas.pixel else canvas.pixel;
}

-- what the names of an order leave, in its sequence
abbrev pub canvas_after : {T X : Type 0} → (T → Name → T) → (Name → T → X → X) → (Name → Bool) → Canvas T X → List Name → Canvas T X
canvas_after stores draws shown canvas order = fold (canvas_step stores draws shown) canvas order

-- the buffer at first
abbrev pub blank_pixel : Pixel
blank_pixel = record { color = rgba 0 0 0 0; depth = depth_most }

abbrev pub blank_canvas : Scene → Canvas SharedTexels Pixel
blank_canvas scene = record { shared = blank_textures scene; pixel = blank_pixel }

-- the shared textures and the pixel (x, y) of the window after an order of a scene's commands, of which these are shown
abbrev pub painted : Scene → (Name → Bool) → ℤ → ℤ → List Name → Canvas SharedTexels Pixel
painted scene shown x y order =
    canvas_after (textures_step scene) (λ n shared old. pixel_step scene n shared x y old) shown (blank_canvas scene) order

-- the shared textures alone
abbrev pub textures_after : Scene → List Name → SharedTexels
textures_after scene order = fold (textures_step scene) (blank_textures scene) order

-- ---- frames

abbrev pub is_swap_effect : Effect → Bool
is_swap_effect eff.Quiet = false
is_swap_effect (eff.Refused fault) = false
is_swap_effect (eff.Block block) = false
is_swap_effect (eff.Clear mask) = false
is_swap_effect (eff.Shared part) = false
is_swap_effect (eff.Sync (op.Barrier name)) = false
is_swap_effect (eff.Sync (op.SemP name)) = false
is_swap_effect (eff.Sync (op.SemV name)) = false
is_swap_effect (eff.Sync op.Swap) = true

-- the accepted Swaps among the first n commands of a client
unfoldable pub accepted_swaps : Scene → ℕ → ℕ → ℕ
accepted_swaps scene client zero = 0
accepted_swaps scene client (suc n) = accepted_swaps scene client n + (if is_swap_effect (effect_at scene client n) then 1 else 0)

-- the name stands below its client's k-th accepted Swap
abbrev pub is_below_swap : Scene → ℕ → Name → Bool
is_below_swap scene k n = nat_lt (accepted_swaps scene n.client (n.place + 1)) k

-- Frame k, from 1, of an order, at a pixel: the names that stand below their client's k-th accepted Swap are shown. Buffers keep their contents
-- after a Swap.
unfoldable pub frame_pixel : Scene → List Name → ℕ → ℤ → ℤ → Pixel
frame_pixel scene order k x y = (painted scene (is_below_swap scene k) x y order).pixel

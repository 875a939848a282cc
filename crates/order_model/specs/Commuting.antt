-- What an order draws, whatever the commands do.
use Rattle.std.specs.Prelude.{◌≡◌, ℕ, Bool, true, false, cond, List, pos}
use Rattle.rc_base.specs.Orders.Order.{Footprint}
use Rattle.rc_base.specs.Orders.Footprints.{is_in_window, footprint_of}
use Rattle.rc_base.specs.Drawing.Serial.{canvas_after, pixel_step, textures_step}
use Rattle.rc_base.specs.declared.scene.Scene.{Scene}
use Rattle.rc_base.specs.declared.sync.Name.{Name}
use Rattle.rc_base.specs.declared.window.Pixel.{Pixel}

-- what the named commands use and do: P are the points of the window, X is what a pixel holds, T what a texture holds
pub record Drawing (P X T : Type 0) : Type 0 where
  pub uses : Footprint P
  -- the shared textures after the command
  pub stored : Name → (ℕ → T) → ℕ → T
  -- a pixel after the command
  pub drawn : Name → P → X → (ℕ → T) → X

-- A command changes only the pixels that it touches and the textures that it writes, and goes by no texture but those that it samples.
pub record IsLocal {P X T : Type 0} (d : Drawing P X T) : Type 0 where
  pub untouched : (n : Name) (p : P) (x : X) (tex : ℕ → T) → d.uses.touches n p ≡ false → d.drawn n p x tex ≡ x
  pub reads : (n : Name) (p : P) (x : X) (tex tex' : ℕ → T) → ((t : ℕ) → d.uses.samples n t ≡ true → tex t ≡ tex' t) → d.drawn n p x tex ≡ d.drawn n p x tex'
  pub unwritten : (n : Name) (tex : ℕ → T) (t : ℕ) → d.uses.writes n t ≡ false → d.stored n tex t ≡ tex t
  pub own : (n : Name) (tex tex' : ℕ → T) (t : ℕ) → tex t ≡ tex' t → d.stored n tex t ≡ d.stored n tex' t

-- A pixel after an order, from the textures and the pixel as they are before it: by the serial renderer's fold. Names that aren't shown leave the
-- pixel as it is, and still write their textures: a frame shows the names below its swaps.
abbrev pub pixel_after : {P X T : Type 0} → Drawing P X T → (Name → Bool) → P → List Name → (ℕ → T) → X → X
pixel_after d shown p order tex x =
    (canvas_after (λ tex n. d.stored n tex) (λ n tex x. d.drawn n p x tex) shown (record { shared = tex; pixel = x }) order).pixel

-- ---- the serial renderer as such a drawing

-- what the commands of a scene do to its window and its shared textures
abbrev pub drawing_of : Scene → Drawing (ℕ × ℕ) Pixel (List ℕ)
drawing_of scene = record {
  uses = footprint_of scene;
  stored = λ n tex. textures_step scene tex n;
  drawn = λ n p old tex. cond (is_in_window scene p.0 p.1) (pixel_step scene n tex (pos p.0) (pos p.1) old) old;
}

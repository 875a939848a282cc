-- The shared textures that a canvas has are those of the fold of textures alone.
use Rattle.std.proofs.Common.{◌≡◌, Bool, List, [], ◌∷◌, fold, ℤ, refl}
use Rattle.rc_base.specs.Drawing.Serial.{Canvas, canvas_step, canvas_after, painted, pixel_step, textures_step, textures_after, blank_canvas}
use Rattle.rc_base.specs.declared.scene.Scene.{Scene}
use Rattle.rc_base.specs.declared.sync.Name.{Name}

shared_alone : {T X : Type 0} (stores : T → Name → T) (draws : Name → T → X → X) (shown : Name → Bool) (canvas : Canvas T X) (order : List Name)
    → (canvas_after stores draws shown canvas order).shared ≡ fold stores canvas.shared order
unfolding canvas_step
shared_alone stores draws shown canvas [] = refl
shared_alone stores draws shown canvas (n ∷ order) = shared_alone stores draws shown (canvas_step stores draws shown canvas n) order

pub canvas_textures : (scene : Scene) (shown : Name → Bool) (x y : ℤ) (order : List Name) → (painted scene shown x y order).shared ≡ textures_after scene order
canvas_textures scene shown x y order = shared_alone (textures_step scene) (λ n shared old. pixel_step scene n shared x y old) shown (blank_canvas scene) order

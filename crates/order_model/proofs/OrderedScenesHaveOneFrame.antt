-- The serial renderer's frames of an ordered scene.
use Rattle.std.proofs.Common.{◌≡◌, ℕ, ◌<◌, nat_lt, Bool, true, cond, List, pos, sym, ap, ◌∙◌, lt-ltb}
use Rattle.std.proofs.lemmas.Bool.{and_from}
use Rattle.rc_base.specs.Drawing.Serial.{Canvas, pixel_step, textures_step, is_below_swap, blank_textures, blank_pixel, blank_canvas, canvas_after, frame_pixel}
use Rattle.rc_base.specs.Drawing.Texel.{SharedTexels}
use Rattle.rc_base.specs.Orders.Footprints.{is_in_window, IsOrderedScene}
use Rattle.rc_base.specs.Orders.Order.{IsPermitted}
use Rattle.rc_base.specs.Orders.Sync.{sync_lists_of}
use Rattle.rc_base.specs.declared.scene.Scene.{Scene}
use Rattle.rc_base.specs.declared.sync.Entry.{Entry}
use Rattle.rc_base.specs.declared.sync.Name.{Name}
use Rattle.rc_base.specs.declared.window.Pixel.{Pixel}
use Rattle.order_model.specs.Commuting.{pixel_after, drawing_of}
use Rattle.order_model.proofs.CommandsAreLocal.{drawing_is_local}
use Rattle.order_model.proofs.OrderedScenesDrawAlike.{ordered_pixels_agree}

-- in the window the serial renderer's step of a pixel is the drawing's
same_steps : (scene : Scene) (shown : Name → Bool) (x y : ℕ) (o : List Name) (canvas : Canvas SharedTexels Pixel) → is_in_window scene x y ≡ true
    → (canvas_after (textures_step scene) (λ n shared old. pixel_step scene n shared (pos x) (pos y) old) shown canvas o).pixel
    ≡ pixel_after (drawing_of scene) shown (x, y) o canvas.shared canvas.pixel
same_steps scene shown x y o canvas inside =
    ap (λ b. (canvas_after (textures_step scene) (λ n shared old. cond b (pixel_step scene n shared (pos x) (pos y) old) old) shown canvas o).pixel) (sym inside)

frame_is : (scene : Scene) (o : List Name) (k x y : ℕ) → is_in_window scene x y ≡ true
    → frame_pixel scene o k (pos x) (pos y) ≡ pixel_after (drawing_of scene) (is_below_swap scene k) (x, y) o (blank_textures scene) blank_pixel
unfolding frame_pixel
frame_is scene o k x y inside = same_steps scene (is_below_swap scene k) x y o (blank_canvas scene) inside

pub ordered_frames_agree : (scene : Scene) (journal : List Entry) → IsOrderedScene scene journal
    → (o o' : List Name) → IsPermitted (sync_lists_of scene) journal o → IsPermitted (sync_lists_of scene) journal o'
    → (k x y : ℕ) → x < scene.decl.width → y < scene.decl.height → frame_pixel scene o k (pos x) (pos y) ≡ frame_pixel scene o' k (pos x) (pos y)
ordered_frames_agree scene journal ordered o o' p p' k x y lt lt' =
    let inside : is_in_window scene x y ≡ true = and_from (nat_lt x scene.decl.width) (nat_lt y scene.decl.height) (lt-ltb x scene.decl.width lt) (lt-ltb y scene.decl.height lt') in
    frame_is scene o k x y inside
    ∙ ordered_pixels_agree (drawing_of scene) (drawing_is_local scene) (sync_lists_of scene) journal ordered o o' p p' (is_below_swap scene k) (x, y) (blank_textures scene) blank_pixel
    ∙ sym (frame_is scene o' k x y inside)

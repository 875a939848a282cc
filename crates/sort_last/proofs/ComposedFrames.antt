-- The clients' layers of a frame, put before the frame's background one after the other.
use Rattle.std.proofs.Common.{◌≡◌, ℕ, suc, ◌+◌, ◌-◌, ◌<◌, ◌≤◌, List, [], ◌∷◌, length, map, true, sym, ap, subst, ◌∙◌, arith, ℤ}
use Rattle.std.specs.Prelude.{fold}
use Rattle.std.specs.List.{range_with_len}
use Rattle.std.proofs.lemmas.List.FromFn.{map-range_with_len_more}
use Rattle.std.proofs.lemmas.List.Sums.{fold_push}
use Rattle.rc_base.specs.Cluster.Tiles.{is_in_rect}
use Rattle.rc_base.specs.Contexts.Issue.{context_after}
use Rattle.rc_base.specs.Drawing.Nearer.{nearer}
use Rattle.rc_base.specs.Drawing.Serial.{blank_pixel}
use Rattle.rc_base.specs.Drawing.Window.{depth_most}
use Rattle.rc_base.specs.Orders.Order.{names_from}
use Rattle.rc_base.specs.Orders.Sync.{sync_row_of}
use Rattle.rc_base.specs.declared.scene.Scene.{Scene}
use Rattle.rc_base.specs.declared.window.Pixel.{Pixel}
use Rattle.rc_base.specs.declared.window.Rect.{Rect}
use Rattle.draw_device.specs.Devices.{AreNear, DeviceView, EachTakes, pixel_of}
use Rattle.serial_render.specs.Steps.{Holds}
use Rattle.serial_render.proofs.ClearDepths.{clearable}
use Rattle.sort_last.specs.Layers.{layer_pixel, merged_pixel, cleared_pixel, composed_pixel}
use Rattle.sort_last.specs.Offends.{IsComposable}
use Rattle.sort_last.specs.Players.{shows, draw_if, start_of}
use Rattle.sort_last.specs.declared.play.DrawPass.TheVariants as pass
use Rattle.sort_last.proofs.DrawnByDepth.{IsDepth}
use Rattle.sort_last.proofs.FrameBounds.{frame_cleared}
use Rattle.sort_last.proofs.FramesOfJournals.{cleared_depths, frame_depths}
use Rattle.sort_last.proofs.Nearer.{nearer_depth, blank_behind, fold_behind}

pub depths : (scene : Scene) (c n : ℕ) → IsDepth (context_after scene c n).state.clear_depth
depths scene c n = let k = clearable scene c n in record { low = k.low; high = k.high }

-- ---- layers one after the other

pub layers_more : (f : ℕ → Pixel) (p : Pixel) (n : ℕ) → fold nearer p (map f (range_with_len 0 (n + 1))) ≡ nearer (fold nearer p (map f (range_with_len 0 n))) (f n)
layers_more f p n =
    ap (fold nearer p) (map-range_with_len_more f 0 n n (omega arith)) ∙ fold_push nearer p (map f (range_with_len 0 n)) (f n)

pub layers_near : (ps : List Pixel) (p : Pixel) → p.depth ≤ depth_most → (fold nearer p ps).depth ≤ depth_most
layers_near [] p le = le
layers_near (q ∷ ps) p le = layers_near ps (nearer p q) (omega (arith, le, nearer_depth p q))

-- ---- a frame's background, and then its layers

pub composed_near : (scene : Scene) → IsComposable scene → (frame : ℕ) (x y : ℤ) → (composed_pixel scene frame x y).depth ≤ depth_most
composed_near scene d frame x y = frame_depths scene d (depths scene) 0 x y frame

module _ (scene : Scene) (d : IsComposable scene) (frame : ℕ) (some : 0 < length scene.streams) (inside : frame < length (sync_row_of scene 0).ops) (old mid : DeviceView)
    (same : mid.rect ≡ old.rect) (holds : Holds old (composed_pixel scene frame))
    (cleared : (let ops = (sync_row_of scene 0).ops in
    EachTakes (λ x y p. fold (draw_if scene x y (shows pass.Clears scene)) p (names_from 0 (start_of ops frame) (start_of ops (frame + 1) - start_of ops frame))) old mid)) where
  background : (x y : ℤ) → is_in_rect mid.rect x y ≡ true → pixel_of mid x y ≡ cleared_pixel scene (frame + 1) x y (composed_pixel scene frame x y)
  background x y in_mid =
      let in_old : is_in_rect old.rect x y ≡ true = ap (λ (r : Rect). is_in_rect r x y) (sym same) ∙ in_mid in
      cleared x y in_old ∙ frame_cleared scene d some frame inside x y (pixel_of old x y) ∙ ap (cleared_pixel scene (frame + 1) x y) (holds x y in_old)

  pub background_near : AreNear mid
  background_near x y in_mid =
      subst (λ (p : Pixel). p.depth ≤ depth_most) (sym (background x y in_mid))
      (cleared_depths scene d (depths scene) 0 x y (frame + 1) (composed_pixel scene frame x y) (composed_near scene d frame x y))

  pub composed_next : (new : DeviceView) → new.rect ≡ mid.rect
      → EachTakes (λ x y p. fold nearer p (map (λ c. layer_pixel scene c (frame + 1) x y) (range_with_len 0 (length scene.streams)))) mid new
      → Holds new (composed_pixel scene (frame + 1))
  unfolding composed_pixel merged_pixel
  composed_next new keeps layers x y in_new =
      let in_mid : is_in_rect mid.rect x y ≡ true = ap (λ (r : Rect). is_in_rect r x y) (sym keeps) ∙ in_new in
      let ps = map (λ c. layer_pixel scene c (frame + 1) x y) (range_with_len 0 (length scene.streams)) in
      let p = pixel_of mid x y in
      let e : frame + 1 ≡ suc frame = omega arith in
      layers x y in_mid
      ∙ ap (λ q. fold nearer q ps) (sym (blank_behind p (background_near x y in_mid)))
      ∙ sym (fold_behind p blank_pixel ps)
      ∙ ap (λ q. nearer q (merged_pixel scene (frame + 1) x y)) (background x y in_mid)
      ∙ ap (λ m. nearer (cleared_pixel scene m x y (composed_pixel scene frame x y)) (merged_pixel scene m x y)) e
      ∙ ap (λ m. composed_pixel scene m x y) (sym e)

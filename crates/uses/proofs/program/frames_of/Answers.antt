use Rattle.std.proofs.Common.{◌≡◌, ℕ, ◌+◌, ◌<◌, Bool, false, List, [], ◌∷◌, ◌++◌, Some, length, Result, Ok, Err, ap, ◌∙◌, arith, ℤ}
use Rattle.std.specs.Prelude.{IfOk, slice_get, fold, if◌then◌else◌}
use Rattle.std.specs.List.{range_with_len}
use Rattle.std.specs.Option.{option_map}
use Rattle.std.proofs.Math.Path.{fun_ext}
use Rattle.std.proofs.lemmas.List.FromFn.{get_or-range_with_len, length-range_with_len, length-map-range_with_len}
use Rattle.std.proofs.lemmas.List.Sums.{fold_push}
use Rattle.std.proofs.lemmas.Option.{slice_get-map, slice_get-get_or}
use Rattle.rc_base.specs.Drawing.Images.{frame_image, frame_images, image_from}
use Rattle.rc_base.specs.Drawing.Serial.{Canvas, blank_canvas, canvas_step, frame_pixel, is_below_swap, pixel_step, textures_step}
use Rattle.rc_base.specs.Drawing.Texel.{SharedTexels}
use Rattle.rc_base.specs.declared.image.Image.{Image}
use Rattle.rc_base.specs.declared.out_of_memory.OutOfMemory.{OutOfMemory}
use Rattle.rc_base.specs.declared.scene.Scene.{Scene}
use Rattle.rc_base.specs.declared.sync.Entry.{Entry}
use Rattle.rc_base.specs.declared.sync.Name.{Name}
use Rattle.rc_base.specs.declared.window.Pixel.{Pixel}
use Rattle.order_model.specs.Report.{frame_count}
use Rattle.serial_render.specs.Shown.{frames_of}
use Rattle.uses.specs.Program.{ShowWithout}
use Rattle.uses.proofs.program.frames_of.Goals as goal

abbrev step_of : Scene → ℕ → ℤ → ℤ → Canvas SharedTexels Pixel → Name → Canvas SharedTexels Pixel
step_of s k x y = canvas_step (textures_step s) (λ n shared old. pixel_step s n shared x y old) (is_below_swap s k)

stays : (s : Scene) (k : ℕ) (x y : ℤ) (canvas : Canvas SharedTexels Pixel) (n : Name) → is_below_swap s k n ≡ false → (step_of s k x y canvas n).pixel ≡ canvas.pixel
unfolding canvas_step
stays s k x y canvas n behind = ap (λ (below : Bool). if below then pixel_step s n canvas.shared x y canvas.pixel else canvas.pixel) behind

same_pixel : (s : Scene) (k : ℕ) (front : List Name) (last : Name) (x y : ℤ) → is_below_swap s k last ≡ false → frame_pixel s (front ++ last ∷ []) k x y ≡ frame_pixel s front k x y
unfolding frame_pixel
same_pixel s k front last x y behind =
    ap (λ (canvas : Canvas SharedTexels Pixel). canvas.pixel) (fold_push (step_of s k x y) (blank_canvas s) front last)
    ∙ stays s k x y (fold (step_of s k x y) (blank_canvas s) front) last behind

same_frame : (s : Scene) (k : ℕ) (front : List Name) (last : Name) → is_below_swap s k last ≡ false → frame_image s (front ++ last ∷ []) k ≡ frame_image s front k
same_frame s k front last behind =
    ap (image_from s.decl) (fun_ext (λ (x : ℤ). fun_ext (λ (y : ℤ). same_pixel s k front last x y behind)))

frame_at : (s : Scene) (order : List Name) (n k : ℕ) → k < n → slice_get (frame_images s order n) k ≡ Some (frame_image s order (k + 1))
frame_at s order n k low =
    slice_get-map (frame_image s order) (range_with_len 1 n) k
    ∙ ap (option_map (frame_image s order))
    (slice_get-get_or (range_with_len 1 n) k 0 (omega (arith, length-range_with_len 1 n)) ∙ ap Some (get_or-range_with_len 1 n k 0 low ∙ omega arith))

without : (s : Scene) (journal : List Entry) (order front : List Name) (last : Name) (frames : List Image) → frames ≡ frames_of s journal order → order ≡ front ++ last ∷ []
    → ShowWithout s front last frames
without s journal order front last frames are parts k low behind =
    let count = frame_count journal in
    let short : k < count = omega (arith, low, ap length are ∙ length-map-range_with_len (frame_image s order) 1 count) in
    ap (λ (images : List Image). slice_get images k) are ∙ frame_at s order count k short
    ∙ ap (λ (names : List Name). Some (frame_image s names (k + 1))) parts ∙ ap Some (same_frame s (k + 1) front last behind)

gives : (r : Result (List Image) OutOfMemory) (s : Scene) (journal : List Entry) (order front : List Name) (last : Name) → IfOk r (λ frames. frames ≡ frames_of s journal order)
    → order ≡ front ++ last ∷ [] → IfOk r (ShowWithout s front last)
gives (Ok frames) s journal order front last are parts = without s journal order front last frames are parts
gives (Err e) s journal order front last are parts = tt

pub returns : goal.returns
returns c front last parts = gives c.render_order.result c.args.scene.now c.args.journal.now c.args.order.now front last c.render_order.ensures parts

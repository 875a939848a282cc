-- The frames of an order that begins with the cut scene's: they are those of the cut scene, as far as its Swaps come.
use Rattle.std.proofs.Common.{◌≡◌, ℕ, ◌+◌, ◌<◌, ◌≤◌, Bool, false, List, [], ◌∷◌, fold, inl, inr, refl, sym, ap, ◌∙◌, arith, le-ltb, ℤ}
use Rattle.std.specs.Prelude.{if◌then◌else◌}
use Rattle.std.proofs.lemmas.List.Sums.{fold-append}
use Rattle.rc_base.specs.Drawing.Serial.{Canvas, canvas_step, blank_canvas, pixel_step, textures_step, accepted_swaps, is_below_swap, frame_pixel}
use Rattle.rc_base.specs.Drawing.Texel.{SharedTexels}
use Rattle.rc_base.specs.Lists.{IsIn}
use Rattle.rc_base.specs.declared.scene.Scene.{Scene}
use Rattle.rc_base.specs.declared.sync.Name.{Name}
use Rattle.rc_base.specs.declared.window.Pixel.{Pixel}
use Rattle.show_fronts.specs.Fronts.{front_end, front}
use Rattle.show_fronts.proofs.FrontNames.{IsSplit}
use Rattle.show_fronts.proofs.FrontStreams.{same_context, same_effect, same_swaps, swaps_up}

-- a name more of frame k
abbrev paint : Scene → ℕ → ℤ → ℤ → Canvas SharedTexels Pixel → Name → Canvas SharedTexels Pixel
paint s k x y = canvas_step (textures_step s) (λ m shared old. pixel_step s m shared x y old) (is_below_swap s k)

same_paint : (s : Scene) (n k : ℕ) (x y : ℤ) (c : Canvas SharedTexels Pixel) (m : Name) → m.place < front_end s n m.client → paint (front n s) k x y c m ≡ paint s k x y c m
unfolding canvas_step textures_step pixel_step
same_paint s n k x y c m lt =
    let context = same_context s n m.client m.place (omega (arith, lt)) in
    let effect = same_effect s n m.client m.place lt in
    let swaps = same_swaps s n m.client (m.place + 1) (omega (arith, lt)) in
    rw (context, effect, swaps) refl

same_painted : (s : Scene) (n k : ℕ) (x y : ℤ) (names : List Name) (c : Canvas SharedTexels Pixel) → ((m : Name) → IsIn m names → m.place < front_end s n m.client)
    → fold (paint (front n s) k x y) c names ≡ fold (paint s k x y) c names
same_painted s n k x y [] c inside = refl
same_painted s n k x y (m ∷ names) c inside =
    ap (λ d. fold (paint (front n s) k x y) d names) (same_paint s n k x y c m (inside m (inl refl)))
    ∙ same_painted s n k x y names (paint s k x y c m) (λ o i. inside o (inr i))

-- names that aren't shown leave the pixel
hidden : (s : Scene) (k : ℕ) (x y : ℤ) (names : List Name) (c : Canvas SharedTexels Pixel) → ((m : Name) → IsIn m names → is_below_swap s k m ≡ false)
    → (fold (paint s k x y) c names).pixel ≡ c.pixel
unfolding canvas_step
hidden s k x y [] c h = refl
hidden s k x y (m ∷ names) c h =
    hidden s k x y names (paint s k x y c m) (λ o i. h o (inr i))
    ∙ ap (λ (b : Bool). if b then pixel_step s m c.shared x y c.pixel else c.pixel) (h m (inl refl))

pub same_frame : (s : Scene) (n k : ℕ) (first whole : List Name) → IsSplit s n first whole → k ≤ n → (x y : ℤ) → frame_pixel (front n s) first k x y ≡ frame_pixel s whole k x y
unfolding frame_pixel
same_frame s n k first whole h le x y =
    let there = fold (paint s k x y) (blank_canvas s) first in
    ap (λ (c : Canvas SharedTexels Pixel). c.pixel) (same_painted s n k x y first (blank_canvas s) h.inside)
    ∙ sym (hidden s k x y h.later there (λ m i. (
    let enough = h.outside m i in
    let up = swaps_up s m.client m.place (m.place + 1) (omega arith) in
    le-ltb (accepted_swaps s m.client (m.place + 1)) k (omega (arith, enough, up, le)))))
    ∙ sym (ap (λ (c : Canvas SharedTexels Pixel). c.pixel) (fold-append (paint s k x y) (blank_canvas s) first h.later))
    ∙ sym (ap (λ (ns : List Name). (fold (paint s k x y) (blank_canvas s) ns).pixel) h.is)

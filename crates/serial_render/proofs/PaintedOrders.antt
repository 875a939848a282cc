-- What an order leaves of a pixel, one name after the other, and that a frame stands still from the first name beyond its Swap on.
use Rattle.std.proofs.Common.{◌≡◌, ℕ, ◌+◌, ◌<◌, ◌≤◌, Bool, true, false, List, [], ◌∷◌, ◌++◌, refl, sym, ap, ◌∙◌, arith, inl, inr, le-ltb, ℤ, if◌then◌else◌}
use Rattle.std.specs.Prelude.{fold}
use Rattle.std.proofs.lemmas.Bool.{lt-ltb, cases_lt}
use Rattle.std.proofs.lemmas.List.Sums.{fold_push}
use Rattle.rc_base.specs.Contexts.Context.{private_image}
use Rattle.rc_base.specs.Contexts.Issue.{context_after, effect_at}
use Rattle.rc_base.specs.Drawing.PixelStep.{effect_step}
use Rattle.rc_base.specs.Drawing.Serial.{blank_textures, pixel_step, textures_step, textures_after, is_swap_effect, accepted_swaps, is_below_swap, Canvas, blank_canvas, canvas_step, frame_pixel}
use Rattle.rc_base.specs.Drawing.Texel.{SharedTexels, shared_picture}
use Rattle.rc_base.specs.Lists.{IsIn}
use Rattle.std.specs.declared.option.Option.{Option}
use Rattle.rc_base.specs.Pictures.{Picture}
use Rattle.rc_base.specs.declared.scene.Scene.{Scene}
use Rattle.rc_base.specs.declared.state.Effect.{Effect}
use Rattle.rc_base.specs.declared.state.Effect.TheVariants as eff
use Rattle.rc_base.specs.declared.state.State.{State}
use Rattle.rc_base.specs.declared.sync.Name.{Name}
use Rattle.rc_base.specs.declared.window.Pixel.{Pixel}
use Rattle.order_model.proofs.OneFoldOfTextures.{canvas_textures}
use Rattle.stream_replay.proofs.AcceptedSwaps.{swaps_next}
use Rattle.serial_render.specs.Shown.{swaps_before, picture_after}

-- ---- a Swap

is_swap : (s : Scene) (client place : ℕ) → accepted_swaps s client place < accepted_swaps s client (place + 1) → is_swap_effect (effect_at s client place) ≡ true
is_swap s client place lt = by (is_swap_effect (effect_at s client place)) refl
  where
    by : (b : Bool) → is_swap_effect (effect_at s client place) ≡ b → b ≡ true
    by true e = refl
    by false e = absurd (omega (arith, lt, swaps_next s client place ∙ ap (λ (t : Bool). accepted_swaps s client place + (if t then 1 else 0)) e))

-- ---- one name

abbrev step_of : Scene → (Name → Bool) → ℤ → ℤ → Canvas SharedTexels Pixel → Name → Canvas SharedTexels Pixel
step_of s shown x y = canvas_step (textures_step s) (λ n shared old. pixel_step s n shared x y old) shown

-- a Swap draws nothing
swap_effect_draws_nothing : (state : State) (privates : ℕ → Option Picture) (shareds : ℕ → Picture) (e : Effect) (x y : ℤ) (old : Pixel) → is_swap_effect e ≡ true
    → effect_step state privates shareds e x y old ≡ old
swap_effect_draws_nothing state privates shareds (eff.Sync o) x y old h = refl
swap_effect_draws_nothing state privates shareds e x y old h = absurd (cc h)

swap_draws_nothing : (s : Scene) (n : Name) (shared : SharedTexels) (x y : ℤ) (old : Pixel) → is_swap_effect (effect_at s n.client n.place) ≡ true
    → pixel_step s n shared x y old ≡ old
unfolding pixel_step
swap_draws_nothing s n shared x y old h =
    let context = context_after s n.client n.place in
    swap_effect_draws_nothing context.state (private_image context) (shared_picture s.decl.shared shared) (effect_at s n.client n.place) x y old h

pub textures_push : (s : Scene) (done : List Name) (n : Name) → textures_after s (done ++ n ∷ []) ≡ textures_step s (textures_after s done) n
textures_push s done n = fold_push (textures_step s) (blank_textures s) done n

pub picture_push : (s : Scene) (done : List Name) (n : Name) (x y : ℤ) → picture_after s (done ++ n ∷ []) x y ≡ pixel_step s n (textures_after s done) x y (picture_after s done x y)
unfolding canvas_step
picture_push s done n x y =
    let shown = λ (m : Name). true in
    ap (λ (c : Canvas SharedTexels Pixel). c.pixel) (fold_push (step_of s shown x y) (blank_canvas s) done n)
    ∙ ap (λ (shared : SharedTexels). pixel_step s n shared x y (picture_after s done x y)) (canvas_textures s shown x y done)

-- ---- a frame

-- a name that lies at most at its client's k-th Swap draws as if all were shown
front_step : (s : Scene) (k : ℕ) (x y : ℤ) (c : Canvas SharedTexels Pixel) (n : Name) → swaps_before s n < k
    → step_of s (is_below_swap s k) x y c n ≡ step_of s (λ m. true) x y c n
unfolding canvas_step
front_step s k x y c n lt = elim (cases_lt (accepted_swaps s n.client (n.place + 1)) k) [
  | inl below ↦ rw (lt-ltb _ _ below) refl
  | inr at ↦
      let swap = is_swap s n.client n.place (omega (arith, lt, at)) in
      let stays = swap_draws_nothing s n c.shared x y c.pixel swap in
      rw (le-ltb _ _ at) (λ i. record { shared = textures_step s c.shared n; pixel = sym stays i })
]

same_front : (s : Scene) (k : ℕ) (x y : ℤ) (o : List Name) (c : Canvas SharedTexels Pixel) → ((n : Name) → IsIn n o → swaps_before s n < k)
    → fold (step_of s (is_below_swap s k) x y) c o ≡ fold (step_of s (λ n. true) x y) c o
same_front s k x y [] c h = refl
same_front s k x y (n ∷ o) c h =
    ap (λ (d : Canvas SharedTexels Pixel). fold (step_of s (is_below_swap s k) x y) d o) (front_step s k x y c n (h n (inl refl)))
    ∙ same_front s k x y o (step_of s (λ m. true) x y c n) (λ m i. h m (inr i))

-- a name beyond it changes no pixel
back_step : (s : Scene) (k : ℕ) (x y : ℤ) (c : Canvas SharedTexels Pixel) (n : Name) → k ≤ accepted_swaps s n.client (n.place + 1)
    → (step_of s (is_below_swap s k) x y c n).pixel ≡ c.pixel
unfolding canvas_step
back_step s k x y c n ge = rw (le-ltb _ _ ge) refl

same_back : (s : Scene) (k : ℕ) (x y : ℤ) (o : List Name) (c : Canvas SharedTexels Pixel) → ((n : Name) → IsIn n o → k ≤ accepted_swaps s n.client (n.place + 1))
    → (fold (step_of s (is_below_swap s k) x y) c o).pixel ≡ c.pixel
same_back s k x y [] c h = refl
same_back s k x y (n ∷ o) c h =
    same_back s k x y o (step_of s (is_below_swap s k) x y c n) (λ m i. h m (inr i)) ∙ back_step s k x y c n (h n (inl refl))

fold_append : {A : Type 0} (f : A → Name → A) (a : A) (u v : List Name) → fold f a (u ++ v) ≡ fold f (fold f a u) v
fold_append f a [] v = refl
fold_append f a (n ∷ u) v = fold_append f (f a n) u v

-- the picture of a frame is what the names leave before the first one that lies beyond its Swap
pub frame_is : (s : Scene) (k : ℕ) (done rest : List Name) → ((n : Name) → IsIn n done → swaps_before s n < k)
    → ((n : Name) → IsIn n rest → k ≤ accepted_swaps s n.client (n.place + 1)) → (x y : ℤ) → picture_after s done x y ≡ frame_pixel s (done ++ rest) k x y
unfolding frame_pixel
frame_is s k done rest before behind x y =
    let shown = is_below_swap s k in
    sym (
    ap (λ (c : Canvas SharedTexels Pixel). c.pixel) (fold_append (step_of s shown x y) (blank_canvas s) done rest)
    ∙ same_back s k x y rest (fold (step_of s shown x y) (blank_canvas s) done) behind
    ∙ ap (λ (c : Canvas SharedTexels Pixel). c.pixel) (same_front s k x y done (blank_canvas s) before))

-- An order is carried out name by name: what stands after one more.
use Rattle.std.proofs.Common.{◌≡◌, ℕ, ◌+◌, ◌<◌, ◌≤◌, true, List, [], ◌∷◌, ◌++◌, length, Some, refl, sym, ap, subst, ◌∙◌, arith, inl, inr, ℤ}
use Rattle.std.specs.Prelude.{max}
use Rattle.std.specs.declared.option.Option.{Option}
use Rattle.std.proofs.lemmas.List.{append-nil}
use Rattle.rc_base.specs.Contexts.Context.{ClientContext, private_image}
use Rattle.rc_base.specs.Contexts.Issue.{context_after, effect_at, command_at}
use Rattle.rc_base.specs.Cluster.Tiles.{is_in_rect, window_rect}
use Rattle.rc_base.specs.Drawing.Images.{frame_images}
use Rattle.rc_base.specs.Drawing.PixelStep.{effect_step}
use Rattle.rc_base.specs.Drawing.Serial.{pixel_step, textures_step, textures_after, stored, accepted_swaps, frame_pixel, blank_pixel}
use Rattle.rc_base.specs.Drawing.Texel.{SharedTexels, shared_picture}
use Rattle.rc_base.specs.Lists.{IsIn, Stands}
use Rattle.rc_base.specs.Pictures.{Picture}
use Rattle.rc_base.specs.declared.command.Command.{Command}
use Rattle.rc_base.specs.declared.command.Part.{Part}
use Rattle.rc_base.specs.declared.image.Image.{Image}
use Rattle.rc_base.specs.declared.scene.Scene.{Scene}
use Rattle.rc_base.specs.declared.state.Effect.{Effect}
use Rattle.rc_base.specs.declared.state.Effect.TheVariants as eff
use Rattle.rc_base.specs.declared.sync.Name.{Name}
use Rattle.rc_base.specs.declared.window.Pixel.{Pixel}
use Rattle.rc_base.specs.declared.window.Rect.{Rect}
use Rattle.textures.specs.Images.{texture_image}
use Rattle.textures.specs.Stores.{HasTexels}
use Rattle.gl_context.specs.Valid.{IsValidContext}
use Rattle.draw_device.specs.Stored.{IsStorable, set_after}
use Rattle.draw_device.specs.Conditions.{shared_of}
use Rattle.draw_device.specs.Devices.{DeviceView, EachTakes, pixel_of}
use Rattle.order_model.proofs.StandsInLists.{in_append, stands_right}
use Rattle.serial_render.specs.Shown.{swaps_before, IsPlayable, picture_after, images_of, IsShown}
use Rattle.serial_render.specs.Steps.{Holds}
use Rattle.serial_render.proofs.DrawnCommands.{same_drawn, effect_is, texels_next}
use Rattle.stream_replay.proofs.AcceptedSwaps.{swaps_step}
use Rattle.serial_render.proofs.PaintedOrders.{textures_push, picture_push, frame_is}

-- ---- the frames

-- before a name that lies beyond its client's k-th Swap, frame k is what the names so far left
pub frame_before : (s : Scene) (order done rest : List Name) (n : Name) (k most : ℕ) → IsPlayable s order → order ≡ done ++ n ∷ rest
    → ((m : Name) → IsIn m done → swaps_before s m ≤ most) → most < k → k ≤ swaps_before s n → (x y : ℤ) → picture_after s done x y ≡ frame_pixel s order k x y
frame_before s order done rest n k most playable is all lt le x y =
    frame_is s k done (n ∷ rest) (λ m i. omega (arith, all m i, lt)) behind x y ∙ ap (λ (o : List Name). frame_pixel s o k x y) (sym is)
  where
    stands : (m : Name) → IsIn m rest → Stands n m order
    stands m i = subst (λ (o : List Name). Stands n m o) (sym is) (stands_right n m done (n ∷ rest) (inl (refl, i)))

    behind : (m : Name) → IsIn m (n ∷ rest) → k ≤ accepted_swaps s m.client (m.place + 1)
    behind m (inl e) = subst (λ (o : Name). k ≤ accepted_swaps s o.client (o.place + 1)) e (omega (arith, le, swaps_step s n.client n.place))
    behind m (inr i) = omega (arith, le, playable.parted n m (stands m i))

-- at the end, each further frame is what all names left
pub frame_behind : (s : Scene) (order : List Name) (k most : ℕ) → ((m : Name) → IsIn m order → swaps_before s m ≤ most) → most < k → (x y : ℤ)
    → picture_after s order x y ≡ frame_pixel s order k x y
frame_behind s order k most all lt x y =
    frame_is s k order [] (λ m i. omega (arith, all m i, lt)) (λ m i. absurd i) x y ∙ ap (λ (o : List Name). frame_pixel s o k x y) (append-nil order)

-- ---- one command

-- the step that the device took is that of the name
pub step_is : (s : Scene) (n : Name) (c : Command) (texels : SharedTexels) (shareds : List (Option Picture)) (x : ClientContext) (e : Effect) (i j : ℤ) (old : Pixel)
    → command_at s n.client n.place ≡ Some c → x ≡ context_after s n.client (n.place + 1) → e ≡ effect_at s n.client n.place
    → IsValidContext s.decl (context_after s n.client (n.place + 1)) → HasTexels s.decl.shared texels shareds
    → effect_step x.state (texture_image x.images) (shared_of shareds) e i j old ≡ pixel_step s n texels i j old
unfolding pixel_step
step_is s n c texels shareds x e i j old at is effect valid has =
    let y = context_after s n.client (n.place + 1) in
    let f = effect_at s n.client n.place in
    ap (λ (z : ClientContext). effect_step z.state (texture_image z.images) (shared_of shareds) e i j old) is
    ∙ ap (λ (g : Effect). effect_step y.state (texture_image y.images) (shared_of shareds) g i j old) effect
    ∙ effect_is s.decl y texels shareds valid has (private_image y) f i j old
    ∙ same_drawn s n.client n.place c at (shared_picture s.decl.shared texels) i j old

pub first_shown : (s : Scene) (order : List Name) (d : DeviceView) (frames : List Image) → d.rect ≡ window_rect s.decl.width s.decl.height
    → ((x y : ℤ) → is_in_rect (window_rect s.decl.width s.decl.height) x y ≡ true → pixel_of d x y ≡ blank_pixel) → frames ≡ [] → IsShown s order [] d frames
first_shown s order d frames rect blank none = record {
  rect = rect;
  holds = λ x y inside. blank x y (ap (λ (r : Rect). is_in_rect r x y) (sym rect) ∙ inside);
  frames_are = subst (λ (l : List Image). l ≡ frame_images s order (length l)) (sym none) refl;
  all = λ n i. absurd i;
  few = λ most h. omega (arith, ap length none);
}

module _ (s : Scene) (order done rest : List Name) (n : Name) (d e : DeviceView) (old new : List Image) (playable : IsPlayable s order) (is : order ≡ done ++ n ∷ rest)
    (h : IsShown s order done d old) (count : length new ≡ max (length old) (swaps_before s n)) where
  -- the frames that are due before the name
  pub frames_due : (k : ℕ) → length old < k → k ≤ swaps_before s n → Holds d (frame_pixel s order k)
  frames_due k lt le x y inside = h.holds x y inside ∙ frame_before s order done rest n k (length old) playable is h.all lt le x y

  pub shown_next : new ≡ images_of s.decl (frame_pixel s order) (length new) → e.rect ≡ d.rect
      → EachTakes (λ x y p. pixel_step s n (textures_after s done) x y p) d e → IsShown s order (done ++ n ∷ []) e new
  shown_next images rect drawn = record {
    rect = rect ∙ h.rect;
    holds = λ x y inside.
        let before : is_in_rect d.rect x y ≡ true = ap (λ (r : Rect). is_in_rect r x y) (sym rect) ∙ inside in
        drawn x y before ∙ ap (λ (p : Pixel). pixel_step s n (textures_after s done) x y p) (h.holds x y before) ∙ sym (picture_push s done n x y);
    frames_are = images;
    all = λ m i. elim (in_append m done (n ∷ []) i) [
      | inl j ↦ omega (arith, h.all m j, count)
      | inr j ↦ elim j [
        | inl same ↦ subst (λ (k : Name). swaps_before s k ≤ length new) same (omega (arith, count))
        | inr none ↦ absurd none
      ]
    ];
    few = λ most bound.
        let here : IsIn n order = subst (λ (o : List Name). IsIn n o) (sym is) (in_middle done) in
        omega (arith, h.few most bound, bound n here, count);
  }
    where
      in_middle : (u : List Name) → IsIn n (u ++ n ∷ rest)
      in_middle [] = inl refl
      in_middle (m ∷ u) = inr (in_middle u)

-- ---- the end

-- with the frames that are due behind all names there is one for each Swap
pub frames_at_end : (s : Scene) (order : List Name) (d : DeviceView) (old new : List Image) (count : ℕ) → IsShown s order order d old
    → ((n : Name) → IsIn n order → swaps_before s n ≤ count) → length new ≡ max (length old) count
    → (((k : ℕ) → length old < k → k ≤ count → Holds d (frame_pixel s order k)) → new ≡ images_of s.decl (frame_pixel s order) (length new))
    → new ≡ frame_images s order count
frames_at_end s order d old new count h bound size images =
    let few = h.few count bound in
    let all : length new ≡ count = omega (arith, few, size) in
    images (λ k lt le x y inside. h.holds x y inside ∙ frame_behind s order k (length old) h.all lt x y) ∙ ap (frame_images s order) all

-- ---- the shared textures

pub texels_after : (s : Scene) (done : List Name) (n : Name) (e : Effect) (before after : List (Option Picture)) → e ≡ effect_at s n.client n.place
    → HasTexels s.decl.shared (textures_after s done) before → ((p : Part) → e ≡ eff.Shared p → IsStorable p before) → after ≡ set_after e before
    → HasTexels s.decl.shared (textures_after s (done ++ n ∷ [])) after
unfolding textures_step
texels_after s done n e before after is has writes set =
    let next = texels_next s.decl.shared (textures_after s done) before e has writes in
    let texels : textures_after s (done ++ n ∷ []) ≡ stored s.decl.shared e (textures_after s done) =
    textures_push s done n ∙ ap (λ (f : Effect). stored s.decl.shared f (textures_after s done)) (sym is) in
    subst (λ (l : List (Option Picture)). HasTexels s.decl.shared (textures_after s (done ++ n ∷ [])) l) (sym set)
    (subst (λ (t : SharedTexels). HasTexels s.decl.shared t (set_after e before)) (sym texels) next)

-- Pixels that changed in a run and stay as they were beside them, by what contracts see of a device.
use Rattle.std.proofs.Common.{◌≡◌, ℕ, ◌*◌, ◌<◌, ◌≤◌, List, length, inl, inr, sym, ap, ◌∙◌, arith, ℤ, true}
use Rattle.std.proofs.lemmas.Bool.{cases_lt}
use Rattle.rc_base.specs.Cluster.Tiles.{is_in_rect}
use Rattle.rc_base.specs.Drawing.Nearer.{nearer}
use Rattle.rc_base.specs.Drawing.Serial.{blank_pixel}
use Rattle.rc_base.specs.Drawing.Window.{depth_most}
use Rattle.rc_base.specs.declared.window.Pixel.{Pixel}
use Rattle.rc_base.specs.declared.window.Rect.{Rect}
use Rattle.scene_lemmas.proofs.Triangles.{nearer_is_first}
use Rattle.draw_device.specs.Active.{AreCopied, IsLayerOf}
use Rattle.draw_device.specs.Beside.{IsBeside, IsFarBeside}
use Rattle.draw_device.specs.Devices.{DeviceView, pixel_index, pixel_of, rect_size}
use Rattle.draw_device.specs.Grids.{view_of}
use Rattle.draw_device.specs.Pixels.{pixel_at}
use Rattle.draw_device.specs.Shapes.{grid_rect}
use Rattle.draw_device.specs.declared.active.ActivePixels.{ActivePixels}
use Rattle.draw_device.specs.declared.grid.Extent.{Extent}
use Rattle.draw_device.specs.declared.grid.Grid.{Grid}
use Rattle.draw_device.specs.declared.pixel_run.PixelRun.{PixelRun}
use Rattle.draw_device.proofs.Places.{place_below}

module _ (g h : Extent) (old new : List Pixel) (before : DeviceView) (run : PixelRun) (seen : record { rect = grid_rect g; pixels = old } ≡ before) (same : h ≡ g)
    (below : (k : ℕ) → k < run.from → pixel_at new k ≡ pixel_at old k) (above : (k : ℕ) → run.to ≤ k → pixel_at new k ≡ pixel_at old k) (x y : ℤ) where
  abbrev place : ℕ
  place = pixel_index before.rect x y

  old_is : pixel_at old place ≡ pixel_of before x y
  unfolding pixel_of
  old_is = ap (λ (v : DeviceView). pixel_at v.pixels place) seen

  new_is : pixel_of (record { rect = grid_rect h; pixels = new }) x y ≡ pixel_at new place
  unfolding pixel_of
  new_is = ap (λ (e : Extent). pixel_at new (pixel_index (grid_rect e) x y)) same ∙ ap (λ (v : DeviceView). pixel_at new (pixel_index v.rect x y)) seen

  -- a pixel beside the run is as it was
  stays : IsBeside run before.rect x y → pixel_at new place ≡ pixel_of before x y
  stays (inl lt) = below place lt ∙ old_is
  stays (inr le) = above place le ∙ old_is

  pub view_nearer : (picture : ℤ → ℤ → Pixel) (layer : ℕ → Pixel)
      → ((k : ℕ) → run.from ≤ k → k < run.to → pixel_at new k ≡ nearer (pixel_at old k) (layer k))
      → (run.from ≤ place → place < run.to → layer place ≡ picture x y)
      → (IsBeside run before.rect x y → (pixel_of before x y).depth ≤ (picture x y).depth)
      → pixel_of (record { rect = grid_rect h; pixels = new }) x y ≡ nearer (pixel_of before x y) (picture x y)
  view_nearer picture layer among is far =
      let kept = λ (b : IsBeside run before.rect x y). stays b ∙ sym (nearer_is_first (pixel_of before x y) (picture x y) (far b)) in
      new_is ∙ elim (cases_lt place run.from) [
        | inl lt ↦ kept (inl lt)
        | inr ge ↦ elim (cases_lt place run.to) [
          | inl less ↦ among place ge less ∙ (λ i. nearer (old_is i) (is ge less i))
          | inr past ↦ kept (inr past)
        ]
      ]

  pub view_blank : ((k : ℕ) → run.from ≤ k → k < run.to → pixel_at new k ≡ blank_pixel)
      → (IsBeside run before.rect x y → pixel_of before x y ≡ blank_pixel)
      → pixel_of (record { rect = grid_rect h; pixels = new }) x y ≡ blank_pixel
  view_blank among blank =
      new_is ∙ elim (cases_lt place run.from) [
        | inl lt ↦ stays (inl lt) ∙ blank (inl lt)
        | inr ge ↦ elim (cases_lt place run.to) [
          | inl less ↦ among place ge less
          | inr past ↦ stays (inr past) ∙ blank (inr past)
        ]
      ]

-- the depth of a pixel beside the run
pub view_far : (g : Extent) (pixels : List Pixel) (view : DeviceView) (run : PixelRun) → record { rect = grid_rect g; pixels = pixels } ≡ view
    → ((k : ℕ) → k < run.from → (pixel_at pixels k).depth ≡ depth_most) → ((k : ℕ) → run.to ≤ k → k < g.width * g.height → (pixel_at pixels k).depth ≡ depth_most)
    → (x y : ℤ) → is_in_rect view.rect x y ≡ true → IsBeside run view.rect x y → (pixel_of view x y).depth ≡ depth_most
unfolding pixel_of
view_far g pixels view run seen below above x y inside beside =
    let place = pixel_index view.rect x y in
    let is : pixel_at view.pixels place ≡ pixel_at pixels place = ap (λ (v : DeviceView). pixel_at v.pixels place) (sym seen) in
    let in_grid : is_in_rect (grid_rect g) x y ≡ true = ap (λ (v : DeviceView). is_in_rect v.rect x y) seen ∙ inside in
    let at : pixel_index (grid_rect g) x y ≡ place = ap (λ (v : DeviceView). pixel_index v.rect x y) seen in
    ap (λ (p : Pixel). p.depth) is ∙ elim beside [
      | inl lt ↦ below place lt
      | inr le ↦ above place le (omega (arith, at, place_below g x y in_grid))
    ]

-- the pixels of a run, beside which nothing was drawn, are a layer
pub view_layer : (g : Grid) (view : DeviceView) (run : PixelRun) (a : ActivePixels) → view_of g ≡ view → length g.colors.items ≡ rect_size view.rect
    → AreCopied g run a → IsFarBeside run view → IsLayerOf view.rect (pixel_of view) a
unfolding pixel_of
view_layer g view run a seen size copied far = record {
  fit = record { deep = copied.fit.deep; room = omega (arith, copied.fit.room, size) };
  among = λ x y inside low high.
      let place = pixel_index view.rect x y in
      copied.each place (omega (arith, low, copied.from_is)) (omega (arith, high, copied.to_is)) ∙ ap (λ (v : DeviceView). pixel_at v.pixels place) seen;
  beside = λ x y inside beside. far x y inside (elim beside [ inl lt ↦ inl (omega (arith, lt, copied.from_is)) | inr le ↦ inr (omega (arith, le, copied.to_is)) ]);
}

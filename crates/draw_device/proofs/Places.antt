-- Pixels of the window as pixels of a grid.
use Rattle.std.proofs.Common.{◌≡◌, ℕ, ◌+◌, ◌-◌, ◌*◌, ◌<◌, replicate, ℤ, pos, negsuc, ◌-ℤ◌, ◌≤ℤ◌, ◌<ℤ◌, true, List, arith, ap, sym, subst, ◌∙◌}
use Rattle.std.proofs.lemmas.Int.{ints}
use Rattle.std.proofs.lemmas.List.{get_or-replicate}
use Rattle.rc_base.specs.Numbers.{natural}
use Rattle.rc_base.specs.Cluster.Tiles.{is_in_rect}
use Rattle.rc_base.specs.Drawing.Serial.{blank_pixel}
use Rattle.rc_base.specs.declared.window.Pixel.{Pixel}
use Rattle.rc_base.specs.declared.window.Rect.{Rect}
use Rattle.plain_lemmas.proofs.Places.{place_within}
use Rattle.scene_lemmas.proofs.Rectangles.{above_left, below_right, above_bottom, below_top}
use Rattle.draw_device.specs.Pixels.{pixel_at}
use Rattle.draw_device.specs.Devices.{DeviceView, EachTakes, IsBlankIn, pixel_index, pixel_of}
use Rattle.draw_device.specs.Grids.{blank_view}
use Rattle.draw_device.specs.Shapes.{column_at, row_at, grid_rect, IsStepped}
use Rattle.draw_device.specs.declared.grid.Extent.{Extent}

-- a column and a row of a grid that has the pixel (x, y)
pub record IsPlace (g : Extent) (x y : ℤ) : Type 0 where
  pub i : ℕ
  pub j : ℕ
  pub column : column_at g i ≡ x
  pub row : row_at g j ≡ y
  pub across : i < g.width
  pub upward : j < g.height

pub record IsBetween (low size : ℕ) (x : ℤ) : Type 0 where
  pub k : ℕ
  pub is : pos (low + k) ≡ x
  pub below : k < size

between : (low size : ℕ) (x : ℤ) → pos low ≤ℤ x → x <ℤ pos (low + size) → IsBetween low size x
between low size (pos a) h l = record { k = a - low; is = ap pos (omega (arith, ints)); below = omega (arith, ints) }
between low size (negsuc a) h l = absurd (omega (arith, ints))

pub place_of : (g : Extent) (x y : ℤ) → is_in_rect (grid_rect g) x y ≡ true → IsPlace g x y
place_of g x y e =
    let r = grid_rect g in
    let a = between g.left g.width x (above_left r x y e) (below_right r x y e) in
    let b = between g.bottom g.height y (above_bottom r x y e) (below_top r x y e) in
    record { i = a.k; j = b.k; column = a.is; row = b.is; across = a.below; upward = b.below }

gap_is : (a b : ℕ) → natural (pos (a + b) -ℤ pos a) ≡ b
gap_is a b = let e : pos (a + b) -ℤ pos a ≡ pos b = omega (arith, ints) in ap natural e

-- the index of a grid's column and row
pub index_is : (g : Extent) (i j : ℕ) → pixel_index (grid_rect g) (column_at g i) (row_at g j) ≡ j * g.width + i
unfolding pixel_index
index_is g i j = λ k. gap_is g.bottom j k * gap_is g.left g.width k + gap_is g.left i k

pub pixel_is : (g : Extent) (pixels : List Pixel) (i j : ℕ)
    → pixel_of (record { rect = grid_rect g; pixels = pixels }) (column_at g i) (row_at g j) ≡ pixel_at pixels (j * g.width + i)
unfolding pixel_of
pixel_is g pixels i j = ap (pixel_at pixels) (index_is g i j)

stepped_at : (step : ℤ → ℤ → Pixel → Pixel) (g : Extent) (old new : List Pixel) (i j : ℕ) → IsStepped step g old new → i < g.width → j < g.height
    → pixel_of (record { rect = grid_rect g; pixels = new }) (column_at g i) (row_at g j)
    ≡ step (column_at g i) (row_at g j) (pixel_of (record { rect = grid_rect g; pixels = old }) (column_at g i) (row_at g j))
stepped_at step g old new i j d hi hj =
    pixel_is g new i j ∙ d.each i j hi hj ∙ ap (λ (o : Pixel). step (column_at g i) (row_at g j) o) (sym (pixel_is g old i j))

-- each pixel of the rectangle takes the step of the grid's pixels
pub each_takes : (step : ℤ → ℤ → Pixel → Pixel) (g : Extent) (old new : List Pixel) → IsStepped step g old new
    → EachTakes step (record { rect = grid_rect g; pixels = old }) (record { rect = grid_rect g; pixels = new })
each_takes step g old new d x y e =
    let p = place_of g x y e in
    let at : ℤ → ℤ → Type 0 = λ x y. pixel_of (record { rect = grid_rect g; pixels = new }) x y
    ≡ step x y (pixel_of (record { rect = grid_rect g; pixels = old }) x y) in
    subst (λ (u : ℤ). at u y) p.column (subst (λ (v : ℤ). at (column_at g p.i) v) p.row (stepped_at step g old new p.i p.j d p.across p.upward))

-- each pixel of the rectangle has a value that all pixels of the grid have
pub each_is : (g : Extent) (pixels : List Pixel) (value : Pixel) → ((i j : ℕ) → i < g.width → j < g.height → pixel_at pixels (j * g.width + i) ≡ value)
    → (x y : ℤ) → is_in_rect (grid_rect g) x y ≡ true → pixel_of (record { rect = grid_rect g; pixels = pixels }) x y ≡ value
each_is g pixels value h x y e =
    let p = place_of g x y e in
    let at : ℤ → ℤ → Type 0 = λ x y. pixel_of (record { rect = grid_rect g; pixels = pixels }) x y ≡ value in
    subst (λ (u : ℤ). at u y) p.column (subst (λ (v : ℤ). at (column_at g p.i) v) p.row (pixel_is g pixels p.i p.j ∙ h p.i p.j p.across p.upward))

blank_at : (n k : ℕ) (value : Pixel) → k < n → pixel_at (replicate n value) k ≡ value
blank_at n k value h = get_or-replicate n k value _ h

-- each pixel of a grid of one pixel again and again
pub each_blank : (g : Extent) (value : Pixel) (x y : ℤ) → is_in_rect (grid_rect g) x y ≡ true
    → pixel_of (record { rect = grid_rect g; pixels = replicate (g.width * g.height) value }) x y ≡ value
each_blank g value x y e =
    each_is g (replicate (g.width * g.height) value) value (λ i j hi hj. blank_at (g.width * g.height) (j * g.width + i) value (place_within g.width g.height i j hi hj)) x y e

-- the index of a grid's pixel is one of its list
pub index_inside : (g : Extent) (x y : ℤ) (i j : ℕ) → is_in_rect (grid_rect g) x y ≡ true → x ≡ pos (g.left + i) → y ≡ pos (g.bottom + j)
    → j * g.width + i < g.width * g.height
index_inside g x y i j e ex ey =
    let a = below_right (grid_rect g) x y e in
    let b = below_top (grid_rect g) x y e in
    place_within g.width g.height i j (omega (arith, ints)) (omega (arith, ints))

pub index_of : (g : Extent) (x y : ℤ) (i j : ℕ) → x ≡ pos (g.left + i) → y ≡ pos (g.bottom + j) → pixel_index (grid_rect g) x y ≡ j * g.width + i
index_of g x y i j ex ey = (λ k. pixel_index (grid_rect g) (ex k) (ey k)) ∙ index_is g i j

-- the same of what contracts see of a device before and after
pub view_takes : (step : ℤ → ℤ → Pixel → Pixel) (g h : Extent) (old new : List Pixel) (before : DeviceView)
    → record { rect = grid_rect g; pixels = old } ≡ before → h ≡ g → IsStepped step g old new
    → EachTakes step before (record { rect = grid_rect h; pixels = new })
view_takes step g h old new before seen same d =
    subst (λ (v : DeviceView). EachTakes step v (record { rect = grid_rect h; pixels = new })) seen
    (subst (λ (k : Extent). EachTakes step (record { rect = grid_rect g; pixels = old }) (record { rect = grid_rect k; pixels = new })) (sym same) (each_takes step g old new d))

-- each pixel of a device that nothing was drawn at is blank
pub blank_in : (g : Extent) (d : DeviceView) (rect : Rect) → d ≡ blank_view g → grid_rect g ≡ rect → IsBlankIn rect d
blank_in g d rect is seen x y e =
    ap (λ (v : DeviceView). pixel_of v x y) is ∙ each_blank g blank_pixel x y (subst (λ (r : Rect). is_in_rect r x y ≡ true) (sym seen) e)

-- the index of a pixel of the grid is one of its list
pub place_below : (g : Extent) (x y : ℤ) → is_in_rect (grid_rect g) x y ≡ true → pixel_index (grid_rect g) x y < g.width * g.height
place_below g x y e =
    let p = place_of g x y e in
    let at = (λ k. pixel_index (grid_rect g) (sym p.column k) (sym p.row k)) ∙ index_is g p.i p.j in
    omega (arith, at, place_within g.width g.height p.i p.j p.across p.upward)

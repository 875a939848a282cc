-- Layers: what each client draws of a frame by itself, and how layers are put together.
use Rattle.std.specs.Prelude.{◌≡◌, ◌<◌, ℕ, zero, suc, ◌+◌, ◌==◌, ◌&&◌, not, max, Bool, true, false, List, map, fold, length, slice_index_or, ℤ}
use Rattle.std.specs.List.{range_with_len}
use Rattle.rc_base.specs.Contexts.Issue.{stream_of, effect_at}
use Rattle.rc_base.specs.Drawing.Serial.{blank_pixel, blank_textures, pixel_step, textures_step, canvas_after, painted, accepted_swaps}
use Rattle.rc_base.specs.Drawing.Texel.{SharedTexels}
use Rattle.rc_base.specs.Orders.Order.{names_from}
use Rattle.rc_base.specs.declared.scene.Scene.{Scene}
use Rattle.rc_base.specs.declared.state.Effect.{Effect}
use Rattle.rc_base.specs.declared.state.Effect.TheVariants as eff
use Rattle.rc_base.specs.declared.sync.Name.{Name}
use Rattle.rc_base.specs.declared.window.Pixel.{Pixel}
use Rattle.rc_base.specs.Drawing.Nearer.{nearer}

-- ---- putting together

-- a pixel of a list; where the list lacks it, a blank one
abbrev pub pixel_in : List Pixel → ℕ → Pixel
pixel_in pixels k = slice_index_or pixels k blank_pixel

-- two layers put together, pixel by pixel
unfoldable pub composite_of : List Pixel → List Pixel → List Pixel
composite_of a b = map (λ k. nearer (pixel_in a k) (pixel_in b k)) (range_with_len 0 (max (length a) (length b)))

-- below a length each pixel of a list is the nearer one of two others'
abbrev pub AreNearer : ℕ → List Pixel → List Pixel → List Pixel → Type 0
AreNearer n front behind pixels = (k : ℕ) → k < n → pixel_in pixels k ≡ nearer (pixel_in front k) (pixel_in behind k)

-- ---- what a client draws of a frame

abbrev pub is_clear : Effect → Bool
is_clear eff.Quiet = false
is_clear (eff.Refused fault) = false
is_clear (eff.Block block) = false
is_clear (eff.Clear mask) = true
is_clear (eff.Shared part) = false
is_clear (eff.Sync op) = false

abbrev pub clears : Scene → Name → Bool
clears scene n = is_clear (effect_at scene n.client n.place)

-- the name stands between its client's Swaps k - 1 and k
abbrev pub is_of_frame : Scene → ℕ → Name → Bool
is_of_frame scene k n = accepted_swaps scene n.client n.place + 1 == k

-- all names of a client
abbrev pub names_of : Scene → ℕ → List Name
names_of scene client = names_from client 0 (length (stream_of scene client))

-- a client's layer of frame k, at a pixel: its names of the frame but the Clears, drawn on a blank buffer
unfoldable pub layer_pixel : Scene → ℕ → ℕ → ℤ → ℤ → Pixel
layer_pixel scene client k x y = (painted scene (λ n. is_of_frame scene k n && not (clears scene n)) x y (names_of scene client)).pixel

-- the layers of all clients, rising, put together
unfoldable pub merged_pixel : Scene → ℕ → ℤ → ℤ → Pixel
merged_pixel scene k x y = fold nearer blank_pixel (map (λ client. layer_pixel scene client k x y) (range_with_len 0 (length scene.streams)))

-- a pixel after client 0's Clears of frame k
unfoldable pub cleared_pixel : Scene → ℕ → ℤ → ℤ → Pixel → Pixel
cleared_pixel scene k x y old =
    (canvas_after (textures_step scene) (λ n (shared : SharedTexels) old. pixel_step scene n shared x y old) (λ n. is_of_frame scene k n && clears scene n)
    (record { shared = blank_textures scene; pixel = old }) (names_of scene 0)).pixel

-- Frame k as it is put together: the frame before it with client 0's Clears, and the merged layer where that is nearer.
unfoldable pub composed_pixel : Scene → ℕ → ℤ → ℤ → Pixel
composed_pixel scene zero x y = blank_pixel
composed_pixel scene (suc k) x y = nearer (cleared_pixel scene (suc k) x y (composed_pixel scene k x y)) (merged_pixel scene (suc k) x y)

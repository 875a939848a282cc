-- The states, vertices, fragments and pictures of the examples.
use Rattle.std.specs.Prelude.{ℕ, ◌+◌, ℤ, pos, negsuc, Bool, true, false, List, [], ◌∷◌, ◌++◌, Option, Some, None, map, replicate}
use Rattle.rc_base.specs.Colors.{rgba}
use Rattle.rc_base.specs.Contexts.Context.{default_state}
use Rattle.rc_base.specs.Drawing.Cover.{covers, no_vertex}
use Rattle.rc_base.specs.Drawing.Kept.{is_shown, three}
use Rattle.rc_base.specs.Drawing.PixelStep.{factor, fragment_step, passes_alpha, shaded, textured}
use Rattle.rc_base.specs.Drawing.Serial.{blank_pixel}
use Rattle.rc_base.specs.Drawing.Texel.{sampled}
use Rattle.rc_base.specs.Drawing.Window.{axis_of, depth_of}
use Rattle.rc_base.specs.Pictures.{Picture}
use Rattle.rc_base.specs.declared.command.Rgba.{Rgba}
use Rattle.rc_base.specs.declared.command.Mat4.{Mat4}
use Rattle.rc_base.specs.declared.command.Part.{Part}
use Rattle.rc_base.specs.declared.state.State.{State}
use Rattle.rc_base.specs.declared.window.Fragment.{Fragment}
use Rattle.rc_base.specs.declared.window.Pixel.{Pixel}
use Rattle.rc_base.specs.declared.window.WindowVertex.{WindowVertex}
use Rattle.rc_base.specs.declared.command.Command.{Command}
use Rattle.rc_base.specs.declared.command.Command.TheVariants as cmd
use Rattle.worked_examples.specs.Scenes.{scene_of, one, minus_one, reached}

-- ---- states, each the one at first but for what its name says

-- that of a window of 4 by 4
abbrev pub state_at_first : State
state_at_first = default_state (scene_of 4 4 []).decl

-- culling of FRONT (0), BACK (1) or both (2), where counterclockwise (0) or clockwise (1) is the front
abbrev pub culling : ℕ → ℕ → State
culling face front = record state_at_first { cull_on = true; cull_face = face; front_face = front }

-- the viewport, or the scissor box, has its lower left corner in column x and row y
abbrev pub seen_through : ℕ → ℕ → ℕ → ℕ → State
seen_through x y w h = record state_at_first { viewport = pos x ∷ pos y ∷ pos w ∷ pos h ∷ [] }

abbrev pub scissored : Bool → ℕ → ℕ → ℕ → ℕ → State
scissored on x y w h = record state_at_first { scissor_on = on; scissor = pos x ∷ pos y ∷ pos w ∷ pos h ∷ [] }

abbrev pub alpha_tested : Bool → ℕ → ℕ → State
alpha_tested on function reference = record state_at_first { alpha_on = on; alpha = function ∷ reference ∷ [] }

-- the depth test LESS
abbrev pub depth_tested : Bool → State
depth_tested mask = record state_at_first { depth_on = true; depth_func = 1; depth_mask = mask }

abbrev pub blending : ℕ → ℕ → State
blending source destination = record state_at_first { blend_on = true; blend = source ∷ destination ∷ [] }

-- red and blue alone are written
abbrev pub red_and_blue : State
red_and_blue = record state_at_first { color_mask = true ∷ false ∷ true ∷ false ∷ [] }

abbrev pub clearing : Bool → List Bool → State
clearing depth_mask color_mask = record state_at_first {
  clear_color = rgba 1 2 3 4;
  clear_depth = pos 32768;
  depth_mask = depth_mask;
  color_mask = color_mask;
}

-- both masks let a clear through
abbrev pub unmasked : State
unmasked = clearing true (true ∷ true ∷ true ∷ true ∷ [])

-- a clear writes green and alpha alone
abbrev pub masked : State
masked = clearing false (false ∷ true ∷ false ∷ true ∷ [])

-- MODULATE (0) or REPLACE (1)
abbrev pub textured_by : ℕ → State
textured_by environment = record state_at_first { tex_mode = environment ∷ 0 ∷ 0 ∷ [] }

-- a private (0) or shared (1) texture is bound, and texturing is on or off
abbrev pub sampling : Bool → ℕ → ℕ → State
sampling on kind name = record state_at_first { texture_on = on; binding = kind ∷ name ∷ [] }

-- ---- triangles and fragments

-- whether a triangle of area 8 is shown, which is counterclockwise, one of -8, clockwise, and one without an area
abbrev pub areas_shown : State → List Bool
areas_shown state = map (is_shown state) (pos 8 ∷ negsuc 7 ∷ pos 0 ∷ [])

abbrev pub corner_at : ℕ → ℕ → WindowVertex
corner_at x y = record no_vertex { x = pos x; y = pos y }

abbrev pub origin : WindowVertex
origin = corner_at 0 0

-- counterclockwise: the right angle is at (from, from), and two legs of that length go to the right and up
abbrev pub right_angled : ℕ → ℕ → List WindowVertex
right_angled from legs = three (corner_at from from) (corner_at (from + legs) from) (corner_at from (from + legs))

-- whether a triangle covers the pixel in column x and row y
abbrev pub covers_pixel : State → List WindowVertex → ℕ → ℕ → Bool
covers_pixel state triangle x y = covers state triangle (pos x) (pos y)

-- where each x / w lies in a viewport of two columns from column 1 on, in sixteenths
abbrev pub window_places : List ℤ → List ℤ
window_places xs = map (λ x. axis_of (pos 1) (pos 2) x one) xs

-- the depths of each z / w in a range
abbrev pub depths_of : ℤ → ℤ → List ℤ → List ℤ
depths_of near far zs = map (λ z. depth_of near far z one) zs

-- z / w at the near plane, in the middle and at the far plane
abbrev pub near_to_far : List ℤ
near_to_far = minus_one ∷ pos 0 ∷ one ∷ []

abbrev pub grey_at : ℤ → Fragment
grey_at depth = record { x = pos 0; y = pos 0; color = rgba 9 9 9 9; depth = depth; s = pos 0; t = pos 0 }

abbrev pub pixel : Rgba → ℕ → Pixel
pixel color depth = record { color = color; depth = depth }

-- a pixel of that colour, whose depth is the farthest, as at first
abbrev pub colored : ℕ → ℕ → ℕ → ℕ → Pixel
colored r g b a = pixel (rgba r g b a) 16777215

-- what a grey fragment of that depth makes of a pixel to which nothing was drawn
abbrev pub grey_drawn : ℤ → Pixel
grey_drawn depth = fragment_step state_at_first None (grey_at depth) blank_pixel

-- a fragment's colour with a texel, by MODULATE (0) or REPLACE (1)
abbrev pub combined : ℕ → Rgba → Rgba → Rgba
combined environment color texel = textured (textured_by environment) color texel

-- whether the alpha test by that function and reference passes an alpha
abbrev pub alpha_passes : ℕ → ℕ → ℕ → Bool
alpha_passes function reference alpha = passes_alpha (alpha_tested true function reference) alpha

-- the ten factors of blending, in the sequence of their codes
abbrev pub factors : ℕ → ℕ → ℕ → ℕ → List ℕ
factors source stored source_alpha stored_alpha =
    map (λ code. factor code source stored source_alpha stored_alpha) (0 ∷ 1 ∷ 2 ∷ 3 ∷ 4 ∷ 5 ∷ 6 ∷ 7 ∷ 8 ∷ 9 ∷ [])

-- what stands in the buffer
abbrev pub stored_pixel : Pixel
stored_pixel = pixel (rgba 10 20 30 40) 9

-- what a fragment of colour 1, 2, 3, 4 and that depth makes of it
abbrev pub drawn : State → ℕ → Pixel
drawn state depth = shaded state (rgba 1 2 3 4) depth stored_pixel

-- ---- pictures

-- 2 by 2, each texel of four equal channels
abbrev pub four_texels : ℕ → ℕ → ℕ → ℕ → Picture
four_texels a b c d = record { w = 2; h = 2; texels = replicate 4 a ++ replicate 4 b ++ replicate 4 c ++ replicate 4 d }

-- each private image and each shared texture has its name in one corner
abbrev pub private_image : ℕ → Picture
private_image name = four_texels name 0 0 0

abbrev pub shared_texture : ℕ → Picture
shared_texture name = four_texels 0 0 0 name

-- which of them a draw samples
abbrev pub sampled_of : State → Option Picture
sampled_of state = sampled state (λ name. Some (private_image name)) shared_texture

-- the right column of such a picture
abbrev pub right_column : ℕ → ℕ → Part
right_column low high = record { name = 1; x = 1; y = 0; w = 1; h = 2; texels = replicate 4 low ++ replicate 4 high }

-- ---- matrices

-- x goes to scale * x + offset
abbrev pub affine : ℤ → ℤ → Mat4
affine scale offset = record {
  m =
      scale ∷ pos 0 ∷ pos 0 ∷ pos 0 ∷ pos 0 ∷ one ∷ pos 0 ∷ pos 0
      ∷ pos 0 ∷ pos 0 ∷ one ∷ pos 0 ∷ offset ∷ pos 0 ∷ pos 0 ∷ one ∷ [];
}

abbrev pub two : ℤ
two = pos 131072

abbrev pub half : ℤ
half = pos 32768

-- one entry, and all others 0
abbrev pub first_entry : ℤ → Mat4
first_entry z = record { m = z ∷ replicate 15 (pos 0) }

-- the top of the stack after LoadMatrix of the left matrix and MultMatrix of the right one
abbrev pub top_after : Mat4 → Mat4 → Mat4
top_after left right = (reached (cmd.LoadMatrix left ∷ cmd.MultMatrix right ∷ []) 2).state.modelview

-- PushMatrix; LoadMatrix; PopMatrix
abbrev pub pushed_and_popped : List Command
pushed_and_popped = cmd.PushMatrix ∷ cmd.LoadMatrix (affine two one) ∷ cmd.PopMatrix ∷ []

-- PushMatrix; MatrixMode PROJECTION; PopMatrix; LoadMatrix
abbrev pub popped_in_projection : List Command
popped_in_projection = cmd.PushMatrix ∷ cmd.MatrixMode 1 ∷ cmd.PopMatrix ∷ cmd.LoadMatrix (affine two one) ∷ []

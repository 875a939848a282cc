-- The elements of a context by their numbers, in one table: scalar elements 0 to 21, and the images of the private textures 1 to 64 as
-- elements 22 to 85.
use Rattle.std.specs.Prelude.{ℕ, ◌+◌, ◌-◌, ◌==◌, ◌&&◌, not, nat_eq, Bool, true, false, List, [], ◌∷◌, Option, Some, None, count_by, slice_index_or, if◌then◌else◌}
use Rattle.std.specs.List.{range_with_len}
use Rattle.std.specs.Option.{option_map_or}
use Rattle.std.specs.Ordering.{int_eq}
use Rattle.std.specs.Cmp.Lexicographic.{pointwise}
use Rattle.rc_base.specs.Pictures.{Picture}
use Rattle.rc_base.specs.Contexts.Context.{ClientContext, default_state, private_image, private_count, edit_of}
use Rattle.rc_base.specs.declared.scene.Decl.{Decl}
use Rattle.rc_base.specs.declared.command.Rgba.{Rgba}
use Rattle.rc_base.specs.declared.command.Command.{Command}
use Rattle.rc_base.specs.declared.command.Command.TheVariants as cmd
use Rattle.rc_base.specs.declared.state.State.{State}
use Rattle.rc_base.specs.declared.state.ElementValue.{ElementValue}
use Rattle.rc_base.specs.declared.state.ElementValue.TheVariants as val

-- the values of the scalar elements, in the order of their numbers
unfoldable pub values_of : State → List ElementValue
values_of s =
    val.Matrix s.modelview ∷ val.Matrix s.projection ∷ val.Area s.viewport ∷ val.Range s.depth_range
    ∷ val.Flag s.scissor_on ∷ val.Area s.scissor ∷ val.Flag s.cull_on ∷ val.Code s.cull_face ∷ val.Code s.front_face
    ∷ val.Flag s.alpha_on ∷ val.Pair s.alpha ∷ val.Flag s.depth_on ∷ val.Code s.depth_func ∷ val.Flag s.depth_mask
    ∷ val.Flag s.blend_on ∷ val.Pair s.blend ∷ val.Mask s.color_mask ∷ val.Color s.clear_color ∷ val.Depth s.clear_depth
    ∷ val.Flag s.texture_on ∷ val.Pair s.binding ∷ val.Mode s.tex_mode ∷ []

-- how many scalar elements there are, and how many with the private images
abbrev pub scalar_count : ℕ
scalar_count = 22

abbrev pub element_count : ℕ
element_count = scalar_count + private_count

-- the element of a private texture's image, by the texture's name from 1
abbrev pub image_element : ℕ → ℕ
image_element name = scalar_count - 1 + name

-- ---- the value of an element by its number

-- no image, before the first edit
abbrev pub no_image : ElementValue
no_image = val.Image 0 0 0 []

-- an image with its edit number
abbrev pub image_value : ℕ → Picture → ElementValue
image_value edit p = val.Image edit p.w p.h p.texels

-- in a context: a scalar element's value, or the image of a private texture with its edit number
abbrev pub value_in : ClientContext → ℕ → ElementValue
value_in x e =
    let name = e + 1 - scalar_count in
    slice_index_or (values_of x.state) e (option_map_or (image_value (edit_of x name)) (private_image x name) no_image)

-- at first: the defaults, and no image
abbrev pub default_value : Decl → ℕ → ElementValue
default_value d e = slice_index_or (values_of (default_state d)) e no_image

-- ---- equal values

abbrev pub same_flag : Bool → Bool → Bool
same_flag true b = b
same_flag false true = false
same_flag false false = true

abbrev pub same_color : Rgba → Rgba → Bool
same_color a b = (a.r == b.r && a.g == b.g) && (a.b == b.b && a.a == b.a)

-- two values of one element are the same; of images their edit numbers tell
unfoldable pub same_value : ElementValue → ElementValue → Bool
same_value (val.Matrix a) (val.Matrix b) = pointwise int_eq a.m b.m
same_value (val.Area a) (val.Area b) = pointwise int_eq a b
same_value (val.Range a) (val.Range b) = pointwise int_eq a b
same_value (val.Flag a) (val.Flag b) = same_flag a b
same_value (val.Code a) (val.Code b) = a == b
same_value (val.Pair a) (val.Pair b) = pointwise nat_eq a b
same_value (val.Mask a) (val.Mask b) = pointwise same_flag a b
same_value (val.Color a) (val.Color b) = same_color a b
same_value (val.Depth a) (val.Depth b) = int_eq a b
same_value (val.Mode a) (val.Mode b) = pointwise nat_eq a b
same_value (val.Image e w h ts) (val.Image f v g us) = e == f
same_value _ _ = false

-- in how many scalar elements two states differ
unfoldable pub differing_count : State → State → ℕ
differing_count a b = count_by (λ e. not (same_value (slice_index_or (values_of a) e no_image) (slice_index_or (values_of b) e no_image))) (range_with_len 0 scalar_count)

-- ---- groups

-- how many elements each of the nine groups has, in the order of their numbers
abbrev pub group_sizes : List ℕ
group_sizes = 4 ∷ 5 ∷ 5 ∷ 5 ∷ 3 ∷ 16 ∷ 16 ∷ 16 ∷ 16 ∷ []

-- ---- which element a command sets

-- the element of a capability: SCISSOR, ALPHA, DEPTH, BLEND, CULL, TEXTURE
abbrev pub capability_element : ℕ → ℕ
capability_element capability =
    if capability == 0 then 4
    else if capability == 1 then 9
    else if capability == 2 then 11
    else if capability == 3 then 14
    else if capability == 4 then 6
    else 19

-- the matrix of the stack that is meant
abbrev pub matrix_element : ℕ → ℕ
matrix_element mode = if mode == 0 then 0 else 1

-- the element that an accepted command sets, an equal value too, by the matrix mode before it
abbrev pub marks : Command → ℕ → Option ℕ
marks (cmd.Begin _) mode = None
marks cmd.End mode = None
marks (cmd.Vertex _) mode = None
marks (cmd.Color _) mode = None
marks (cmd.TexCoord _ _) mode = None
marks (cmd.Enable capability) mode = Some (capability_element capability)
marks (cmd.Disable capability) mode = Some (capability_element capability)
marks (cmd.MatrixMode _) mode = None
marks cmd.LoadIdentity mode = Some (matrix_element mode)
marks (cmd.LoadMatrix _) mode = Some (matrix_element mode)
marks (cmd.MultMatrix _) mode = Some (matrix_element mode)
marks cmd.PushMatrix mode = None
marks cmd.PopMatrix mode = Some (matrix_element mode)
marks (cmd.Viewport _) mode = Some 2
marks (cmd.DepthRange _ _) mode = Some 3
marks (cmd.Scissor _) mode = Some 5
marks (cmd.AlphaFunc _ _) mode = Some 10
marks (cmd.DepthFunc _) mode = Some 12
marks (cmd.DepthMask _) mode = Some 13
marks (cmd.BlendFunc _ _) mode = Some 15
marks (cmd.ColorMask _) mode = Some 16
marks (cmd.ClearColor _) mode = Some 17
marks (cmd.ClearDepth _) mode = Some 18
marks (cmd.Clear _) mode = None
marks (cmd.CullFace _) mode = Some 7
marks (cmd.FrontFace _) mode = Some 8
marks (cmd.BindTexture _ _) mode = Some 20
marks (cmd.TexEnv _) mode = Some 21
marks (cmd.TexWrap _ _) mode = Some 21
marks (cmd.TexImage name _ _ _) mode = Some (image_element name)
marks (cmd.TexPart part) mode = Some (image_element part.name)
marks (cmd.SharedImage _) mode = None
marks (cmd.Barrier _) mode = None
marks (cmd.SemP _) mode = None
marks (cmd.SemV _) mode = None
marks cmd.Swap mode = None

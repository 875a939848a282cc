-- Which values a scene can give to an element.
use Rattle.std.specs.Prelude.{◌≡◌, ℕ, ◌*◌, ◌==◌, ◌&&◌, nat_lt, Bool, true, List, length, slice_index, ℤ, pos, if◌then◌else◌}
use Rattle.rc_base.specs.Numbers.{entry, fixed_one, is_between}
use Rattle.rc_base.specs.Formats.Commands.{has_codes}
use Rattle.rc_base.specs.Contexts.Context.{private_count, shared_sides}
use Rattle.rc_base.specs.Contexts.Elements.{element_count}
use Rattle.rc_base.specs.Contexts.Faults.{is_name, image_side_most}
use Rattle.rc_base.specs.declared.command.Command.TheVariants as cmd
use Rattle.rc_base.specs.declared.scene.Decl.{Decl}
use Rattle.rc_base.specs.declared.state.ElementValue.{ElementValue}
use Rattle.rc_base.specs.declared.state.ElementValue.TheVariants as val
use Rattle.element_table.specs.Kinds.{has_kind, kind_of}

-- ---- textures

-- the declared sides of a shared texture are above 0
abbrev pub has_sides : Decl → ℕ → Bool
has_sides d name = nat_lt 0 (slice_index (shared_sides d.shared name) 0) && nat_lt 0 (slice_index (shared_sides d.shared name) 1)

-- a texture that can be bound: a private one, or a declared one with texels
abbrev pub is_binding : Decl → ℕ → ℕ → Bool
is_binding d kind name =
    has_codes (cmd.BindTexture kind name)
    && (if kind == 0 then is_name name private_count else is_name name (length d.shared) && has_sides d name)

-- the image of a private texture: written, with sides from 1 to the longest, and four bytes for each texel
abbrev pub is_image : ℕ → ℕ → ℕ → List ℕ → Bool
is_image edit w h texels =
    (nat_lt 0 edit && length texels == 4 * (w * h)) && (is_name w image_side_most && is_name h image_side_most)

-- ---- values

-- a depth from 0 to one
abbrev pub is_depth : ℤ → Bool
is_depth z = is_between (pos 0) (pos fixed_one) z

-- a legal code of an element that has one: the face that is culled, the direction of a front face, or the depth function
abbrev pub is_code_of : ℕ → ℕ → Bool
is_code_of e code =
    if e == 7 then has_codes (cmd.CullFace code)
    else if e == 8 then has_codes (cmd.FrontFace code)
    else has_codes (cmd.DepthFunc code)

-- legal numbers of an element that has two: the alpha function and its reference, two blend factors, or a texture that can be bound
abbrev pub is_pair_of : Decl → ℕ → ℕ → ℕ → Bool
is_pair_of d e first second =
    if e == 10 then has_codes (cmd.AlphaFunc first second)
    else if e == 15 then has_codes (cmd.BlendFunc first second)
    else is_binding d first second

-- where the value is of the element's kind: its codes are legal, its depths lie in their range, and its texture is there
abbrev pub is_legal : Decl → ℕ → ElementValue → Bool
is_legal d e (val.Matrix m) = true
is_legal d e (val.Area area) = true
is_legal d e (val.Range range) = is_depth (entry range 0) && is_depth (entry range 1)
is_legal d e (val.Flag flag) = true
is_legal d e (val.Code code) = is_code_of e code
is_legal d e (val.Pair pair) = is_pair_of d e (slice_index pair 0) (slice_index pair 1)
is_legal d e (val.Mask mask) = true
is_legal d e (val.Color color) = true
is_legal d e (val.Depth depth) = is_depth depth
is_legal d e (val.Mode mode) = has_codes (cmd.TexEnv (slice_index mode 0)) && has_codes (cmd.TexWrap (slice_index mode 1) (slice_index mode 2))
is_legal d e (val.Image edit w h texels) = nat_lt e element_count && is_image edit w h texels

-- the value is one that the element of this number can have
abbrev pub is_value_of : Decl → ℕ → ElementValue → Bool
is_value_of d e v = has_kind v (kind_of e) && is_legal d e v

-- A client's whole context: what its commands have set.
use Rattle.std.specs.Prelude.{ℕ, ◌==◌, true, false, List, [], ◌∷◌, replicate, length, Option, None, unwrap_or, ℤ, pos, if◌then◌else◌}
use Rattle.rc_base.specs.Numbers.{fixed_one}
use Rattle.rc_base.specs.Lists.{at_name}
use Rattle.rc_base.specs.Colors.{rgba}
use Rattle.rc_base.specs.Pictures.{Picture}
use Rattle.rc_base.specs.declared.command.Mat4.{Mat4}
use Rattle.rc_base.specs.declared.command.Rgba.{Rgba}
use Rattle.rc_base.specs.declared.state.Block.{Block}
use Rattle.rc_base.specs.declared.state.State.{State}
use Rattle.rc_base.specs.declared.state.Fault.{Fault}
use Rattle.rc_base.specs.declared.scene.Decl.{Decl}

-- The state holds the tops of the two matrix stacks; `modelviews` and `projections` are what lies below them, the last pushed last.
pub record ClientContext : Type 0 where
  pub state : State
  -- whose stack the matrix commands mean: MODELVIEW (0) or PROJECTION (1)
  pub matrix_mode : ℕ
  pub modelviews : List Mat4
  pub projections : List Mat4
  -- what the next vertex gets
  pub color : Rgba
  pub s : ℤ
  pub t : ℤ
  -- the block that Begin opened
  pub block : Option Block
  -- the images of the private textures 1 to 64, and how often each was written
  pub images : List (Option Picture)
  pub edits : List ℕ
  -- the version of the scene
  pub version : ℕ
  -- what is declared: the sides of each shared texture, and how many barriers and semaphores there are
  pub shared : List (List ℕ)
  pub barriers : ℕ
  pub semaphores : ℕ
  -- each refused command's place and fault
  pub faults : List (ℕ × Fault)

-- ---- what a context holds

-- the top of the matrix stack that is meant
abbrev pub top : ClientContext → Mat4
top x = if x.matrix_mode == 0 then x.state.modelview else x.state.projection

-- what lies below it
abbrev pub below : ClientContext → List Mat4
below x = if x.matrix_mode == 0 then x.modelviews else x.projections

-- the image of a private texture, by its name from 1
abbrev pub private_image : ClientContext → ℕ → Option Picture
private_image x name = unwrap_or (at_name x.images name) None

-- how often it was written
abbrev pub edit_of : ClientContext → ℕ → ℕ
edit_of x name = unwrap_or (at_name x.edits name) 0

-- the sides of a shared texture, by its name from 1, where these are the sides of all
abbrev pub shared_sides : List (List ℕ) → ℕ → List ℕ
shared_sides sizes name = unwrap_or (at_name sizes name) []

-- ---- what it holds at first

-- how many private textures there are
abbrev pub private_count : ℕ
private_count = 64

-- one on the diagonal
abbrev pub identity : Mat4
identity = record {
  m =
      pos fixed_one ∷ pos 0 ∷ pos 0 ∷ pos 0 ∷ pos 0 ∷ pos fixed_one ∷ pos 0 ∷ pos 0
      ∷ pos 0 ∷ pos 0 ∷ pos fixed_one ∷ pos 0 ∷ pos 0 ∷ pos 0 ∷ pos 0 ∷ pos fixed_one ∷ [];
}

-- x, y, w, h of the whole window
abbrev pub whole_window : Decl → List ℤ
whole_window d = pos 0 ∷ pos 0 ∷ pos d.width ∷ pos d.height ∷ []

-- the values that OpenGL gives the elements at first: cull BACK, counterclockwise front, ALWAYS, LESS, ONE and ZERO, private texture 1,
-- MODULATE and REPEAT
unfoldable pub default_state : Decl → State
default_state d = record {
  modelview = identity;
  projection = identity;
  viewport = whole_window d;
  depth_range = pos 0 ∷ pos fixed_one ∷ [];
  scissor_on = false;
  scissor = whole_window d;
  cull_on = false;
  cull_face = 1;
  front_face = 0;
  alpha_on = false;
  alpha = 7 ∷ 0 ∷ [];
  depth_on = false;
  depth_func = 1;
  depth_mask = true;
  blend_on = false;
  blend = 1 ∷ 0 ∷ [];
  color_mask = true ∷ true ∷ true ∷ true ∷ [];
  clear_color = rgba 0 0 0 0;
  clear_depth = pos fixed_one;
  texture_on = false;
  binding = 0 ∷ 1 ∷ [];
  tex_mode = 0 ∷ 0 ∷ 0 ∷ [];
}

-- a client's context before its first command
unfoldable pub default_context : Decl → ClientContext
default_context d = record {
  state = default_state d;
  matrix_mode = 0;
  modelviews = [];
  projections = [];
  color = rgba 255 255 255 255;
  s = pos 0;
  t = pos 0;
  block = None;
  images = replicate private_count None;
  edits = replicate private_count 0;
  version = d.version;
  shared = d.shared;
  barriers = length d.barriers;
  semaphores = length d.semaphores;
  faults = [];
}

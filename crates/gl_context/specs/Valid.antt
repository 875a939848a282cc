-- What every context of a stream has.
use Rattle.std.specs.Prelude.{◌≡◌, ℕ, ◌*◌, ◌<◌, ◌≤◌, ◌==◌, true, length, Some, slice_index, if◌then◌else◌}
use Rattle.std.specs.List.{AllByRecursion}
use Rattle.rc_base.specs.Pictures.{Picture}
use Rattle.rc_base.specs.Formats.Commands.{IsCommand, has_codes}
use Rattle.rc_base.specs.Contexts.Context.{ClientContext, private_count, private_image}
use Rattle.rc_base.specs.Contexts.Faults.{vertex_most, image_side_most, stack_most, is_name}
use Rattle.rc_base.specs.Contexts.Issue.{block_mode, context_after}
use Rattle.rc_base.specs.Drawing.Texel.{bound_kind, bound_name, wrap_in_s, wrap_in_t}
use Rattle.rc_base.specs.declared.command.Command.TheVariants as cmd
use Rattle.rc_base.specs.declared.scene.Decl.{Decl}
use Rattle.rc_base.specs.declared.scene.Scene.{Scene}
use Rattle.rc_base.specs.declared.state.Block.{Block}
use Rattle.rc_base.specs.declared.state.State.{State}

-- each code of a state is one that its command accepts
pub record HasLegalCodes (s : State) : Type 0 where
  pub cull_face : has_codes (cmd.CullFace s.cull_face) ≡ true
  pub front_face : has_codes (cmd.FrontFace s.front_face) ≡ true
  pub alpha : has_codes (cmd.AlphaFunc (slice_index s.alpha 0) (slice_index s.alpha 1)) ≡ true
  pub depth_func : has_codes (cmd.DepthFunc s.depth_func) ≡ true
  pub blend : has_codes (cmd.BlendFunc (slice_index s.blend 0) (slice_index s.blend 1)) ≡ true
  pub binding : has_codes (cmd.BindTexture (bound_kind s) (bound_name s)) ≡ true
  pub environment : has_codes (cmd.TexEnv (slice_index s.tex_mode 0)) ≡ true
  pub wraps : has_codes (cmd.TexWrap (wrap_in_s s) (wrap_in_t s)) ≡ true

-- an open block of a scene of that version is of a legal kind, and has no more than the most vertices
pub record IsLegalBlock (version : ℕ) (b : Block) : Type 0 where
  pub kind : ℕ
  pub code : has_codes (cmd.Begin kind) ≡ true
  pub mode : b.mode ≡ block_mode version kind
  pub vertices : length b.vertices ≤ vertex_most

-- the image of a private texture: sides from 1 to the longest, and four bytes for each texel
pub record IsPrivateImage (p : Picture) : Type 0 where
  pub w : is_name p.w image_side_most ≡ true
  pub h : is_name p.h image_side_most ≡ true
  pub whole : length p.texels ≡ 4 * (p.w * p.h)

-- what holds of a context whatever was issued
pub record IsValidContext (decl : Decl) (x : ClientContext) : Type 0 where
  pub codes : HasLegalCodes x.state
  pub matrix_mode : has_codes (cmd.MatrixMode x.matrix_mode) ≡ true
  -- the texture that is bound exists
  pub bound : is_name (bound_name x.state) (if bound_kind x.state == 0 then private_count else length decl.shared) ≡ true
  -- with the top there are at most 32 matrices
  pub modelviews : length x.modelviews < stack_most
  pub projections : length x.projections < stack_most
  pub block : (b : Block) → x.block ≡ Some b → IsLegalBlock x.version b
  pub images : length x.images ≡ private_count
  pub edits : length x.edits ≡ private_count
  pub pictures : (name : ℕ) (p : Picture) → private_image x name ≡ Some p → IsPrivateImage p
  pub version : x.version ≡ decl.version
  pub shared : x.shared ≡ decl.shared
  pub barriers : x.barriers ≡ length decl.barriers
  pub semaphores : x.semaphores ≡ length decl.semaphores

-- every context of a scene whose commands' fields are in their ranges, at every place
abbrev pub ContextsOfStreamsAreValid : Type 0
ContextsOfStreamsAreValid =
    (scene : Scene) → AllByRecursion (AllByRecursion IsCommand) scene.streams
    → (client n : ℕ) → IsValidContext scene.decl (context_after scene client n)

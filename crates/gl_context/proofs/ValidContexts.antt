-- What every context of a stream has.
use Rattle.std.proofs.Common.{◌≡◌, ℕ, zero, suc, ◌+◌, ◌-◌, ◌*◌, ◌<◌, Bool, true, false, List, [], ◌∷◌, ◌++◌, length, replicate, Some, None, ◌⊎◌, inl, inr, refl, sym, ap, ◌∙◌, subst, arith, ltb-true, leb-true, length-append, slice_get}
use Rattle.std.specs.Prelude.{◌==◌, ◌&&◌, if◌then◌else◌, nat_lt, nat_le, slice_index, slice_index_or, unwrap_or, ℤ}
use Rattle.std.specs.List.{AllByRecursion}
use Rattle.std.specs.declared.option.Option.{Option}
use Rattle.std.specs.Option.{option_map_or}
use Rattle.std.proofs.lemmas.Bool.{cases_lt, and_parts, cases_Bool}
use Rattle.std.proofs.lemmas.List.{length-take}
use native.Mathlib.Decide.{ℕ_discrete}
use mathlib.Core.Logic.{dite}
use Rattle.rc_base.specs.Numbers.{product_of}
use Rattle.rc_base.specs.Lists.{at_name, with_name}
use Rattle.rc_base.specs.Pictures.{Picture, with_part}
use Rattle.rc_base.specs.Formats.Commands.{IsCommand, has_codes}
use Rattle.rc_base.specs.Contexts.Context.{ClientContext, default_context, default_state, identity, top, private_image, edit_of, private_count}
use Rattle.rc_base.specs.Contexts.Faults.{fault_of, is_name, vertex_most, image_side_most, stack_most, lies_inside}
use Rattle.rc_base.specs.Contexts.Issue.{issued, issued_next, refused, carried_out, command_at, stream_of, context_after, with_state, with_top, with_capability, with_vertex, with_image, last_of, front_of, block_mode}
use Rattle.rc_base.specs.Drawing.Texel.{bound_kind, bound_name}
use Rattle.rc_base.specs.declared.command.Command.{Command}
use Rattle.rc_base.specs.declared.command.Command.TheVariants as cmd
use Rattle.rc_base.specs.declared.command.Mat4.{Mat4}
use Rattle.rc_base.specs.declared.command.Part.{Part}
use Rattle.rc_base.specs.declared.scene.Decl.{Decl}
use Rattle.rc_base.specs.declared.scene.Scene.{Scene}
use Rattle.rc_base.specs.declared.state.Block.{Block}
use Rattle.rc_base.specs.declared.state.Fault.{Fault}
use Rattle.rc_base.specs.declared.state.State.{State}
use Rattle.textures.specs.Images.{Fits}
use Rattle.textures.proofs.Written.{length_written}
use Rattle.element_table.proofs.Capabilities.{capability_turned, without_capabilities}
use Rattle.gl_context.specs.Valid.{HasLegalCodes, IsLegalBlock, IsPrivateImage, IsValidContext}
use Rattle.gl_context.proofs.Accepted.{accepted}
use Rattle.gl_context.proofs.Texels.{has_texels}
use Rattle.textures.proofs.Names.{same_name, other_name, name_past, length_with_name}
use Rattle.gl_context.proofs.PushAndPop.{pushed, popped, push_modelview, push_projection, pop_modelview, pop_projection}

-- ---- states

abbrev IsBound : Decl → State → Type 0
IsBound decl s = is_name (bound_name s) (if bound_kind s == 0 then private_count else length decl.shared) ≡ true

-- the same codes
same_codes : (s t : State) → t.cull_face ≡ s.cull_face → t.front_face ≡ s.front_face → t.alpha ≡ s.alpha → t.depth_func ≡ s.depth_func → t.blend ≡ s.blend → t.binding ≡ s.binding → t.tex_mode ≡ s.tex_mode
    → HasLegalCodes s → HasLegalCodes t
same_codes s t a b c d e f g h = record {
  cull_face = ap (λ (n : ℕ). has_codes (cmd.CullFace n)) a ∙ h.cull_face;
  front_face = ap (λ (n : ℕ). has_codes (cmd.FrontFace n)) b ∙ h.front_face;
  alpha = ap (λ (l : List ℕ). has_codes (cmd.AlphaFunc (slice_index l 0) (slice_index l 1))) c ∙ h.alpha;
  depth_func = ap (λ (n : ℕ). has_codes (cmd.DepthFunc n)) d ∙ h.depth_func;
  blend = ap (λ (l : List ℕ). has_codes (cmd.BlendFunc (slice_index l 0) (slice_index l 1))) e ∙ h.blend;
  binding = ap (λ (l : List ℕ). has_codes (cmd.BindTexture (slice_index l 0) (slice_index l 1))) f ∙ h.binding;
  environment = ap (λ (l : List ℕ). has_codes (cmd.TexEnv (slice_index l 0))) g ∙ h.environment;
  wraps = ap (λ (l : List ℕ). has_codes (cmd.TexWrap (slice_index l 1) (slice_index l 2))) g ∙ h.wraps;
}

-- the same bound texture
same_bound : (decl : Decl) (s t : State) → t.binding ≡ s.binding → IsBound decl s → IsBound decl t
same_bound decl s t same h = subst (λ (l : List ℕ). is_name (slice_index l 1) (if slice_index l 0 == 0 then private_count else length decl.shared) ≡ true) (sym same) h

-- the context with another state
state_valid : (decl : Decl) (x : ClientContext) (s : State) → HasLegalCodes s → IsBound decl s → IsValidContext decl x → IsValidContext decl (with_state x s)
state_valid decl x s codes bound h = record {
  codes = codes;
  matrix_mode = h.matrix_mode;
  bound = bound;
  modelviews = h.modelviews;
  projections = h.projections;
  block = h.block;
  images = h.images;
  edits = h.edits;
  pictures = h.pictures;
  version = h.version;
  shared = h.shared;
  barriers = h.barriers;
  semaphores = h.semaphores;
}

-- no code of a state, and no texture that is bound, is a capability's
capability_valid : (decl : Decl) (x : ClientContext) (k : ℕ) (on : Bool) → IsValidContext decl x → IsValidContext decl (with_state x (with_capability x.state k on))
capability_valid decl x k on h =
    let t = with_capability x.state k on in
    let rest : without_capabilities t ≡ without_capabilities x.state = (capability_turned x.state k on).rest in
    let binding : t.binding ≡ x.state.binding = ap (λ (s : State). s.binding) rest in
    state_valid decl x t
    (same_codes x.state t (ap (λ (s : State). s.cull_face) rest) (ap (λ (s : State). s.front_face) rest) (ap (λ (s : State). s.alpha) rest) (ap (λ (s : State). s.depth_func) rest) (ap (λ (s : State). s.blend) rest) binding (ap (λ (s : State). s.tex_mode) rest) h.codes)
    (same_bound decl x.state t binding h.bound)
    h

top_valid : (decl : Decl) (x : ClientContext) (m : Mat4) → IsValidContext decl x → IsValidContext decl (with_top x m)
top_valid decl x m h = elim (cases_Bool (x.matrix_mode == 0)) [
  | inl t ↦ rw t (state_valid decl x (record x.state { modelview = m }) (same_codes x.state (record x.state { modelview = m }) refl refl refl refl refl refl refl h.codes) h.bound h)
  | inr f ↦ rw f (state_valid decl x (record x.state { projection = m }) (same_codes x.state (record x.state { projection = m }) refl refl refl refl refl refl refl h.codes) h.bound h)
]

-- ---- stacks

stacks_valid : (decl : Decl) (x : ClientContext) (ms ps : List Mat4) → length ms < stack_most → length ps < stack_most → IsValidContext decl x
    → IsValidContext decl (record x { modelviews = ms; projections = ps })
stacks_valid decl x ms ps a b h = record {
  codes = h.codes;
  matrix_mode = h.matrix_mode;
  bound = h.bound;
  modelviews = a;
  projections = b;
  block = h.block;
  images = h.images;
  edits = h.edits;
  pictures = h.pictures;
  version = h.version;
  shared = h.shared;
  barriers = h.barriers;
  semaphores = h.semaphores;
}

one_more : (ms : List Mat4) (m : Mat4) → nat_lt (length ms + 1) stack_most ≡ true → length (ms ++ m ∷ []) < stack_most
one_more ms m room = omega (arith, length-append ms (m ∷ []), ltb-true (length ms + 1) stack_most room)

one_less : (ms : List Mat4) → length ms < stack_most → length (front_of ms) < stack_most
one_less ms low = omega (arith, length-take (length ms - 1) ms, low)

push_valid : (decl : Decl) (x : ClientContext) → fault_of x cmd.PushMatrix ≡ None → IsValidContext decl x → IsValidContext decl (pushed x)
push_valid decl x f h =
    let room = (accepted x cmd.PushMatrix f).room in
    elim (cases_Bool (x.matrix_mode == 0)) [
      | inl t ↦
          subst (IsValidContext decl) (sym (push_modelview x t))
          (stacks_valid decl x (x.modelviews ++ x.state.modelview ∷ []) x.projections (one_more x.modelviews x.state.modelview (rw t at room)) h.projections h)
      | inr e ↦
          subst (IsValidContext decl) (sym (push_projection x e))
          (stacks_valid decl x x.modelviews (x.projections ++ x.state.projection ∷ []) h.modelviews (one_more x.projections x.state.projection (rw e at room)) h)
    ]

pop_valid : (decl : Decl) (x : ClientContext) → IsValidContext decl x → IsValidContext decl (popped x)
pop_valid decl x h = elim (cases_Bool (x.matrix_mode == 0)) [
  | inl t ↦
      let s : State = record x.state { modelview = last_of x.modelviews } in
      subst (IsValidContext decl) (sym (pop_modelview x t))
      (stacks_valid decl (with_state x s) (front_of x.modelviews) x.projections (one_less x.modelviews h.modelviews) h.projections (state_valid decl x s (same_codes x.state s refl refl refl refl refl refl refl h.codes) h.bound h))
  | inr e ↦
      let s : State = record x.state { projection = last_of x.projections } in
      subst (IsValidContext decl) (sym (pop_projection x e))
      (stacks_valid decl (with_state x s) x.modelviews (front_of x.projections) h.modelviews (one_less x.projections h.projections) (state_valid decl x s (same_codes x.state s refl refl refl refl refl refl refl h.codes) h.bound h))
]

-- ---- blocks

block_valid : (decl : Decl) (x : ClientContext) (o : Option Block) → ((b : Block) → o ≡ Some b → IsLegalBlock x.version b) → IsValidContext decl x → IsValidContext decl (record x { block = o })
block_valid decl x o block h = record {
  codes = h.codes;
  matrix_mode = h.matrix_mode;
  bound = h.bound;
  modelviews = h.modelviews;
  projections = h.projections;
  block = block;
  images = h.images;
  edits = h.edits;
  pictures = h.pictures;
  version = h.version;
  shared = h.shared;
  barriers = h.barriers;
  semaphores = h.semaphores;
}

with_more : (x : ClientContext) (p : List ℤ) (o : Option Block) → ((b : Block) → o ≡ Some b → IsLegalBlock x.version b)
    → option_map_or (λ (b : Block). nat_lt (length b.vertices) vertex_most) o true ≡ true
    → (b : Block) → option_map_or (λ (b : Block). Some (with_vertex x p b)) o None ≡ Some b → IsLegalBlock x.version b
with_more x p None legal room b e = absurd (cc)
with_more x p (Some old) legal room b e =
    let was = legal old refl in
    let more = length-append old.vertices (record { pos = p; color = x.color; s = x.s; t = x.t } ∷ []) in
    let now : IsLegalBlock x.version (with_vertex x p old) = record { kind = was.kind; code = was.code; mode = was.mode; vertices = omega (arith, more, ltb-true (length old.vertices) vertex_most room) } in
    let same : with_vertex x p old ≡ b = cc in
    subst (IsLegalBlock x.version) same now

-- ---- images

-- an image that stands after a write is the one that was written, or stood before
written_or_before : (x : ClientContext) (name : ℕ) (q : Picture) (other : ℕ) (p : Picture) → private_image (with_image x name q) other ≡ Some p
    → (p ≡ q) ⊎ (private_image x other ≡ Some p)
written_or_before x name q other p e =
    dite (ℕ_discrete other name)
    (λ (same : other ≡ name). here name (subst (λ (k : ℕ). private_image (with_image x name q) k ≡ Some p) same e) (λ k. subst (λ (n : ℕ). private_image x n ≡ Some p) (sym same) k))
    (λ (ne : other ≡ name → ⊥). inr (ap (λ (o : Option (Option Picture)). unwrap_or o None) (sym (other_name x.images name other (Some q) ne)) ∙ e))
  where
    here : (n : ℕ) → private_image (with_image x n q) n ≡ Some p → (private_image x n ≡ Some p → private_image x other ≡ Some p) → (p ≡ q) ⊎ (private_image x other ≡ Some p)
    here zero is back = inr (back is)
    here (suc k) is back = elim (cases_lt k (length x.images)) [
      | inl low ↦
          let stands : Some q ≡ Some p = ap (λ (o : Option (Option Picture)). unwrap_or o None) (sym (same_name x.images k (Some q) low)) ∙ is in
          let same : p ≡ q = cc in inl same
      | inr past ↦
          let none : None ≡ Some p = ap (λ (o : Option (Option Picture)). unwrap_or o None) (sym (name_past (with_name x.images (suc k) (Some q)) k (omega (arith, length_with_name x.images (suc k) (Some q), past)))) ∙ is in
          absurd (cc)
    ]

image_valid : (decl : Decl) (x : ClientContext) (name : ℕ) (q : Picture) → IsPrivateImage q → IsValidContext decl x → IsValidContext decl (with_image x name q)
image_valid decl x name q legal h = record {
  codes = h.codes;
  matrix_mode = h.matrix_mode;
  bound = h.bound;
  modelviews = h.modelviews;
  projections = h.projections;
  block = h.block;
  images = length_with_name x.images name (Some q) ∙ h.images;
  edits = length_with_name x.edits name (edit_of x name + 1) ∙ h.edits;
  pictures = λ other p e. elim (written_or_before x name q other p e) [ inl same ↦ subst IsPrivateImage (sym same) legal | inr before ↦ h.pictures other p before ];
  version = h.version;
  shared = h.shared;
  barriers = h.barriers;
  semaphores = h.semaphores;
}

part_image : (part : Part) (p : Picture) → IsPrivateImage p → length part.texels ≡ 4 * (part.w * part.h) → lies_inside part p.w p.h ≡ true → IsPrivateImage (with_part p part)
unfolding with_part
part_image part p legal texels inside =
    let b = and_parts (nat_le (part.x + part.w) p.w) (nat_le (part.y + part.h) p.h) inside in
    let fits : Fits p part = record {
      whole = legal.whole;
      room = omega (arith, texels);
      across = leb-true (part.x + part.w) p.w b.0;
      up = leb-true (part.y + part.h) p.h b.1;
    } in
    record { w = legal.w; h = legal.h; whole = length_written p part fits }

part_valid : (decl : Decl) (x : ClientContext) (part : Part) (o : Option Picture) → private_image x part.name ≡ o → length part.texels ≡ 4 * (part.w * part.h)
    → option_map_or (λ (image : Picture). lies_inside part image.w image.h) o true ≡ true → IsValidContext decl x
    → IsValidContext decl (option_map_or (λ (image : Picture). with_image x part.name (with_part image part)) o x)
part_valid decl x part None e texels inside h = h
part_valid decl x part (Some p) e texels inside h = image_valid decl x part.name (with_part p part) (part_image part p (h.pictures part.name p e) texels inside) h

-- ---- one command

carried : (decl : Decl) (x : ClientContext) (c : Command) → IsCommand c → fault_of x c ≡ None → IsValidContext decl x → IsValidContext decl (carried_out x c)
carried decl x (cmd.Begin mode) i f h =
    let codes = (accepted x (cmd.Begin mode) f).codes in
    let opened : Block = record { mode = block_mode x.version mode; vertices = [] } in
    block_valid decl x (Some opened)
    (λ b e. let same : opened ≡ b = cc in subst (IsLegalBlock x.version) same (record { kind = mode; code = codes; mode = refl; vertices = omega arith })) h
carried decl x cmd.End i f h = block_valid decl x None (λ b e. absurd (cc)) h
carried decl x (cmd.Vertex p) i f h =
    block_valid decl x (option_map_or (λ (b : Block). Some (with_vertex x p b)) x.block None) (with_more x p x.block h.block (accepted x (cmd.Vertex p) f).values) h
carried decl x (cmd.Enable capability) i f h = capability_valid decl x capability true h
carried decl x (cmd.Disable capability) i f h = capability_valid decl x capability false h
carried decl x cmd.LoadIdentity i f h = top_valid decl x identity h
carried decl x (cmd.LoadMatrix m) i f h = top_valid decl x m h
carried decl x (cmd.MultMatrix m) i f h = top_valid decl x (record { m = product_of (top x).m m.m }) h
carried decl x cmd.PushMatrix i f h = push_valid decl x f h
carried decl x cmd.PopMatrix i f h = pop_valid decl x h
carried decl x (cmd.TexImage name w high bytes) i f h =
    let a = accepted x (cmd.TexImage name w high bytes) f in
    let b = and_parts (is_name name private_count) (is_name w image_side_most && is_name high image_side_most) a.values in
    let d = and_parts (is_name w image_side_most) (is_name high image_side_most) b.1 in
    image_valid decl x name (record { w = w; h = high; texels = bytes }) (record { w = d.0; h = d.1; whole = has_texels (cmd.TexImage name w high bytes) i }) h
carried decl x (cmd.TexPart part) i f h =
    part_valid decl x part (private_image x part.name) refl (has_texels (cmd.TexPart part) i) (accepted x (cmd.TexPart part) f).fits h
carried decl x (cmd.BindTexture kind name) i f h =
    let a = accepted x (cmd.BindTexture kind name) f in
    let k = h.codes in
    let bound = ap (λ (n : ℕ). is_name name (if kind == 0 then private_count else n)) (ap length (sym h.shared)) ∙ a.values in
    state_valid decl x (record x.state { binding = kind ∷ name ∷ [] })
    (record { cull_face = k.cull_face; front_face = k.front_face; alpha = k.alpha; depth_func = k.depth_func; blend = k.blend; binding = a.codes; environment = k.environment; wraps = k.wraps }) bound h
carried decl x (cmd.AlphaFunc function reference) i f h =
    let k = h.codes in
    state_valid decl x (record x.state { alpha = function ∷ reference ∷ [] })
    (record { cull_face = k.cull_face; front_face = k.front_face; alpha = (accepted x (cmd.AlphaFunc function reference) f).codes; depth_func = k.depth_func; blend = k.blend; binding = k.binding; environment = k.environment; wraps = k.wraps }) h.bound h
carried decl x (cmd.DepthFunc function) i f h =
    let k = h.codes in
    state_valid decl x (record x.state { depth_func = function })
    (record { cull_face = k.cull_face; front_face = k.front_face; alpha = k.alpha; depth_func = (accepted x (cmd.DepthFunc function) f).codes; blend = k.blend; binding = k.binding; environment = k.environment; wraps = k.wraps }) h.bound h
carried decl x (cmd.BlendFunc source destination) i f h =
    let k = h.codes in
    state_valid decl x (record x.state { blend = source ∷ destination ∷ [] })
    (record { cull_face = k.cull_face; front_face = k.front_face; alpha = k.alpha; depth_func = k.depth_func; blend = (accepted x (cmd.BlendFunc source destination) f).codes; binding = k.binding; environment = k.environment; wraps = k.wraps }) h.bound h
carried decl x (cmd.CullFace face) i f h =
    let k = h.codes in
    state_valid decl x (record x.state { cull_face = face })
    (record { cull_face = (accepted x (cmd.CullFace face) f).codes; front_face = k.front_face; alpha = k.alpha; depth_func = k.depth_func; blend = k.blend; binding = k.binding; environment = k.environment; wraps = k.wraps }) h.bound h
carried decl x (cmd.FrontFace direction) i f h =
    let k = h.codes in
    state_valid decl x (record x.state { front_face = direction })
    (record { cull_face = k.cull_face; front_face = (accepted x (cmd.FrontFace direction) f).codes; alpha = k.alpha; depth_func = k.depth_func; blend = k.blend; binding = k.binding; environment = k.environment; wraps = k.wraps }) h.bound h
carried decl x (cmd.TexEnv environment) i f h =
    let k = h.codes in
    state_valid decl x (record x.state { tex_mode = environment ∷ slice_index x.state.tex_mode 1 ∷ slice_index x.state.tex_mode 2 ∷ [] })
    (record { cull_face = k.cull_face; front_face = k.front_face; alpha = k.alpha; depth_func = k.depth_func; blend = k.blend; binding = k.binding; environment = (accepted x (cmd.TexEnv environment) f).codes; wraps = k.wraps }) h.bound h
carried decl x (cmd.TexWrap along_s along_t) i f h =
    let k = h.codes in
    state_valid decl x (record x.state { tex_mode = slice_index x.state.tex_mode 0 ∷ along_s ∷ along_t ∷ [] })
    (record { cull_face = k.cull_face; front_face = k.front_face; alpha = k.alpha; depth_func = k.depth_func; blend = k.blend; binding = k.binding; environment = k.environment; wraps = (accepted x (cmd.TexWrap along_s along_t) f).codes }) h.bound h
carried decl x (cmd.MatrixMode mode) i f h = record {
  codes = h.codes;
  matrix_mode = (accepted x (cmd.MatrixMode mode) f).codes;
  bound = h.bound;
  modelviews = h.modelviews;
  projections = h.projections;
  block = h.block;
  images = h.images;
  edits = h.edits;
  pictures = h.pictures;
  version = h.version;
  shared = h.shared;
  barriers = h.barriers;
  semaphores = h.semaphores;
}
carried decl x c i f h = record {
  codes = record { cull_face = h.codes.cull_face; front_face = h.codes.front_face; alpha = h.codes.alpha; depth_func = h.codes.depth_func; blend = h.codes.blend; binding = h.codes.binding; environment = h.codes.environment; wraps = h.codes.wraps };
  matrix_mode = h.matrix_mode;
  bound = h.bound;
  modelviews = h.modelviews;
  projections = h.projections;
  block = h.block;
  images = h.images;
  edits = h.edits;
  pictures = h.pictures;
  version = h.version;
  shared = h.shared;
  barriers = h.barriers;
  semaphores = h.semaphores;
}

by_fault : (decl : Decl) (x : ClientContext) (place : ℕ) (c : Command) (f : Option Fault) → IsCommand c → fault_of x c ≡ f → IsValidContext decl x
    → IsValidContext decl (option_map_or (refused x place) f (carried_out x c))
by_fault decl x place c None i e h = carried decl x c i e h
by_fault decl x place c (Some f) i e h = record {
  codes = h.codes;
  matrix_mode = h.matrix_mode;
  bound = h.bound;
  modelviews = h.modelviews;
  projections = h.projections;
  block = h.block;
  images = h.images;
  edits = h.edits;
  pictures = h.pictures;
  version = h.version;
  shared = h.shared;
  barriers = h.barriers;
  semaphores = h.semaphores;
}

-- ---- along a stream

by_command : (decl : Decl) (x : ClientContext) (place : ℕ) (o : Option Command) → ((c : Command) → o ≡ Some c → IsCommand c) → IsValidContext decl x
    → IsValidContext decl (issued_next x place o)
unfolding issued
by_command decl x place None i h = h
by_command decl x place (Some c) i h = by_fault decl x place c (fault_of x c) (i c refl) refl h

-- a command of a scene whose commands are in their ranges
pub command_of : (cs : List Command) (n : ℕ) (c : Command) → AllByRecursion IsCommand cs → slice_get cs n ≡ Some c → IsCommand c
command_of [] n c all e = absurd (cc)
command_of (d ∷ cs) zero c all e = let same : d ≡ c = cc in subst IsCommand same all.0
command_of (d ∷ cs) (suc n) c all e = command_of cs n c all.1 e

pub stream_all : (css : List (List Command)) (client : ℕ) → AllByRecursion (AllByRecursion IsCommand) css → AllByRecursion IsCommand (slice_index_or css client [])
stream_all [] client all = tt
stream_all (cs ∷ css) zero all = all.0
stream_all (cs ∷ css) (suc client) all = stream_all css client all.1

none_first : (n name : ℕ) (p : Picture) → unwrap_or (at_name (replicate {A = Option Picture} n None) name) None ≡ Some p → ⊥
none_first n zero p e = absurd (cc)
none_first zero (suc k) p e = absurd (cc)
none_first (suc n) (suc zero) p e = absurd (cc)
none_first (suc n) (suc (suc k)) p e = none_first n (suc k) p e

first : (decl : Decl) → IsValidContext decl (default_context decl)
unfolding default_context default_state
first decl = record {
  codes = record { cull_face = refl; front_face = refl; alpha = refl; depth_func = refl; blend = refl; binding = refl; environment = refl; wraps = refl };
  matrix_mode = refl;
  bound = refl;
  modelviews = omega arith;
  projections = omega arith;
  block = λ b e. absurd (cc);
  images = refl;
  edits = refl;
  pictures = λ name p e. absurd (none_first 64 name p e);
  version = refl;
  shared = refl;
  barriers = refl;
  semaphores = refl;
}

pub valid : (scene : Scene) → AllByRecursion (AllByRecursion IsCommand) scene.streams → (client n : ℕ) → IsValidContext scene.decl (context_after scene client n)
unfolding context_after
valid scene all client zero = first scene.decl
valid scene all client (suc n) =
    by_command scene.decl (context_after scene client n) n (command_at scene client n) (λ c e. command_of (stream_of scene client) n c (stream_all scene.streams client all) e) (valid scene all client n)

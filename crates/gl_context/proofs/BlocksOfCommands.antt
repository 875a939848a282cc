-- How an open block comes to be, command by command.
use Rattle.std.proofs.Common.{◌≡◌, ℕ, zero, suc, ◌+◌, List, [], ◌∷◌, ◌++◌, None, Some, Bool, true, false, refl, sym, ap, subst, ◌∙◌, arith, inl, inr, append-nil}
use Rattle.std.specs.Prelude.{if◌then◌else◌, ◌==◌}
use Rattle.std.specs.declared.option.Option.{Option}
use Rattle.rc_base.specs.Contexts.Context.{ClientContext, default_context, private_image, top, below}
use Rattle.rc_base.specs.Contexts.Faults.{fault_of}
use Rattle.rc_base.specs.Numbers.{product_of}
use Rattle.rc_base.specs.Pictures.{with_part, Picture}
use Rattle.rc_base.specs.Contexts.Context.{identity}
use Rattle.rc_base.specs.Contexts.Issue.{context_after, command_at, effect_at, effect_of, issued, issued_next, carried_out, with_top, with_below, with_image, with_vertex, last_of, front_of, block_mode}
use Rattle.std.specs.Option.{option_map_or}
use Rattle.std.specs.Prelude.{ℤ}
use Rattle.rc_base.specs.declared.state.Effect.TheVariants as eff
use Rattle.rc_base.specs.declared.command.Mat4.{Mat4}
use Rattle.rc_base.specs.declared.command.Part.{Part}
use Rattle.rc_base.specs.declared.command.Command.{Command}
use Rattle.rc_base.specs.declared.command.Command.TheVariants as cmd
use Rattle.rc_base.specs.declared.state.Block.{Block}
use Rattle.rc_base.specs.declared.state.Fault.{Fault}
use Rattle.rc_base.specs.declared.scene.Scene.{Scene}
use Rattle.std.proofs.lemmas.Bool.{cases_lt}
use Rattle.rc_base.specs.declared.state.Vertex.{Vertex}
use Rattle.gl_context.specs.Blocks.{IsAccepted, IsBlockBefore, vertex_by, vertex_if, vertices_from}

-- what an accepted command does to the open block: Begin opens one, End closes it, Vertex adds to it, and the others leave it
pub data Change (x : ClientContext) (c : Command) (after : Option Block) : Type 0 where
  Opens : (mode : ℕ) → c ≡ cmd.Begin mode → after ≡ Some (record { mode = block_mode x.version mode; vertices = [] }) → Change x c after
  Closes : after ≡ None → Change x c after
  Adds : (b : Block) → x.block ≡ Some b → after ≡ Some (record b { vertices = b.vertices ++ vertex_by x c }) → Change x c after
  Leaves : after ≡ x.block → vertex_by x c ≡ [] → Change x c after

either_block : (b : Bool) (x y : ClientContext) (o : Option Block) → x.block ≡ o → y.block ≡ o → (if b then x else y).block ≡ o
either_block true x y o p q = p
either_block false x y o p q = q

top_block : (x : ClientContext) (m : Mat4) → (with_top x m).block ≡ x.block
top_block x m = either_block (x.matrix_mode == 0) (record x { state = record x.state { modelview = m } }) (record x { state = record x.state { projection = m } }) x.block refl refl

below_block : (x : ClientContext) (ms : List Mat4) → (with_below x ms).block ≡ x.block
below_block x ms = either_block (x.matrix_mode == 0) (record x { modelviews = ms }) (record x { projections = ms }) x.block refl refl

part_block : (x : ClientContext) (part : Part) (o : Option Picture) → (option_map_or (λ (image : Picture). with_image x part.name (with_part image part)) o x).block ≡ x.block
part_block x part None = refl
part_block x part (Some image) = refl

-- a Vertex stands in an open block alone
vertex_change : (x : ClientContext) (p : List ℤ) (o : Option Block) → x.block ≡ o → fault_of x (cmd.Vertex p) ≡ None → Change x (cmd.Vertex p) (option_map_or (λ b. Some (with_vertex x p b)) o None)
vertex_change x p None e h = let q = rw e at h in absurd cc
vertex_change x p (Some b) e h = Adds b e (rw h refl)

pub change : (x : ClientContext) (c : Command) → fault_of x c ≡ None → Change x c (carried_out x c).block
change x (cmd.Begin kind) h = Opens kind refl refl
change x cmd.End h = Closes refl
change x (cmd.Vertex p) h = vertex_change x p x.block refl h
change x cmd.LoadIdentity h = Leaves (top_block x identity) refl
change x (cmd.LoadMatrix m) h = Leaves (top_block x m) refl
change x (cmd.MultMatrix m) h = Leaves (top_block x (record { m = product_of (top x).m m.m })) refl
change x cmd.PushMatrix h = Leaves (below_block x (below x ++ top x ∷ [])) refl
change x cmd.PopMatrix h = Leaves (below_block (with_top x (last_of (below x))) (front_of (below x)) ∙ top_block x (last_of (below x))) refl
change x (cmd.TexPart part) h = Leaves (part_block x part (private_image x part.name)) refl
change x c h = Leaves refl refl

refused_adds : (x : ClientContext) (c : Command) (f : Fault) → fault_of x c ≡ Some f → vertex_by x c ≡ []
refused_adds x (cmd.Vertex p) f h = rw h refl
refused_adds x c f h = refl

-- no Begin is accepted while a block is open
no_begin : (x : ClientContext) (b : Block) (mode : ℕ) → x.block ≡ Some b → fault_of x (cmd.Begin mode) ≡ None → ⊥
no_begin x b mode open_block h = let q = rw open_block at h in cc

-- ---- the version of a context is its scene's

either_version : (b : Bool) (x y : ClientContext) (v : ℕ) → x.version ≡ v → y.version ≡ v → (if b then x else y).version ≡ v
either_version true x y v p q = p
either_version false x y v p q = q

top_version : (x : ClientContext) (m : Mat4) → (with_top x m).version ≡ x.version
top_version x m = either_version (x.matrix_mode == 0) (record x { state = record x.state { modelview = m } }) (record x { state = record x.state { projection = m } }) x.version refl refl

below_version : (x : ClientContext) (ms : List Mat4) → (with_below x ms).version ≡ x.version
below_version x ms = either_version (x.matrix_mode == 0) (record x { modelviews = ms }) (record x { projections = ms }) x.version refl refl

part_version : (x : ClientContext) (part : Part) (o : Option Picture) → (option_map_or (λ (image : Picture). with_image x part.name (with_part image part)) o x).version ≡ x.version
part_version x part None = refl
part_version x part (Some image) = refl

carried_version : (x : ClientContext) (c : Command) → (carried_out x c).version ≡ x.version
carried_version x cmd.LoadIdentity = top_version x identity
carried_version x (cmd.LoadMatrix m) = top_version x m
carried_version x (cmd.MultMatrix m) = top_version x (record { m = product_of (top x).m m.m })
carried_version x cmd.PushMatrix = below_version x (below x ++ top x ∷ [])
carried_version x cmd.PopMatrix = below_version (with_top x (last_of (below x))) (front_of (below x)) ∙ top_version x (last_of (below x))
carried_version x (cmd.TexPart part) = part_version x part (private_image x part.name)
carried_version x c = refl

issued_version : (x : ClientContext) (n : ℕ) (c : Command) (f : Option Fault) → fault_of x c ≡ f → (issued x n c).version ≡ x.version
unfolding issued
issued_version x n c None e = rw e (carried_version x c)
issued_version x n c (Some f) e = rw e refl

next_version : (x : ClientContext) (n : ℕ) (o : Option Command) → (issued_next x n o).version ≡ x.version
next_version x n None = refl
next_version x n (Some c) = issued_version x n c (fault_of x c) refl

version_is : (scene : Scene) (client n : ℕ) → (context_after scene client n).version ≡ scene.decl.version
unfolding context_after default_context
version_is scene client zero = refl
version_is scene client (suc n) = next_version (context_after scene client n) n (command_at scene client n) ∙ version_is scene client n

-- one more command that opens no block
further : (scene : Scene) (client n : ℕ) (b block : Block) → (context_after scene client n).block ≡ Some b → IsBlockBefore scene client n b
    → block.mode ≡ b.mode → block.vertices ≡ b.vertices ++ vertex_if (context_after scene client n) (command_at scene client n)
    → IsBlockBefore scene client (suc n) block
further scene client n b block is_open so_far mode vertices = record {
  begin = so_far.begin;
  count = suc so_far.count;
  before = omega (arith, so_far.before);
  kind = so_far.kind;
  opened = so_far.opened;
  mode = mode ∙ so_far.mode;
  last = λ k m above below accepted.
      elim (cases_lt k n) [
        | inl less ↦ so_far.last k m above less accepted
        | inr more ↦
            let same : k ≡ n = omega (arith, more, below) in
            let here = subst (λ (j : ℕ). IsAccepted scene client j (cmd.Begin m)) same accepted in
            no_begin (context_after scene client n) b m is_open here.1
      ];
  vertices =
      vertices ∙ ap (λ (vs : List Vertex). vs ++ vertex_if (context_after scene client n) (command_at scene client n)) so_far.vertices
      ∙ ap (λ (j : ℕ). vertices_from scene client (so_far.begin + 1) so_far.count ++ vertex_if (context_after scene client j) (command_at scene client j)) (sym so_far.before);
}

-- a command that leaves the block and adds no vertex
unchanged : (scene : Scene) (client n : ℕ) (block : Block) → (context_after scene client n).block ≡ Some block → IsBlockBefore scene client n block
    → vertex_if (context_after scene client n) (command_at scene client n) ≡ [] → IsBlockBefore scene client (suc n) block
unchanged scene client n block is_open so_far none =
    further scene client n block block is_open so_far refl (sym (append-nil block.vertices) ∙ ap (λ (vs : List Vertex). block.vertices ++ vs) (sym none))

abbrev SoFar : Scene → ℕ → ℕ → Type 0
SoFar scene client n = (b : Block) → (context_after scene client n).block ≡ Some b → IsBlockBefore scene client n b

-- an accepted command
by_change : (scene : Scene) (client n : ℕ) (block : Block) (c : Command) → command_at scene client n ≡ Some c → fault_of (context_after scene client n) c ≡ None
    → SoFar scene client n → (after : Option Block) → after ≡ Some block → Change (context_after scene client n) c after → IsBlockBefore scene client (suc n) block
by_change scene client n block c e accepted so_far after now (Opens mode is_begin a) =
    let same : record { mode = block_mode (context_after scene client n).version mode; vertices = [] } ≡ block = cc in
    subst (λ (b : Block). IsBlockBefore scene client (suc n) b) same (record {
      begin = n;
      count = 0;
      before = omega arith;
      kind = mode;
      mode = ap (λ (v : ℕ). block_mode v mode) (version_is scene client n);
      opened = (e ∙ ap (λ (d : Command). Some d) is_begin, subst (λ (d : Command). fault_of (context_after scene client n) d ≡ None) is_begin accepted);
      last = λ k m above below _. absurd (omega (arith, above, below));
      vertices = refl;
    })
by_change scene client n block c e accepted so_far after now (Closes a) = absurd cc
by_change scene client n block c e accepted so_far after now (Adds b is_open a) =
    let same : record b { vertices = b.vertices ++ vertex_by (context_after scene client n) c } ≡ block = cc in
    let here : vertex_if (context_after scene client n) (command_at scene client n) ≡ vertex_by (context_after scene client n) c = ap (vertex_if (context_after scene client n)) e in
    further scene client n b block is_open (so_far b is_open) (ap (λ (x : Block). x.mode) (sym same))
    (ap (λ (x : Block). x.vertices) (sym same) ∙ ap (λ (vs : List Vertex). b.vertices ++ vs) (sym here))
by_change scene client n block c e accepted so_far after now (Leaves a none) =
    let is_open : (context_after scene client n).block ≡ Some block = sym a ∙ now in
    unchanged scene client n block is_open (so_far block is_open) (ap (vertex_if (context_after scene client n)) e ∙ none)

-- a command, by whether it breaks a rule
by_fault : (scene : Scene) (client n : ℕ) (block : Block) (c : Command) (f : Option Fault) → command_at scene client n ≡ Some c → fault_of (context_after scene client n) c ≡ f
    → SoFar scene client n → (issued (context_after scene client n) n c).block ≡ Some block → IsBlockBefore scene client (suc n) block
unfolding issued
by_fault scene client n block c (Some f) e broken so_far now =
    let is_open : (context_after scene client n).block ≡ Some block = rw broken at now in
    unchanged scene client n block is_open (so_far block is_open) (ap (vertex_if (context_after scene client n)) e ∙ refused_adds (context_after scene client n) c f broken)
by_fault scene client n block c None e accepted so_far now =
    by_change scene client n block c e accepted so_far (carried_out (context_after scene client n) c).block (rw accepted at now) (change (context_after scene client n) c accepted)

by_command : (scene : Scene) (client n : ℕ) (block : Block) (o : Option Command) → command_at scene client n ≡ o
    → SoFar scene client n → (issued_next (context_after scene client n) n o).block ≡ Some block → IsBlockBefore scene client (suc n) block
by_command scene client n block None e so_far now = unchanged scene client n block now (so_far block now) (ap (vertex_if (context_after scene client n)) e)
by_command scene client n block (Some c) e so_far now = by_fault scene client n block c (fault_of (context_after scene client n) c) e refl so_far now

pub opened : (scene : Scene) (client place : ℕ) (block : Block) → (context_after scene client place).block ≡ Some block → IsBlockBefore scene client place block
unfolding context_after default_context
opened scene client zero block h = absurd cc
opened scene client (suc n) block h = by_command scene client n block (command_at scene client n) refl (opened scene client n) h

-- ---- the block at its End

-- an accepted End stands in an open block, and draws it
end_draws : (x : ClientContext) (o : Option Block) → x.block ≡ o → fault_of x cmd.End ≡ None → (b : Block) × (x.block ≡ Some b) × (effect_of x cmd.End ≡ eff.Block b)
unfolding effect_of
end_draws x None e h = let q = rw e at h in absurd cc
end_draws x (Some b) e h = (b, e, rw (h, e) refl)

pub drawn : (scene : Scene) (client place : ℕ) → IsAccepted scene client place cmd.End
    → (block : Block) × (effect_at scene client place ≡ eff.Block block) × IsBlockBefore scene client place block
unfolding effect_at
drawn scene client place accepted =
    let x = context_after scene client place in
    let end = end_draws x x.block refl accepted.1 in
    (end.0, ap (λ (o : Option Command). option_map_or (effect_of x) o eff.Quiet) accepted.0 ∙ end.2, opened scene client place end.0 end.1)

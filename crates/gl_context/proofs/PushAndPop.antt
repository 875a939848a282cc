-- A push, and a pop after it.
use Rattle.std.proofs.Common.{◌≡◌, ℕ, ◌-◌, ◌<◌, Bool, true, false, List, [], ◌∷◌, ◌++◌, length, take, get_or, None, Some, refl, ap, ◌∙◌, arith, length-append}
use Rattle.std.specs.Prelude.{◌==◌}
use Rattle.std.specs.declared.option.Option.{Option}
use Rattle.std.proofs.lemmas.Bool.{lt-ltb}
use Rattle.std.proofs.Math.Seq.{get_or-append_seam, take-append_seam}
use Rattle.rc_base.specs.Contexts.Context.{ClientContext, identity, top, below}
use Rattle.rc_base.specs.Contexts.Faults.{fault_of}
use Rattle.rc_base.specs.Contexts.Issue.{issued, with_top, with_below, last_of, front_of}
use Rattle.rc_base.specs.declared.command.Command.TheVariants as cmd
use Rattle.rc_base.specs.declared.command.Mat4.{Mat4}
use Rattle.rc_base.specs.declared.state.Block.{Block}

one_more : (ms : List Mat4) (m : Mat4) → length (ms ++ m ∷ []) - 1 ≡ length ms
one_more ms m = omega (arith, length-append ms (m ∷ []))

last_pushed : (ms : List Mat4) (m : Mat4) → last_of (ms ++ m ∷ []) ≡ m
last_pushed ms m = ap (λ (k : ℕ). get_or (ms ++ m ∷ []) k identity) (one_more ms m) ∙ get_or-append_seam ms m [] identity

front_pushed : (ms : List Mat4) (m : Mat4) → front_of (ms ++ m ∷ []) ≡ ms
front_pushed ms m = ap (λ (k : ℕ). take k (ms ++ m ∷ [])) (one_more ms m) ∙ take-append_seam ms (m ∷ [])

abbrev pub pushed : ClientContext → ClientContext
pushed x = with_below x (below x ++ top x ∷ [])

abbrev pub popped : ClientContext → ClientContext
popped y = with_below (with_top y (last_of (below y))) (front_of (below y))

-- by the stack that is meant
pub push_modelview : (x : ClientContext) → (x.matrix_mode == 0) ≡ true → pushed x ≡ record x { modelviews = x.modelviews ++ x.state.modelview ∷ [] }
push_modelview x e = rw e refl

pub push_projection : (x : ClientContext) → (x.matrix_mode == 0) ≡ false → pushed x ≡ record x { projections = x.projections ++ x.state.projection ∷ [] }
push_projection x e = rw e refl

pub pop_modelview : (y : ClientContext) → (y.matrix_mode == 0) ≡ true
    → popped y ≡ record y { state = record y.state { modelview = last_of y.modelviews }; modelviews = front_of y.modelviews }
pop_modelview y e = rw (e, e) refl

pub pop_projection : (y : ClientContext) → (y.matrix_mode == 0) ≡ false
    → popped y ≡ record y { state = record y.state { projection = last_of y.projections }; projections = front_of y.projections }
pop_projection y e = rw (e, e) refl

abbrev with_modelview : ClientContext → Mat4 → List Mat4 → ClientContext
with_modelview x m ms = record x { state = record x.state { modelview = m }; modelviews = ms }

abbrev with_projection : ClientContext → Mat4 → List Mat4 → ClientContext
with_projection x m ms = record x { state = record x.state { projection = m }; projections = ms }

undone : (x : ClientContext) (b : Bool) → (x.matrix_mode == 0) ≡ b → popped (pushed x) ≡ x
undone x true e =
    let ms = x.modelviews in
    let m = x.state.modelview in
    ap popped (push_modelview x e) ∙ pop_modelview (record x { modelviews = ms ++ m ∷ [] }) e
    ∙ ap (λ (k : Mat4). with_modelview x k (front_of (ms ++ m ∷ []))) (last_pushed ms m) ∙ ap (λ (ks : List Mat4). with_modelview x m ks) (front_pushed ms m)
undone x false e =
    let ms = x.projections in
    let m = x.state.projection in
    ap popped (push_projection x e) ∙ pop_projection (record x { projections = ms ++ m ∷ [] }) e
    ∙ ap (λ (k : Mat4). with_projection x k (front_of (ms ++ m ∷ []))) (last_pushed ms m) ∙ ap (λ (ks : List Mat4). with_projection x m ks) (front_pushed ms m)

-- a PushMatrix stands outside a block
outside : (x : ClientContext) (o : Option Block) → x.block ≡ o → fault_of x cmd.PushMatrix ≡ None → x.block ≡ None
outside x None e h = e
outside x (Some b) e h = let q = rw e at h in absurd cc

-- after it there is a matrix to pop
some_below : (x : ClientContext) (b : Bool) → (x.matrix_mode == 0) ≡ b → 0 < length (below (pushed x))
some_below x true e =
    let l : length (below (pushed x)) ≡ length (x.modelviews ++ x.state.modelview ∷ []) = ap (λ (y : ClientContext). length (below y)) (push_modelview x e) ∙ rw e refl in
    omega (arith, l, length-append x.modelviews (x.state.modelview ∷ []))
some_below x false e =
    let l : length (below (pushed x)) ≡ length (x.projections ++ x.state.projection ∷ []) = ap (λ (y : ClientContext). length (below y)) (push_projection x e) ∙ rw e refl in
    omega (arith, l, length-append x.projections (x.state.projection ∷ []))

same_block : (x : ClientContext) (b : Bool) → (x.matrix_mode == 0) ≡ b → (pushed x).block ≡ x.block
same_block x true e = ap (λ (y : ClientContext). y.block) (push_modelview x e)
same_block x false e = ap (λ (y : ClientContext). y.block) (push_projection x e)

passes : (y : ClientContext) → y.block ≡ None → 0 < length (below y) → fault_of y cmd.PopMatrix ≡ None
passes y none some = rw (none, lt-ltb 0 (length (below y)) some) refl

pops : (x : ClientContext) → x.block ≡ None → fault_of (pushed x) cmd.PopMatrix ≡ None
pops x none = passes (pushed x) (same_block x (x.matrix_mode == 0) refl ∙ none) (some_below x (x.matrix_mode == 0) refl)

issued_push : (x : ClientContext) (place : ℕ) → fault_of x cmd.PushMatrix ≡ None → issued x place cmd.PushMatrix ≡ pushed x
unfolding issued
issued_push x place h = rw h refl

issued_pop : (x : ClientContext) (place : ℕ) → fault_of x cmd.PopMatrix ≡ None → issued x place cmd.PopMatrix ≡ popped x
unfolding issued
issued_pop x place h = rw h refl

pub pop_undoes_push : (x : ClientContext) (place next : ℕ) → fault_of x cmd.PushMatrix ≡ None → issued (issued x place cmd.PushMatrix) next cmd.PopMatrix ≡ x
pop_undoes_push x place next h =
    ap (λ (y : ClientContext). issued y next cmd.PopMatrix) (issued_push x place h)
    ∙ issued_pop (pushed x) next (pops x (outside x x.block refl h))
    ∙ undone x (x.matrix_mode == 0) refl

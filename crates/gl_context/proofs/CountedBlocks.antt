-- A command where a block is open: what it leaves of a context of which the block is counted.
use Rattle.std.proofs.Common.{◌≡◌, ℕ, ◌+◌, List, [], ◌∷◌, ◌++◌, length, None, Some, true, refl, sym, ap, ◌∙◌, arith, length-append}
use Rattle.std.specs.Prelude.{nat_lt, if◌then◌else◌, ℤ}
use Rattle.std.specs.declared.option.Option.{Option}
use Rattle.std.specs.Option.{option_map, option_map_or}
use Rattle.rc_base.specs.Contexts.Context.{ClientContext}
use Rattle.rc_base.specs.Contexts.Faults.{fault_of, vertex_most}
use Rattle.rc_base.specs.Contexts.Issue.{issued, effect_of, refused, carried_out, done_by}
use Rattle.rc_base.specs.Formats.Commands.{has_codes}
use Rattle.rc_base.specs.declared.command.Command.{Command}
use Rattle.rc_base.specs.declared.command.Command.TheVariants as cmd
use Rattle.rc_base.specs.declared.command.Rgba.{Rgba}
use Rattle.rc_base.specs.declared.state.Block.{Block}
use Rattle.rc_base.specs.declared.state.Effect.TheVariants as eff
use Rattle.rc_base.specs.declared.state.Fault.{Fault}
use Rattle.rc_base.specs.declared.state.Fault.TheVariants.{InvalidValue, InvalidOperation}
use Rattle.rc_base.specs.declared.state.Vertex.{Vertex}
use Rattle.gl_context.specs.Counted.{counted, kind_of}
use Rattle.gl_context.specs.declared.counting.CountingContext.{CountingContext}
use Rattle.gl_context.specs.declared.counting.EffectKind.TheVariants as kind

-- ---- the block that is counted

has_block : (o : Option Block) (n : ℕ) → Some n ≡ option_map (λ (b : Block). length b.vertices) o → (b : Block) × (o ≡ Some b) × (n ≡ length b.vertices)
has_block None n h = absurd (cc)
has_block (Some b) n h = (b, refl, (cc))

pub open_block : (s : CountingContext) (x : ClientContext) (n : ℕ) → s.vertices ≡ Some n → s ≡ counted x → (b : Block) × (x.block ≡ Some b) × (n ≡ length b.vertices)
open_block s x n some is = has_block x.block n (sym some ∙ ap (λ (t : CountingContext). t.vertices) is)

-- ---- refused commands

pub issued_refused : (x : ClientContext) (place : ℕ) (c : Command) (f : Fault) → fault_of x c ≡ Some f → issued x place c ≡ refused x place f
unfolding issued
issued_refused x place c f e = ap (λ (o : Option Fault). option_map_or (refused x place) o (carried_out x c)) e

pub refused_kind : (x : ClientContext) (c : Command) (f : Fault) → fault_of x c ≡ Some f → kind.Refused ≡ kind_of (effect_of x c)
unfolding effect_of
refused_kind x c f e = ap (λ (o : Option Fault). kind_of (option_map_or (λ (g : Fault). eff.Refused g) o (done_by x c))) (sym e)

pub refused_counted : (s t : CountingContext) (x : ClientContext) (place : ℕ) (c : Command) (f : Fault) → fault_of x c ≡ Some f → s ≡ counted x
    → t ≡ record s { outside = refused s.outside place f } → t ≡ counted (issued x place c)
refused_counted s t x place c f e is step =
    step ∙ ap (λ (u : CountingContext). record u { outside = refused u.outside place f }) is ∙ ap counted (sym (issued_refused x place c f e))

-- ---- vertices

pub vertex_fault : (x : ClientContext) (p : List ℤ) (b : Block) (n : ℕ) → x.block ≡ Some b → n ≡ length b.vertices
    → (if nat_lt n vertex_most then None else Some InvalidValue) ≡ fault_of x (cmd.Vertex p)
vertex_fault x p b n e count = rw (e, count) refl

-- one vertex more
longer : (o : Option Block) (n : ℕ) (v : Vertex) → Some n ≡ option_map (λ (b : Block). length b.vertices) o
    → Some (n + 1) ≡ option_map (λ (b : Block). length b.vertices) (option_map_or (λ (b : Block). Some (record b { vertices = b.vertices ++ v ∷ [] })) o None)
longer None n v h = absurd (cc)
longer (Some b) n v h =
    let same : n ≡ length b.vertices = cc in
    let more : n + 1 ≡ length (b.vertices ++ v ∷ []) = omega (arith, same, length-append b.vertices (v ∷ [])) in
    ap (λ (k : ℕ). Some k) more

pub accepted_vertex : (s : CountingContext) (x : ClientContext) (place : ℕ) (p : List ℤ) (n : ℕ) → fault_of x (cmd.Vertex p) ≡ None → s.vertices ≡ Some n → s ≡ counted x
    → record { outside = s.outside; vertices = Some (n + 1) } ≡ counted (issued x place (cmd.Vertex p))
unfolding issued
accepted_vertex s x place p n e some is =
    let more = longer x.block n (record { pos = p; color = x.color; s = x.s; t = x.t }) (sym some ∙ ap (λ (t : CountingContext). t.vertices) is) in
    ap (λ (t : CountingContext). record { outside = t.outside; vertices = Some (n + 1) }) is
    ∙ ap (λ (o : Option ℕ). record { outside = record x { block = None }; vertices = o }) more
    ∙ ap (λ (o : Option Fault). counted (option_map_or (refused x place) o (carried_out x (cmd.Vertex p)))) (sym e)

pub vertex_kind : (x : ClientContext) (p : List ℤ) → fault_of x (cmd.Vertex p) ≡ None → kind.Quiet ≡ kind_of (effect_of x (cmd.Vertex p))
unfolding effect_of
vertex_kind x p e = ap (λ (o : Option Fault). kind_of (option_map_or (λ (g : Fault). eff.Refused g) o eff.Quiet)) (sym e)

-- ---- the others that may stand in a block

pub colored : (s : CountingContext) (x : ClientContext) (place : ℕ) (k : Rgba) → s ≡ counted x
    → record { outside = record s.outside { color = k }; vertices = s.vertices } ≡ counted (issued x place (cmd.Color k))
unfolding issued
colored s x place k is = ap (λ (t : CountingContext). record { outside = record t.outside { color = k }; vertices = t.vertices }) is

pub color_kind : (x : ClientContext) (k : Rgba) → kind.Quiet ≡ kind_of (effect_of x (cmd.Color k))
unfolding effect_of
color_kind x k = refl

pub placed : (s : CountingContext) (x : ClientContext) (place : ℕ) (u v : ℤ) → s ≡ counted x
    → record { outside = record s.outside { s = u; t = v }; vertices = s.vertices } ≡ counted (issued x place (cmd.TexCoord u v))
unfolding issued
placed s x place u v is = ap (λ (t : CountingContext). record { outside = record t.outside { s = u; t = v }; vertices = t.vertices }) is

pub coordinate_kind : (x : ClientContext) (u v : ℤ) → kind.Quiet ≡ kind_of (effect_of x (cmd.TexCoord u v))
unfolding effect_of
coordinate_kind x u v = refl

pub end_accepted : (x : ClientContext) (b : Block) → x.block ≡ Some b → fault_of x cmd.End ≡ None
end_accepted x b e = rw e refl

pub closed : (s : CountingContext) (x : ClientContext) (place : ℕ) → fault_of x cmd.End ≡ None → s ≡ counted x
    → record { outside = s.outside; vertices = None } ≡ counted (issued x place cmd.End)
unfolding issued
closed s x place e is =
    ap (λ (t : CountingContext). record { outside = t.outside; vertices = None }) is
    ∙ ap (λ (o : Option Fault). counted (option_map_or (refused x place) o (record x { block = None }))) (sym e)

pub end_kind : (x : ClientContext) (b : Block) → x.block ≡ Some b → fault_of x cmd.End ≡ None → kind.Block ≡ kind_of (effect_of x cmd.End)
unfolding effect_of
end_kind x b begun e =
    ap (λ (o : Option Block). kind_of (option_map_or (λ (c : Block). eff.Block c) o eff.Quiet)) (sym begun)
    ∙ ap (λ (o : Option Fault). kind_of (option_map_or (λ (g : Fault). eff.Refused g) o (option_map_or (λ (c : Block). eff.Block c) x.block eff.Quiet))) (sym e)

-- all others may not
pub misplaced : (x : ClientContext) (b : Block) (c : Command) → x.block ≡ Some b → (c ≡ cmd.End → ⊥) → ((p : List ℤ) → c ≡ cmd.Vertex p → ⊥)
    → ((k : Rgba) → c ≡ cmd.Color k → ⊥) → ((u v : ℤ) → c ≡ cmd.TexCoord u v → ⊥) → fault_of x c ≡ Some InvalidOperation
misplaced x b cmd.End e f g h k = absurd (f refl)
misplaced x b (cmd.Vertex p) e f g h k = absurd (g p refl)
misplaced x b (cmd.Color r) e f g h k = absurd (h r refl)
misplaced x b (cmd.TexCoord u v) e f g h k = absurd (k u v refl)
misplaced x b c e f g h k = rw e refl

-- ---- a block is opened

no_block : (o : Option Block) → None ≡ option_map (λ (b : Block). length b.vertices) o → o ≡ None
no_block None h = refl
no_block (Some b) h = absurd (cc)

pub none_open : (s : CountingContext) (x : ClientContext) → s.vertices ≡ None → s ≡ counted x → x.block ≡ None
none_open s x none is = no_block x.block (sym none ∙ ap (λ (t : CountingContext). t.vertices) is)

pub begin_accepted : (x : ClientContext) (mode : ℕ) → x.block ≡ None → has_codes (cmd.Begin mode) ≡ true → fault_of x (cmd.Begin mode) ≡ None
begin_accepted x mode none codes = rw (none, codes) refl

pub opened : (s : CountingContext) (x : ClientContext) (place mode : ℕ) → fault_of x (cmd.Begin mode) ≡ None → s ≡ counted x
    → record { outside = s.outside; vertices = Some 0 } ≡ counted (issued x place (cmd.Begin mode))
unfolding issued
opened s x place mode e is =
    ap (λ (t : CountingContext). record { outside = t.outside; vertices = Some 0 }) is
    ∙ ap (λ (o : Option Fault). counted (option_map_or (refused x place) o (carried_out x (cmd.Begin mode)))) (sym e)

pub begin_kind : (x : ClientContext) (mode : ℕ) → fault_of x (cmd.Begin mode) ≡ None → kind.Quiet ≡ kind_of (effect_of x (cmd.Begin mode))
unfolding effect_of
begin_kind x mode e = ap (λ (o : Option Fault). kind_of (option_map_or (λ (g : Fault). eff.Refused g) o eff.Quiet)) (sym e)

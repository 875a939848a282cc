use Rattle.std.proofs.Common.{◌≡◌, Bool, None, Some, sym, ap, ◌∙◌, if◌then◌else◌}
use Rattle.rc_base.specs.Contexts.Context.{ClientContext}
use Rattle.rc_base.specs.Contexts.Faults.{fault_of}
use Rattle.rc_base.specs.Contexts.Issue.{issued, effect_of}
use Rattle.rc_base.specs.declared.command.Command.{Command}
use Rattle.rc_base.specs.declared.command.Command.TheVariants as cmd
use Rattle.rc_base.specs.declared.state.Fault.TheVariants.{InvalidValue}
use Rattle.gl_context.specs.Counted.{counted, kind_of}
use Rattle.gl_context.proofs.CountedBlocks.{open_block, vertex_fault, accepted_vertex, vertex_kind, colored, color_kind, placed, coordinate_kind}
use Rattle.gl_context.proofs.counting.CountingContext.count_quiet.Goals as goal

-- ---- a vertex

pub returns-then-has_vertex_room-clause-kind : goal.returns-then-has_vertex_room-clause-kind
returns-then-has_vertex_room-clause-kind c h x is =
    let b = open_block c.args.self.now x c.in-Some.count c.in-Some.is is in
    let passes : fault_of x (cmd.Vertex c.in-Vertex.pos) ≡ None =
    sym (vertex_fault x c.in-Vertex.pos b.0 c.in-Some.count b.1 b.2) ∙ ap (λ (r : Bool). if r then None else Some InvalidValue) (sym c.has_vertex_room.ensures ∙ c.if-has_vertex_room.true) in
    vertex_kind x c.in-Vertex.pos passes ∙ ap (λ (d : Command). kind_of (effect_of x d)) (sym c.in-Vertex.is)

pub returns-then-has_vertex_room-clause-issued : goal.returns-then-has_vertex_room-clause-issued
returns-then-has_vertex_room-clause-issued c h place x is =
    let b = open_block c.args.self.now x c.in-Some.count c.in-Some.is is in
    let passes : fault_of x (cmd.Vertex c.in-Vertex.pos) ≡ None =
    sym (vertex_fault x c.in-Vertex.pos b.0 c.in-Some.count b.1 b.2) ∙ ap (λ (r : Bool). if r then None else Some InvalidValue) (sym c.has_vertex_room.ensures ∙ c.if-has_vertex_room.true) in
    accepted_vertex c.args.self.now x place c.in-Vertex.pos c.in-Some.count passes c.in-Some.is is
    ∙ ap (λ (d : Command). counted (issued x place d)) (sym c.in-Vertex.is)

-- ---- the others

pub returns-in-Color-clause-kind : goal.returns-in-Color-clause-kind
returns-in-Color-clause-kind c h x is = color_kind x c.in-Color.color ∙ ap (λ (d : Command). kind_of (effect_of x d)) (sym c.in-Color.is)

pub returns-in-Color-clause-issued : goal.returns-in-Color-clause-issued
returns-in-Color-clause-issued c h place x is =
    ap (λ (y : ClientContext). record { outside = y; vertices = c.args.self.now.vertices }) c.set_color.ensures
    ∙ colored c.args.self.now x place c.in-Color.color is ∙ ap (λ (d : Command). counted (issued x place d)) (sym c.in-Color.is)

pub returns-in-TexCoord-clause-kind : goal.returns-in-TexCoord-clause-kind
returns-in-TexCoord-clause-kind c h x is = coordinate_kind x c.in-TexCoord.s c.in-TexCoord.t ∙ ap (λ (d : Command). kind_of (effect_of x d)) (sym c.in-TexCoord.is)

pub returns-in-TexCoord-clause-issued : goal.returns-in-TexCoord-clause-issued
returns-in-TexCoord-clause-issued c h place x is =
    ap (λ (y : ClientContext). record { outside = y; vertices = c.args.self.now.vertices }) c.set_coordinate.ensures
    ∙ placed c.args.self.now x place c.in-TexCoord.s c.in-TexCoord.t is ∙ ap (λ (d : Command). counted (issued x place d)) (sym c.in-TexCoord.is)

use Rattle.std.proofs.Common.{◌≡◌, sym, ap, ◌∙◌}
use Rattle.std.proofs.lemmas.Result.{IfOk-weaker}
use Rattle.rc_base.specs.Contexts.Context.{ClientContext}
use Rattle.rc_base.specs.Contexts.Issue.{issued, effect_of}
use Rattle.rc_base.specs.declared.command.Command.{Command}
use Rattle.rc_base.specs.declared.command.Command.TheVariants as cmd
use Rattle.rc_base.specs.declared.state.Fault.TheVariants.{InvalidOperation}
use Rattle.gl_context.specs.Counted.{counted, kind_of}
use Rattle.gl_context.specs.declared.counting.EffectKind.{EffectKind}
use Rattle.gl_context.specs.declared.counting.EffectKind.TheVariants as kind
use Rattle.gl_context.proofs.CountedBlocks.{open_block, vertex_fault, refused_counted, refused_kind, accepted_vertex, vertex_kind, colored, color_kind, placed, coordinate_kind, end_accepted, closed, end_kind, misplaced}
use Rattle.gl_context.proofs.counting.CountingContext.issue_inside.Goals as goal

-- ---- a vertex

pub returns-in-Some-clause-kind : goal.returns-in-Some-clause-kind
returns-in-Some-clause-kind c =
    IfOk-weaker c.refuse.result (λ (k : EffectKind). k ≡ kind.Refused) (λ (k : EffectKind). (x : ClientContext) → c.args.self.now ≡ counted x → k ≡ kind_of (effect_of x c.args.command.now))
    (λ k refused x is.
    let b = open_block c.args.self.now x c.args.count c.requires is in
    refused ∙ refused_kind x (cmd.Vertex c.in-Vertex.pos) c.in-Some.fault (sym (c.in-Some.ensures ∙ vertex_fault x c.in-Vertex.pos b.0 c.args.count b.1 b.2))
    ∙ ap (λ (d : Command). kind_of (effect_of x d)) (sym c.in-Vertex.is)) c.refuse.ensures.kind

pub returns-in-Some-clause-ok : goal.returns-in-Some-clause-ok
returns-in-Some-clause-ok c =
    IfOk-weaker c.refuse.result (λ (k : EffectKind). _) (λ (k : EffectKind). (x : ClientContext) → c.args.self.now ≡ counted x → c.refuse.new.self ≡ counted (issued x c.args.place c.args.command.now))
    (λ k step x is.
    let b = open_block c.args.self.now x c.args.count c.requires is in
    refused_counted c.args.self.now c.refuse.new.self x c.args.place (cmd.Vertex c.in-Vertex.pos) c.in-Some.fault
    (sym (c.in-Some.ensures ∙ vertex_fault x c.in-Vertex.pos b.0 c.args.count b.1 b.2)) is step
    ∙ ap (λ (d : Command). counted (issued x c.args.place d)) (sym c.in-Vertex.is)) c.refuse.ensures.context.0

pub returns-in-None-clause-kind : goal.returns-in-None-clause-kind
returns-in-None-clause-kind c x is =
    let b = open_block c.args.self.now x c.args.count c.requires is in
    vertex_kind x c.in-Vertex.pos (sym (c.in-None.ensures ∙ vertex_fault x c.in-Vertex.pos b.0 c.args.count b.1 b.2))
    ∙ ap (λ (d : Command). kind_of (effect_of x d)) (sym c.in-Vertex.is)

pub returns-in-None-clause-ok : goal.returns-in-None-clause-ok
returns-in-None-clause-ok c x is =
    let b = open_block c.args.self.now x c.args.count c.requires is in
    accepted_vertex c.args.self.now x c.args.place c.in-Vertex.pos c.args.count
    (sym (c.in-None.ensures ∙ vertex_fault x c.in-Vertex.pos b.0 c.args.count b.1 b.2)) c.requires is
    ∙ ap (λ (d : Command). counted (issued x c.args.place d)) (sym c.in-Vertex.is)

-- ---- the others that may stand in a block

pub returns-in-Color-clause-kind : goal.returns-in-Color-clause-kind
returns-in-Color-clause-kind c x is =
    color_kind x c.in-Color.color ∙ ap (λ (d : Command). kind_of (effect_of x d)) (sym c.in-Color.is)

pub returns-in-Color-clause-ok : goal.returns-in-Color-clause-ok
returns-in-Color-clause-ok c x is =
    ap (λ (y : ClientContext). record { outside = y; vertices = c.args.self.now.vertices }) c.set_color.ensures
    ∙ colored c.args.self.now x c.args.place c.in-Color.color is ∙ ap (λ (d : Command). counted (issued x c.args.place d)) (sym c.in-Color.is)

pub returns-in-TexCoord-clause-kind : goal.returns-in-TexCoord-clause-kind
returns-in-TexCoord-clause-kind c x is =
    coordinate_kind x c.in-TexCoord.s c.in-TexCoord.t ∙ ap (λ (d : Command). kind_of (effect_of x d)) (sym c.in-TexCoord.is)

pub returns-in-TexCoord-clause-ok : goal.returns-in-TexCoord-clause-ok
returns-in-TexCoord-clause-ok c x is =
    ap (λ (y : ClientContext). record { outside = y; vertices = c.args.self.now.vertices }) c.set_coordinate.ensures
    ∙ placed c.args.self.now x c.args.place c.in-TexCoord.s c.in-TexCoord.t is ∙ ap (λ (d : Command). counted (issued x c.args.place d)) (sym c.in-TexCoord.is)

pub returns-in-End-clause-kind : goal.returns-in-End-clause-kind
returns-in-End-clause-kind c x is =
    let b = open_block c.args.self.now x c.args.count c.requires is in
    end_kind x b.0 b.1 (end_accepted x b.0 b.1) ∙ ap (λ (d : Command). kind_of (effect_of x d)) (sym c.in-End.is)

pub returns-in-End-clause-ok : goal.returns-in-End-clause-ok
returns-in-End-clause-ok c x is =
    let b = open_block c.args.self.now x c.args.count c.requires is in
    closed c.args.self.now x c.args.place (end_accepted x b.0 b.1) is ∙ ap (λ (d : Command). counted (issued x c.args.place d)) (sym c.in-End.is)

-- ---- all others are refused

pub returns-in_default-clause-kind : goal.returns-in_default-clause-kind
returns-in_default-clause-kind c =
    IfOk-weaker c.refuse-in_default.result (λ (k : EffectKind). k ≡ kind.Refused)
    (λ (k : EffectKind). (x : ClientContext) → c.args.self.now ≡ counted x → k ≡ kind_of (effect_of x c.args.command.now))
    (λ k refused x is.
    let b = open_block c.args.self.now x c.args.count c.requires is in
    refused ∙ refused_kind x c.args.command.now InvalidOperation
    (misplaced x b.0 c.args.command.now b.1 c.in_default.not-End c.in_default.not-Vertex c.in_default.not-Color c.in_default.not-TexCoord))
    c.refuse-in_default.ensures.kind

pub returns-in_default-clause-ok : goal.returns-in_default-clause-ok
returns-in_default-clause-ok c =
    IfOk-weaker c.refuse-in_default.result (λ (k : EffectKind). _)
    (λ (k : EffectKind). (x : ClientContext) → c.args.self.now ≡ counted x → c.refuse-in_default.new.self ≡ counted (issued x c.args.place c.args.command.now))
    (λ k step x is.
    let b = open_block c.args.self.now x c.args.count c.requires is in
    refused_counted c.args.self.now c.refuse-in_default.new.self x c.args.place c.args.command.now InvalidOperation
    (misplaced x b.0 c.args.command.now b.1 c.in_default.not-End c.in_default.not-Vertex c.in_default.not-Color c.in_default.not-TexCoord) is step)
    c.refuse-in_default.ensures.context.0

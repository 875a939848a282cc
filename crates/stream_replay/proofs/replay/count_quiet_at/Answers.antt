use Rattle.std.proofs.Common.{◌∙◌, FitsSigned, ap, rules, sym, to_z-of_z, w32}
use Rattle.rc_base.specs.Contexts.Issue.{context_after}
use Rattle.rc_base.specs.declared.command.Command.TheVariants as cmd
use Rattle.gl_context.specs.Counted.{counted, kind_of}
use Rattle.gl_context.proofs.OneMoreCommand.{goes_on}
use Rattle.stream_replay.proofs.replay.count_quiet_at.Goals as goal

pub returns-in-Vertex-clause-context : goal.returns-in-Vertex-clause-context
returns-in-Vertex-clause-context g c h =
    let s = g.S.SceneStore.scene c.args.scene.now in
    let x = context_after s c.args.client c.args.place in
    c.count_quiet.ensures.issued h c.args.place x c.requires.before ∙ ap counted (sym (goes_on s c.args.client c.args.place (cmd.Vertex c.in-Vertex.pos.now) c.in-Vertex.ensures).0)

pub returns-in-Vertex-clause-kind : goal.returns-in-Vertex-clause-kind
returns-in-Vertex-clause-kind g c h =
    let s = g.S.SceneStore.scene c.args.scene.now in
    let x = context_after s c.args.client c.args.place in
    c.count_quiet.ensures.kind h x c.requires.before ∙ ap kind_of (sym (goes_on s c.args.client c.args.place (cmd.Vertex c.in-Vertex.pos.now) c.in-Vertex.ensures).1)

pub returns-in-Color-clause-context : goal.returns-in-Color-clause-context
returns-in-Color-clause-context g c h =
    let s = g.S.SceneStore.scene c.args.scene.now in
    let x = context_after s c.args.client c.args.place in
    c.count_quiet-in-Color.ensures.issued h c.args.place x c.requires.before ∙ ap counted (sym (goes_on s c.args.client c.args.place (cmd.Color c.in-Color.color.now) c.in-Color.ensures).0)

pub returns-in-Color-clause-kind : goal.returns-in-Color-clause-kind
returns-in-Color-clause-kind g c h =
    let s = g.S.SceneStore.scene c.args.scene.now in
    let x = context_after s c.args.client c.args.place in
    c.count_quiet-in-Color.ensures.kind h x c.requires.before ∙ ap kind_of (sym (goes_on s c.args.client c.args.place (cmd.Color c.in-Color.color.now) c.in-Color.ensures).1)

pub returns-in-TexCoord-clause-context : goal.returns-in-TexCoord-clause-context
returns-in-TexCoord-clause-context g c h =
    let s = g.S.SceneStore.scene c.args.scene.now in
    let x = context_after s c.args.client c.args.place in
    let low : FitsSigned w32 c.in-TexCoord.s.now = search rules in
    let high : FitsSigned w32 c.in-TexCoord.t.now = search rules in
    let told = rw (to_z-of_z low, to_z-of_z high) at (c.count_quiet-in-TexCoord.ensures.issued h c.args.place x c.requires.before) in
    told ∙ ap counted (sym (goes_on s c.args.client c.args.place (cmd.TexCoord c.in-TexCoord.s.now c.in-TexCoord.t.now) c.in-TexCoord.ensures).0)

pub returns-in-TexCoord-clause-kind : goal.returns-in-TexCoord-clause-kind
returns-in-TexCoord-clause-kind g c h =
    let s = g.S.SceneStore.scene c.args.scene.now in
    let x = context_after s c.args.client c.args.place in
    let low : FitsSigned w32 c.in-TexCoord.s.now = search rules in
    let high : FitsSigned w32 c.in-TexCoord.t.now = search rules in
    let told = rw (to_z-of_z low, to_z-of_z high) at (c.count_quiet-in-TexCoord.ensures.kind h x c.requires.before) in
    told ∙ ap kind_of (sym (goes_on s c.args.client c.args.place (cmd.TexCoord c.in-TexCoord.s.now c.in-TexCoord.t.now) c.in-TexCoord.ensures).1)

pub returns-in-Begin-clause-context : goal.returns-in-Begin-clause-context
returns-in-Begin-clause-context g c h =
    let s = g.S.SceneStore.scene c.args.scene.now in
    let x = context_after s c.args.client c.args.place in
    c.count_begin.ensures.issued h c.args.place x c.requires.before ∙ ap counted (sym (goes_on s c.args.client c.args.place (cmd.Begin c.in-Begin.mode.now) c.in-Begin.ensures).0)

pub returns-in-Begin-clause-kind : goal.returns-in-Begin-clause-kind
returns-in-Begin-clause-kind g c h =
    let s = g.S.SceneStore.scene c.args.scene.now in
    let x = context_after s c.args.client c.args.place in
    c.count_begin.ensures.kind h x c.requires.before ∙ ap kind_of (sym (goes_on s c.args.client c.args.place (cmd.Begin c.in-Begin.mode.now) c.in-Begin.ensures).1)

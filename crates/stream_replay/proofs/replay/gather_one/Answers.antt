use Rattle.std.proofs.Common.{◌∙◌, FitsSigned, arith, ap, rules, sym, to_z-of_z, w32}
use Rattle.rc_base.specs.Contexts.Context.{ClientContext}
use Rattle.rc_base.specs.Contexts.Issue.{issued}
use Rattle.rc_base.specs.declared.command.Command.TheVariants as cmd
use Rattle.rc_base.proofs.WithinLimits.{few_commands}
use Rattle.gl_context.proofs.OneMoreCommand.{goes_on}
use Rattle.stream_replay.proofs.replay.gather_one.Goals as goal

pub overflow_cast-place : goal.overflow_cast-place
overflow_cast-place g c = let few = few_commands (g.S.SceneStore.scene c.args.scene.now) c.requires.within.limits c.args.client in omega (arith, few, c.requires.inside)

pub returns-in_ok-vertex-in-Vertex-clause-issued : goal.returns-in_ok-vertex-in-Vertex-clause-issued
returns-in_ok-vertex-in-Vertex-clause-issued g c h =
    let s = g.S.SceneStore.scene c.args.scene.now in
    let client = c.args.client in
    let place = c.args.place in
    let command = cmd.Vertex c.in-Vertex.pos.now in
    c.in_ok-vertex-in-Vertex.ensures.ok ∙ ap (λ (x : ClientContext). issued x place command) c.requires.before ∙ sym (goes_on s client place command c.in-Vertex.ensures).0

pub returns-in-Color-clause-issued : goal.returns-in-Color-clause-issued
returns-in-Color-clause-issued g c h =
    let s = g.S.SceneStore.scene c.args.scene.now in
    let client = c.args.client in
    let place = c.args.place in
    let command = cmd.Color c.in-Color.color.now in
    c.color.ensures place ∙ ap (λ (x : ClientContext). issued x place command) c.requires.before ∙ sym (goes_on s client place command c.in-Color.ensures).0

pub returns-in-TexCoord-clause-issued : goal.returns-in-TexCoord-clause-issued
returns-in-TexCoord-clause-issued g c h =
    let s = g.S.SceneStore.scene c.args.scene.now in
    let client = c.args.client in
    let place = c.args.place in
    let command = cmd.TexCoord c.in-TexCoord.s.now c.in-TexCoord.t.now in
    let low : FitsSigned w32 c.in-TexCoord.s.now = search rules in
    let high : FitsSigned w32 c.in-TexCoord.t.now = search rules in
    let done = rw (to_z-of_z low, to_z-of_z high) at (c.tex_coord.ensures place) in
    done ∙ ap (λ (x : ClientContext). issued x place command) c.requires.before ∙ sym (goes_on s client place command c.in-TexCoord.ensures).0

pub returns-in-Begin-clause-issued : goal.returns-in-Begin-clause-issued
returns-in-Begin-clause-issued g c h =
    let s = g.S.SceneStore.scene c.args.scene.now in
    let client = c.args.client in
    let place = c.args.place in
    let command = cmd.Begin c.in-Begin.mode.now in
    c.begin.ensures.issued h place ∙ ap (λ (x : ClientContext). issued x place command) c.requires.before ∙ sym (goes_on s client place command c.in-Begin.ensures).0

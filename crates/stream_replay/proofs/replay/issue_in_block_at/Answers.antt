use Rattle.std.proofs.Common.{FitsSigned, arith, refl, rules, sym, subst, to_z-of_z, w32}
use Rattle.rc_base.specs.Contexts.Issue.{context_after}
use Rattle.rc_base.specs.declared.command.Command.TheVariants as cmd
use Rattle.rc_base.specs.declared.state.Effect.{Effect}
use Rattle.rc_base.proofs.WithinLimits.{few_commands}
use Rattle.stream_replay.specs.Clients.{IsStill}
use Rattle.stream_replay.proofs.BlockCommands.{behind, does, still_vertex, still_color, still_coordinate}
use Rattle.stream_replay.proofs.replay.issue_in_block_at.Goals as goal

pub overflow_cast-place : goal.overflow_cast-place
overflow_cast-place g c = let few = few_commands (g.S.SceneStore.scene c.args.scene.now) c.requires.within.limits c.args.client in omega (arith, few, c.requires.inside)

pub returns-in_ok-vertex-in-Vertex-clause-issued : goal.returns-in_ok-vertex-in-Vertex-clause-issued
returns-in_ok-vertex-in-Vertex-clause-issued g c =
    let s = g.S.SceneStore.scene c.args.scene.now in
    let client = c.args.client in
    let place = c.args.place in
    let command = cmd.Vertex c.in-Vertex.pos.now in
    let at = c.in-Vertex.ensures in (
      behind s client place command c.args.context.now c.vertex.new.self at c.requires.before c.in_ok-vertex-in-Vertex.ensures.ok refl,
      subst (λ (e : Effect). IsStill e) (sym (does s client place command at)) (still_vertex (context_after s client place) c.in-Vertex.pos.now),
    )

pub returns-in-Color-clause-issued : goal.returns-in-Color-clause-issued
returns-in-Color-clause-issued g c =
    let s = g.S.SceneStore.scene c.args.scene.now in
    let client = c.args.client in
    let place = c.args.place in
    let command = cmd.Color c.in-Color.color.now in
    let at = c.in-Color.ensures in (
      behind s client place command c.args.context.now c.color.new.self at c.requires.before (c.color.ensures place) refl,
      subst (λ (e : Effect). IsStill e) (sym (does s client place command at)) (still_color (context_after s client place) c.in-Color.color.now),
    )

pub returns-in-TexCoord-clause-issued : goal.returns-in-TexCoord-clause-issued
returns-in-TexCoord-clause-issued g c =
    let s = g.S.SceneStore.scene c.args.scene.now in
    let client = c.args.client in
    let place = c.args.place in
    let command = cmd.TexCoord c.in-TexCoord.s.now c.in-TexCoord.t.now in
    let at = c.in-TexCoord.ensures in
    let low : FitsSigned w32 c.in-TexCoord.s.now = search rules in
    let high : FitsSigned w32 c.in-TexCoord.t.now = search rules in
    let done = rw (to_z-of_z low, to_z-of_z high) at (c.tex_coord.ensures place) in (
      behind s client place command c.args.context.now c.tex_coord.new.self at c.requires.before done refl,
      subst (λ (e : Effect). IsStill e) (sym (does s client place command at)) (still_coordinate (context_after s client place) c.in-TexCoord.s.now c.in-TexCoord.t.now),
    )

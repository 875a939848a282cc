use Rattle.std.proofs.Common.{List, [], ◌∷◌, ◌++◌, refl, ap, ◌∙◌}
use Rattle.rc_base.specs.declared.command.Command.{Command}
use Rattle.rc_base.specs.declared.command.Command.TheVariants as cmd
use Rattle.scene_file.proofs.DrawsFromState.{state_later, vertex_later, six_added}
use Rattle.scene_file.proofs.generator.add_triangle.Goals as goal

pub returns-clause-stream : goal.returns-clause-stream
returns-clause-stream c =
    let seed = c.args.draws.now.state in
    let old = c.args.stream.now in
    let four = c.color-color.ensures.state in
    let six = c.vertex-first.ensures.state ∙ state_later seed 4 c.color-color.new.self.state four 2 6 refl in
    let eight = c.vertex-second.ensures.state ∙ state_later seed 6 c.vertex-first.new.self.state six 2 8 refl in
    let first = c.vertex-first.ensures.vertex ∙ vertex_later seed 4 c.color-color.new.self.state four 0 4 refl in
    let second = c.vertex-second.ensures.vertex ∙ vertex_later seed 6 c.vertex-first.new.self.state six 0 6 refl in
    let third = c.vertex-third.ensures.vertex ∙ vertex_later seed 8 c.vertex-second.new.self.state eight 0 8 refl in
    let added = λ (x : Command) (l : List Command). l ++ x ∷ [] in
    c.in_ok-push-6.ensures.items ∙ ap (added cmd.End) (c.in_ok-push-5.ensures.items ∙ ap (added c.vertex-third.result) (c.in_ok-push-4.ensures.items
    ∙ ap (added c.vertex-second.result) (c.in_ok-push-3.ensures.items ∙ ap (added c.vertex-first.result) (c.in_ok-push-2.ensures.items
    ∙ ap (added (cmd.Begin 0)) c.in_ok-push.ensures.items))))
    ∙ six_added old (cmd.Color c.color-color.result) (cmd.Begin 0) c.vertex-first.result c.vertex-second.result c.vertex-third.result cmd.End
    ∙ (λ i. old ++ (cmd.Color (c.color-color.ensures.color i) ∷ cmd.Begin 0 ∷ first i ∷ second i ∷ third i ∷ cmd.End ∷ []))

pub returns-clause-draws : goal.returns-clause-draws
returns-clause-draws c =
    let seed = c.args.draws.now.state in
    let six = c.vertex-first.ensures.state ∙ state_later seed 4 c.color-color.new.self.state c.color-color.ensures.state 2 6 refl in
    let eight = c.vertex-second.ensures.state ∙ state_later seed 6 c.vertex-first.new.self.state six 2 8 refl in
    c.vertex-third.ensures.state ∙ state_later seed 8 c.vertex-second.new.self.state eight 2 10 refl

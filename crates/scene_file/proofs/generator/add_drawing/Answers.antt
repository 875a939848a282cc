use Rattle.std.proofs.Common.{◌≡◌, ◌*◌, true, false, sym, ap, ◌∙◌}
use Rattle.std.specs.Prelude.{◌==◌, if◌then◌else◌}
use Rattle.scene_file.specs.Generator.{drawn_state, is_lone, lone_client}
use Rattle.scene_file.proofs.DrawsFromState.{state_none}
use Rattle.scene_file.proofs.generator.add_drawing.Goals as goal

pub returns-else-draws_alone-clause-draws : goal.returns-else-draws_alone-clause-draws
returns-else-draws_alone-clause-draws c =
    let lone : true ≡ is_lone c.args.round = c.if-not-is_lone.ensures in
    let other : false ≡ (lone_client c.args.round == c.args.client) = c.if-draws_alone.ensures in
    sym (state_none c.args.draws.now.state) ∙ ap (drawn_state c.args.draws.now.state) (λ i. 10 * (if lone i then (if other i then 1 else 0) else 1))

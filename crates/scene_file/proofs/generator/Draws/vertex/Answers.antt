use Rattle.std.proofs.Common.{[], ◌∷◌, refl, ◌∙◌, rules}
use Rattle.std.specs.Prelude.{pos}
use Rattle.std.specs.Int.{w32}
use Rattle.std.proofs.lemmas.Int.{to_z-of_z}
use mir.Val.{SFits}
use Rattle.rc_base.specs.declared.command.Command.TheVariants as cmd
use Rattle.scene_file.proofs.DrawsFromState.{state_later, coordinate_later}
use Rattle.scene_file.proofs.generator.Draws.vertex.Goals as goal

pub returns-clause-vertex : goal.returns-clause-vertex
returns-clause-vertex c =
    let fits_x : SFits w32 c.coordinate-x.result = search rules in
    let fits_y : SFits w32 c.coordinate-y.result = search rules in
    let x = c.coordinate-x.ensures.coordinate in
    let y = c.coordinate-y.ensures.coordinate ∙ coordinate_later c.args.self.now.state 1 c.coordinate-x.new.self.state c.coordinate-x.ensures.state 0 1 refl in
    simp to_z-of_z (λ i. cmd.Vertex (x i ∷ y i ∷ pos 0 ∷ pos 65536 ∷ []))

pub returns-clause-state : goal.returns-clause-state
returns-clause-state c = c.coordinate-y.ensures.state ∙ state_later c.args.self.now.state 1 c.coordinate-x.new.self.state c.coordinate-x.ensures.state 1 2 refl

use Rattle.std.proofs.Common.{refl, ◌∙◌}
use Rattle.rc_base.specs.Colors.{rgba}
use Rattle.scene_file.proofs.DrawsFromState.{state_later, channel_later}
use Rattle.scene_file.proofs.generator.Draws.color.Goals as goal

pub returns-clause-color : goal.returns-clause-color
returns-clause-color c =
    let seed = c.args.self.now.state in
    let one = c.channel-r.ensures.state in
    let two = c.channel-g.ensures.state ∙ state_later seed 1 c.channel-r.new.self.state one 1 2 refl in
    let three = c.channel-b.ensures.state ∙ state_later seed 2 c.channel-g.new.self.state two 1 3 refl in
    let g = c.channel-g.ensures.channel ∙ channel_later seed 1 c.channel-r.new.self.state one 0 1 refl in
    let b = c.channel-b.ensures.channel ∙ channel_later seed 2 c.channel-g.new.self.state two 0 2 refl in
    let a = c.channel-a.ensures.channel ∙ channel_later seed 3 c.channel-b.new.self.state three 0 3 refl in
    λ i. rgba (c.channel-r.ensures.channel i) (g i) (b i) (a i)

pub returns-clause-state : goal.returns-clause-state
returns-clause-state c =
    let seed = c.args.self.now.state in
    let two = c.channel-g.ensures.state ∙ state_later seed 1 c.channel-r.new.self.state c.channel-r.ensures.state 1 2 refl in
    let three = c.channel-b.ensures.state ∙ state_later seed 2 c.channel-g.new.self.state two 1 3 refl in
    c.channel-a.ensures.state ∙ state_later seed 3 c.channel-b.new.self.state three 1 4 refl

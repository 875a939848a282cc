use Rattle.std.proofs.Common.{FitsSigned, [], ◌∷◌, ◌++◌, ◌∙◌, ap, rules, sym, to_z-of_z, w32}
use Rattle.rc_base.specs.declared.command.Command.{Command}
use Rattle.call_lists.proofs.CommandsMet.{plain_met}
use Rattle.call_lists.proofs.given.Given.meet_short.Goals as goal

pub returns-in-Vertex-clause-met : goal.returns-in-Vertex-clause-met
returns-in-Vertex-clause-met c h =
    let s = c.give_short.ensures in
    plain_met c.args.self.now c.give_short.new.self c.args.command.now c.payload_size.result c.payload_size.ensures.size
    (s.added h ∙ ap (λ (d : Command). c.args.self.now.commands ++ d ∷ []) (sym c.in-Vertex.is)) (s.few h) (s.counted h) (s.spent h)

pub returns-in-Color-clause-met : goal.returns-in-Color-clause-met
returns-in-Color-clause-met c h =
    let s = c.give_short-in-Color.ensures in
    plain_met c.args.self.now c.give_short-in-Color.new.self c.args.command.now c.payload_size-in-Color.result c.payload_size-in-Color.ensures.size
    (s.added h ∙ ap (λ (d : Command). c.args.self.now.commands ++ d ∷ []) (sym c.in-Color.is)) (s.few h) (s.counted h) (s.spent h)

pub returns-in-TexCoord-clause-met : goal.returns-in-TexCoord-clause-met
returns-in-TexCoord-clause-met c h =
    let s = c.give_short-in-TexCoord.ensures in
    let low : FitsSigned w32 c.in-TexCoord.s = search rules in
    let high : FitsSigned w32 c.in-TexCoord.t = search rules in
    let added = rw (to_z-of_z low, to_z-of_z high) at (s.added h) in
    plain_met c.args.self.now c.give_short-in-TexCoord.new.self c.args.command.now c.payload_size-in-TexCoord.result c.payload_size-in-TexCoord.ensures.size
    (added ∙ ap (λ (d : Command). c.args.self.now.commands ++ d ∷ []) (sym c.in-TexCoord.is)) (s.few h) (s.counted h) (s.spent h)

pub returns-in-Begin-clause-met : goal.returns-in-Begin-clause-met
returns-in-Begin-clause-met c h =
    let s = c.give_short-in-Begin.ensures in
    plain_met c.args.self.now c.give_short-in-Begin.new.self c.args.command.now c.payload_size-in-Begin.result c.payload_size-in-Begin.ensures.size
    (s.added h ∙ ap (λ (d : Command). c.args.self.now.commands ++ d ∷ []) (sym c.in-Begin.is)) (s.few h) (s.counted h) (s.spent h)

pub returns-in-End-clause-met : goal.returns-in-End-clause-met
returns-in-End-clause-met c h =
    let s = c.give_short-in-End.ensures in
    plain_met c.args.self.now c.give_short-in-End.new.self c.args.command.now c.payload_size-in-End.result c.payload_size-in-End.ensures.size
    (s.added h ∙ ap (λ (d : Command). c.args.self.now.commands ++ d ∷ []) (sym c.in-End.is)) (s.few h) (s.counted h) (s.spent h)

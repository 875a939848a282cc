use Rattle.std.proofs.Common.{◌≡◌, arith, subst}
use Rattle.sort_last.specs.Players.{HasPlayed}
use Rattle.sort_last.proofs.player.Player.draw_each.Goals as goal

pub draw_frame-requires-clause-frame : goal.draw_frame-requires-clause-frame
draw_frame-requires-clause-frame c = record { low = c.loop-frame.invariant.low; less = omega (arith, c.loop-frame-test.true) }

pub returns : goal.returns
returns c =
    let b = c.args.batch.now in
    let all : c.loop-frame.frame ≡ b.end = omega (arith, c.loop-frame-test.false, c.loop-frame.auto.frame-end, b.order) in
    subst (λ n. HasPlayed b c.args.client n c.loop-frame.self) all c.loop-frame.invariant.drawn

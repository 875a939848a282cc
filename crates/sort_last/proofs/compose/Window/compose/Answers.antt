use Rattle.std.proofs.Common.{◌≡◌, subst, arith}
use Rattle.sort_last.specs.Composed.{IsComposing}
use Rattle.sort_last.proofs.compose.Window.compose.Goals as goal

pub compose_frame-requires-clause-frame : goal.compose_frame-requires-clause-frame
compose_frame-requires-clause-frame c = record { low = c.loop-frame.invariant.low; less = omega (arith, c.loop-frame-test.true) }

pub returns : goal.returns
returns c =
    let b = c.args.batch.now in
    let all : c.loop-frame.frame ≡ b.end = omega (arith, c.loop-frame-test.false, c.loop-frame.auto.frame-end, b.order) in
    subst (λ n. IsComposing b n c.loop-frame.self) all c.loop-frame.invariant.composed

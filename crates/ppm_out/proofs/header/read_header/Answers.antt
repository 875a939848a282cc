use Rattle.std.proofs.Common.{◌+◌, ◌≡◌, length, refl, subst, arith}
use Rattle.rc_base.specs.Formats.Netpbm.{IsNoImage}
use Rattle.ppm_out.proofs.Walk.{begins, reads_on, reads_header, stops, ends_early}
use Rattle.ppm_out.proofs.header.read_header.Goals as goal

pub loop-at-init : goal.loop-at-init
loop-at-init c = begins c.args.bytes.now

pub returns-in-Nothing-clause-none : goal.returns-in-Nothing-clause-none
returns-in-Nothing-clause-none c = stops c.args.bytes.now c.loop-at.at c.loop-at.due c.loop-at.invariant c.loop-at-test.true c.in-Nothing.ensures

pub returns-in-Pixels-clause-header : goal.returns-in-Pixels-clause-header
returns-in-Pixels-clause-header c =
    reads_header c.args.bytes.now c.loop-at.at c.loop-at.due c.loop-at.invariant c.loop-at-test.true
    (record { width = c.in-Pixels.width; height = c.in-Pixels.height; len = c.loop-at.at + 1 }) refl c.in-Pixels.ensures

pub loop-at-preserved : goal.loop-at-preserved
loop-at-preserved c = reads_on c.args.bytes.now c.loop-at.at c.loop-at.due c.loop-at.invariant c.loop-at-test.true c.in-Header.next c.in-Header.ensures

pub returns-clause-none : goal.returns-clause-none
returns-clause-none c =
    let end : c.loop-at.at ≡ length c.args.bytes.now = omega arith in
    subst (IsNoImage c.args.bytes.now) end (ends_early c.args.bytes.now c.loop-at.at c.loop-at.due c.loop-at.invariant c.loop-at-test.false c.loop-at.auto.at-end)

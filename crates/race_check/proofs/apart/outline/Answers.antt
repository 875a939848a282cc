use Rattle.std.proofs.Common.{[], None}
use Rattle.std.specs.Prelude.{slice_index, slice_index_or}
use Rattle.happens_before.specs.Timelines.{before_at, clock_of}
use Rattle.race_check.specs.Outlines.{AreOutlined}
use Rattle.race_check.proofs.CarriedUses.{clock_is, passes_as}
use Rattle.race_check.proofs.OutlinesTell.{passes_outlines, quiet_outlined}
use Rattle.race_check.proofs.apart.outline.Goals as goal

pub returns-then-is_quiet-clause-apart : goal.returns-then-is_quiet-clause-apart
returns-then-is_quiet-clause-apart c t f effect =
    let d = c.args.decl.now in
    let n = c.args.name in
    let lists = c.args.timelines.now.clients.items in
    let o = c.args.outlines.now in
    let clock = before_at (slice_index_or lists n.client []) n.place in
    passes_as (AreOutlined f d.width d.height) f (slice_index clock) (clock_of lists n) n o o None (clock_is lists n)
    (quiet_outlined f d.width d.height clock n c.args.state.now c.args.effect.now o effect (c.is_quiet.ensures c.if-is_quiet.true c.args.state.now d.width d.height) c.requires.client)

pub returns-clause-apart : goal.returns-clause-apart
returns-clause-apart c t f effect =
    let d = c.args.decl.now in
    let n = c.args.name in
    let old = c.args.outlines.now in
    let new = c.mark.new.self in
    let clock = c.clock_of-clock.result in
    let e = c.mark.ensures in
    passes_as (AreOutlined f d.width d.height) f (slice_index clock) (clock_of c.args.timelines.now.clients.items n) n old new None c.clock_of-clock.ensures
    (passes_outlines f d.width d.height clock n c.args.state.now c.args.effect.now c.reach_of-reach.result old new effect c.reach_of-reach.ensures (c.is_counted.ensures c.if-not-is_counted.false)
    c.requires.client e.rows e.columns e.writers e.readers)

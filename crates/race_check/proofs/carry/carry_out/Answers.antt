use Rattle.std.proofs.Common.{subst}
use Rattle.std.specs.Prelude.{slice_index}
use Rattle.happens_before.specs.Timelines.{clock_of}
use Rattle.race_check.specs.Uses.{AreTables, HasEffect}
use Rattle.race_check.proofs.CarriedUses.{passes_as, quiet_passes}
use Rattle.race_check.proofs.Reaches.{quiet_reach}
use Rattle.race_check.proofs.carry.carry_out.Goals as goal

pub returns-then-is_quiet-clause-carried : goal.returns-then-is_quiet-clause-carried
returns-then-is_quiet-clause-carried c f effect =
    let d = c.args.decl.now in
    let n = c.args.name in
    quiet_passes f d.width d.height (clock_of c.args.timelines.now.clients.items n) n c.args.state.now c.args.effect.now c.args.marks.now effect
    (c.is_quiet.ensures c.if-is_quiet.true c.args.state.now d.width d.height) c.requires.client

pub returns-in-Block-clause-carried : goal.returns-in-Block-clause-carried
returns-in-Block-clause-carried c f effect =
    let d = c.args.decl.now in
    let n = c.args.name in
    passes_as (AreTables f d.width d.height) f (slice_index c.clock_of.result) (clock_of c.args.timelines.now.clients.items n) n c.args.marks.now c.carry_block.new.marks c.carry_block.result c.clock_of.ensures
    (c.carry_block.ensures.visited f (subst (HasEffect f n d.width d.height c.args.state.now) c.in-Block.is effect))

pub returns-in-Clear-clause-carried : goal.returns-in-Clear-clause-carried
returns-in-Clear-clause-carried c f effect =
    let d = c.args.decl.now in
    let n = c.args.name in
    passes_as (AreTables f d.width d.height) f (slice_index c.clock_of.result) (clock_of c.args.timelines.now.clients.items n) n c.args.marks.now c.carry_clear.new.marks c.carry_clear.result c.clock_of.ensures
    (c.carry_clear.ensures.visited f (subst (HasEffect f n d.width d.height c.args.state.now) c.in-Clear.is effect))

pub returns-in-Shared-clause-carried : goal.returns-in-Shared-clause-carried
returns-in-Shared-clause-carried c f effect =
    let d = c.args.decl.now in
    let n = c.args.name in
    passes_as (AreTables f d.width d.height) f (slice_index c.clock_of.result) (clock_of c.args.timelines.now.clients.items n) n c.args.marks.now c.carry_part.new.marks c.carry_part.result c.clock_of.ensures
    (c.carry_part.ensures.visited f (subst (HasEffect f n d.width d.height c.args.state.now) c.in-Shared.is effect))

pub returns-in_default-clause-carried : goal.returns-in_default-clause-carried
returns-in_default-clause-carried c f effect =
    let d = c.args.decl.now in
    let n = c.args.name in
    let e = c.args.effect.now in
    quiet_passes f d.width d.height (clock_of c.args.timelines.now.clients.items n) n c.args.state.now e c.args.marks.now effect
    (quiet_reach e c.in_default.not-Block c.in_default.not-Clear c.in_default.not-Shared c.args.state.now d.width d.height) c.requires.client

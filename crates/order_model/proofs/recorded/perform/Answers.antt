use Rattle.std.proofs.Common.{arith, cond, get_or, slice_index, ◌+◌, ap, ◌∙◌}
use Rattle.std.proofs.lemmas.List.{get_or_default}
use Rattle.rc_base.specs.Orders.Journal.{is_member}
use Rattle.rc_base.specs.declared.sync.Entry.{Entry}
use Rattle.rc_base.specs.declared.sync.Entry.TheVariants.{Meet}
use Rattle.order_model.proofs.RecordedByCounts.{used_least, used_step, perform_step}
use Rattle.order_model.proofs.recorded.perform.Goals as goal

pub advance-requires : goal.advance-requires
advance-requires c k =
    omega (arith, used_least c.args.syncs.now c.args.journal.now c.args.recording.now.read c.args.recording.now.used c.requires.counted.clients c.requires.counted.operations k)

pub returns-clause-counted : goal.returns-clause-counted
returns-clause-counted c =
    let js = c.args.journal.now in
    let k = c.args.recording.now.read in
    let e : Entry = get_or js k (Meet 0 0) in
    record {
      within = omega arith;
      clients = c.advance.array_long.1;
      operations = used_step c.args.syncs.now js k e c.args.recording.now.used c.advance.new.used (omega arith) (get_or_default js k (Meet 0 0) e (omega arith)) c.requires.counted.operations
          (λ d lt. c.advance.ensures d lt ∙ ap (λ n. cond (is_member n e d) (slice_index c.args.recording.now.used d + 1) (slice_index c.args.recording.now.used d)) c.clients_of.ensures);
      names = c.in_ok-add_members.ensures.counts;
    }

pub returns-clause-order : goal.returns-clause-order
returns-clause-order c =
    let js = c.args.journal.now in
    let k = c.args.recording.now.read in
    let e : Entry = get_or js k (Meet 0 0) in
    perform_step c.args.syncs.now js k e c.args.recording.now.used c.args.recording.now.order c.add_members.new.order c.requires.clients (omega arith) (get_or_default js k (Meet 0 0) e (omega arith))
    c.requires.counted.operations c.in_ok-add_members.ensures.order

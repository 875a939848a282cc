use Rattle.std.proofs.Common.{◌≡◌, ◌+◌, ◌<◌, ℕ, cond, arith, get_or, slice_index, option_to_list, ◌++◌, take, sym, ap, ◌∙◌, subst}
use Rattle.std.proofs.lemmas.List.{get_or_default}
use Rattle.rc_base.specs.Orders.Journal.{is_member}
use Rattle.rc_base.specs.Orders.Sync.{client_count}
use Rattle.rc_base.specs.declared.sync.Entry.{Entry}
use Rattle.rc_base.specs.declared.sync.Entry.TheVariants.{Meet}
use Rattle.order_model.specs.Checked.{next_spot, unit_spots}
use Rattle.order_model.specs.Counted.{AreUsed}
use Rattle.order_model.proofs.RecordedByCounts.{used_least, used_step}
use Rattle.order_model.proofs.UnitsByWalks.{spots_more, still_passed}
use Rattle.order_model.proofs.spots.read_entry.Goals as goal

pub advance-requires : goal.advance-requires
advance-requires c k =
    let walk = c.args.walk.now in
    let most = used_least c.args.syncs.now c.args.journal.now walk.read walk.used c.requires.along.reads.clients c.requires.along.reads.operations k in
    omega (arith, most, ap (λ us. slice_index us k) c.next_spot-spot.ensures.walk.1)

pub returns-clause-next : goal.returns-clause-next
returns-clause-next c =
    let syncs = c.args.syncs.now in
    let js = c.args.journal.now in
    let o = c.args.order.now in
    let walk = c.args.walk.now in
    let k = walk.read in
    let e : Entry = get_or js k (Meet 0 0) in
    let is = get_or_default js k (Meet 0 0) e c.requires.more in
    let found = c.next_spot-spot.result in
    let new = c.next_spot-spot.new.walk in
    let same : new.used ≡ walk.used = c.next_spot-spot.ensures.walk.1 in
    let up : (d : ℕ) → d < 8 → slice_index c.advance.new.used d ≡ cond (is_member (client_count syncs) e d) (slice_index walk.used d + 1) (slice_index walk.used d) =
    λ d lt. c.advance.ensures d lt ∙ ap (λ n. cond (is_member n e d) (slice_index new.used d + 1) (slice_index new.used d)) c.clients_of.ensures
    ∙ ap (λ us. cond (is_member (client_count syncs) e d) (slice_index us d + 1) (slice_index us d)) same in
    record {
      walk = record {
        within = omega (arith, c.next_spot-spot.ensures.walk.0);
        clients = c.advance.array_long.0;
        operations = subst (λ r. AreUsed syncs (take (r + 1) js) c.advance.new.used) (sym c.next_spot-spot.ensures.walk.0) (used_step syncs js k e walk.used c.advance.new.used c.requires.more is c.requires.along.reads.operations up);
        passed = still_passed syncs o (client_count syncs) e walk.used c.advance.new.used new.spots c.requires.along.lists.lists up c.next_spot-spot.ensures.passed;
      };
      spot = spots_more syncs js o walk.used c.args.gives c.args.semaphore k e found c.requires.along.lists.clients c.requires.more is
          c.requires.along.reads.operations (c.next_spot-spot.ensures.spot ∙ ap (next_spot syncs o walk.used) c.unit_client.ensures)
          ∙ ap (λ r. option_to_list found ++ unit_spots syncs js o c.args.gives c.args.semaphore (r + 1)) (sym c.next_spot-spot.ensures.walk.0);
    }

use Rattle.std.proofs.Common.{◌≡◌, ◌+◌, ◌-◌, ◌&&◌, cond, arith, get_or, take, drop, sym, ap, ◌∙◌}
use Rattle.std.proofs.lemmas.List.{get_or_default}
use Rattle.rc_base.specs.Orders.Journal.{sync_state_after, is_member}
use Rattle.rc_base.specs.Orders.Order.{entries_from}
use Rattle.rc_base.specs.Orders.Sync.{client_count}
use Rattle.rc_base.specs.declared.sync.Entry.{Entry}
use Rattle.rc_base.specs.declared.sync.Entry.TheVariants.{Meet}
use Rattle.order_model.specs.Checked.{all_part}
use Rattle.order_model.specs.Counted.{place_or_end}
use Rattle.order_model.proofs.PartedPairs.{used_below, place_stays, part_turn}
use Rattle.order_model.proofs.SpotsOfNames.{first_rises}
use Rattle.order_model.proofs.UsedOperations.{used_more}
use Rattle.order_model.proofs.parted.all_part.Goals as goal

pub returns-then-not-are_parted : goal.returns-then-not-are_parted
returns-then-not-are_parted c =
    let syncs = c.args.syncs.now in
    let js = c.args.journal.now in
    let k = c.loop-entry.entry-index in
    let inv = c.loop-entry.invariant in
    let e : Entry = get_or js k (Meet 0 0) in
    let rest = all_part c.args.order.now c.args.a c.args.b (entries_from syncs (sync_state_after syncs (take (k + 1) js)) (drop (k + 1) js)) in
    let turn = part_turn syncs js c.args.order.now c.args.a c.args.b k e c.loop-entry.first.used c.loop-entry.second.used c.are_parted.result c.loop-entry-test.true
    (get_or_default js k (Meet 0 0) e c.loop-entry-test.true) inv.first_used inv.second_used c.are_parted.ensures.result in
    sym (ap (λ b. b && rest) c.if-not-are_parted.true) ∙ sym turn ∙ inv.rest

pub used_after-requires-clause-number : goal.used_after-requires-clause-number
used_after-requires-clause-number c =
    omega (arith, c.are_parted.ensures.used.0, c.loop-entry.invariant.first_used, used_below (client_count c.args.syncs.now) c.args.a c.args.journal.now c.loop-entry.entry-index)

pub used_after-requires-in-loop-entry-clause-number : goal.used_after-requires-in-loop-entry-clause-number
used_after-requires-in-loop-entry-clause-number c =
    omega (arith, c.are_parted.ensures.used.1, c.loop-entry.invariant.second_used, used_below (client_count c.args.syncs.now) c.args.b c.args.journal.now c.loop-entry.entry-index)

pub loop-entry-preserved : goal.loop-entry-preserved
loop-entry-preserved c =
    let syncs = c.args.syncs.now in
    let n = client_count syncs in
    let js = c.args.journal.now in
    let o = c.args.order.now in
    let a = c.args.a in
    let b = c.args.b in
    let k = c.loop-entry.entry-index in
    let inv = c.loop-entry.invariant in
    let e : Entry = get_or js k (Meet 0 0) in
    let is : e ≡ get_or js k e = get_or_default js k (Meet 0 0) e c.loop-entry-test.true in
    let ua = c.loop-entry.first.used in
    let ub = c.loop-entry.second.used in
    let up_a : c.used_after.result ≡ cond (is_member n e a) (ua + 1) ua = c.used_after.ensures ∙ ap (λ u. cond (is_member n e a) (u + 1) u) c.are_parted.ensures.used.0 in
    let up_b : c.used_after-in-loop-entry.result ≡ cond (is_member n e b) (ub + 1) ub = c.used_after-in-loop-entry.ensures ∙ ap (λ u. cond (is_member n e b) (u + 1) u) c.are_parted.ensures.used.1 in
    let stays_a = place_stays syncs c.requires.lists e a ua c.used_after.result up_a in
    let stays_b = place_stays syncs c.requires.lists e b ub c.used_after-in-loop-entry.result up_b in
    let rest = all_part o a b (entries_from syncs (sync_state_after syncs (take (k + 1) js)) (drop (k + 1) js)) in
    let turn = part_turn syncs js o a b k e ua ub c.are_parted.result c.loop-entry-test.true is inv.first_used inv.second_used c.are_parted.ensures.result in
    record {
      first_used = up_a ∙ ap (λ u. cond (is_member n e a) (u + 1) u) inv.first_used ∙ sym (used_more n a js k e c.loop-entry-test.true is);
      second_used = up_b ∙ ap (λ u. cond (is_member n e b) (u + 1) u) inv.second_used ∙ sym (used_more n b js k e c.loop-entry-test.true is);
      first_spot = omega (arith, c.are_parted.ensures.first, first_rises o a (place_or_end syncs a ua - 1) (place_or_end syncs a c.used_after.result - 1) (omega (arith, stays_a)));
      second_spot = omega (arith, c.are_parted.ensures.second, first_rises o b (place_or_end syncs b ub + 1) (place_or_end syncs b c.used_after-in-loop-entry.result + 1) (omega (arith, stays_b)));
      rest = sym (ap (λ b. b && rest) c.if-not-are_parted.false) ∙ sym turn ∙ inv.rest;
    }

use Rattle.std.proofs.Common.{replicate, sym, ◌∙◌, true≢false}
use Rattle.order_model.specs.Checked.{runs_to}
use Rattle.order_model.proofs.CheckedOrders.{runs_to_reach, checked_permitted, permitted_parts, permitted_hands, permitted_runs, not_true}
use Rattle.order_model.proofs.permitted.permits.Goals as goal

pub returns-then-not-runs_to : goal.returns-then-not-runs_to
returns-then-not-runs_to c =
    let syncs = c.args.syncs.now in
    let js = c.args.journal.now in
    let o = c.args.order.now in
    let ends = c.reaches-ends in
    let run = runs_to_reach syncs js o ends.result ends.ensures.slots ends.ensures.ends in (
      λ h. absurd (true≢false (sym h)),
      λ p. absurd (not_true (runs_to ends.result (replicate 8 0) o) (sym c.runs_to.ensures ∙ c.if-not-runs_to.true) (run.1 (permitted_runs syncs js o p))),
    )

pub returns-then-not-entries_part : goal.returns-then-not-entries_part
returns-then-not-entries_part c = (
  λ h. absurd (true≢false (sym h)),
  λ p. absurd (not_true c.entries_part.result c.if-not-entries_part.true (c.entries_part.ensures.1 (permitted_parts c.args.syncs.now c.args.journal.now c.args.order.now c.requires.lists p))),
)

pub returns : goal.returns
returns c =
    let syncs = c.args.syncs.now in
    let js = c.args.journal.now in
    let o = c.args.order.now in
    let ends = c.reaches-ends in
    let run = runs_to_reach syncs js o ends.result ends.ensures.slots ends.ensures.ends in (
      λ h. checked_permitted syncs js o c.requires.lists (run.0 (sym c.runs_to.ensures ∙ c.if-not-runs_to.false)) (c.entries_part.ensures.0 c.if-not-entries_part.false) (c.all_hand_over.ensures.0 h),
      λ p. c.all_hand_over.ensures.1 (permitted_hands syncs js o c.requires.lists p),
    )

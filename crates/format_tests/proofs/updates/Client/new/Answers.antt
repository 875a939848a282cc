use Rattle.format_tests.proofs.Told.{told_at_first}
use Rattle.format_tests.proofs.updates.Client.new.Goals as goal

pub returns : goal.returns
returns g c =
    let context = rw c.expect-context.ensures at c.new.ensures in
    let count = rw c.expect-tracker.ensures at c.new-2.ensures.count in
    told_at_first c.commands_set_one_element.ensures.first c.streams_go_on_by_issue.ensures.first c.expect-tracker.result c.decl-decl.result c.expect-context.result
    context count (λ tile lt. rw c.expect-tracker.ensures at (c.new-2.ensures.told tile lt))

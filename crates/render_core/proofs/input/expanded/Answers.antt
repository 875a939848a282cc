use Rattle.std.proofs.Common.{◌≡◌, ◌≤◌, ◌∙◌, Ok, Err, refl, sym, subst}
use Rattle.rc_base.specs.Formats.Limits.{commands_in}
use Rattle.rc_base.specs.declared.scene.Scene.{Scene}
use Rattle.call_lists.specs.Expansion.{TellsTooLong}
use Rattle.call_lists.specs.Scenes.{met_in}
use Rattle.render_core.proofs.Inputs.{costs_too_long, counted, expanded_is, judged_whole, past_streams, read_window, stored_whole, streams_short}
use Rattle.render_core.proofs.input.expanded.Goals as goal

pub expand_all-requires : goal.expand_all-requires
expand_all-requires c = streams_short c.args.scene.decl c.args.scene.streams c.requires

pub check_streams-requires-clause-width : goal.check_streams-requires-clause-width
check_streams-requires-clause-width c =
    subst (λ (s : Scene). s.decl.width ≤ 2048) (sym c.new-scene.ensures) (read_window c.args.scene.decl c.args.scene.streams c.requires).0

pub check_streams-requires-clause-height : goal.check_streams-requires-clause-height
check_streams-requires-clause-height c =
    subst (λ (s : Scene). s.decl.height ≤ 2048) (sym c.new-scene.ensures) (read_window c.args.scene.decl c.args.scene.streams c.requires).1

pub check_streams-requires-clause-stored : goal.check_streams-requires-clause-stored
check_streams-requires-clause-stored c few =
    let scene = c.args.scene in
    let x = c.in-Ok.field-0 in
    subst (λ (s : Scene). commands_in s.streams ≡ x.count)
    (stored_whole scene c.requires c.costs_are_told.ensures x c.in-Ok.ensures.expanded c.in-Ok.ensures.within c.expansions_are_whole.ensures few ∙ sym c.new-scene.ensures)
    (counted scene c.requires c.costs_are_told.ensures x c.in-Ok.ensures.expanded c.in-Ok.ensures.within)

pub returns-in-Ok-check_streams-clause-means : goal.returns-in-Ok-check_streams-clause-means
returns-in-Ok-check_streams-clause-means c =
    let scene = c.args.scene in
    let x = c.in-Ok.field-0 in
    let told = c.costs_are_told.ensures in
    let whole = c.expansions_are_whole.ensures in
    let judged = judged_whole scene c.requires told x c.in-Ok.ensures.expanded c.in-Ok.ensures.within whole _ c.new-scene.ensures (Ok c.in-Ok-check_streams.field-0)
    c.in-Ok-check_streams.ensures.few c.in-Ok-check_streams.ensures.many in
    expanded_is scene c.requires told x c.in-Ok.ensures.expanded c.in-Ok.ensures.within whole _ c.new-scene.ensures refl judged

pub returns-in-Ok-clause-past : goal.returns-in-Ok-clause-past
returns-in-Ok-clause-past c =
    let scene = c.args.scene in
    let x = c.in-Ok.field-0 in
    let told = c.costs_are_told.ensures in
    let whole = c.expansions_are_whole.ensures in
    past_streams scene c.requires told x c.in-Ok.ensures.expanded c.in-Ok.ensures.within c.in-Err.limit
    (judged_whole scene c.requires told x c.in-Ok.ensures.expanded c.in-Ok.ensures.within whole _ c.new-scene.ensures (Err c.in-Err.limit)
    c.in-Err.ensures.few c.in-Err.ensures.many)

pub returns-in-Err-TooLong-clause-past : goal.returns-in-Err-TooLong-clause-past
returns-in-Err-TooLong-clause-past c =
    costs_too_long c.args.scene c.requires c.costs_are_told.ensures c.in-Err-TooLong.spent
    (subst (TellsTooLong 0 (met_in c.args.scene.streams)) c.in-Err-TooLong.field-0-is c.in-Err-TooLong.ensures.too_long)

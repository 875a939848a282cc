use Rattle.std.proofs.Common.{◌≡◌, ℕ, ◌∙◌, sym, ap, subst}
use Rattle.rc_base.specs.Orders.Journal.{waiting_of}
use Rattle.rc_base.specs.declared.sync.Waiting.{Waiting}
use Rattle.sync_manager.specs.Stored.{wait_at}
use Rattle.serial_render.specs.Turns.{IsSomeoneLeft}
use Rattle.serial_render.proofs.GrantedTurns.{front_all}
use Rattle.serial_render.proofs.LeftWaiting.{left_is_stuck, left_means_stuck, if_some_map}
use Rattle.serial_render.proofs.TurnsOfClients.{between_first, waits_alike}
use Rattle.serial_render.proofs.turns.turns_in_runs.Goals as goal

pub loop-progress-init : goal.loop-progress-init
loop-progress-init c =
    let new = c.in_ok-progress.ensures in
    let on = c.in_ok-advance.ensures in
    between_first c.args.syncs.now c.in_ok-progress.progress c.advance.new.self new.journal new.order on.way.way on.way.journal on.order on.settled

pub returns-clause-journal : goal.returns-clause-journal
returns-clause-journal c =
    let t = c.in_ok-turn.ensures.turns in
    c.into_journal.ensures ∙ front_all c.args.syncs.now _ t.journal (c.in_ok-turn.ensures.over c.if-not-branch.true)

pub returns-clause-waiting : goal.returns-clause-waiting
returns-clause-waiting c =
    let s = c.args.syncs.now in
    let t = c.in_ok-turn.ensures.turns in
    let stuck = c.stuck-waiting.ensures.exact s t.way.book t.way.is_book in
    let left = left_is_stuck s c.turn.new.self t (c.in_ok-turn.ensures.over c.if-not-branch.true) in
    let told = left_means_stuck s c.into_journal.result in (
      λ h. told.0 (subst (IsSomeoneLeft s) (sym c.into_journal.ensures) (left.0 (stuck.0 h))),
      λ h. stuck.1 (left.1 (subst (IsSomeoneLeft s) c.into_journal.ensures (told.1 h))),
    )

pub returns-clause-at : goal.returns-clause-at
returns-clause-at c =
    let s = c.args.syncs.now in
    let t = c.in_ok-turn.ensures.turns in
    if_some_map c.stuck-waiting.result _ (λ (w : Waiting). (client : ℕ) → wait_at w.at client ≡ waiting_of s c.into_journal.result client)
    (λ w h client. h s t.way.book t.way.is_book client ∙ waits_alike s c.turn.new.self t client ∙ ap (λ js. waiting_of s js client) (sym c.into_journal.ensures))
    c.stuck-waiting.ensures.waiting

pub advance-requires : goal.advance-requires
advance-requires c = record { way = c.in_ok-progress.ensures.way; clients = c.requires.clients; declared = c.requires.declared }

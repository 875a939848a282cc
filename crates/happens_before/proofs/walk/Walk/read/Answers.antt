use Rattle.std.proofs.Common.{◌≡◌, ◌+◌, ◌<◌, ℕ, cond, get_or, arith, sym, ap, ◌∙◌, subst}
use Rattle.std.specs.Prelude.{slice_index}
use Rattle.std.proofs.lemmas.Option.{slice_get-get_or}
use Rattle.rc_base.specs.Orders.Journal.{is_member}
use Rattle.rc_base.specs.Orders.Sync.{client_count}
use Rattle.rc_base.specs.declared.sync.Entry.{Entry}
use Rattle.rc_base.specs.declared.sync.Entry.TheVariants.{Meet}
use Rattle.order_model.proofs.RecordedByCounts.{used_least}
use Rattle.happens_before.specs.Timelines.{IsRead}
use Rattle.happens_before.proofs.WalkedEntries.{read_more}
use Rattle.happens_before.proofs.walk.Walk.read.Goals as goal

pub advance-requires : goal.advance-requires
advance-requires c k =
    let w = c.args.self.now in
    let most = used_least c.args.syncs.now c.args.journal.now w.read w.used c.requires.along.read.slots c.requires.along.read.operations k in
    omega (arith, most, ap (λ us. slice_index us k) c.in_ok-keep.ensures.far.1)

pub returns-clause-is : goal.returns-clause-is
returns-clause-is c =
    let w = c.args.self.now in
    let js = c.args.journal.now in
    let e : Entry = get_or js w.read (Meet 0 0) in
    let new = c.keep.new.self in
    let n = client_count c.args.syncs.now in
    let up : (d : ℕ) → d < 8 → slice_index c.advance.new.used d ≡ cond (is_member n e d) (slice_index w.used d + 1) (slice_index w.used d) =
    λ d lt. c.advance.ensures d lt ∙ ap (λ k. cond (is_member k e d) (slice_index new.used d + 1) (slice_index new.used d)) c.clients_of.ensures
    ∙ ap (λ us. cond (is_member n e d) (slice_index us d + 1) (slice_index us d)) c.in_ok-keep.ensures.far.1 in
    let more = read_more c.args.syncs.now js w.read e w.used c.advance.new.used w.semaphores.items new.semaphores.items w.timelines.clients.items new.timelines.clients.items
    (slice_get-get_or js w.read (Meet 0 0) c.requires.more) c.requires.along.read c.advance.array_long up c.in_ok-keep.ensures.kept in
    subst (λ k. IsRead c.args.syncs.now js (k + 1) c.advance.new.used new.semaphores.items new.timelines.clients.items) (sym c.in_ok-keep.ensures.far.0) more

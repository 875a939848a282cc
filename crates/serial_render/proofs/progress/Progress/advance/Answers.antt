use Rattle.std.proofs.Common.{◌+◌, ◌<◌, ◌∙◌, sym, subst, refl, arith}
use Rattle.rc_base.specs.Orders.Sync.{client_count}
use Rattle.sync_manager.specs.Books.{journal_in}
use Rattle.serial_render.proofs.TurnsOfClients.{AreAdvanced, advanced_more, advanced_skip}
use Rattle.serial_render.proofs.progress.Progress.advance.Goals as goal
use Rattle.serial_render.proofs.progress.Progress.advance.Goals.{then-is_wanted+in_ok-advance_client, else-is_wanted}

pub loop-client-init : goal.loop-client-init
loop-client-init c = record { way = c.requires.way; journal = refl; order = refl; settled = λ k lt. absurd (omega (arith, lt)) }

pub is_wanted-requires : goal.is_wanted-requires
is_wanted-requires c = omega (arith, c.loop-client.invariant.way.is_book.clients, c.loop-client-test.true, c.len-client-end.ensures)

pub loop-client-preserved : goal.loop-client-preserved
loop-client-preserved c =
    let s = c.args.syncs.now in
    let js = journal_in c.args.self.now.book in
    let o = c.args.self.now.order in
    let client = c.loop-client.client in
    let q = c.loop-client.self in
    let lt : client < client_count s = omega (arith, c.loop-client-test.true, c.len-client-end.ensures) in
    elim c.if-is_wanted.branch [
      | then-is_wanted+in_ok-advance_client w ↦
          subst (AreAdvanced s js o (client + 1)) (sym w.self-is)
          (advanced_more s js o client q w.advance_client.new.self lt c.loop-client.invariant w.in_ok-advance_client.ensures.way.way w.in_ok-advance_client.ensures.way.journal
          w.in_ok-advance_client.ensures.order w.in_ok-advance_client.ensures.settled w.in_ok-advance_client.ensures.others)
      | else-is_wanted w ↦
          subst (AreAdvanced s js o (client + 1)) (sym w.self-is) (advanced_skip s js o client q lt c.loop-client.invariant (sym c.is_wanted.ensures ∙ w.if-is_wanted.false))
    ]

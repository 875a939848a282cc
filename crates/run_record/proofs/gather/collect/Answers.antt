use Rattle.std.proofs.Common.{◌≡◌, ◌<◌, ℕ, List, length, ◌∙◌, sym, subst, arith}
use Rattle.std.specs.Prelude.{◌↔◌, IsSome, IfSome}
use Rattle.rc_base.specs.Orders.Book.{Book as Arrivals, waiting_in}
use Rattle.rc_base.specs.declared.sync.SyncLists.{SyncLists}
use Rattle.sync_manager.specs.Books.{IsBookOf, IsStuck}
use Rattle.sync_manager.specs.Stored.{wait_at}
use Rattle.sync_manager.specs.declared.book.Book.{Book}
use Rattle.rc_base.specs.Lists.{ArePaired}
use Rattle.run_record.specs.Gathering.{IsRowOf, AreFaultsOf, AreSums}
use Rattle.run_record.specs.Kept.{AreKept}
use Rattle.run_record.proofs.gather.collect.Goals as goal

pub returns : goal.returns
returns c =
    let kept = subst (λ (n : ℕ). AreKept c.args.clients.items n c.in_ok-lists.lists) (let a = c.len.ensures in omega (arith, a)) c.in_ok-lists.ensures in
    record {
      rows = subst (λ rows. ArePaired IsRowOf c.args.clients.items rows) (sym c.from_vec.ensures) kept.rows;
      counts = c.in_ok-counts.ensures ∙ c.as_slice.ensures;
      units = c.in_ok-units.ensures ∙ c.as_slice-2.ensures;
      faults_are = subst (λ faults. ArePaired AreFaultsOf c.args.clients.items faults) (sym c.from_vec-3.ensures) kept.faults;
      sums = subst (λ tallies. AreSums c.args.clients.items (length c.args.tiles.items) tallies) (sym c.from_vec-2.ensures) kept.tallies;
      logs = c.in_ok-logs.ensures;
      journal = c.into_journal-journal.ensures;
      stuck = subst (λ (k : Book). (syncs : SyncLists) (b : Arrivals) → IsBookOf syncs k b → IsSome c.stuck-waiting.result ↔ IsStuck syncs b) c.book.ensures c.stuck-waiting.ensures.exact;
      waits = subst (λ (k : Book). IfSome c.stuck-waiting.result (λ w. (syncs : SyncLists) (b : Arrivals) → IsBookOf syncs k b → (client : ℕ) → wait_at w.at client ≡ waiting_in syncs b client))
          c.book.ensures c.stuck-waiting.ensures.waiting;
    }

-- What a ledger stands for after each of its changes.
use Rattle.std.proofs.Common.{◌≡◌, ℕ, ◌+◌, Bool, false, cond, [], ◌∷◌, ◌++◌, Option, Some, None, refl, sym, ap, ◌∙◌, subst, slice_index_or}
use Rattle.rc_base.specs.Orders.Journal.{is_member}
use Rattle.rc_base.specs.declared.sync.Entry.{Entry}
use Rattle.order_model.specs.Standing.{Progress}
use Rattle.order_model.specs.declared.record.LogEntry.TheVariants.{Took, Performed}
use Rattle.tile_model.specs.Items.{after_performed, after_work}
use Rattle.order_model.proofs.JournalsInTurn.{performed_more, took_more}
use Rattle.tile_server.specs.Ledgers.{held_in, IsKnownOf, IsLedgerOf, IsLedgerStep, IsSameLedger}
use Rattle.tile_server.specs.declared.ledger.Ledger.{Ledger}

-- ---- the same

pub same_ledger : (short : Bool) (ledger later : Ledger) (p : Progress) → IsSameLedger ledger later → IsLedgerOf short ledger p
    → IsLedgerOf short later p
same_ledger short ledger later p s h = record {
  count = h.count ∙ sym s.clients;
  closed = λ client. h.closed client ∙ ap (λ xs. slice_index_or xs client false) (sym s.closed);
  no_more = h.no_more ∙ sym s.no_more;
  log = h.log ∙ sym s.log;
  whole = λ ample. let w = h.whole ample in record {
    held = λ client. w.held client ∙ ap (λ xs. slice_index_or xs client false) (sym s.held);
    known = subst (λ k. IsKnownOf k p) (sym s.known) w.known;
  };
}

-- ---- an entry is performed

module _ (ledger later : Ledger) where
  pub performed_step : (e : Entry) → later.clients ≡ ledger.clients → later.closed ≡ ledger.closed → later.no_more ≡ ledger.no_more
      → ledger.known ≡ Some e → later.known ≡ None → later.log.items ≡ ledger.log.items ++ Performed ∷ []
      → ((client : ℕ) → held_in later client ≡ cond (is_member ledger.clients e client) false (held_in ledger client))
      → IsLedgerStep false ledger (λ p. after_performed p e) false later
  performed_step e clients closed no_more known now log held = record {
    clients = clients;
    after = λ p h. let w = h.whole refl in let k = subst (λ o. IsKnownOf o p) known w.known in record {
      count = h.count ∙ sym clients;
      closed = λ client. h.closed client ∙ ap (λ xs. slice_index_or xs client false) (sym closed);
      no_more = h.no_more ∙ sym no_more;
      log = ap (λ xs. xs ++ Performed ∷ []) h.log ∙ sym log;
      whole = λ ample. record {
        held = λ client. rw (h.count, w.held client) (sym (held client));
        known = subst (λ o. IsKnownOf o (after_performed p e)) (sym now) (performed_more p.log Performed ∙ sym k.0);
      };
    };
  }

  -- work is logged
  pub worked_step : (client place : ℕ) → later.clients ≡ ledger.clients → later.held ≡ ledger.held → later.closed ≡ ledger.closed
      → later.no_more ≡ ledger.no_more
      → later.known ≡ ledger.known → later.log.items ≡ ledger.log.items ++ Took client place ∷ []
      → IsLedgerStep false ledger (λ p. after_work p client place) false later
  worked_step client place clients held closed no_more known log = record {
    clients = clients;
    after = λ p h. let w = h.whole refl in record {
      count = h.count ∙ sym clients;
      closed = λ client. h.closed client ∙ ap (λ xs. slice_index_or xs client false) (sym closed);
      no_more = h.no_more ∙ sym no_more;
      log = ap (λ xs. xs ++ Took client place ∷ []) h.log ∙ sym log;
      whole = λ ample. record {
        held = λ client. w.held client ∙ ap (λ xs. slice_index_or xs client false) (sym held);
        known = subst (λ o. IsKnownOf o (after_work p client place)) (sym known) (same_known ledger.known p client place w.known);
      };
    };
  }
    where
      same_known : (o : Option Entry) (p : Progress) (client place : ℕ) → IsKnownOf o p → IsKnownOf o (after_work p client place)
      same_known None p client place k = took_more p.log client place ∙ k
      same_known (Some e) p client place k = let same = took_more p.log client place in (k.0 ∙ ap (λ n. n + 1) (sym same), rw same k.1)

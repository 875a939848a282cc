use Rattle.std.proofs.Common.{ap, sym, ◌∙◌, ◌++◌, ℕ, Bool, List, length, take, drop, subst}
use Rattle.std.specs.Prelude.{slice_index_or}
use Rattle.rc_base.specs.Orders.Sync.{client_count}
use Rattle.rc_base.specs.declared.sync.Grant.{Grant}
use Rattle.rc_base.specs.declared.sync.Request.{Request}
use Rattle.rc_base.specs.declared.sync.SyncLists.{SyncLists}
use Rattle.rc_base.proofs.Paired.{after_slice}
use Rattle.sync_manager.specs.Clauses.{IsManagerClause}
use Rattle.sync_manager.specs.Cores.{AreFoundEmpty, AreFoundFull, AreSent, AreTaken}
use Rattle.sync_manager.specs.declared.deed.ManagerDeed.{ManagerDeed}
use Rattle.sync_manager.specs.declared.manager.ManagerCore.{ManagerCore}
use Rattle.tile_queues.specs.Ends.{empties_of, fulls_of, sent_of, taken_of, MayBeFull, Took, TookNone}
use Rattle.tile_queues.specs.declared.ends.LaneIn.{LaneIn}
use Rattle.tile_queues.specs.declared.ends.LaneOut.{LaneOut}
use Rattle.tile_queues.specs.Names.{AreInto, AreOutOf}
use Rattle.cluster_run.specs.Attempts.{manager_attempt}
use Rattle.cluster_run.specs.Steps.{IsManagerTurn}
use Rattle.cluster_run.proofs.Named.{into_goes_on, out_goes_on}
use Rattle.cluster_run.proofs.Turns.{goes_on}
use Rattle.cluster_run.proofs.workers.ManagerWorker.advance.Goals as goal

-- the core's clause over these ends
abbrev Holds : {R : Type 0} → SyncLists → ℕ → LaneOut Request R → LaneIn Grant R → ManagerCore → List (LaneOut Request R) → List (LaneIn Grant R) → Bool → Type 0
Holds syncs tiles d e core requests grants ended =
    IsManagerClause syncs tiles core (λ client. taken_of (slice_index_or requests client d)) (λ tile. sent_of (slice_index_or grants tile e)) ended

-- what became of these ends
abbrev Empty : {R : Type 0} → ManagerCore → ManagerDeed → List (LaneOut Request R) → List (LaneOut Request R) → Type 0
Empty {R} core deed xs ys = AreFoundEmpty empties_of (λ _. Unit {0}) core deed xs ys

abbrev Full : {R : Type 0} → ManagerDeed → List (LaneIn Grant R) → List (LaneIn Grant R) → Type 0
Full {R} deed xs ys = AreFoundFull fulls_of MayBeFull deed xs ys

pub returns-clause-steps : goal.returns-clause-steps
returns-clause-steps g c =
    let step = c.step-answer.ensures in
    let told = step.step in
    let w = c.args.self.now in
    let xs' = c.step-answer.new.requests in
    let ys' = c.step-answer.new.grants in
    let xs_are = c.deref_mut.ensures.value in
    let ys_are = c.deref_mut-2.ensures.value in
    let xs_left = after_slice w.requests.len xs' w.requests.items w.requests.ok.0 (step.request_lanes.count ∙ ap length xs_are) in
    let ys_left = after_slice w.grants.len ys' w.grants.items w.grants.ok.0 (step.grant_lanes.count ∙ ap length ys_are) in (
      told.0,
      record {
        step = told.2;
        requests = subst (λ ends. AreTaken Took TookNone told.0 w.requests.items ends) (sym xs_left) (subst (λ ends. AreTaken Took TookNone told.0 ends xs') xs_are told.3);
        empty = subst (λ ends. Empty w.core told.0 w.requests.items ends) (sym xs_left) (subst (λ ends. Empty w.core told.0 ends xs') xs_are told.4);
        grants = subst (λ ends. AreSent sent_of told.0 w.grants.items ends) (sym ys_left) (subst (λ ends. AreSent sent_of told.0 ends ys') ys_are told.5);
        full = subst (λ ends. Full told.0 w.grants.items ends) (sym ys_left) (subst (λ ends. Full told.0 ends ys') ys_are told.6);
      },
      c.attempt_of-attempt.ensures.exact ∙ ap manager_attempt told.1,
    )

pub returns-clause-turns : goal.returns-clause-turns
returns-clause-turns g c = let turn = returns-clause-steps g c in goes_on IsManagerTurn _ _ turn.0 turn.1

pub returns-clause-leads : goal.returns-clause-leads
returns-clause-leads g c syncs tiles asked granted h =
    let step = c.step-answer.ensures in
    let told = step.step in
    let w = c.args.self.now in
    let later = c.step-answer.new.self in
    let ended = c.has_ended-self.result in
    let xs = c.deref_mut.result.now in
    let ys = c.deref_mut-2.result.now in
    let xs' = c.step-answer.new.requests in
    let ys' = c.step-answer.new.grants in
    let xs_are = c.deref_mut.ensures.value in
    let ys_are = c.deref_mut-2.ensures.value in
    let xs_left = after_slice w.requests.len xs' w.requests.items w.requests.ok.0 (step.request_lanes.count ∙ ap length xs_are) in
    let ys_left = after_slice w.grants.len ys' w.grants.items w.grants.ok.0 (step.grant_lanes.count ∙ ap length ys_are) in
    let grants_left = take w.grants.len (ys' ++ drop (length ys') w.grants.items) in
    let clients = client_count syncs in
    record {
      requests_are = subst (λ ends. AreOutOf clients asked ends) (sym xs_left)
          (out_goes_on clients asked xs xs' (subst (λ ends. AreOutOf clients asked ends) (sym xs_are) h.requests_are) step.request_lanes);
      grants_are = subst (λ ends. AreInto tiles granted ends) (sym ys_left)
          (into_goes_on tiles granted ys ys' (subst (λ ends. AreInto tiles granted ends) (sym ys_are) h.grants_are) step.grant_lanes);
      clause = λ d e.
          let before = subst (λ ends. Holds syncs tiles d e w.core ends ys w.ended) (sym xs_are)
          (subst (λ ends. Holds syncs tiles d e w.core w.requests.items ends w.ended) (sym ys_are) (h.clause d e)) in
          let after = c.managers_meet_their_clause_over_lanes.ensures taken_of (record { grows = λ a b r gave. gave.0; stays = λ a b same. same.0 }) syncs tiles d e told.0
          (record { core = w.core; requests = xs; grants = ys; ended = w.ended }) (record { core = later; requests = xs'; grants = ys'; ended = ended }) before
          (record {
            clients = ap length xs_are ∙ w.clients;
            tiles = ap length ys_are ∙ w.tiles;
            step = told.2;
            took = told.3;
            appended = told.5;
            ends = λ is. sym told.1 ∙ c.attempt_of-attempt.ensures.ended (c.has_ended-self.ensures.only is);
          }) in
          subst (λ ends. Holds syncs tiles d e later ends grants_left ended) (sym xs_left) (subst (λ ends. Holds syncs tiles d e later xs' ends ended) (sym ys_left) after);
    }

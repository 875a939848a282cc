use Rattle.std.proofs.Common.{ap, sym, ◌∙◌, ℕ, Bool, List, length, subst, refl}
use Rattle.std.specs.Prelude.{slice_index_or}
use Rattle.rc_base.specs.Cluster.Tiles.{tile_count}
use Rattle.rc_base.specs.declared.scene.Scene.{Scene}
use Rattle.rc_base.specs.declared.state.Parcel.{Parcel}
use Rattle.rc_base.specs.declared.sync.Request.{Request}
use Rattle.rc_base.specs.declared.window.Layout.{Layout}
use Rattle.rc_base.proofs.Paired.{after_slice}
use Rattle.client_issue.specs.Clauses.{IsClientClause}
use Rattle.client_issue.specs.Deeds.{ClientDeed}
use Rattle.client_issue.specs.Steps.{AreSent}
use Rattle.client_issue.specs.declared.client.ClientCore.{ClientCore}
use Rattle.tile_queues.specs.Ends.{fulls_of, sent_of, MayBeFull}
use Rattle.tile_queues.specs.declared.ends.LaneIn.{LaneIn}
use Rattle.tile_queues.specs.Names.{AreInto}
use Rattle.cluster_run.specs.Attempts.{client_attempt}
use Rattle.cluster_run.specs.Steps.{IsClientTurn}
use Rattle.cluster_run.proofs.Named.{into_goes_on}
use Rattle.cluster_run.proofs.Turns.{goes_on}
use Rattle.cluster_run.proofs.workers.ClientWorker.advance.Goals as goal

-- the core's clause over these ends
abbrev Holds : {R : Type 0} → Scene → Layout → ℕ → LaneIn Parcel R → ClientCore → List (LaneIn Parcel R) → List Request → Bool → Type 0
Holds scene l client d core ends asked ended = IsClientClause scene l client core (λ tile. sent_of (slice_index_or ends tile d)) asked ended

-- what became of these ends
abbrev Sent : {R : Type 0} → ClientDeed → List (LaneIn Parcel R) → List (LaneIn Parcel R) → Type 0
Sent {R} deed xs ys = AreSent sent_of fulls_of MayBeFull deed xs ys

pub returns-clause-steps : goal.returns-clause-steps
returns-clause-steps g c =
    let step = c.step-answer.ensures in
    let told = step.step in
    let w = c.args.self.now in
    let xs' = c.step-answer.new.tiles in
    let xs_are = c.deref_mut.ensures.value in
    let left = after_slice w.tiles.len xs' w.tiles.items w.tiles.ok.0 (step.tile_lanes.count ∙ ap length xs_are) in (
      told.0,
      record {
        number = refl;
        step = told.2;
        parcels = subst (λ ends. Sent told.0 w.tiles.items ends) (sym left) (subst (λ ends. Sent told.0 ends xs') xs_are told.3);
        requests = told.4;
      },
      c.attempt_of-attempt.ensures.exact ∙ ap client_attempt told.1,
    )

pub returns-clause-turns : goal.returns-clause-turns
returns-clause-turns g c = let turn = returns-clause-steps g c in goes_on IsClientTurn _ _ turn.0 turn.1

pub returns-clause-leads : goal.returns-clause-leads
returns-clause-leads g c scene l client sent asked h =
    let step = c.step-answer.ensures in
    let told = step.step in
    let w = c.args.self.now in
    let later = c.step-answer.new.self in
    let asked' = c.step-answer.new.requests in
    let ended = c.has_ended-self.result in
    let xs = c.deref_mut.result.now in
    let xs' = c.step-answer.new.tiles in
    let xs_are = c.deref_mut.ensures.value in
    let left = after_slice w.tiles.len xs' w.tiles.items w.tiles.ok.0 (step.tile_lanes.count ∙ ap length xs_are) in
    record {
      number_is = h.number_is;
      tiles_are = subst (λ ends. AreInto (tile_count l) sent ends) (sym left)
          (into_goes_on (tile_count l) sent xs xs' (subst (λ ends. AreInto (tile_count l) sent ends) (sym xs_are) h.tiles_are) step.tile_lanes);
      requests_are = step.request_lane ∙ h.requests_are;
      clause = λ d.
          let before = subst (λ ends. Holds scene l client d w.core ends (sent_of w.requests) w.ended) (sym xs_are) (h.clause d) in
          subst (λ ends. Holds scene l client d later ends (sent_of asked') ended) (sym left)
          (c.clients_meet_their_clause_over_lanes.ensures scene l client d told.0
          (record { core = w.core; tiles = xs; requests = w.requests; ended = w.ended }) (record { core = later; tiles = xs'; requests = asked'; ended = ended }) before
          (record {
            count = ap length xs_are ∙ w.lanes;
            step = told.2;
            appended = told.3;
            requested = told.4;
            ends = λ is. sym told.1 ∙ c.attempt_of-attempt.ensures.ended (c.has_ended-self.ensures.only is);
          }));
    }

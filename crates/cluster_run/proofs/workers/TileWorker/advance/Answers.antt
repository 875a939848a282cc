use Rattle.std.proofs.Common.{◌≡◌, ℕ, Bool, true, false, ap, sym, ◌∙◌, ◌++◌, List, [], length, take, drop, subst, refl, true≢false, Ok, Err, append-nil}
use Rattle.std.specs.Prelude.{slice_index_or, option_to_list, is_some, Option, None, Some, Result, IfOk, OnErr}
use Rattle.rc_base.specs.declared.cluster.TileMoved.{TileMoved}
use Rattle.rc_base.specs.declared.cluster.TilePart.{TilePart}
use Rattle.rc_base.specs.declared.out_of_memory.OutOfMemory.{OutOfMemory}
use Rattle.rc_base.specs.declared.scene.Scene.{Scene}
use Rattle.rc_base.specs.declared.state.Parcel.{Parcel}
use Rattle.rc_base.specs.declared.sync.Grant.{Grant}
use Rattle.rc_base.specs.declared.window.Layout.{Layout}
use Rattle.rc_base.proofs.Paired.{after_slice}
use Rattle.tile_server.specs.Clauses.{IsTileClause, shown_in}
use Rattle.tile_server.specs.Cores.{is_short, AreFoundEmpty, AreTaken}
use Rattle.tile_server.specs.declared.deed.TileDeed.{TileDeed}
use Rattle.tile_server.specs.Deeds.{answer_of}
use Rattle.tile_server.specs.declared.tile_core.TileCore.{TileCore}
use Rattle.tile_queues.specs.Ends.{empties_of, sent_of, taken_of, Took, TookNone}
use Rattle.tile_queues.specs.declared.ends.LaneIn.{LaneIn}
use Rattle.tile_queues.specs.declared.ends.LaneOut.{LaneOut}
use Rattle.tile_queues.specs.Names.{AreOutOf}
use Rattle.rc_base.specs.declared.cluster.TileMoved.TheVariants as moved
use Rattle.cluster_run.specs.Attempts.{tile_attempt}
use Rattle.cluster_run.specs.Steps.{IsPut, IsTileTurn}
use Rattle.cluster_run.specs.Steps.TileTurn.{StepsCore, HandsOver}
use Rattle.cluster_run.specs.Tiles.{parts_of}
use Rattle.cluster_run.proofs.Named.{out_goes_on}
use Rattle.cluster_run.proofs.Turns.{goes_on}
use Rattle.cluster_run.proofs.workers.TileWorker.advance.Goals as goal

-- the core's clause over these ends and parts
abbrev Holds : {R : Type 0} → Scene → Layout → ℕ → LaneOut Parcel R → TileCore → List (LaneOut Parcel R) → List Grant → List TilePart → Bool → Type 0
Holds scene l tile d core ends heard parts ended = IsTileClause scene l tile core (λ client. taken_of (slice_index_or ends client d)) heard parts ended

-- a core that is short promises nothing of its parts
short_any : (scene : Scene) (l : Layout) (tile : ℕ) (core : TileCore) (took : ℕ → List Parcel) (heard : List Grant) (parts parts' : List TilePart) (ended : Bool)
    → is_short core ≡ true → IsTileClause scene l tile core took heard parts ended → IsTileClause scene l tile core took heard parts' ended
short_any scene l tile core took heard parts parts' ended short h = record {
  decl = h.decl;
  layout = h.layout;
  tile = h.tile;
  clients = h.clients;
  whole = λ ample. absurd (true≢false (sym short ∙ ample));
}

-- what a step offers is what it shows, unless the core is short now
module _ (scene : Scene) (l : Layout) (tile : ℕ) (core : TileCore) (took : ℕ → List Parcel) (heard : List Grant) (ended : Bool) (parts : List TilePart) (o : Option TilePart) where
  offers : (answer : Result TileMoved OutOfMemory) → IfOk answer (λ did. option_to_list o ≡ shown_in (Ok did)) → (OnErr answer (is_short core ≡ true))
      → IsTileClause scene l tile core took heard (parts ++ shown_in answer) ended → IsTileClause scene l tile core took heard (parts ++ option_to_list o) ended
  offers (Ok did) is short h = subst (λ (ps : List TilePart). IsTileClause scene l tile core took heard (parts ++ ps) ended) (sym is) h
  offers (Err lack) is short h = short_any scene l tile core took heard _ _ ended short h

none_of : (o : Option TilePart) → option_to_list o ≡ [] → o ≡ None
none_of None e = refl
none_of (Some p) e = absurd cc

short_now : (A B : Type 0) (answer : Result TileMoved OutOfMemory) → OnErr answer (A × B) → OnErr answer B
short_now A B (Ok did) h = tt
short_now A B (Err lack) h = h.1

none_offered : (answer : Result TileMoved OutOfMemory) (o : Option TilePart) → answer ≡ Ok moved.Ended → IfOk answer (λ did. option_to_list o ≡ shown_in (Ok did)) → o ≡ None
none_offered answer o is h = none_of o (subst (λ (r : Result TileMoved OutOfMemory). IfOk r (λ did. option_to_list o ≡ shown_in (Ok did))) is h)

none_there : (o : Option TilePart) → is_some o ≡ false → o ≡ None
none_there None e = refl
none_there (Some part) e = absurd (true≢false e)

-- what became of these ends
abbrev Empty : {R : Type 0} → TileCore → TileDeed → List (LaneOut Parcel R) → List (LaneOut Parcel R) → Type 0
Empty {R} core deed xs ys = AreFoundEmpty empties_of (λ _. Unit {0}) core deed xs ys

-- a part that was kept back, or went in; and none
kept_back : {R : Type 0} (held : Option TilePart) (sent : Bool) (a b : LaneIn TilePart R) (held' : Option TilePart) → IsPut held sent a b held' → sent ≡ false
    → (part : TilePart) × (held ≡ Some part) × IsPut (Some part) false a b held'
kept_back None sent a b held' put went = absurd (true≢false (sym put.0 ∙ went))
kept_back (Some part) true a b held' put went = absurd (true≢false went)
kept_back (Some part) false a b held' put went = (part, refl, put)

sent_on : {R : Type 0} (held : Option TilePart) (sent : Bool) (a b : LaneIn TilePart R) (held' : Option TilePart) → is_some held ≡ true → IsPut held sent a b held'
    → sent ≡ true → (part : TilePart) × (held ≡ Some part) × IsPut (Some part) true a b held'
sent_on None sent a b held' there put went = absurd (true≢false (sym there))
sent_on (Some part) true a b held' there put went = (part, refl, put)
sent_on (Some part) false a b held' there put went = absurd (true≢false (sym went))

none_put : {R : Type 0} (held : Option TilePart) (sent : Bool) (a b : LaneIn TilePart R) (held' : Option TilePart) → held ≡ None → IsPut held sent a b held' → b ≡ a
none_put None sent a b held' none put = put.1
none_put (Some part) sent a b held' none put = absurd cc

pub returns-then-not-put_held-clause-leads : goal.returns-then-not-put_held-clause-leads
returns-then-not-put_held-clause-leads g c scene l tile took heard shown h =
    let w = c.args.self.now in
    let put = c.put_held.ensures in
    record {
      number_is = h.number_is;
      clients_are = h.clients_are;
      grants_are = h.grants_are;
      parts_are = put.lane ∙ h.parts_are;
      clause = λ d. subst (λ ps. Holds scene l tile d w.core w.clients.items (taken_of w.grants) ps w.ended) (sym put.kept) (h.clause d);
      none_waits = λ is. put.none (h.none_waits is);
    }

pub returns-then-waited-clause-leads : goal.returns-then-waited-clause-leads
returns-then-waited-clause-leads g c scene l tile took heard shown h =
    let w = c.args.self.now in
    let put = c.put_held.ensures in
    record {
      number_is = h.number_is;
      clients_are = h.clients_are;
      grants_are = h.grants_are;
      parts_are = put.lane ∙ h.parts_are;
      clause = λ d. subst (λ ps. Holds scene l tile d w.core w.clients.items (taken_of w.grants) ps w.ended) (sym put.kept) (h.clause d);
      none_waits = λ is. put.none (h.none_waits is);
    }

pub returns-then-not-put_held-clause-steps : goal.returns-then-not-put_held-clause-steps
returns-then-not-put_held-clause-steps g c =
    let w = c.args.self.now in
    let kept = kept_back w.held c.put_held.result w.parts c.put_held.new.parts c.put_held.new.held c.put_held.ensures.handed c.if-not-put_held.true in
    (HandsOver kept.0 false, record { turned = record { number = refl; done = record { waits = kept.1; core_is = refl; clients = refl; grants = refl; parts = kept.2 } }; tried = refl }, refl)

pub returns-then-not-put_held-clause-turns : goal.returns-then-not-put_held-clause-turns
returns-then-not-put_held-clause-turns g c = let turn = returns-then-not-put_held-clause-steps g c in goes_on IsTileTurn _ _ turn.0 turn.1.turned

pub returns-then-waited-clause-steps : goal.returns-then-waited-clause-steps
returns-then-waited-clause-steps g c =
    let w = c.args.self.now in
    let sent = sent_on w.held c.put_held.result w.parts c.put_held.new.parts c.put_held.new.held (sym c.is_some-waited.ensures ∙ c.if-waited.true) c.put_held.ensures.handed
    c.if-not-put_held.false in
    (HandsOver sent.0 true, record { turned = record { number = refl; done = record { waits = sent.1; core_is = refl; clients = refl; grants = refl; parts = sent.2 } }; tried = refl }, refl)

pub returns-then-waited-clause-turns : goal.returns-then-waited-clause-turns
returns-then-waited-clause-turns g c = let turn = returns-then-waited-clause-steps g c in goes_on IsTileTurn _ _ turn.0 turn.1.turned

pub returns-clause-steps : goal.returns-clause-steps
returns-clause-steps g c =
    let step = c.step-answer.ensures in
    let told = step.step in
    let w = c.args.self.now in
    let xs' = c.step-answer.new.clients in
    let xs_are = c.deref_mut.ensures.value in
    let left = after_slice w.clients.len xs' w.clients.items w.clients.ok.0 (step.client_lanes.count ∙ ap length xs_are) in
    let offer = c.offered.result in
    let sent = c.put_held-sent.result in
    let none = none_there w.held (sym c.is_some-waited.ensures ∙ c.if-waited.false) in
    let same = none_put w.held c.put_held.result w.parts c.put_held.new.parts c.put_held.new.held none c.put_held.ensures.handed in (
      StepsCore told.0 offer sent,
      record {
        turned = record {
          number = refl;
          done = record {
            none_waits = none;
            step = told.2.0;
            clients = subst (λ ends. AreTaken Took TookNone told.0 w.clients.items ends) (sym left) (subst (λ ends. AreTaken Took TookNone told.0 ends xs') xs_are told.2.1);
            empty = subst (λ ends. Empty w.core told.0 w.clients.items ends) (sym left) (subst (λ ends. Empty w.core told.0 ends xs') xs_are told.2.2);
            grants = told.2.3;
            unheard = told.2.4;
            shown = subst (λ (r : Result TileMoved OutOfMemory). IfOk r (λ did. option_to_list offer ≡ shown_in (Ok did))) told.1 c.offered.ensures.shown;
            lacked = subst (λ (r : Result TileMoved OutOfMemory). OnErr r ((part : TilePart) × (offer ≡ Some part) × (part.pixels ≡ []))) told.1 c.offered.ensures.lacked;
            parts = subst (λ (a : LaneIn TilePart _). IsPut offer sent a c.put_held-sent.new.parts c.put_held-sent.new.held) same c.put_held-sent.ensures.handed;
          };
        };
        tried = refl;
      },
      c.attempt_of-attempt.ensures.exact ∙ ap tile_attempt told.1,
    )

pub returns-clause-turns : goal.returns-clause-turns
returns-clause-turns g c = let turn = returns-clause-steps g c in goes_on IsTileTurn _ _ turn.0 turn.1.turned

pub returns-clause-leads : goal.returns-clause-leads
returns-clause-leads g c scene l tile took heard shown h =
    let step = c.step-answer.ensures in
    let told = step.step in
    let answer = c.step-answer.result in
    let w = c.args.self.now in
    let later = c.step-answer.new.self in
    let heard' = c.step-answer.new.grants in
    let ended = c.has_ended-self.result in
    let n = length scene.streams in
    let xs = c.deref_mut.result.now in
    let xs' = c.step-answer.new.clients in
    let xs_are = c.deref_mut.ensures.value in
    let left = after_slice w.clients.len xs' w.clients.items w.clients.ok.0 (step.client_lanes.count ∙ ap length xs_are) in
    let ends_left = take w.clients.len (xs' ++ drop (length xs') w.clients.items) in
    let put = c.put_held.ensures in
    let sent = c.put_held-sent.ensures in
    let offer = c.offered.result in
    let over : ended ≡ true → answer ≡ Ok moved.Ended = λ is. c.attempt_of-attempt.ensures.ended (c.has_ended-self.ensures.only is) in
    record {
      number_is = h.number_is;
      clients_are = subst (λ ends. AreOutOf n took ends) (sym left)
          (out_goes_on n took xs xs' (subst (λ ends. AreOutOf n took ends) (sym xs_are) h.clients_are) step.client_lanes);
      grants_are = step.grant_lane ∙ h.grants_are;
      parts_are = sent.lane ∙ put.lane ∙ h.parts_are;
      clause = λ d.
          let before = subst (λ ends. Holds scene l tile d w.core ends (taken_of w.grants) (parts_of w) w.ended) (sym xs_are) (h.clause d) in
          let after = c.tiles_meet_their_clause_over_lanes.ensures taken_of taken_of
          (record { grows = λ a b x gave. gave.0; stays = λ a b same. same.0 }) (record { grows = λ a b x gave. gave.0; stays = λ a b same. same.0 }) scene l tile d told.0
          (record { core = w.core; clients = xs; grants = w.grants; parts = parts_of w; ended = w.ended })
          (record { core = later; clients = xs'; grants = heard'; parts = parts_of w ++ shown_in (answer_of told.0); ended = ended }) before
          (record { count = ap length xs_are ∙ w.lanes; step = told.2.0; took = told.2.1; learnt = told.2.3; showed = refl; ends = λ is. sym told.1 ∙ over is }) in
          let shows = subst (λ r. Holds scene l tile d later xs' (taken_of heard') (parts_of w ++ shown_in r) ended) (sym told.1) after in
          let offered = offers scene l tile later (λ client. taken_of (slice_index_or xs' client d)) (taken_of heard') ended (parts_of w) offer answer
          c.offered.ensures.shown (short_now _ _ answer step.out_of_memory) shows in
          let first : sent_of c.put_held.new.parts ≡ parts_of w =
          sym (append-nil (sent_of c.put_held.new.parts))
          ∙ ap (λ (o : Option TilePart). sent_of c.put_held.new.parts ++ option_to_list o) (sym (put.put c.if-not-put_held.false)) ∙ put.kept in
          let parts = sent.kept ∙ ap (λ ps. ps ++ option_to_list offer) first in
          subst (λ ps. Holds scene l tile d later ends_left (taken_of heard') ps ended) (sym parts)
          (subst (λ ends. Holds scene l tile d later ends (taken_of heard') (parts_of w ++ option_to_list offer) ended) (sym left) offered);
      none_waits = λ is. sent.none (none_offered answer offer (over is) c.offered.ensures.shown);
    }

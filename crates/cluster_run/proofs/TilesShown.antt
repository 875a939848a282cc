-- What a tile's worker has shown after any turns of its own.
use Rattle.std.proofs.Common.{◌≡◌, ◌<◌, ℕ, Bool, true, false, List, [], ◌∷◌, ◌++◌, length, sym, ap, ◌∙◌, subst, arith, append-nil, true≢false}
use Rattle.std.specs.Prelude.{slice_index_or, option_to_list, Option, None, Some, Result, Ok, Err, IfOk, OnErr}
use Rattle.rc_base.specs.declared.cluster.TileMoved.{TileMoved}
use Rattle.rc_base.specs.declared.cluster.TilePart.{TilePart}
use Rattle.rc_base.specs.declared.out_of_memory.OutOfMemory.{OutOfMemory}
use Rattle.rc_base.specs.declared.scene.Scene.{Scene}
use Rattle.rc_base.specs.declared.state.Parcel.{Parcel}
use Rattle.rc_base.specs.declared.sync.Grant.{Grant}
use Rattle.rc_base.specs.declared.window.Layout.{Layout}
use Rattle.tile_model.specs.Scenes.{IsInRange, HasSides}
use Rattle.tile_server.specs.Clauses.{shown_in, IsTileClause}
use Rattle.tile_server.specs.Cores.{is_short, IsSameView}
use Rattle.tile_server.specs.Deeds.{answer_of}
use Rattle.tile_server.specs.declared.tile_core.TileCore.{TileCore}
use Rattle.tile_queues.specs.Ends.{sent_of, taken_of}
use Rattle.tile_queues.specs.declared.ends.LaneIn.{LaneIn}
use Rattle.tile_queues.specs.declared.ends.LaneOut.{LaneOut}
use Rattle.shown_frames.specs.Shown.{Offers, IsShowing, NewTilesShow, TilesGoOnShowing}
use Rattle.cluster_run.specs.Steps.{TileTurn, IsPut, IsTileTurn}
use Rattle.cluster_run.specs.Steps.TileTurn.{StepsCore, HandsOver, DrawsBlock}
use Rattle.cluster_run.specs.Tiles.{parts_of}
use Rattle.cluster_run.specs.Turns.{AreWorkerTurns}
use Rattle.cluster_run.specs.declared.workers.TileWorker.{TileWorker}
use Rattle.tile_server.proofs.TilesMeetTheirClause.{view_clause, view_progress}
use Rattle.cluster_run.proofs.Grown.{tile_hears, tile_takes}

-- ---- parts

-- what is sent and what waits, once a part is put
put_parts : {R : Type 0} (offered : Option TilePart) (sent : Bool) (a b : LaneIn TilePart R) (held : Option TilePart) → IsPut offered sent a b held
    → sent_of b ++ option_to_list held ≡ sent_of a ++ option_to_list offered
put_parts None sent a b held h = ap (λ (x : LaneIn TilePart _). sent_of x ++ option_to_list held) h.1 ∙ ap (λ (o : Option TilePart). sent_of a ++ option_to_list o) h.2
put_parts (Some part) true a b held h =
    ap (λ (o : Option TilePart). sent_of b ++ option_to_list o) h.1 ∙ append-nil (sent_of b) ∙ h.0.appended
put_parts (Some part) false a b held h = ap (λ (ps : List TilePart). ps ++ option_to_list held) h.0.same ∙ ap (λ (o : Option TilePart). sent_of a ++ option_to_list o) h.1

-- what a step has for the caller is what it shows, or blank
offers_so : (answer : Result TileMoved OutOfMemory) (offered : Option TilePart) → IfOk answer (λ did. option_to_list offered ≡ shown_in (Ok did))
    → OnErr answer ((part : TilePart) × (offered ≡ Some part) × (part.pixels ≡ [])) → Offers answer (option_to_list offered)
offers_so (Ok did) offered shown lacked = shown
offers_so (Err lack) offered shown lacked = subst (λ (o : Option TilePart). Offers (Err lack) (option_to_list o)) (sym lacked.1) (lacked.2, tt)

-- ---- turns

-- a core of which contracts see the same has shown the same
shows_still : (scene : Scene) (l : Layout) (t : ℕ) (core later : TileCore) (took : ℕ → List Parcel) (heard : List Grant) (parts : List TilePart) → IsSameView core later
    → IsShowing scene l t core took heard parts → IsShowing scene l t later took heard parts
shows_still scene l t core later took heard parts view h = record {
  clause = view_clause scene l t core later took heard parts false h.clause view;
  progress = h.progress;
  stands = view_progress core later view h.progress h.stands;
  closes = λ ample. h.closes (sym view.short ∙ ample);
  shown = h.shown;
}

module _ {R : Type 0} (go_on : TilesGoOnShowing) (scene : Scene) (l : Layout) (t : ℕ) (d : LaneOut Parcel R) where
  abbrev pub Shows : TileWorker R → Type 0
  Shows w = IsShowing scene l t w.core (λ c. taken_of (slice_index_or w.clients.items c d)) (taken_of w.grants) (parts_of w)

  abbrev HasLanes : TileWorker R → Type 0
  HasLanes w = length w.clients.items ≡ length scene.streams

  one_turn : (before after : TileWorker R) (turn : TileTurn) → HasLanes before → Shows before → IsTileTurn before turn after → HasLanes after × Shows after
  one_turn before after (StepsCore deed offered sent) count h is =
      let took = tile_takes before after (StepsCore deed offered sent) is in
      let none : parts_of before ≡ sent_of before.parts =
      ap (λ (o : Option TilePart). sent_of before.parts ++ option_to_list o) is.done.none_waits ∙ append-nil (sent_of before.parts) in
      let parts : parts_of before ++ option_to_list offered ≡ parts_of after =
      ap (λ (ps : List TilePart). ps ++ option_to_list offered) none ∙ sym (put_parts offered sent before.parts after.parts after.held is.done.parts) in (
        took.count ∙ count,
        subst (λ (ps : List TilePart). IsShowing scene l t after.core (λ c. taken_of (slice_index_or after.clients.items c d)) (taken_of after.grants) ps) parts
            (go_on scene l t before.core deed after.core (λ c. taken_of (slice_index_or before.clients.items c d)) (λ c. taken_of (slice_index_or after.clients.items c d))
            (taken_of before.grants) (taken_of after.grants) (parts_of before) (option_to_list offered) h is.done.step
            (λ c lt. took.at c d (omega (arith, count, lt))) (tile_hears before after (StepsCore deed offered sent) is)
            (offers_so (answer_of deed) offered is.done.shown is.done.lacked)),
      )
  one_turn before after (HandsOver part sent) count h is =
      let parts : parts_of before ≡ parts_of after =
      ap (λ (o : Option TilePart). sent_of before.parts ++ option_to_list o) is.done.waits ∙ sym (put_parts (Some part) sent before.parts after.parts after.held is.done.parts) in (
        ap (λ v. length v.items) is.done.clients ∙ count,
        subst (λ (ps : List TilePart). IsShowing scene l t after.core (λ c. taken_of (slice_index_or after.clients.items c d)) (taken_of after.grants) ps) parts
            (subst (λ g. IsShowing scene l t after.core (λ c. taken_of (slice_index_or after.clients.items c d)) (taken_of g) (parts_of before)) (sym is.done.grants)
            (subst (λ v. IsShowing scene l t after.core (λ c. taken_of (slice_index_or v.items c d)) (taken_of before.grants) (parts_of before)) (sym is.done.clients)
            (subst (λ core. IsShowing scene l t core (λ c. taken_of (slice_index_or before.clients.items c d)) (taken_of before.grants) (parts_of before)) (sym is.done.core_is) h))),
      )
  one_turn before after DrawsBlock count h is =
      let parts : parts_of before ≡ parts_of after =
      ap (λ (x : LaneIn TilePart R). sent_of x ++ option_to_list before.held) (sym is.done.parts) ∙ ap (λ (o : Option TilePart). sent_of after.parts ++ option_to_list o) (sym is.done.held) in (
        ap (λ v. length v.items) is.done.clients ∙ count,
        subst (λ (ps : List TilePart). IsShowing scene l t after.core (λ c. taken_of (slice_index_or after.clients.items c d)) (taken_of after.grants) ps) parts
            (subst (λ g. IsShowing scene l t after.core (λ c. taken_of (slice_index_or after.clients.items c d)) (taken_of g) (parts_of before)) (sym is.done.grants)
            (subst (λ v. IsShowing scene l t after.core (λ c. taken_of (slice_index_or v.items c d)) (taken_of before.grants) (parts_of before)) (sym is.done.clients)
            (shows_still scene l t before.core after.core (λ c. taken_of (slice_index_or before.clients.items c d)) (taken_of before.grants) (parts_of before) is.done.view h))),
      )

  pub all_turns : (first last : TileWorker R) (turns : List TileTurn) → HasLanes first → Shows first → AreWorkerTurns IsTileTurn first turns last → Shows last
  all_turns first last [] count h same = subst Shows (sym same) h
  all_turns first last (turn ∷ turns) count h more =
      let one = one_turn first more.0 turn count h more.1 in
      all_turns more.0 last turns one.0 one.1 more.2

-- ---- the beginning

-- the clause, whether a worker has ended or not
not_ended : (scene : Scene) (l : Layout) (t : ℕ) (core : TileCore) (took : ℕ → List Parcel) (heard : List Grant) (parts : List TilePart) (ended : Bool)
    → IsTileClause scene l t core took heard parts ended → IsTileClause scene l t core took heard parts false
not_ended scene l t core took heard parts ended h = record {
  decl = h.decl;
  layout = h.layout;
  tile = h.tile;
  clients = h.clients;
  whole = λ ample.
      let k = h.whole ample in (
        k.0,
        record { progress = k.1.progress; taken = k.1.taken; heard_is = k.1.heard_is; right = k.1.right; over = λ is. absurd (true≢false (sym is)) },
      );
}

pub begins_showing : {R : Type 0} → NewTilesShow → (scene : Scene) (l : Layout) (t : ℕ) (d : LaneOut Parcel R) (w : TileWorker R) → IsInRange scene → HasSides scene.decl
    → IsTileClause scene l t w.core (λ c. taken_of (slice_index_or w.clients.items c d)) (taken_of w.grants) (parts_of w) w.ended → is_short w.core ≡ false
    → ((c : ℕ) → c < length scene.streams → taken_of (slice_index_or w.clients.items c d) ≡ []) → taken_of w.grants ≡ [] → sent_of w.parts ≡ [] → w.held ≡ None
    → IsShowing scene l t w.core (λ c. taken_of (slice_index_or w.clients.items c d)) (taken_of w.grants) (parts_of w)
begins_showing new scene l t d w range sides clause ample untaken unheard unshown none_waits =
    new scene l t w.core (λ c. taken_of (slice_index_or w.clients.items c d)) (taken_of w.grants) (parts_of w) range sides
    (not_ended scene l t w.core (λ c. taken_of (slice_index_or w.clients.items c d)) (taken_of w.grants) (parts_of w) w.ended clause) ample untaken unheard
    (ap (λ (o : Option TilePart). sent_of w.parts ++ option_to_list o) none_waits ∙ append-nil (sent_of w.parts) ∙ unshown)

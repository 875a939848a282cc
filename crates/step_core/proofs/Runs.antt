-- A stepped run and one more move is a stepped run of one more pick; what a world is seen as where one leads.
use Rattle.std.proofs.Common.{◌≡◌, ℕ, ◌<◌, List, [], ◌∷◌, ◌++◌, length, Some, Ok, refl, sym, ap, ◌∙◌, subst, arith}
use Rattle.std.proofs.lemmas.List.{length-map}
use Rattle.std.proofs.lemmas.Option.{slice_get-get_or, slice_get-map, slice_get_within}
use Rattle.std.specs.Prelude.{map, option_map}
use Rattle.rc_base.specs.Cluster.Tiles.{tile_count}
use Rattle.rc_base.specs.Orders.Journal.{IsLegal}
use Rattle.rc_base.specs.Orders.Sync.{sync_lists_of}
use Rattle.rc_base.specs.declared.scene.Scene.{Scene}
use Rattle.rc_base.specs.declared.window.Layout.{Layout}
use Rattle.order_model.specs.Log.{Replays}
use Rattle.order_model.specs.Sent.{jobs_of}
use Rattle.order_model.specs.declared.record.LogEntry.{LogEntry}
use Rattle.tile_server.specs.Cores.{log_of}
use Rattle.tile_server.specs.declared.tile_core.TileCore.{TileCore}
use Rattle.world_model.specs.Laws.{AmpleTurnsAreMoves, SoundWorldsHaveLegalLogs, SteppedRunsAreSound}
use Rattle.world_model.specs.Moves.{AreMoves, IsMove}
use Rattle.world_model.specs.Runs.{actor_of}
use Rattle.world_model.specs.Turns.{IsTurn, number_of, turn_of}
use Rattle.world_model.specs.declared.moves.Move.TheVariants.{Client as ClientMove, Manager as ManagerMove, Tile as TileMove}
use Rattle.world_model.specs.World.{World as Model}
use Rattle.world_model.specs.declared.moves.Move.{Move}
use Rattle.rc_base.proofs.Paired.{some_item}
use Rattle.step_core.specs.NewWorlds.{IsNew}
use Rattle.step_core.specs.Runnable.{HasActors, IsDepth, IsLaidOut}
use Rattle.order_model.specs.Scenes.{IsRunnable}
use Rattle.step_core.specs.Runs.{IsRunOf, seen_as}
use Rattle.step_core.specs.Schedules.{WorldView, IsRightFor, IsLegalIn}
use Rattle.step_core.specs.Steps.{Turns}
use Rattle.step_core.specs.Worlds.{IsSeen}
use Rattle.step_core.specs.declared.cluster.Cluster.{Cluster}

module _ (scene : Scene) (l : Layout) (depth : ℕ) where
  moves_more : (w v later : Model) (moves : List Move) (move : Move) → AreMoves scene l depth w moves v → IsMove scene l depth v move later
      → AreMoves scene l depth w (moves ++ move ∷ []) later
  moves_more w v later [] move h k = (later, subst (λ (x : Model). IsMove scene l depth x move later) h k, refl)
  moves_more w v later (m ∷ moves) move h k = (h.0, h.1, moves_more h.0 v later moves move h.2 k)

  actors_more : (moves : List Move) (move : Move)
      → map (actor_of scene) (moves ++ move ∷ []) ≡ map (actor_of scene) moves ++ actor_of scene move ∷ []
  actors_more [] move = refl
  actors_more (m ∷ moves) move = ap (λ (xs : List ℕ). actor_of scene m ∷ xs) (actors_more moves move)

  pub number_is : (move : Move) → number_of scene (turn_of move) ≡ actor_of scene move
  number_is (ClientMove client answer) = refl
  number_is (ManagerMove answer) = refl
  number_is (TileMove tile answer) = refl

  pub first_run : (cluster : Cluster) → IsNew scene l depth cluster → IsRunOf scene l depth [] [] cluster
  first_run cluster h = record {
    model = h.model;
    run = record { first = h.model; new = h.new; actors = refl; leads = refl };
    view = h.view;
  }

  pub one_more : AmpleTurnsAreMoves → (picks more : List ℕ) (pick : ℕ) (before after : Cluster) (moves : List Move) (move : Move) → more ≡ picks ++ pick ∷ []
      → IsRunOf scene l depth picks moves before → Turns pick before (Ok move) after → IsRunOf scene l depth more (moves ++ move ∷ []) after
  one_more law picks more pick before after moves move e h steps =
      let s = steps scene l depth h.model h.view.seen in
      let done = law scene l depth h.model s.later move h.view.ample (subst (λ t. IsTurn scene l depth h.model t s.later) s.tells s.turned) in
      record {
        model = s.later;
        run = record {
          first = h.run.first;
          new = h.run.new;
          actors = actors_more moves move ∙ ap (λ (xs : List ℕ). xs ++ actor_of scene move ∷ []) h.run.actors
              ∙ ap (λ n. picks ++ n ∷ []) (sym (number_is move) ∙ ap (number_of scene) (sym s.tells) ∙ s.actor) ∙ sym e;
          leads = moves_more h.run.first h.model s.later moves move h.run.leads done.0;
        };
        view = record { seen = s.view; ample = done.1; parts = s.parts h.view.ample h.view.parts };
      }

  pub is_seen : (picks : List ℕ) (moves : List Move) (cluster : Cluster) → IsRunnable scene l depth → IsRunOf scene l depth picks moves cluster
      → IsSeen cluster
  is_seen picks moves cluster can h =
      record { scene = scene; l = l; depth = depth; model = h.model; view = h.view.seen; few = can.few; few_tiles = can.few_tiles }

  pub its_own : (picks : List ℕ) (moves : List Move) (cluster : Cluster) → IsRunOf scene l depth picks moves cluster
      → IsRunOf scene l depth (map (actor_of scene) moves) moves cluster
  its_own picks moves cluster h = subst (λ ps. IsRunOf scene l depth ps moves cluster) (sym h.run.actors) h

  pub right_for : (picks : List ℕ) (moves : List Move) (cluster : Cluster) → IsRunOf scene l depth picks moves cluster
      → IsRightFor picks (seen_as scene l depth moves cluster)
  right_for picks moves cluster h = record {
    model = h.model;
    run = h.run;
    journal = h.view.seen.manager.progress.book.journal;
    count = length-map cluster.tiles.items log_of ∙ h.view.seen.tiles.count;
    logs = λ tile lt.
        let n = h.view.seen.tiles.count in
        let within : tile < length cluster.tiles.items = omega (arith, n, lt) in
        let d : TileCore = some_item cluster.tiles.items tile within in
        let core = h.view.seen.tiles.at tile d lt in
        slice_get-map log_of cluster.tiles.items tile ∙ ap (option_map log_of) (slice_get-get_or cluster.tiles.items tile d within)
        ∙ ap (λ log. Some log) (sym core.progress.ledger.log);
  }

-- ---- what can be run

pub has_actors : {scene : Scene} {l : Layout} {depth : ℕ} → IsRunnable scene l depth → HasActors scene
has_actors can = record {
  some = can.some;
  most = can.few;
  barriers = can.barriers;
  counts = can.counts;
}

pub is_laid_out : {scene : Scene} {l : Layout} {depth : ℕ} → IsRunnable scene l depth → IsLaidOut l
is_laid_out can = record { some = can.some_tiles; most = can.few_tiles }

pub is_depth : {scene : Scene} {l : Layout} {depth : ℕ} → IsRunnable scene l depth → IsDepth depth
is_depth can = record { some = can.some_depth; most = can.little_depth }

-- the journal is legal, and the logs replay
pub legal_in : SteppedRunsAreSound → SoundWorldsHaveLegalLogs → (picks : List ℕ) (world : WorldView) → IsRunnable world.scene world.layout world.depth
    → IsRightFor picks world → IsLegalIn world
legal_in sound logs picks world can h =
    let has = logs world.scene world.layout h.model
    (sound world.scene world.layout world.depth picks world.moves h.model can.commands can.sides h.run) in
    record {
      legal = subst (IsLegal (sync_lists_of world.scene)) (sym h.journal) has.legal;
      replays = λ tile log at.
          let within = slice_get_within world.logs tile log at in
          let n = h.count in
          let lt : tile < tile_count world.layout = omega (arith, n, within) in
          let same : log ≡ (h.model.tiles tile).progress.log = some_is (sym at ∙ h.logs tile lt) in
          subst (λ js. Replays (sync_lists_of world.scene) js (λ client. jobs_of world.scene world.layout client tile) log) (sym h.journal)
          (subst (λ log. Replays (sync_lists_of world.scene) h.model.manager.book.journal (λ client. jobs_of world.scene world.layout client tile) log) (sym same)
          (has.replays tile lt));
    }
  where
    some_is : {a b : List LogEntry} → Some a ≡ Some b → a ≡ b
    some_is e = cc

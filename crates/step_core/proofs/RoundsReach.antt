-- How far rounds lead: while somebody moves they go on and leave less to do, whoever lacks memory, and a round in which nobody does is the last.
use Rattle.std.proofs.Common.{◌≡◌, ℕ, suc, ◌+◌, List, ◌++◌, false, map, inl, inr, sym, ap, ◌∙◌, subst, arith, append_assoc, append-nil, [], ◌∷◌, refl}
use Rattle.std.proofs.lemmas.Bool.{cases_lt}
use Rattle.std.specs.Prelude.{Some, ◌<◌, ◌^◌, Result, Ok, Err, IfOk}
use Rattle.rc_base.specs.Cluster.Tiles.{tile_count}
use Rattle.rc_base.specs.Orders.Sync.{sync_lists_of}
use Rattle.rc_base.specs.declared.scene.Decl.{Decl}
use Rattle.rc_base.specs.declared.scene.Scene.{Scene}
use Rattle.rc_base.specs.declared.window.Layout.{Layout}
use Rattle.order_model.specs.Scenes.{IsRunnable}
use Rattle.order_model.specs.declared.record.Record.{Record}
use Rattle.order_model.proofs.SceneListsAreWellFormed.{scene_lists_well_formed}
use Rattle.sync_manager.specs.Progress.{ManagerProgress, IsNextDeed}
use Rattle.sync_manager.specs.declared.deed.ManagerDeed.TheVariants.{Finishes}
use Rattle.tile_model.specs.Short.{IsFinished}
use Rattle.world_model.specs.Laws.{AreAlike, IsRecordIn, IsSameWorld, RunsGoOn, OneScheduleHasOneRun}
use Rattle.world_model.specs.Laws.{AmpleWorldsEnd, RestingRoundsChangeNothing, RoundsKeepWorldsFlowing, RoundsMoveSomebody, StoppedWorldsRest, LastTurnsTell, SteppedRunsFlow, TurnsToAmpleWorldsAreMoves}
use Rattle.world_model.specs.declared.moves.Move.{Move}
use Rattle.world_model.specs.Moves.{AreMoves}
use Rattle.world_model.specs.Runs.{AllHaveEnded, actor_of, round_of, rounds_of, IsSteppedRun}
use Rattle.world_model.specs.Tiles.{Tile, HasEnded}
use Rattle.world_model.specs.Turns.{AllHaveStopped, AreAmple, number_of, turn_of}
use Rattle.world_model.specs.World.{client_total}
use Rattle.world_model.specs.World.{World as Model}
use Rattle.world_model.specs.Work.{work_in, RoundsLeaveLess, SteppedRunsHaveLittleToDo}
use Rattle.step_core.specs.CoreRuns.{IsFinish, IsGathered}
use Rattle.step_core.specs.Rounds.{IsOnTheWay, IsRoundOf, AreAmpleRounds, Rounds, HasRun, IsAtEnd}
use Rattle.step_core.specs.Runs.{IsRunOf, IsUnderWay, seen_as}
use Rattle.step_core.specs.Schedules.{WorldView, picks_of}
use Rattle.step_core.specs.Worlds.{IsSeen, IsViewOf}
use Rattle.step_core.specs.declared.round.Round.{Round}
use Rattle.step_core.specs.declared.round.Round.TheVariants.{Moved, Still, Ended}
use Rattle.step_core.specs.declared.rounds.CoreRun.{CoreRun}
use Rattle.step_core.specs.declared.cluster.Cluster.{Cluster}
use Rattle.step_core.proofs.RoundsGoOn.{all_rest}
use Rattle.step_core.proofs.Runs.{number_is}
use Rattle.step_core.proofs.TileDeeds.{finished}

-- the laws that are cited
pub record RoundLaws : Type 0 where
  pub goes_on : RunsGoOn
  pub one : OneScheduleHasOneRun
  pub flows : RoundsKeepWorldsFlowing
  pub run_flows : SteppedRunsFlow
  pub moves : TurnsToAmpleWorldsAreMoves
  pub end : AmpleWorldsEnd
  pub still : RestingRoundsChangeNothing
  pub stopped : StoppedWorldsRest
  pub told : LastTurnsTell
  pub moving : RoundsMoveSomebody
  pub less : RoundsLeaveLess
  pub little : SteppedRunsHaveLittleToDo

one_more : (scene : Scene) (l : Layout) (picks : List ℕ) (n : ℕ) → (picks ++ rounds_of scene l n) ++ round_of scene l ≡ picks ++ rounds_of scene l (n + 1)
one_more scene l picks n =
    append_assoc picks (rounds_of scene l n) (round_of scene l)
    ∙ (let e : suc n ≡ n + 1 = omega arith in ap (λ k. picks ++ rounds_of scene l k) e)

module _ (scene : Scene) (l : Layout) where
  alike_ended : (w v : Model) → AreAlike scene l w v → AllHaveEnded scene l v → AllHaveEnded scene l w
  alike_ended w v a done = record {
    clients = λ c lc. sym (a.left c lc) ∙ done.clients c lc;
    manager = subst (λ d. IsNextDeed (sync_lists_of scene) (tile_count l) d Finishes) a.manager done.manager;
    tiles = λ t lt. subst HasEnded (a.progress t lt) (done.tiles t lt);
  }

  -- where nobody is short, all have stopped where all have ended
  stopped_of : (w : Model) → AreAmple scene l w → AllHaveEnded scene l w → AllHaveStopped scene l w
  stopped_of w ample done = record {
    clients = done.clients;
    manager = done.manager;
    tiles = λ t lt. subst (λ b. IsFinished b (w.tiles t).progress) (sym (ample.tiles t lt)) (finished (w.tiles t).progress (done.tiles t lt));
  }

  stopped_before : (w v : Model) → IsSameWorld scene l w v → AllHaveStopped scene l v → AllHaveStopped scene l w
  stopped_before w v s done = record {
    clients = λ c lc. sym (s.left c lc) ∙ done.clients c lc;
    manager = subst (λ d. IsNextDeed (sync_lists_of scene) (tile_count l) d Finishes) s.manager done.manager;
    tiles = λ t lt. subst (λ (a : Tile). IsFinished a.short a.progress) (s.tiles t lt) (done.tiles t lt);
  }

  record_before : (w v : Model) (kept : Record) → IsSameWorld scene l w v → IsRecordIn scene l v kept → IsRecordIn scene l w kept
  record_before w v kept s r = record {
    syncs = r.syncs;
    journal = r.journal ∙ ap (λ (d : ManagerProgress). d.book.journal) s.manager;
    count = r.count;
    logs = λ t lt. r.logs t lt ∙ ap (λ (a : Tile). Some a.progress.log) (s.tiles t lt);
  }

  same_actors : (moves : List Move) → map (number_of scene) (map turn_of moves) ≡ map (actor_of scene) moves
  same_actors [] = refl
  same_actors (m ∷ moves) = λ i. number_is scene l 0 m i ∷ same_actors moves i

module _ (laws : RoundLaws) where
  little_left : (scene : Scene) (l : Layout) (depth : ℕ) (picks : List ℕ) (moves : List Move) (cluster : Cluster) (can : IsRunnable scene l depth)
      (run : IsRunOf scene l depth picks moves cluster) → 0 + work_in scene l run.model < 2 ^ 40
  little_left scene l depth picks moves cluster can run =
      let a = laws.little scene l depth picks moves run.model (scene_lists_well_formed scene can.some can.counts) run.run can.few can.few_tiles
      (λ client. (let s = can.short client in omega (arith, s))) in
      omega (arith, a)

  pub begins : (scene : Scene) (l : Layout) (depth : ℕ) (decl : Decl) (moves : List Move) (cluster : Cluster) → IsUnderWay scene l depth decl moves cluster
      → IsOnTheWay (seen_as scene l depth moves cluster) 0 cluster
  begins scene l depth decl moves cluster u =
      let picks = map (actor_of scene) moves in
      record {
        runnable = u.runnable;
        model = u.run.model;
        view = u.run.view.seen;
        flowing = (laws.run_flows scene l depth picks moves u.run.model u.run.run).0;
        less = little_left scene l depth picks moves cluster u.runnable u.run;
        whole = λ lacking. record {
          reached = record {
            moves = moves;
            run = subst (λ ps. IsSteppedRun scene l depth ps moves u.run.model) (sym (append-nil picks)) u.run.run;
            fewest = λ n some v lt. absurd (omega arith);
          };
          ample = u.run.view.ample;
          parts = u.run.view.parts;
        };
      }

  module _ (world : WorldView) (n : ℕ) (before : Cluster) (h : IsOnTheWay world n before) where
    abbrev scene : Scene
    scene = world.scene

    abbrev l : Layout
    l = world.layout

    abbrev depth : ℕ
    depth = world.depth

    abbrev picks : List ℕ
    picks = picks_of world

    abbrev can : IsRunnable scene l depth
    can = h.runnable

    pub seen : IsSeen before
    seen = record { scene = scene; l = l; depth = depth; model = h.model; view = h.view; few = can.few; few_tiles = can.few_tiles }

    module _ (round : Round) (after : Cluster) (rounds : Rounds before round after) where
      abbrev r : IsRoundOf scene l depth (client_total scene + 1 + tile_count l) h.model before round after
      r = rounds scene l depth h.model h.view

      -- where memory hasn't lacked, the round is one of moves, and leads to a world in which nobody is short
      record IsMoved : Type 0 where
        pub was : AreAmpleRounds world n before h.model
        pub ample : AreAmple scene l r.later
        pub moves : List Move
        pub turns : r.turns ≡ map turn_of moves
        pub moved : AreMoves scene l depth h.model moves r.later
        pub run : IsSteppedRun scene l depth (picks ++ rounds_of scene l (n + 1)) (was.reached.moves ++ moves) r.later
        pub view : IsViewOf scene l depth after r.later

      is_moved : after.lacking ≡ false → IsMoved
      is_moved lacking =
          let k = r.kept lacking in
          let was = h.whole k.lacking in
          let ample = k.ample was.ample in
          let by = (laws.moves scene l depth h.model r.later r.turns r.turned ample).1 in
          let actors : map (actor_of scene) by.0 ≡ round_of scene l = sym (same_actors scene l by.0) ∙ ap (map (number_of scene)) (sym by.1) ∙ r.actors in
          record {
            was = was;
            ample = ample;
            moves = by.0;
            turns = by.1;
            moved = by.2;
            run = subst (λ ps. IsSteppedRun scene l depth ps (was.reached.moves ++ by.0) r.later) (one_more scene l picks n)
                (laws.goes_on scene l depth (picks ++ rounds_of scene l n) (round_of scene l) was.reached.moves by.0 h.model r.later was.reached.run actors by.2);
            view = record { seen = r.view; ample = ample; parts = k.parts was.ample was.parts };
          }

    -- somebody moved, and so there is less to do
    pub leads_on : (after : Cluster) → Rounds before Moved after → IsOnTheWay world (n + 1) after
    leads_on after rounds =
        let r = rounds scene l depth h.model h.view in
        record {
          runnable = can;
          model = r.later;
          view = r.view;
          flowing = laws.flows scene l depth h.model r.later r.turns h.flowing r.turned;
          less = (let a = laws.less scene l depth h.model r.later r.turns (scene_lists_well_formed scene can.some can.counts) h.flowing r.turned r.tells in
              let b = h.less in omega (arith, a, b));
          whole = λ lacking.
              let m = is_moved Moved after rounds lacking in
              record {
                reached = record {
                  moves = m.was.reached.moves ++ m.moves;
                  run = m.run;
                  fewest = λ k some v lt run done. elim (cases_lt k n) [
                    | inl less ↦ m.was.reached.fewest k some v less run done
                    | inr more ↦
                        let same : k ≡ n = omega (arith, lt, more) in
                        let here = subst (λ m. IsSteppedRun scene l depth (picks ++ rounds_of scene l m) some v) same run in
                        let one = laws.one scene l depth (picks ++ rounds_of scene l n) m.was.reached.moves some h.model v can.commands can.sides m.was.reached.run here in
                        let stopped = stopped_of scene l h.model m.was.ample (alike_ended scene l h.model v one.1 done) in
                        r.tells (all_rest r.turns (laws.stopped scene l depth h.model r.later r.turns stopped r.turned).0)
                  ];
                };
                ample = m.ample;
                parts = m.view.parts;
              };
        }

    -- it can't be that nobody moved, and somebody has something left to do
    pub still_never : (after : Cluster) → Rounds before Still after → ⊥
    still_never after rounds =
        let r = rounds scene l depth h.model h.view in
        let all = laws.moving scene l depth r.turns h.model r.later (let d = can.some_depth in omega (arith, d)) h.flowing r.actors r.turned r.tells.0 in
        let same = laws.still scene l depth h.model r.later r.turns r.tells.0 r.turned in
        r.tells.1 (laws.stopped scene l depth h.model r.later r.turns (stopped_before scene l h.model r.later same all) r.turned).0

    -- nobody has anything left to do
    module _ (after : Cluster) (rounds : Rounds before Ended after) (lacking : after.lacking ≡ false) where
      abbrev ends : IsMoved Ended after rounds
      ends = is_moved Ended after rounds lacking

      stopped : AllHaveStopped scene l h.model × AllHaveStopped scene l (r Ended after rounds).later
      stopped = let a = r Ended after rounds in laws.told scene l depth h.model a.later a.turns a.actors a.turned a.tells

      runs_out : HasRun scene l after
      runs_out = record {
        depth = depth;
        runnable = can;
        picks = picks ++ rounds_of scene l (n + 1);
        moves = ends.was.reached.moves ++ ends.moves;
        model = (r Ended after rounds).later;
        run = ends.run;
        view = ends.view;
        ended = laws.end scene l (r Ended after rounds).later ends.ample stopped.1;
      }

      pub at_end : (decl : Decl) → decl ≡ scene.decl → IsAtEnd decl after
      at_end decl e = record { scene = scene; l = l; decl_is = e; has_run = runs_out }

      pub finishes : (decl : Decl) (run : CoreRun) → decl ≡ scene.decl → IsGathered decl after run → IsFinish scene l depth picks run
      unfolding runs_out
      finishes decl run e g =
          let a = r Ended after rounds in
          let same = laws.still scene l depth h.model a.later a.turns (all_rest a.turns a.tells) a.turned in
          let whole = g scene l e runs_out in
          record {
            rounds = n;
            moves = ends.was.reached.moves;
            world = h.model;
            finished = record { run = ends.was.reached.run; ended = laws.end scene l h.model ends.was.ample stopped.0; fewest = ends.was.reached.fewest };
            record_of = record_before scene l h.model a.later run.kept same whole.0;
            run_of = whole.1;
          }

-- rounds come to their end before they are so many
pub few_rounds : (world : WorldView) (n : ℕ) (cluster : Cluster) → IsOnTheWay world n cluster → n < 2 ^ 40
few_rounds world n cluster h = let a = h.less in omega (arith, a)

-- what is handed out where memory hasn't lacked
pub if_ample : {A E : Type 0} (r : Result A E) (P Q S : A → Type 0) → IfOk r P → IfOk r Q → ((a : A) → P a → Q a → S a) → IfOk r S
if_ample (Ok a) P Q S p q f = f a p q
if_ample (Err e) P Q S p q f = tt

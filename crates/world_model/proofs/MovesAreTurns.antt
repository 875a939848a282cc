-- Moves are the turns of actors that aren't short, so the worlds of stepped runs flow, and nobody is short in them.
use Rattle.std.proofs.Common.{◌≡◌, ◌⊎◌, ℕ, ◌<◌, true, false, List, [], ◌∷◌, map, inl, inr, refl, sym, ap, ◌∙◌, subst, true≢false}
use Rattle.std.specs.Prelude.{Ok, Err}
use Rattle.rc_base.specs.Cluster.Tiles.{tile_count}
use Rattle.rc_base.specs.Orders.Sync.{sync_lists_of}
use Rattle.rc_base.specs.declared.out_of_memory.OutOfMemory.{OutOfMemory}
use Rattle.rc_base.specs.declared.scene.Scene.{Scene}
use Rattle.rc_base.specs.declared.sync.SyncLists.{SyncLists}
use Rattle.rc_base.specs.declared.window.Layout.{Layout}
use Rattle.sync_manager.specs.Progress.{ManagerProgress, progress_after, answer_of}
use Rattle.sync_manager.specs.declared.deed.ManagerDeed.{ManagerDeed}
use Rattle.sync_manager.specs.declared.deed.ManagerDeed.TheVariants.{Delivers, FindsFull, Grants, Receives, Loses, FindsNoRequest, Drops, FindsNoneLeft, Finishes}
use Rattle.plain_lemmas.proofs.Numbers.{at_one_or_other}
use Rattle.world_model.specs.declared.moves.Move.{Move}
use Rattle.world_model.specs.declared.moves.Move.TheVariants.{Client as ClientMove, Manager as ManagerMove, Tile as TileMove}
use Rattle.world_model.specs.Flowing.{IsFlowing}
use Rattle.world_model.specs.Laws.{NewWorldsFlow, TurnsKeepWorldsFlowing, RoundsKeepWorldsFlowing, SteppedRunsFlow, RoundsMoveSomebody, NoRunStandsStill}
use Rattle.world_model.specs.Laws.{MovesAreTurns, AmpleTurnsAreMoves, TurnsToAmpleWorldsAreMoves, AmpleWorldsEnd}
use Rattle.world_model.specs.Moves.{IsMove, AreMoves, IsTileMove}
use Rattle.world_model.specs.Tiles.{Tile}
use Rattle.world_model.specs.Turns.{Turn, IsShortTileMove, IsTurn, AreTurns, turn_of, AreAmple}
use Rattle.world_model.specs.Turns.Turn.{ClientTurn, ManagerTurn, TileTurn}
use Rattle.world_model.specs.World.{World, Client, all_lanes, client_total, IsNewWorld}
use Rattle.world_model.proofs.ManagersKeepSound.{stays_ample}

pub moves_are_turns : MovesAreTurns
moves_are_turns scene l depth w v (ClientMove client answer) m = record { step = m.step; fit = m.fit }
moves_are_turns scene l depth w v (ManagerMove answer) m = record { step = m.step; fit = m.fit }
moves_are_turns scene l depth w v (TileMove tile answer) m = record { step = inl m.step; fit = m.fit }

module _ (scene : Scene) (l : Layout) (depth : ℕ) where
  pub all_turns : (w v : World) (moves : List Move) → AreMoves scene l depth w moves v → AreTurns scene l depth w (map turn_of moves) v
  all_turns w v [] h = h
  all_turns w v (m ∷ moves) h = (h.0, moves_are_turns scene l depth w h.0 m h.1, all_turns h.0 v moves h.2)

  -- ---- nobody is short

  ample_first : (w : World) → IsNewWorld scene l w → AreAmple scene l w
  ample_first w h = record {
    clients = h.ample;
    manager = ap (λ (d : ManagerProgress). d.short) h.manager;
    tiles = λ tile lt. (h.tiles tile lt).ample;
  }

  ample_on : (w v : World) (m : Move) → AreAmple scene l w → IsMove scene l depth w m v → AreAmple scene l v
  ample_on w v (ClientMove client answer) h m = record {
    clients = at_one_or_other (λ c. c < client_total scene → (v.clients c).short ≡ false) client (λ lc. m.step.short ∙ h.clients client lc)
        (λ c ne lc. ap (λ (k : Client). k.short) (m.step.only.clients c lc ne) ∙ h.clients c lc);
    manager = ap (λ (d : ManagerProgress). d.short) m.step.only.manager ∙ h.manager;
    tiles = λ tile lt. ap (λ (a : Tile). a.short) (m.step.only.tiles tile lt) ∙ h.tiles tile lt;
  }
  ample_on w v (ManagerMove answer) h m = record {
    clients = λ c lc. ap (λ (k : Client). k.short) (m.step.only.clients c lc) ∙ h.clients c lc;
    manager = ap (λ (d : ManagerProgress). d.short) m.step.manager ∙ stays_ample (sync_lists_of scene) (tile_count l) w.manager m.step.deed answer m.step.answered ∙ h.manager;
    tiles = λ tile lt. ap (λ (a : Tile). a.short) (m.step.only.tiles tile lt) ∙ h.tiles tile lt;
  }
  ample_on w v (TileMove tile answer) h m = record {
    clients = λ c lc. ap (λ (k : Client). k.short) (m.step.only.clients c lc) ∙ h.clients c lc;
    manager = ap (λ (d : ManagerProgress). d.short) m.step.only.manager ∙ h.manager;
    tiles = at_one_or_other (λ t. t < tile_count l → (v.tiles t).short ≡ false) tile (λ lt. m.step.step.still_ample ∙ m.step.step.ample)
        (λ t ne lt. ap (λ (a : Tile). a.short) (m.step.only.tiles t lt ne) ∙ h.tiles t lt);
  }

  all_ample : (w v : World) (moves : List Move) → AreAmple scene l w → AreMoves scene l depth w moves v → AreAmple scene l v
  all_ample w v [] h m = subst (AreAmple scene l) (sym m) h
  all_ample w v (m ∷ moves) h r = all_ample r.0 v moves (ample_on w r.0 m h r.1) r.2

  pub all_flow : TurnsKeepWorldsFlowing → (w v : World) (turns : List Turn) → IsFlowing scene l w → AreTurns scene l depth w turns v → IsFlowing scene l v
  all_flow keep w v [] h m = subst (IsFlowing scene l) (sym m) h
  all_flow keep w v (turn ∷ turns) h r = all_flow keep r.0 v turns (keep scene l depth w r.0 (all_lanes w) turn h r.1) r.2

  -- ---- a turn that answers is a move

  is_move : (w v : World) (m : Move) → AreAmple scene l w → IsTurn scene l depth w (turn_of m) v → IsMove scene l depth w m v
  is_move w v (ClientMove client answer) h t = record { step = t.step; fit = t.fit }
  is_move w v (ManagerMove answer) h t = record { step = t.step; fit = t.fit }
  is_move w v (TileMove tile answer) h t = record { step = by t.step; fit = t.fit }
    where
      by : IsTileMove scene l depth w tile answer v ⊎ IsShortTileMove scene l depth w tile answer v → IsTileMove scene l depth w tile answer v
      by (inl m) = m
      by (inr m) = absurd (true≢false (sym m.short ∙ h.tiles tile m.low))

  -- ---- and one that leads to a world in which nobody is short answers

  -- a manager that lacks memory is short from then on
  loss_is_short : (syncs : SyncLists) (d : ManagerProgress) (deed : ManagerDeed) (e : OutOfMemory) → answer_of deed ≡ Err e → (progress_after syncs d deed).short ≡ true
  loss_is_short syncs d (Delivers tile g) e is = absurd cc
  loss_is_short syncs d (FindsFull tile) e is = absurd cc
  loss_is_short syncs d (Grants entry) e is = absurd cc
  loss_is_short syncs d (Receives client r) e is = absurd cc
  loss_is_short syncs d (Loses client place op) e is = refl
  loss_is_short syncs d FindsNoRequest e is = absurd cc
  loss_is_short syncs d (Drops client r) e is = absurd cc
  loss_is_short syncs d FindsNoneLeft e is = absurd cc
  loss_is_short syncs d Finishes e is = absurd cc

  record WasAmple (w : World) (turn : Turn) : Type 0 where
    pub ample : AreAmple scene l w
    pub move : Move
    pub is_turn : turn ≡ turn_of move

  was_ample : (w v : World) (turn : Turn) → IsTurn scene l depth w turn v → AreAmple scene l v → WasAmple w turn
  was_ample w v (ClientTurn client (Ok answer)) m h = record {
    ample = record {
      clients = at_one_or_other (λ c. c < client_total scene → (w.clients c).short ≡ false) client (λ lc. sym m.step.short ∙ h.clients client lc)
          (λ c ne lc. ap (λ (k : Client). k.short) (sym (m.step.only.clients c lc ne)) ∙ h.clients c lc);
      manager = ap (λ (d : ManagerProgress). d.short) (sym m.step.only.manager) ∙ h.manager;
      tiles = λ tile lt. ap (λ (a : Tile). a.short) (sym (m.step.only.tiles tile lt)) ∙ h.tiles tile lt;
    };
    move = ClientMove client answer;
    is_turn = refl;
  }
  was_ample w v (ClientTurn client (Err error)) m h = absurd (true≢false (sym m.step.short ∙ h.clients client m.step.low))
  was_ample w v (ManagerTurn (Ok answer)) m h = record {
    ample = record {
      clients = λ c lc. ap (λ (k : Client). k.short) (sym (m.step.only.clients c lc)) ∙ h.clients c lc;
      manager = sym (ap (λ (d : ManagerProgress). d.short) m.step.manager ∙ stays_ample (sync_lists_of scene) (tile_count l) w.manager m.step.deed answer m.step.answered) ∙ h.manager;
      tiles = λ tile lt. ap (λ (a : Tile). a.short) (sym (m.step.only.tiles tile lt)) ∙ h.tiles tile lt;
    };
    move = ManagerMove answer;
    is_turn = refl;
  }
  was_ample w v (ManagerTurn (Err error)) m h =
      absurd (true≢false (sym (ap (λ (d : ManagerProgress). d.short) m.step.manager ∙ loss_is_short (sync_lists_of scene) w.manager m.step.deed error m.step.answered) ∙ h.manager))
  was_ample w v (TileTurn tile (Ok answer)) m h = by m.step
    where
      by : IsTileMove scene l depth w tile answer v ⊎ IsShortTileMove scene l depth w tile answer v → WasAmple w (TileTurn tile (Ok answer))
      by (inl t) = record {
        ample = record {
          clients = λ c lc. ap (λ (k : Client). k.short) (sym (t.only.clients c lc)) ∙ h.clients c lc;
          manager = ap (λ (d : ManagerProgress). d.short) (sym t.only.manager) ∙ h.manager;
          tiles = at_one_or_other (λ i. i < tile_count l → (w.tiles i).short ≡ false) tile (λ lt. t.step.ample)
              (λ i ne lt. ap (λ (a : Tile). a.short) (sym (t.only.tiles i lt ne)) ∙ h.tiles i lt);
        };
        move = TileMove tile answer;
        is_turn = refl;
      }
      by (inr t) = absurd (true≢false (sym t.still_short ∙ h.tiles tile t.low))
  was_ample w v (TileTurn tile (Err error)) m h = absurd (true≢false (sym m.step.short ∙ h.tiles tile m.step.low))

  all_were : (w v : World) (turns : List Turn) → AreTurns scene l depth w turns v → AreAmple scene l v
      → AreAmple scene l w × ((moves : List Move) × (turns ≡ map turn_of moves) × AreMoves scene l depth w moves v)
  all_were w v [] m h = (subst (AreAmple scene l) m h, ([], refl, m))
  all_were w v (turn ∷ turns) m h =
      let rest = all_were m.0 v turns m.2 h in
      let first = was_ample w m.0 turn m.1 rest.0 in
      let move = is_move w m.0 first.move first.ample (subst (λ t. IsTurn scene l depth w t m.0) first.is_turn m.1) in
      let same : turn ∷ turns ≡ turn_of first.move ∷ map turn_of rest.1.0 =
      ap (λ t. t ∷ turns) first.is_turn ∙ ap (λ ts. turn_of first.move ∷ ts) rest.1.1 in
      (first.ample, (first.move ∷ rest.1.0, same, (m.0, move, rest.1.2)))

pub ample_turns : AmpleTurnsAreMoves
ample_turns scene l depth w v m h t = let k = is_move scene l depth w v m h t in (k, ample_on scene l depth w v m h k)

pub turns_were_moves : TurnsToAmpleWorldsAreMoves
turns_were_moves scene l depth w v turns m h = all_were scene l depth w v turns m h

pub ample_worlds_end : AmpleWorldsEnd
ample_worlds_end scene l w ample h = record {
  clients = h.clients;
  manager = h.manager;
  tiles = λ tile lt. record { over = (h.tiles tile lt).performed (ample.tiles tile lt); closed = (h.tiles tile lt).closed };
}

pub rounds_flow : TurnsKeepWorldsFlowing → RoundsKeepWorldsFlowing
rounds_flow keep scene l depth w v turns h m = all_flow scene l depth keep w v turns h m

pub runs_flow : NewWorldsFlow → TurnsKeepWorldsFlowing → SteppedRunsFlow
runs_flow first keep scene l depth picks moves w r = (
  all_flow scene l depth keep r.first w (map turn_of moves) (first scene l r.first r.new) (all_turns scene l depth r.first w moves r.leads),
  all_ample scene l depth r.first w moves (ample_first scene l depth r.first r.new) r.leads,
)

pub no_standstill : NewWorldsFlow → RoundsKeepWorldsFlowing → RoundsMoveSomebody → NoRunStandsStill
no_standstill new keep moves scene l depth turns round first w later pos begins leads actors goes rest =
    moves scene l depth round w later pos (keep scene l depth first w turns (new scene l first begins) leads) actors goes rest

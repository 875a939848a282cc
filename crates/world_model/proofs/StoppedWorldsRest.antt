-- Where all have stopped, whoever is short, nobody moves, and a round in which each turn says so leads from there.
use Rattle.std.proofs.Common.{◌≡◌, ◌⊎◌, ℕ, ◌+◌, ◌==◌, ◌<◌, not, Bool, true, false, List, [], ◌∷◌, ◌++◌, length, map, inl, inr, refl, sym, ap, ◌∙◌, subst, arith, eqb-true, true≢false}
use Rattle.std.proofs.lemmas.Bool.{and_parts}
use Rattle.std.proofs.lemmas.Option.{slice_get_within}
use Rattle.std.specs.List.{AllByRecursion}
use Rattle.std.specs.Prelude.{◌||◌, Result, Ok, Err}
use Rattle.rc_base.specs.Cluster.Parcels.{end_parcel}
use Rattle.rc_base.specs.Cluster.Sending.{Sending, ToManager, to_tiles, sent_last}
use Rattle.rc_base.specs.Cluster.Tiles.{tile_count}
use Rattle.rc_base.specs.Contexts.Issue.{stream_of}
use Rattle.rc_base.specs.Orders.Sync.{sync_lists_of}
use Rattle.rc_base.specs.declared.cluster.ManagerMoved.{ManagerMoved}
use Rattle.rc_base.specs.declared.cluster.ManagerMoved.TheVariants as manager_moved
use Rattle.rc_base.specs.declared.out_of_memory.OutOfMemory.{OutOfMemory}
use Rattle.rc_base.specs.declared.scene.Scene.{Scene}
use Rattle.rc_base.specs.declared.sync.Request.TheVariants as request
use Rattle.rc_base.specs.declared.window.Layout.{Layout}
use Rattle.order_model.specs.Standing.{Progress, performed_in, is_over}
use Rattle.sync_manager.specs.Progress.{ManagerProgress, answer_of, IsNextDeed}
use Rattle.sync_manager.specs.Promises.{DoneManagersFinish}
use Rattle.sync_manager.specs.declared.deed.ManagerDeed.TheVariants.{Finishes}
use Rattle.tile_model.specs.Items.{Item}
use Rattle.tile_model.specs.Items.Item.{Nothing, Due, Granted, NoMore, Sent}
use Rattle.tile_model.specs.Short.{IsFinished}
use Rattle.plain_lemmas.proofs.Lists.{both_empty}
use Rattle.world_model.specs.Laws.{IsSameWorld, StoppedWorldsRest, LastTurnsTell}
use Rattle.world_model.specs.Moves.{IsTileMove}
use Rattle.world_model.specs.Runs.{round_of}
use Rattle.world_model.specs.Short.{IsAwaitedShort, IsShortAnswer, MayLose}
use Rattle.world_model.specs.Tiles.{Tile, HasEnded, IsTileAnswer}
use Rattle.world_model.specs.Turns.{Turn, IsShortTileMove, IsTurn, AreTurns, IsResting, IsLastTurn, number_of, AllHaveStopped}
use Rattle.world_model.specs.Turns.Turn.{ClientTurn, ManagerTurn, TileTurn}
use Rattle.world_model.specs.World.{World, all_lanes, client_total}
use Rattle.world_model.specs.declared.moves.TileAnswer.{TileAnswer}
use Rattle.world_model.specs.declared.moves.TileAnswer.TheVariants.{Ended}
use Rattle.world_model.proofs.EndedWorldsRest.{same_self, same_on, client_last, tile_last, client_ends, deed_ends, has_ended}
use Rattle.world_model.proofs.RestChangesNothing.{no_item}
use Rattle.world_model.proofs.RestingRounds.{no_short_item, rest_keeps, all_keep, all_known, find, Exists}
use Rattle.world_model.proofs.RoundsMoveSomebody.{stopped_on}

pub last_rests : (m : Turn) → IsLastTurn m → IsResting m
last_rests (ClientTurn client (Ok answer)) last = inr (inr last)
last_rests (ClientTurn client (Err error)) last = absurd last
last_rests (ManagerTurn (Ok answer)) last = inr (inr last)
last_rests (ManagerTurn (Err error)) last = absurd last
last_rests (TileTurn tile (Ok answer)) last = inr last
last_rests (TileTurn tile (Err error)) last = absurd last

not_both : (b : Bool) → b ≡ true → not b ≡ true → ⊥
not_both true e f = true≢false (sym f)
not_both false e f = true≢false (sym e)

-- ---- a tile that has finished

-- where it isn't short, it has ended
is_ended : (p : Progress) → IsFinished false p → HasEnded p
is_ended p h = record { over = h.performed refl; closed = h.closed }

is_finished : (short : Bool) (p : Progress) → HasEnded p → IsFinished short p
is_finished short p h = record { no_more = (and_parts p.no_more (performed_in p.log == length p.learnt) h.over).0; performed = λ ample. h.over; closed = h.closed }

short_last : (p : Progress) (item : Item) (answer : TileAnswer) → IsFinished true p → IsAwaitedShort p item → IsShortAnswer p item answer → answer ≡ Ended
short_last p Nothing answer h a (inl is) = is.0
short_last p Nothing answer h a (inr is) = absurd (is.1 h)
short_last p (Due e) answer h a is = absurd a
short_last p (Granted e) answer h a is = absurd (not_both p.no_more h.no_more a)
short_last p NoMore answer h a is = absurd (not_both p.no_more h.no_more a)
short_last p (Sent client parcel) answer h a is = absurd (not_both (p.closed client) (h.closed client a.0) a.1)

loses_nothing : (p : Progress) (item : Item) → IsFinished false p → MayLose p item → ⊥
loses_nothing p Nothing h may =
    let less = slice_get_within p.learnt (performed_in p.log) may.0 may.1.0 in
    let all = eqb-true (performed_in p.log) (length p.learnt) (and_parts p.no_more (performed_in p.log == length p.learnt) (h.performed refl)).1 in
    omega (arith, less, all)
loses_nothing p (Due e) h may = may
loses_nothing p (Granted e) h may = may
loses_nothing p NoMore h may = may
loses_nothing p (Sent client parcel) h may =
    not_both (p.closed client) (h.closed client may.0) (and_parts (not (p.closed client)) (not (p.held client) || is_over p) may.1).0

module _ (scene : Scene) (l : Layout) (depth : ℕ) where
  -- ---- from a world in which all have stopped

  has_last : (client : ℕ) (dropped : List Sending) → dropped ++ sent_last scene l client ≡ [] → ⊥
  has_last client dropped e =
      let front = to_tiles l (λ tile. end_parcel (length (stream_of scene client)) ∷ []) in
      let end : ToManager request.End ∷ [] ≡ [] = (both_empty front (ToManager request.End ∷ []) (both_empty dropped (sent_last scene l client) e).1).1 in
      cc

  answers_ended : (answer : Result ManagerMoved OutOfMemory) → Ok manager_moved.Ended ≡ answer → IsLastTurn (ManagerTurn answer)
  answers_ended answer e = subst (λ a. IsLastTurn (ManagerTurn a)) e refl

  turn_last : DoneManagersFinish → (w v : World) (m : Turn) → AllHaveStopped scene l w → IsTurn scene l depth w m v → IsLastTurn m
  turn_last finish w v (ClientTurn c (Ok answer)) done m = client_last scene l depth w v c answer (done.clients c m.step.low) m.step.step
  turn_last finish w v (ClientTurn c (Err error)) done m = has_last c m.step.dropped (sym m.step.before ∙ done.clients c m.step.low)
  turn_last finish w v (ManagerTurn answer) done m =
      answers_ended answer (ap answer_of (sym (finish (sync_lists_of scene) (tile_count l) w.manager m.step.deed done.manager m.step.next)) ∙ m.step.answered)
  turn_last finish w v (TileTurn t (Ok answer)) done m = by m.step
    where
      by : IsTileMove scene l depth w t answer v ⊎ IsShortTileMove scene l depth w t answer v → answer ≡ Ended
      by (inl k) =
          let h = subst (λ b. IsFinished b (w.tiles t).progress) k.step.ample (done.tiles t k.low) in
          tile_last scene l depth (w.tiles t).progress k.item answer (is_ended (w.tiles t).progress h) k.step.awaited k.answered
      by (inr k) = short_last (w.tiles t).progress k.item answer (subst (λ b. IsFinished b (w.tiles t).progress) k.short (done.tiles t k.low)) k.awaited k.answered
  turn_last finish w v (TileTurn t (Err error)) done m =
      loses_nothing (w.tiles t).progress m.step.item (subst (λ b. IsFinished b (w.tiles t).progress) m.step.ample (done.tiles t m.step.low)) m.step.may

  all_last : DoneManagersFinish → (turns : List Turn) (w later : World) → AllHaveStopped scene l w → AreTurns scene l depth w turns later
      → AllByRecursion IsLastTurn turns × IsSameWorld scene l w later
  all_last finish [] w later done m = (tt, subst (λ v. IsSameWorld scene l w v) (sym m) (same_self scene l w))
  all_last finish (turn ∷ turns) w later done m =
      let last = turn_last finish w m.0 turn done m.1 in
      let same = rest_keeps scene l depth w m.0 (all_lanes w) turn (last_rests turn last) m.1 in
      let more = all_last finish turns m.0 later (stopped_on scene l w m.0 same done) m.2 in
      ((last, more.0), same_on scene l w m.0 later same more.1)

  -- ---- a round in which each turn is the last

  abbrev StoppedAt : World → Turn → Type 0
  StoppedAt w (ClientTurn client answer) = (w.clients client).left ≡ []
  StoppedAt w (ManagerTurn answer) = IsNextDeed (sync_lists_of scene) (tile_count l) w.manager Finishes
  StoppedAt w (TileTurn tile answer) = IsFinished (w.tiles tile).short (w.tiles tile).progress

  stopped_at : (w v : World) (m : Turn) → IsLastTurn m → IsTurn scene l depth w m v → StoppedAt w m
  stopped_at w v (ClientTurn client (Ok answer)) last m = client_ends scene l depth w w v client answer last m.step.step
  stopped_at w v (ClientTurn client (Err error)) last m = absurd last
  stopped_at w v (ManagerTurn (Ok answer)) last m =
      subst (λ d. IsNextDeed (sync_lists_of scene) (tile_count l) w.manager d) (deed_ends scene l depth w m.step.deed (m.step.answered ∙ ap (λ a. Ok a) last)) m.step.next
  stopped_at w v (ManagerTurn (Err error)) last m = absurd last
  stopped_at w v (TileTurn tile (Ok answer)) last m = by m.step
    where
      by : IsTileMove scene l depth w tile answer v ⊎ IsShortTileMove scene l depth w tile answer v → IsFinished (w.tiles tile).short (w.tiles tile).progress
      by (inl k) =
          let none = no_item scene l depth w v (w.tiles tile).progress k.item answer k.answered (inr last) in
          is_finished (w.tiles tile).short (w.tiles tile).progress
          (has_ended scene l depth w (w.tiles tile).progress answer last (subst (λ i. IsTileAnswer (w.tiles tile).progress i answer) none k.answered))
      by (inr k) =
          let none = no_short_item scene l depth (w.tiles tile).progress k.item answer k.answered (inr last) in
          subst (λ b. IsFinished b (w.tiles tile).progress) (sym k.short) (short_ended (subst (λ i. IsShortAnswer (w.tiles tile).progress i answer) none k.answered))
        where
          short_ended : IsShortAnswer (w.tiles tile).progress Nothing answer → IsFinished true (w.tiles tile).progress
          short_ended (inl is) = is.1
          short_ended (inr is) = absurd (let no = sym last ∙ is.0 in cc)
  stopped_at w v (TileTurn tile (Err error)) last m = absurd last

  before : (w v : World) (m : Turn) → Exists scene l depth m → IsSameWorld scene l w v → StoppedAt v m → StoppedAt w m
  before w v (ClientTurn client answer) lc s h = sym (s.left client lc) ∙ h
  before w v (ManagerTurn answer) lc s h = subst (λ (d : ManagerProgress). IsNextDeed (sync_lists_of scene) (tile_count l) d Finishes) s.manager h
  before w v (TileTurn tile answer) lt s h = subst (λ (a : Tile). IsFinished a.short a.progress) (s.tiles tile lt) h

  abbrev Known : World → Turn → Type 0
  Known w m = Exists scene l depth m × StoppedAt w m

  client_of : (w : World) (c : ℕ) → c < client_total scene → (m : Turn) → Known w m → number_of scene m ≡ c → (w.clients c).left ≡ []
  client_of w c lc (ClientTurn client answer) k e = subst (λ i. (w.clients i).left ≡ []) e k.1
  client_of w c lc (ManagerTurn answer) k e = absurd (omega (arith, lc, e))
  client_of w c lc (TileTurn tile answer) k e = absurd (omega (arith, lc, e))

  manager_of : (w : World) (m : Turn) → Known w m → number_of scene m ≡ client_total scene → IsNextDeed (sync_lists_of scene) (tile_count l) w.manager Finishes
  manager_of w (ClientTurn client answer) k e = absurd (let lc = k.0 in omega (arith, lc, e))
  manager_of w (ManagerTurn answer) k e = k.1
  manager_of w (TileTurn tile answer) k e = absurd (omega (arith, e))

  tile_of : (w : World) (t : ℕ) (m : Turn) → Known w m → number_of scene m ≡ client_total scene + 1 + t → IsFinished (w.tiles t).short (w.tiles t).progress
  tile_of w t (ClientTurn client answer) k e = absurd (let lc = k.0 in omega (arith, lc, e))
  tile_of w t (ManagerTurn answer) k e = absurd (omega (arith, e))
  tile_of w t (TileTurn tile answer) k e = let same : tile ≡ t = omega (arith, e) in subst (λ i. IsFinished (w.tiles i).short (w.tiles i).progress) same k.1

  all_stopped : (w v : World) (round : List Turn) → map (number_of scene) round ≡ round_of scene l → AreTurns scene l depth w round v
      → AllByRecursion IsLastTurn round → AllHaveStopped scene l w
  all_stopped w v round e m last =
      let known = all_known scene l depth IsLastTurn StoppedAt last_rests stopped_at before w v round last m in
      let n = client_total scene + 1 + tile_count l in
      let pick : (k : ℕ) → k < n → (m : Turn) × Known w m × (number_of scene m ≡ k) = λ k lt. find scene l depth (Known w) round 0 n e known k (omega arith) (omega (arith, lt)) in
      record {
        clients = λ c lc. let m = pick c (omega (arith, lc)) in client_of w c lc m.0 m.1 m.2;
        manager = let m = pick (client_total scene) (omega arith) in manager_of w m.0 m.1 m.2;
        tiles = λ t lt. let m = pick (client_total scene + 1 + t) (omega (arith, lt)) in tile_of w t m.0 m.1 m.2;
      }

  last_all_rest : (turns : List Turn) → AllByRecursion IsLastTurn turns → AllByRecursion IsResting turns
  last_all_rest [] last = tt
  last_all_rest (m ∷ turns) last = (last_rests m last.0, last_all_rest turns last.1)

pub stopped_worlds_rest : DoneManagersFinish → StoppedWorldsRest
stopped_worlds_rest finish scene l depth w later turns done m = all_last scene l depth finish turns w later done m

pub last_turns_tell : LastTurnsTell
last_turns_tell scene l depth w later turns actors m last =
    let here = all_stopped scene l depth w later turns actors m last in
    (here, stopped_on scene l w later (all_keep scene l depth w later turns (last_all_rest scene l depth turns last) m) here)

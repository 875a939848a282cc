-- Moves, one after the other, leave the world sound.
use Rattle.std.proofs.Common.{[], ◌∷◌, sym, subst}
use Rattle.client_issue.specs.Laws.{SequencesAreSplit}
use Rattle.order_model.specs.Laws.{BooksStayLegal}
use Rattle.sync_manager.specs.Promises.{NewManagersAreRight, StepsKeepManagersRight}
use Rattle.tile_model.specs.Laws.{NewTilesStand, StepsStand, SwapsShowFrames}
use Rattle.world_model.specs.Laws.{MovesKeepWorldsSound, SchedulesKeepWorldsSound, SteppedRunsAreSound}
use Rattle.world_model.specs.declared.moves.Move.TheVariants.{Client as ClientMove, Manager as ManagerMove, Tile as TileMove}
use Rattle.world_model.specs.Sound.{IsSound}
use Rattle.world_model.proofs.ClientsKeepSound.{client_keeps}
use Rattle.world_model.proofs.ManagersKeepSound.{manager_keeps}
use Rattle.world_model.proofs.NewWorldsAreSound.{new_sound}
use Rattle.world_model.proofs.TilesKeepSound.{tile_keeps}

-- the laws of the actors that are cited
pub record ActorsAreRight : Type 0 where
  pub books : BooksStayLegal
  pub managers : StepsKeepManagersRight
  pub steps : StepsStand
  pub shows : SwapsShowFrames

pub move_keeps : ActorsAreRight → MovesKeepWorldsSound
move_keeps right scene l depth w v (ClientMove client answer) range sides h m = client_keeps scene l depth w v client answer h m.step
move_keeps right scene l depth w v (ManagerMove answer) range sides h m = manager_keeps scene l depth w v answer right.books right.managers h m.step
move_keeps right scene l depth w v (TileMove tile answer) range sides h m = tile_keeps scene l depth w v tile answer h m.step right.steps right.shows range sides

pub schedule_keeps : ActorsAreRight → SchedulesKeepWorldsSound
schedule_keeps right scene l depth w v [] range sides h e = subst (IsSound scene l) (sym e) h
schedule_keeps right scene l depth w v (move ∷ moves) range sides h e =
    schedule_keeps right scene l depth e.0 v moves range sides (move_keeps right scene l depth w e.0 move range sides h e.1) e.2

pub run_sound : ActorsAreRight → SequencesAreSplit → NewManagersAreRight → NewTilesStand → SteppedRunsAreSound
run_sound right split managers tiles scene l depth picks moves w range sides run =
    schedule_keeps right scene l depth run.first w moves range sides (new_sound split managers tiles scene l run.first run.new) run.leads

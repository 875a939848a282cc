-- What a tile takes and answers that is short of memory: it performs nothing, takes grants until no more comes, and parcels up to each client's End.
use Rattle.std.specs.Prelude.{◌≡◌, ◌<◌, ℕ, true, false, cond, ◌⊎◌}
use Rattle.rc_base.specs.Cluster.Parcels.{is_end}
use Rattle.rc_base.specs.Cluster.Lanes.{IsEarlier}
use Rattle.rc_base.specs.declared.sync.Entry.{Entry}
use Rattle.order_model.specs.Standing.{Progress}
use Rattle.tile_model.specs.Items.{Item, IsAwaited}
use Rattle.tile_model.specs.Items.Item.{Nothing, Due, Granted, NoMore, Sent}
use Rattle.tile_model.specs.Short.{listens, asks, IsFinished}
use Rattle.world_model.specs.Tiles.{Tile}
use Rattle.world_model.specs.declared.moves.TileAnswer.{TileAnswer}
use Rattle.world_model.specs.declared.moves.TileAnswer.TheVariants as tile_answer

-- the item may come
abbrev pub IsAwaitedShort : Progress → Item → Type 0
IsAwaitedShort p Nothing = Unit {0}
IsAwaitedShort p (Due e) = ⊥
IsAwaitedShort p (Granted e) = listens true p ≡ true
IsAwaitedShort p NoMore = listens true p ≡ true
IsAwaitedShort p (Sent client parcel) = (client < p.count) × (asks true p client ≡ true)

abbrev pub IsShortAnswer : Progress → Item → TileAnswer → Type 0
IsShortAnswer p Nothing answer = ((answer ≡ tile_answer.Ended) × IsFinished true p) ⊎ ((answer ≡ tile_answer.Blocked) × (IsFinished true p → ⊥))
IsShortAnswer p (Due e) answer = ⊥
IsShortAnswer p (Granted e) answer = answer ≡ tile_answer.Learnt
IsShortAnswer p NoMore answer = answer ≡ tile_answer.Learnt
IsShortAnswer p (Sent client parcel) answer = answer ≡ cond (is_end parcel.act) (tile_answer.Closed client) (tile_answer.Dropped client)

-- where it takes nothing, or a parcel, its grant lane was tried before, and found empty
abbrev pub FindsNoGrantShort : Progress → Item → Type 0
FindsNoGrantShort p Nothing = listens true p ≡ true
FindsNoGrantShort p (Due e) = ⊥
FindsNoGrantShort p (Granted e) = ⊥
FindsNoGrantShort p NoMore = ⊥
FindsNoGrantShort p (Sent client parcel) = listens true p ≡ true

-- and so was the client's lane: of all clients that are asked, or of those that come before the one that gave the parcel
abbrev pub FindsNoParcelShort : Tile → Item → ℕ → Type 0
FindsNoParcelShort a Nothing i = asks true a.progress i ≡ true
FindsNoParcelShort a (Due e) i = ⊥
FindsNoParcelShort a (Granted e) i = ⊥
FindsNoParcelShort a NoMore i = ⊥
FindsNoParcelShort a (Sent client parcel) i = IsEarlier a.next client i × (asks true a.progress i ≡ true)

-- What a tile that becomes short takes in that step: nothing, where an entry was to be performed, or a parcel that isn't an End.
abbrev pub MayLose : Progress → Item → Type 0
MayLose p Nothing = (e : Entry) × IsAwaited p (Due e)
MayLose p (Due e) = ⊥
MayLose p (Granted e) = ⊥
MayLose p NoMore = ⊥
MayLose p (Sent client parcel) = (client < p.count) × (asks false p client ≡ true) × (is_end parcel.act ≡ false)

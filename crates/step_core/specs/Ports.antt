-- Clients' ends of lanes: what was appended and isn't carried to the tile's end yet, and how many items stand there.
use Rattle.std.specs.Prelude.{◌≡◌, ◌≢◌, ℕ, ◌+◌, ◌<◌, List, ◌∷◌, ◌++◌, [], Some, None, length, option_to_list, slice_index_or, Vec}
use Rattle.std.specs.Global.{Global}
use Rattle.rc_base.specs.Cluster.PlainLanes.{held, depth_of}
use Rattle.rc_base.specs.declared.cluster.ClientMoved.{ClientMoved}
use Rattle.rc_base.specs.declared.cluster.ClientMoved.TheVariants as client_moved
use Rattle.rc_base.specs.declared.plain_lane.PlainLane.{PlainLane}
use Rattle.rc_base.specs.declared.state.Parcel.{Parcel}
use Rattle.step_core.specs.declared.port.Port.{Port}

-- x stood at this number, and y stands there now; all else is as it was
pub record IsChanged {A : Type 0} (n : ℕ) (x y : A) (xs ys : List A) : Type 0 where
  pub count : length ys ≡ length xs
  pub was : (d : A) → slice_index_or xs n d ≡ x
  pub is : (d : A) → slice_index_or ys n d ≡ y
  pub others : (i : ℕ) (d : A) → i ≢ n → slice_index_or ys i d ≡ slice_index_or xs i d

-- in one row, and in it in one column, x became y
pub record IsChangedIn {A : Type 0} (row column : ℕ) (x y : A) (rows rows' : List (Vec A Global)) : Type 0 where
  pub line : Vec A Global
  pub line' : Vec A Global
  pub rows_changed : IsChanged row line line' rows rows'
  pub line_changed : IsChanged column x y line.items line'.items

-- the table has this row, and the row the column
pub record HasPlace {A : Type 0} (row column : ℕ) (rows : List (Vec A Global)) : Type 0 where
  pub row_in : row < length rows
  pub column_in : (r : Vec A Global) → column < length (slice_index_or rows row r).items

-- ---- one port

-- what is appended waits in it
abbrev pub waiting : Port → List Parcel
waiting port = option_to_list port.sent

-- it refuses where nothing waits only when the lane is full
abbrev pub HasNoRoom : Port → Type 0
HasNoRoom port = port.sent ≡ None → port.count ≡ port.depth

-- as many items stand at the tile, and may stand there
abbrev pub IsSamePort : Port → Port → Type 0
IsSamePort x y = ◌≡◌ {A = List ℕ} (y.depth ∷ y.count ∷ []) (x.depth ∷ x.count ∷ [])

-- it tells of the tile's end
pub record IsPortOf (port : Port) (lane : PlainLane Parcel) : Type 0 where
  pub count : port.count ≡ length (held lane)
  pub depth : port.depth ≡ depth_of lane

-- what waited stands at the tile now
pub record IsCarriedOver (port port' : Port) (lane lane' : PlainLane Parcel) : Type 0 where
  pub empty : port'.sent ≡ None
  pub depth : port'.depth ≡ port.depth
  pub lane_depth : depth_of lane' ≡ depth_of lane
  pub carried : (item : Parcel) → port.sent ≡ Some item → (held lane' ≡ held lane ++ item ∷ []) × (port'.count ≡ port.count + 1)

-- ---- after a client's step

-- the client's port to the tile tells of the tile's end
pub record CanCarry (client tile : ℕ) (ports : List (Vec Port Global)) (rows : List (Vec (PlainLane Parcel) Global)) : Type 0 where
  pub port_place : HasPlace client tile ports
  pub lane_place : HasPlace tile client rows
  pub tells : (r : Vec Port Global) (d : Port) (q : Vec (PlainLane Parcel) Global) (e : PlainLane Parcel)
      → IsPortOf (slice_index_or (slice_index_or ports client r).items tile d) (slice_index_or (slice_index_or rows tile q).items client e)

-- what waited in it stands there now: over the client's own ports and the tile's own lanes
pub record IsCarriedIn (client tile : ℕ) (ports ports' : List Port) (lanes lanes' : List (PlainLane Parcel)) : Type 0 where
  pub port : Port
  pub port' : Port
  pub lane : PlainLane Parcel
  pub lane' : PlainLane Parcel
  pub port_changed : IsChanged tile port port' ports ports'
  pub lane_changed : IsChanged client lane lane' lanes lanes'
  pub over : IsCarriedOver port port' lane lane'

-- and over all of them
pub record IsCarried (client tile : ℕ) (ports ports' : List (Vec Port Global)) (rows rows' : List (Vec (PlainLane Parcel) Global)) : Type 0
  where
    pub port : Port
    pub port' : Port
    pub lane : PlainLane Parcel
    pub lane' : PlainLane Parcel
    pub ports_changed : IsChangedIn client tile port port' ports ports'
    pub rows_changed : IsChangedIn tile client lane lane' rows rows'
    pub over : IsCarriedOver port port' lane lane'

-- where a client's answer says that it appended for a tile
abbrev pub where_appended : ClientMoved → (ℕ → Type 0) → Type 0 → Type 0
where_appended (client_moved.Appended tile) here else = here tile
where_appended client_moved.Requested here else = else
where_appended (client_moved.BlockedTile tile) here else = else
where_appended client_moved.BlockedRequest here else = else
where_appended client_moved.Ended here else = else

-- Clients' ports after a tile's step: each knows how many items stand at the tile.
use Rattle.std.specs.Prelude.{◌≡◌, ℕ, ◌<◌, ◌≤◌, List, None, length, slice_index_or, Vec}
use Rattle.std.specs.Global.{Global}
use Rattle.rc_base.specs.Cluster.PlainLanes.{held}
use Rattle.rc_base.specs.declared.plain_lane.PlainLane.{PlainLane}
use Rattle.rc_base.specs.declared.state.Parcel.{Parcel}
use Rattle.step_core.specs.Ports.{IsChanged}
use Rattle.step_core.specs.declared.port.Port.{Port}

-- ---- one client

-- nothing waits in the port to the tile, and it may know of as many items as the lane holds
pub record CanSettleIn (tile : ℕ) (ports : List Port) (lane : PlainLane Parcel) : Type 0 where
  pub column_in : tile < length ports
  pub empty : (d : Port) → (slice_index_or ports tile d).sent ≡ None
  pub fits : (d : Port) → length (held lane) ≤ (slice_index_or ports tile d).depth

-- it knows of so many, and the ports to other tiles are as they were
pub record IsSettledIn (tile : ℕ) (ports ports' : List Port) (lane : PlainLane Parcel) : Type 0 where
  pub port : Port
  pub port' : Port
  pub changed : IsChanged tile port port' ports ports'
  pub empty : port'.sent ≡ None
  pub count : port'.count ≡ length (held lane)
  pub depth : port'.depth ≡ port.depth

-- ---- among the others

pub record CanSettleTo (client tile : ℕ) (ports : List (Vec Port Global)) (lane : PlainLane Parcel) : Type 0 where
  pub row_in : client < length ports
  pub can : (r : Vec Port Global) → CanSettleIn tile (slice_index_or ports client r).items lane

pub record IsSettledTo (client tile : ℕ) (ports ports' : List (Vec Port Global)) (lane : PlainLane Parcel) : Type 0 where
  pub line : Vec Port Global
  pub line' : Vec Port Global
  pub changed : IsChanged client line line' ports ports'
  pub settled : IsSettledIn tile line.items line'.items lane

-- ---- all clients

pub record CanSettle (tile : ℕ) (ports : List (Vec Port Global)) (lanes : List (PlainLane Parcel)) : Type 0 where
  pub count : length lanes ≡ length ports
  pub each : (i : ℕ) (r : Vec Port Global) (d : PlainLane Parcel) → i < length ports
      → CanSettleIn tile (slice_index_or ports i r).items (slice_index_or lanes i d)

-- the ports of the first clients
pub record AreSettledBelow (n tile : ℕ) (ports ports' : List (Vec Port Global)) (lanes : List (PlainLane Parcel)) : Type 0 where
  pub count : length ports' ≡ length ports
  pub settled : (i : ℕ) (r : Vec Port Global) (d : PlainLane Parcel) → i < n → i < length ports
      → IsSettledIn tile (slice_index_or ports i r).items (slice_index_or ports' i r).items (slice_index_or lanes i d)
  pub rest : (i : ℕ) (r : Vec Port Global) → n ≤ i → slice_index_or ports' i r ≡ slice_index_or ports i r

-- of all of them
pub record AreSettled (tile : ℕ) (ports ports' : List (Vec Port Global)) (lanes : List (PlainLane Parcel)) : Type 0 where
  pub count : length ports' ≡ length ports
  pub settled : (i : ℕ) (r : Vec Port Global) (d : PlainLane Parcel) → i < length ports
      → IsSettledIn tile (slice_index_or ports i r).items (slice_index_or ports' i r).items (slice_index_or lanes i d)

-- The laws of ends that are named by their lanes.
use Rattle.std.specs.Prelude.{◌≡◌, ◌<◌, ℕ, List, Vec, length, slice_index_or}
use Rattle.std.specs.Global.{Global}
use Rattle.rc_base.specs.Lists.{ArePaired}
use Rattle.tile_queues.specs.Ends.{lane_in, lane_out}
use Rattle.tile_queues.specs.declared.ends.LaneIn.{LaneIn}
use Rattle.tile_queues.specs.declared.ends.LaneOut.{LaneOut}
use Rattle.tile_queues.specs.Grids.{AreGrid}
use Rattle.tile_queues.specs.Names.{AreInto, AreOutOf}

-- where lane (c, t) has one name in sender c's row and in receiver t's column, the rows and columns are a grid
abbrev pub NamedRowsAndColumnsAreAGrid : Type 0 → Type 0 → Type 0
NamedRowsAndColumnsAreAGrid T R = (senders receivers : ℕ) (names : ℕ → ℕ → List ℕ) (ins : List (Vec (LaneIn T R) Global))
    (outs : List (Vec (LaneOut T R) Global))
    → length ins ≡ senders → length outs ≡ receivers
    → ((c : ℕ) (d : Vec (LaneIn T R) Global) → c < senders → AreInto receivers (names c) (slice_index_or ins c d).items)
    → ((t : ℕ) (e : Vec (LaneOut T R) Global) → t < receivers → AreOutOf senders (λ c. names c t) (slice_index_or outs t e).items)
    → AreGrid ins outs

-- two lists of ends that have the same names are of one lane at each place
abbrev pub NamedEndsArePaired : Type 0 → Type 0 → Type 0
NamedEndsArePaired T R = (count : ℕ) (names : ℕ → List ℕ) (ins : List (LaneIn T R)) (outs : List (LaneOut T R))
    → AreInto count names ins → AreOutOf count names outs → ArePaired (λ i a b. lane_out b ≡ lane_in a) ins outs

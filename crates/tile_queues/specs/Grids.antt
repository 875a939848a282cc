-- Rows and columns of the ends of lanes.
use Rattle.std.specs.Prelude.{◌≡◌, ◌<◌, ℕ, List, [], ◌∷◌, ◌++◌, Vec, length, slice_index_or}
use Rattle.rc_base.specs.Lists.{IsFront}
use Rattle.tile_queues.specs.Ends.{sent_of, taken_of, lane_in, lane_out, sent_in, taken_in, lane_rest, lane_depth}
use Rattle.tile_queues.specs.declared.ends.LaneIn.{LaneIn}
use Rattle.tile_queues.specs.declared.ends.LaneOut.{LaneOut}
use Rattle.tile_queues.specs.declared.ends.Rest.{Rest}

module _ {T R : Type 0} where
  -- the two ends of a new lane, which holds so many items at most
  pub record IsFresh (depth : ℕ) (a : LaneIn T R) (b : LaneOut T R) : Type 0 where
    pub lane : lane_out b ≡ lane_in a
    pub deep : lane_depth (lane_in a) ≡ depth
    pub unsent : sent_of a ≡ []
    pub untaken : taken_of b ≡ []

  -- the lane of two ends that were brought together
  pub record IsJoined (a : LaneIn T R) (b : LaneOut T R) (r : Rest T R) : Type 0 where
    pub lane : lane_rest r ≡ lane_in a
    pub sent : sent_in r ≡ sent_of a
    pub taken : taken_in r ≡ taken_of b

  -- the lane of the two ends at each place
  pub record AreJoined (ins : List (LaneIn T R)) (outs : List (LaneOut T R)) (rests : List (Rest T R)) : Type 0 where
    pub count : length rests ≡ length ins
    pub at : (i : ℕ) (a : LaneIn T R) (b : LaneOut T R) (r : Rest T R) → i < length ins
        → IsJoined (slice_index_or ins i a) (slice_index_or outs i b) (slice_index_or rests i r)

module _ {T R A : Type 0} where
  -- the last of these receiving ends is of the sender's lane
  pub record IsOpen (a : LaneIn T R) (x : Vec (LaneOut T R) A) : Type 0 where
    pub front : List (LaneOut T R)
    pub last : LaneOut T R
    pub items : x.items ≡ front ++ last ∷ []
    pub lane : lane_out last ≡ lane_in a

  -- the last of these receiving ends is gone, and what was taken by it is a front of what was sent
  pub record IsClosed (a : LaneIn T R) (x y : Vec (LaneOut T R) A) : Type 0 where
    pub last : LaneOut T R
    pub items : x.items ≡ y.items ++ last ∷ []
    pub order : IsFront (taken_of last) (sent_of a)

  -- a new lane, whose receiving end stands behind these
  pub record IsAdded (depth : ℕ) (a : LaneIn T R) (x y : Vec (LaneOut T R) A) : Type 0 where
    pub last : LaneOut T R
    pub items : y.items ≡ x.items ++ last ∷ []
    pub fresh : IsFresh depth a last

  -- a row for each sender and a column for each receiver, and lane (c, t) has its sending end at place t of row c and its receiving end at place c of
  -- column t
  pub record AreGrid (ins : List (Vec (LaneIn T R) A)) (outs : List (Vec (LaneOut T R) A)) : Type 0 where
    pub rows : (c : ℕ) (d : Vec (LaneIn T R) A) → c < length ins → length (slice_index_or ins c d).items ≡ length outs
    pub columns : (t : ℕ) (e : Vec (LaneOut T R) A) → t < length outs → length (slice_index_or outs t e).items ≡ length ins
    pub lanes : (c t : ℕ) (d : Vec (LaneIn T R) A) (e : Vec (LaneOut T R) A) (a : LaneIn T R) (b : LaneOut T R) → c < length ins → t < length outs
        → lane_out (slice_index_or (slice_index_or outs t e).items c b) ≡ lane_in (slice_index_or (slice_index_or ins c d).items t a)

  -- a grid of so many rows and columns, in which each lane is new and holds so many items at most
  pub record IsNewGrid (depth senders receivers : ℕ) (ins : List (Vec (LaneIn T R) A)) (outs : List (Vec (LaneOut T R) A)) : Type 0 where
    pub rows : length ins ≡ senders
    pub columns : length outs ≡ receivers
    pub row : (c : ℕ) (d : Vec (LaneIn T R) A) → c < senders → length (slice_index_or ins c d).items ≡ receivers
    pub column : (t : ℕ) (e : Vec (LaneOut T R) A) → t < receivers → length (slice_index_or outs t e).items ≡ senders
    pub fresh : (c t : ℕ) (d : Vec (LaneIn T R) A) (e : Vec (LaneOut T R) A) (a : LaneIn T R) (b : LaneOut T R) → c < senders → t < receivers
        → IsFresh depth (slice_index_or (slice_index_or ins c d).items t a) (slice_index_or (slice_index_or outs t e).items c b)

-- What a clause says of the ends of a lane.
use Rattle.std.specs.Prelude.{◌≡◌, ℕ, ◌≤◌, ◌⊎◌, List, [], ◌∷◌, ◌++◌, length, slice_index}
use Rattle.crossbeam_queue.specs.Passes.{view}
use Rattle.rc_base.specs.Outside.Causes.{risen}
use Rattle.tile_queues.specs.Rule.{left_of, lane_name}
use Rattle.tile_queues.specs.declared.ends.LaneIn.{LaneIn}
use Rattle.tile_queues.specs.declared.ends.LaneOut.{LaneOut}
use Rattle.tile_queues.specs.declared.ends.Rest.{Rest}

-- how many items a lane holds at most
abbrev pub lane_depth : List ℕ → ℕ
lane_depth lane = slice_index lane 0

module _ {T R : Type 0} where
  -- all that was ever pushed
  abbrev pub sent_of : LaneIn T R → List T
  sent_of a = (view a.pass).sent

  -- all that was ever popped
  abbrev pub taken_of : LaneOut T R → List T
  taken_of b = (view b.pass).taken

  -- the lane of a sending end
  abbrev pub lane_in : LaneIn T R → List ℕ
  lane_in a = lane_name a.pass

  -- the lane of a receiving end
  abbrev pub lane_out : LaneOut T R → List ℕ
  lane_out b = lane_name b.pass

  -- all that was ever popped of a lane, by its receiving end or from its rest
  abbrev pub taken_in : Rest T R → List T
  taken_in r = (view r.pass).taken

  -- all that was ever pushed into the lane of a rest
  abbrev pub sent_in : Rest T R → List T
  sent_in r = (view r.pass).sent

  -- the lane of a rest
  abbrev pub lane_rest : Rest T R → List ℕ
  lane_rest r = lane_name r.pass

  -- what is still to come
  abbrev pub rest_of : Rest T R → List T
  rest_of r = left_of (view r.pass)

  -- how often a sending end found its lane full
  abbrev pub fulls_of : LaneIn T R → ℕ
  fulls_of a = a.full_seen

  -- how often a receiving end found its lane empty
  abbrev pub empties_of : LaneOut T R → ℕ
  empties_of b = b.empty_seen

  -- what the sending end of a full lane knows of it: as many items were sent as it holds
  abbrev pub MayBeFull : LaneIn T R → Type 0
  MayBeFull a = lane_depth (lane_in a) ≤ length (sent_of a)

  -- a receiving end took this item, and didn't find its lane empty
  abbrev pub Took : LaneOut T R → T → LaneOut T R → Type 0
  Took b x c = (taken_of c ≡ taken_of b ++ x ∷ []) × (empties_of c ≡ empties_of b)

  -- it took none: it wasn't asked, or found its lane empty, which it counted once
  abbrev pub TookNone : LaneOut T R → LaneOut T R → Type 0
  TookNone b c = (taken_of c ≡ taken_of b) × ((empties_of c ≡ empties_of b) ⊎ (empties_of c ≡ risen (empties_of b)))

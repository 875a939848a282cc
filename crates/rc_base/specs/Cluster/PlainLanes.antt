-- What a plain lane holds.
use Rattle.std.specs.Prelude.{ℕ, List}
use Rattle.rc_base.specs.declared.plain_lane.PlainLane.{PlainLane}

module _ {T : Type 0} where
  -- the items, the first that was appended first
  abbrev pub held : PlainLane T → List T
  held l = l.items.items

  -- the most that it holds
  abbrev pub depth_of : PlainLane T → ℕ
  depth_of l = l.depth

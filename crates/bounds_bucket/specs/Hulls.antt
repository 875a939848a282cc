-- What positions span in object space, and states that move none of them.
use Rattle.std.specs.Prelude.{◌≡◌, ℕ, ◌^◌, List, [], ◌∷◌, ℤ, pos, ◌<ℤ◌, ◌≤ℤ◌}
use Rattle.rc_base.specs.Numbers.{Within, entry}
use Rattle.rc_base.specs.Contexts.Context.{identity}
use Rattle.rc_base.specs.Intervals.{AreEndsWithin, IsOrdered, OfEach}
use Rattle.rc_base.specs.declared.interval.Interval.{Interval}
use Rattle.rc_base.specs.declared.state.State.{State}
use Rattle.bounds_bucket.specs.declared.extent.Ends.{Ends}
use Rattle.bounds_bucket.specs.declared.hull.Hull.{Hull}

-- from the least to the greatest number
abbrev pub interval_of : Ends → Interval
interval_of e = record { lo = e.least; hi = e.greatest }

-- the four intervals of a hull
abbrev pub intervals_of : Hull → List Interval
intervals_of h = interval_of h.x ∷ interval_of h.y ∷ interval_of h.z ∷ interval_of h.w ∷ []

-- both matrices are the identity, and the viewport's sides have 16 bits
pub record IsShort (s : State) : Type 0 where
  pub modelview : s.modelview.m ≡ identity.m
  pub projection : s.projection.m ≡ identity.m
  pub width : Within (2 ^ 16) (entry s.viewport 2)
  pub height : Within (2 ^ 16) (entry s.viewport 3)

-- each of four intervals has a number, and its ends lie from -n to n
pub record AreAllWithin (n : ℕ) (b : List Interval) : Type 0 where
  pub ordered : OfEach IsOrdered b
  pub small : OfEach (AreEndsWithin n) b

-- the viewport has no side below 0, and clip coordinates lie in intervals of so many bits that their window coordinates can be told
pub record CanBeReached (s : State) (clip : List Interval) : Type 0 where
  pub wide : pos 0 ≤ℤ entry s.viewport 2
  pub high : pos 0 ≤ℤ entry s.viewport 3
  pub places : AreAllWithin (2 ^ 65) clip

-- a side of the viewport has 16 bits, and each w from the least to the greatest is above 0
pub record CanBePlaced (size : ℤ) (w : Ends) : Type 0 where
  pub side : Within (2 ^ 16) size
  pub above : pos 0 <ℤ w.least
  pub w_ordered : IsOrdered (interval_of w)

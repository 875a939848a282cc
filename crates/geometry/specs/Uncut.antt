-- Triangles that the near plane doesn't cut.
use Rattle.std.specs.Prelude.{◌≡◌, ℕ, List, Some, MatchOption}
use Rattle.rc_base.specs.Drawing.Kept.{kept_whole}
use Rattle.rc_base.specs.declared.state.State.{State}
use Rattle.rc_base.specs.declared.state.Vertex.{Vertex}
use Rattle.geometry.specs.Beside.{IsBesideIfKept}
use Rattle.geometry.specs.Placed.{AllStandInFront}
use Rattle.geometry.specs.declared.cache.Uncut.{Uncut}
use Rattle.geometry.specs.declared.cache.Uncut.TheVariants.{Whole, No}
use Rattle.geometry.specs.declared.near.Surrounds.{Surrounds}

-- What is told of a triangle of three vertices: all of them stand in front, and here it is, unless it is dropped or lies beside; or one of them
-- doesn't stand in front.
abbrev pub IsUncut : State → List Vertex → List ℕ → Surrounds → Uncut → Type 0
IsUncut s vs t near (Whole r) = AllStandInFront s vs t × MatchOption r (IsBesideIfKept s vs t near) (λ tri. kept_whole s vs t ≡ Some tri.v)
IsUncut s vs t near No = AllStandInFront s vs t → ⊥

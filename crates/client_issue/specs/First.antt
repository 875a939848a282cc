-- The first tile that an effect goes to.
use Rattle.std.specs.Prelude.{◌≡◌, ℕ, ◌<◌, ◌≤◌, true, false, None, Some}
use Rattle.rc_base.specs.Orders.Journal.{has}
use Rattle.rc_base.specs.Cluster.Tiles.{tile_count}
use Rattle.rc_base.specs.declared.state.Effect.{Effect}
use Rattle.rc_base.specs.declared.state.State.{State}
use Rattle.rc_base.specs.declared.window.Layout.{Layout}
use Rattle.client_issue.specs.Acts.{act_by, goes_to}
use Rattle.client_issue.specs.declared.pending.Pending.{Pending}

-- All parcels of an effect are pending, from the first tile on that gets one.
pub record IsFirst (l : Layout) (s : State) (place : ℕ) (effect : Effect) (p : Pending) : Type 0 where
  pub place_is : p.place ≡ place
  pub act_is : act_by effect ≡ Some p.act
  pub goes : (t : ℕ) → t < tile_count l → has p.tiles t ≡ goes_to l s p.act t
  pub tile : p.tile < tile_count l
  pub met : has p.tiles p.tile ≡ true
  pub before : (t : ℕ) → t < p.tile → has p.tiles t ≡ false
  pub unmade : p.made ≡ None

-- a layout has so many tiles, and they are 32 at most
pub record IsTileCount (l : Layout) (n : ℕ) : Type 0 where
  pub count : n ≡ tile_count l
  pub few : n ≤ 32

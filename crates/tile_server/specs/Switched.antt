-- Whose state a tile's device draws with.
use Rattle.std.specs.Prelude.{◌≡◌, ℕ, ◌⊎◌, List, Option, Some, slice_get}
use Rattle.rc_base.specs.Pictures.{Picture}
use Rattle.rc_base.specs.declared.state.State.{State}
use Rattle.draw_device.specs.Conditions.{IsClearable, IsDrawable}
use Rattle.draw_device.specs.Devices.{DeviceView}
use Rattle.tile_server.specs.declared.hardware.Hardware.{Hardware}
use Rattle.tile_server.specs.declared.kept.KeptClient.{KeptClient}

-- it is what is kept of the client that is named, if one is
pub record IsStateOf (of : Option ℕ) (s : State) (kept : List KeptClient) : Type 0 where
  pub same : (client : ℕ) (k : KeptClient) → of ≡ Some client → slice_get kept client ≡ Some k → s ≡ k.state

-- the state is the one that it was, and the same client's
pub record IsSameState (hw later : Hardware) : Type 0 where
  pub of : later.of ≡ hw.of
  pub state : later.state ≡ hw.state

-- the state is the client's
pub record IsStateNow (client : ℕ) (s : State) (hw : Hardware) : Type 0 where
  pub of : hw.of ≡ Some client
  pub state : hw.state ≡ s

-- it is as it was, or the client's
abbrev pub IsSwitched : ℕ → State → Hardware → Hardware → Type 0
IsSwitched client s hw later = IsSameState hw later ⊎ IsStateNow client s later

-- the hardware has the device's rectangle, and where its state is the client's, it is the one that is kept of the client
pub record CanDrawFor (hw : Hardware) (client : ℕ) (kept : KeptClient) (device : DeviceView) : Type 0 where
  pub aimed : hw.rect ≡ device.rect
  pub known : hw.of ≡ Some client → hw.state ≡ kept.state

-- and what is kept of the client can be drawn and cleared with, by these shared textures
pub record CanWorkFor (hw : Hardware) (client : ℕ) (kept : KeptClient) (device : DeviceView) (shared : List (Option Picture)) : Type 0 where
  pub hardware : CanDrawFor hw client kept device
  pub drawable : IsDrawable kept.state kept.images shared
  pub clearable : IsClearable kept.state

-- the state is as it was, or the client's, and the hardware and the device keep their rectangles
pub record IsSwitchedOn (client : ℕ) (s : State) (hw later : Hardware) (device drawn : DeviceView) : Type 0 where
  pub rect : drawn.rect ≡ device.rect
  pub aimed : later.rect ≡ hw.rect
  pub switched : IsSwitched client s hw later

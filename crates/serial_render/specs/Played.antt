-- What the names of an order leave that were carried out.
use Rattle.std.specs.Prelude.{ℕ, ◌+◌, ◌-◌, ◌<◌, ◌≤◌, List, ◌++◌, Option, length, take}
use Rattle.rc_base.specs.Drawing.Serial.{accepted_swaps, textures_after}
use Rattle.rc_base.specs.Formats.Within.{IsWithin}
use Rattle.rc_base.specs.Orders.Order.{names_from}
use Rattle.rc_base.specs.Pictures.{Picture}
use Rattle.rc_base.specs.declared.image.Image.{Image}
use Rattle.rc_base.specs.declared.scene.Scene.{Scene}
use Rattle.rc_base.specs.declared.sync.Name.{Name}
use Rattle.textures.specs.Stores.{HasTexels}
use Rattle.draw_device.specs.Devices.{DeviceView}
use Rattle.stream_replay.specs.Clients.{AreIssued}
use Rattle.stream_replay.specs.declared.client.Client.{Client}
use Rattle.serial_render.specs.Performed.{IsSettled}
use Rattle.serial_render.specs.Runs.{names_of_runs, run_at}
use Rattle.serial_render.specs.Shown.{IsPlayable, IsShown}
use Rattle.serial_render.specs.declared.brush.Brush.{Brush}
use Rattle.serial_render.specs.declared.runs.Run.{Run}
use Rattle.serial_render.specs.declared.stage.Stage.{Stage}

-- of an order these names were carried out: the clients, the shared textures, the brush and the device are as they leave them, and the frames are there
pub record IsPlayed (scene : Scene) (order done : List Name) (clients : List Client) (shared : List (Option Picture)) (brush : Brush) (d : DeviceView) (frames : List Image) : Type 0 where
  pub issued : AreIssued scene done clients
  pub texels : HasTexels scene.decl.shared (textures_after scene done) shared
  pub settled : IsSettled clients d.rect brush
  pub shown : IsShown scene order done d frames

-- the same of a stage
abbrev pub HasPlayed : Scene → List Name → List Name → Stage → Type 0
HasPlayed scene order done stage = IsPlayed scene order done stage.clients.items stage.shared stage.brush stage.device stage.frames

-- of an order that is kept as runs, those before one were carried out, and of that one the names below a place
abbrev pub names_below : List Run → ℕ → ℕ → List Name
names_below runs i place = names_of_runs (take i runs) ++ names_from (run_at runs i).client (run_at runs i).first (place - (run_at runs i).first)

-- of an order that can be played, and is kept as runs, one run is under way: its names below a place were carried out, and the one there is its next
pub record StandsInRun (scene : Scene) (runs : List Run) (i place : ℕ) (stage : Stage) : Type 0 where
  pub within : IsWithin scene
  pub playable : IsPlayable scene (names_of_runs runs)
  pub index : i < length runs
  pub low : (run_at runs i).first ≤ place
  pub high : place ≤ (run_at runs i).last
  pub played : HasPlayed scene (names_of_runs runs) (names_below runs i place) stage

-- the names of the run from a place on are carried out below another one, before which no frame is due that isn't there
pub record HasGathered (scene : Scene) (runs : List Run) (i place : ℕ) (after : Stage) (reached : ℕ) : Type 0 where
  pub more : place ≤ reached
  pub most : reached ≤ (run_at runs i).last + 1
  pub played : HasPlayed scene (names_of_runs runs) (names_below runs i reached) after
  pub due : accepted_swaps scene (run_at runs i).client reached ≤ length after.frames

-- more of the run was carried out than below a place
pub record GoesOn (scene : Scene) (runs : List Run) (i place : ℕ) (after : Stage) (reached : ℕ) : Type 0 where
  pub more : place < reached
  pub most : reached ≤ (run_at runs i).last + 1
  pub played : HasPlayed scene (names_of_runs runs) (names_below runs i reached) after

-- The command of a name, carried out.
use Rattle.std.specs.Prelude.{◌≡◌, ℕ, ◌+◌, List, Option, Some, slice_get}
use Rattle.rc_base.specs.Pictures.{Picture}
use Rattle.rc_base.specs.Contexts.Issue.{context_after, effect_at}
use Rattle.rc_base.specs.Drawing.PixelStep.{effect_step}
use Rattle.rc_base.specs.declared.scene.Scene.{Scene}
use Rattle.rc_base.specs.declared.state.Effect.{Effect}
use Rattle.rc_base.specs.declared.state.State.{State}
use Rattle.rc_base.specs.declared.sync.Name.{Name}
use Rattle.textures.specs.Images.{texture_image}
use Rattle.draw_device.specs.Conditions.{shared_of}
use Rattle.rc_base.specs.declared.window.Rect.{Rect}
use Rattle.draw_device.specs.Devices.{DeviceView, EachTakes}
use Rattle.draw_device.specs.Prepared.{IsPreparedFor}
use Rattle.stream_replay.specs.declared.client.Client.{Client}
use Rattle.serial_render.specs.declared.brush.Brush.{Brush}

-- what the client of a name has set behind the name's command: its state, and its private images
abbrev pub state_behind : Scene → Name → State
state_behind scene n = (context_after scene n.client (n.place + 1)).state

abbrev pub images_behind : Scene → Name → List (Option Picture)
images_behind scene n = (context_after scene n.client (n.place + 1)).images

-- what the name's command does
abbrev pub effect_by : Scene → Name → Effect
effect_by scene n = effect_at scene n.client n.place

-- each pixel took the step of the name's command, where the shared textures have these images
abbrev pub TakesEffect : Scene → Name → List (Option Picture) → DeviceView → DeviceView → Type 0
TakesEffect scene n shareds old new =
    EachTakes (effect_step (state_behind scene n) (texture_image (images_behind scene n)) (shared_of shareds) (effect_by scene n)) old new

-- what is settled for the blocks of a client, if for one, is so for the state that it has now
abbrev pub IsSettled : List Client → Rect → Brush → Type 0
IsSettled clients rect brush = (client : ℕ) (x : Client) → brush.of ≡ Some client → slice_get clients client ≡ Some x → IsPreparedFor x.context.state rect brush.prepared

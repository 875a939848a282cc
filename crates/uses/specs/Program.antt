-- What callers say of frames.
use Rattle.std.specs.Prelude.{◌≡◌, ℕ, ◌+◌, ◌<◌, false, List, Some, length, take, slice_get}
use Rattle.rc_base.specs.Drawing.Images.{frame_image}
use Rattle.rc_base.specs.Drawing.Serial.{is_below_swap}
use Rattle.rc_base.specs.Orders.Sync.{IsWellFormed, sync_lists_of}
use Rattle.rc_base.specs.declared.image.Image.{Image}
use Rattle.rc_base.specs.declared.scene.Scene.{Scene}
use Rattle.rc_base.specs.declared.sync.Name.{Name}
use Rattle.show_fronts.specs.Fronts.{front}
use Rattle.show_fronts.specs.Laws.{serial_frames}

-- each frame, counted from 0, whose Swap of its client the last name lies behind, is that of the names in front of it
abbrev pub ShowWithout : Scene → List Name → Name → List Image → Type 0
ShowWithout scene front last frames =
    (k : ℕ) → k < length frames → is_below_swap scene (k + 1) last ≡ false → slice_get frames k ≡ Some (frame_image scene front (k + 1))

-- where the scene is the first n frames of a longer show, the frames are those that come first in that
abbrev pub AreFirstOf : Scene → List Image → Type 0
AreFirstOf scene frames = (whole : Scene) (n : ℕ) → IsWellFormed (sync_lists_of whole) → scene ≡ front n whole → frames ≡ take n (serial_frames whole)

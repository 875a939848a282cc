-- Which orders a renderer can follow, and which frames it has while it does.
use Rattle.std.specs.Prelude.{◌≡◌, ℕ, ◌+◌, ◌<◌, ◌≤◌, List, length, map, take, true, Some, slice_get}
use Rattle.std.specs.List.{range_with_len}
use Rattle.rc_base.specs.Contexts.Issue.{stream_of}
use Rattle.rc_base.specs.Drawing.Images.{Pixels, image_from, frame_images}
use Rattle.rc_base.specs.Drawing.Serial.{painted, accepted_swaps}
use Rattle.rc_base.specs.Lists.{IsIn, Stands}
use Rattle.rc_base.specs.Orders.Order.{names_in}
use Rattle.rc_base.specs.declared.image.Image.{Image}
use Rattle.rc_base.specs.declared.scene.Decl.{Decl}
use Rattle.rc_base.specs.declared.scene.Scene.{Scene}
use Rattle.rc_base.specs.declared.sync.Entry.{Entry}
use Rattle.rc_base.specs.declared.sync.Name.{Name}
use Rattle.order_model.specs.Report.{frame_count}
use Rattle.draw_device.specs.Devices.{DeviceView}
use Rattle.serial_render.specs.Steps.{Holds}
use Rattle.rc_base.specs.Cluster.Tiles.{window_rect}

-- how many accepted Swaps of its client stand before the name
abbrev pub swaps_before : Scene → Name → ℕ
swaps_before scene n = accepted_swaps scene n.client n.place

-- The names of each client are those of its stream from the first one on, and no name stands before one of another client that lies before a Swap
-- which its own client has behind it.
pub record IsPlayable (scene : Scene) (order : List Name) : Type 0 where
  pub next : (i : ℕ) (n : Name) → slice_get order i ≡ Some n → (n.place ≡ names_in n.client (take i order)) × (n.place < length (stream_of scene n.client))
  pub parted : (a b : Name) → Stands a b order → swaps_before scene a ≤ accepted_swaps scene b.client (b.place + 1)

-- the picture that all these names leave, whatever was shown
abbrev pub picture_after : Scene → List Name → Pixels
picture_after scene done x y = (painted scene (λ n. true) x y done).pixel

-- the images of the first n pictures
abbrev pub images_of : Decl → (ℕ → Pixels) → ℕ → List Image
images_of decl pictures n = map (λ k. image_from decl (pictures k)) (range_with_len 1 n)

-- Where the frames so far are images of a run of pictures, and the device holds those of it that lack up to a number, the new frames are images of
-- it too.
abbrev pub AreShownOn : Decl → DeviceView → ℕ → List Image → List Image → Type 0
AreShownOn decl d count before after =
    (pictures : ℕ → Pixels) → before ≡ images_of decl pictures (length before)
    → ((k : ℕ) → length before < k → k ≤ count → Holds d (pictures k)) → after ≡ images_of decl pictures (length after)

-- the frames of an order, one for each Swap of its journal
abbrev pub frames_of : Scene → List Entry → List Name → List Image
frames_of scene journal order = frame_images scene order (frame_count journal)

-- of an order, these names were carried out: the device holds what they leave, and there is a frame for each Swap that one of them lies beyond
pub record IsShown (scene : Scene) (order done : List Name) (d : DeviceView) (frames : List Image) : Type 0 where
  pub rect : d.rect ≡ window_rect scene.decl.width scene.decl.height
  pub holds : Holds d (picture_after scene done)
  pub frames_are : frames ≡ frame_images scene order (length frames)
  pub all : (n : Name) → IsIn n done → swaps_before scene n ≤ length frames
  pub few : (most : ℕ) → ((n : Name) → IsIn n order → swaps_before scene n ≤ most) → length frames ≤ most

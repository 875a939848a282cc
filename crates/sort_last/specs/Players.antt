-- What a client's player carries out of its commands.
use Rattle.std.specs.Prelude.{◌≡◌, ℕ, zero, suc, ◌+◌, ◌-◌, ◌<◌, ◌≤◌, not, Bool, true, List, fold, length, slice_index_or, Option, if◌then◌else◌, ℤ, IfOk}
use Rattle.std.specs.declared.result.Result.{Result}
use Rattle.rc_base.specs.Pictures.{Picture}
use Rattle.rc_base.specs.Contexts.Context.{ClientContext}
use Rattle.rc_base.specs.Contexts.Issue.{stream_of, context_after, effect_at}
use Rattle.rc_base.specs.Cluster.Tiles.{window_rect}
use Rattle.rc_base.specs.Drawing.PixelStep.{effect_step}
use Rattle.rc_base.specs.Drawing.Serial.{blank_pixel, blank_textures, pixel_step}
use Rattle.rc_base.specs.Orders.Order.{names_from}
use Rattle.rc_base.specs.Orders.Sync.{sync_row_of}
use Rattle.rc_base.specs.declared.out_of_memory.OutOfMemory.{OutOfMemory}
use Rattle.rc_base.specs.declared.scene.Scene.{Scene}
use Rattle.rc_base.specs.declared.state.Effect.{Effect}
use Rattle.rc_base.specs.declared.sync.Name.{Name}
use Rattle.rc_base.specs.declared.sync.SyncOp.TheVariants as op
use Rattle.rc_base.specs.declared.sync.WaitAt.{WaitAt}
use Rattle.rc_base.specs.declared.window.Pixel.{Pixel}
use Rattle.rc_base.specs.declared.window.Rect.{Rect}
use Rattle.textures.specs.Images.{texture_image}
use Rattle.draw_device.specs.Active.{IsLayerOf}
use Rattle.draw_device.specs.Conditions.{shared_of}
use Rattle.draw_device.specs.Devices.{DeviceView, EachTakes, IsBlankIn}
use Rattle.draw_device.specs.declared.active.ActivePixels.{ActivePixels}
use Rattle.sort_last.specs.Layers.{is_clear, layer_pixel}
use Rattle.sort_last.specs.declared.apart.Batch.{Batch}
use Rattle.sort_last.specs.declared.apart.ClientNames.{ClientNames}
use Rattle.sort_last.specs.declared.play.DrawPass.{DrawPass}
use Rattle.sort_last.specs.declared.play.DrawPass.TheVariants as pass
use Rattle.sort_last.specs.declared.player.Player.{Player}
use Rattle.sort_last.specs.declared.sheet.ClientLayers.{ClientLayers}
use Rattle.sort_last.specs.declared.sheet.Sheet.{Sheet}

abbrev pub shows_effect : DrawPass → Effect → Bool
shows_effect pass.Layer e = not (is_clear e)
shows_effect pass.Clears e = is_clear e

-- the name is of the pass
abbrev pub shows : DrawPass → Scene → Name → Bool
shows p scene n = shows_effect p (effect_at scene n.client n.place)

-- a pixel after a name, where no shared texture was written
abbrev pub draw : Scene → ℤ → ℤ → Pixel → Name → Pixel
draw scene x y p n = pixel_step scene n (blank_textures scene) x y p

-- the same of a name that is shown
abbrev pub draw_if : Scene → ℤ → ℤ → (Name → Bool) → Pixel → Name → Pixel
draw_if scene x y shown p n = if shown n then draw scene x y p n else p

-- what the effect of a command of the pass does to a device's pixels; that of another command leaves them
abbrev pub HasEffect : DrawPass → Effect → ClientContext → List (Option Picture) → DeviceView → DeviceView → Type 0
HasEffect p e context shared before after =
    EachTakes (λ x y old. if shows_effect p e then effect_step context.state (texture_image context.images) (shared_of shared) e x y old else old) before after

-- ---- names of a client, from one place to below another

pub record StandIn (scene : Scene) (names : ClientNames) : Type 0 where
  pub order : names.from ≤ names.to
  pub inside : names.to ≤ length (stream_of scene names.client)

-- the client's context before its names, and behind them
abbrev pub context_before : Scene → ClientNames → ClientContext
context_before scene names = context_after scene names.client names.from

abbrev pub context_behind : Scene → ClientNames → ClientContext
context_behind scene names = context_after scene names.client names.to

-- a pixel after those of the names that are of the pass
abbrev pub pixel_behind : Scene → DrawPass → ClientNames → ℤ → ℤ → Pixel → Pixel
pixel_behind scene p names x y old = fold (draw_if scene x y (shows p scene)) old (names_from names.client names.from (names.to - names.from))

-- ---- a client's frames

-- the place of the operation at an index
abbrev pub place_in : List WaitAt → ℕ → ℕ
place_in ops k = (slice_index_or ops k (record { place = 0; op = op.Swap })).place

-- where the client's frame k begins, from 0, by its Swaps: behind the one before it
abbrev pub start_of : List WaitAt → ℕ → ℕ
start_of ops zero = 0
start_of ops (suc k) = place_in ops k + 1

-- the names are those of a client's frame, from 0, its Swap among them
pub record AreNamesOf (scene : Scene) (client frame : ℕ) (names : ClientNames) : Type 0 where
  pub client_is : names.client ≡ client
  pub from_is : names.from ≡ start_of (sync_row_of scene client).ops frame
  pub to_is : names.to ≡ start_of (sync_row_of scene client).ops (frame + 1)
  pub stand : StandIn scene names

-- the frame is one of the batch
pub record IsInBatch (b : Batch) (frame : ℕ) : Type 0 where
  pub low : b.first ≤ frame
  pub less : frame < b.end

-- ---- sheets and layers

-- the window of a scene
abbrev pub scene_window : Scene → Rect
scene_window scene = window_rect scene.decl.width scene.decl.height

-- the sheet is over the rectangle, and blank
pub record IsBlankSheet (rect : Rect) (s : Sheet) : Type 0 where
  pub over : s.device.rect ≡ rect
  pub blank : IsBlankIn rect s.device

-- a client's layer of a frame, from 1
abbrev pub IsClientLayer : Scene → ℕ → ℕ → ActivePixels → Type 0
IsClientLayer scene client frame a = IsLayerOf (scene_window scene) (layer_pixel scene client frame) a

-- They hold a client's layers of its frames from `first` to below `end`, from the first one on. Those behind them are spare.
pub record HoldLayers (scene : Scene) (client first end : ℕ) (layers : List ActivePixels) : Type 0 where
  pub room : end ≤ first + length layers
  pub each : (k : ℕ) (a : ActivePixels) → first + k < end → IsClientLayer scene client (first + k + 1) (slice_index_or layers k a)

-- A client has drawn its frames from 0 up to below `end`, and has the layers of those from `first` on: its context stands behind them, and its sheet is blank.
pub record HasDrawn (scene : Scene) (client first end : ℕ) (p : Player) : Type 0 where
  pub context : p.context ≡ context_after scene client (start_of (sync_row_of scene client).ops end)
  pub sheet : IsBlankSheet (scene_window scene) p.sheet
  pub layers : HoldLayers scene client first end p.layers.items

-- before its first frame, whichever client it is
abbrev pub IsBegun : Scene → Player → Type 0
IsBegun scene p = (client : ℕ) → HasDrawn scene client 0 0 p

-- so is each of them, where there was memory for it
pub record AreBegun (scene : Scene) (made : List (Result Player OutOfMemory)) : Type 0 where
  pub count : length made ≡ length scene.streams
  pub each : (k : ℕ) (r : Result Player OutOfMemory) → k < length scene.streams → IfOk (slice_index_or made k r) (IsBegun scene)

-- a client has drawn its frames up to below one, and has the layers of those of the batch among them
abbrev pub HasPlayed : Batch → ℕ → ℕ → Player → Type 0
HasPlayed b client frame p = HasDrawn b.scene.now client b.first frame p

-- a client has drawn its frames before the batch
abbrev pub StartsBatch : Batch → ℕ → Player → Type 0
StartsBatch b client p = HasPlayed b client b.first p

-- and its frames of the batch too
abbrev pub EndsBatch : Batch → ℕ → Player → Type 0
EndsBatch b client p = HasPlayed b client b.end p

-- the number is that of a client
abbrev pub IsClientIn : Batch → ℕ → Type 0
IsClientIn b client = client < length b.scene.now.streams

-- there is room for a layer of each frame of the batch
abbrev pub HasLayerRoom : Batch → Player → Type 0
HasLayerRoom b p = b.end ≤ b.first + length p.layers.items

-- none of a client's first layers has more active pixels
abbrev pub AreAtMost : ℕ → ℕ → Player → Type 0
AreAtMost count most p = (k : ℕ) (a : ActivePixels) → k < count → k < length p.layers.items → length (slice_index_or p.layers.items k a).colors.items ≤ most

-- nor has another client's
abbrev pub AreAllAtMost : ℕ → ℕ → List Player → Type 0
AreAllAtMost count most players = (client : ℕ) (p : Player) → client < length players → AreAtMost count most (slice_index_or players client p)

-- there was memory for all layers of each client
abbrev pub AreWhole : List Player → Type 0
AreWhole players = (k : ℕ) (p : Player) → k < length players → (slice_index_or players k p).whole ≡ true

-- each client has drawn its frames up to below one, and has the layers of those from another on
pub record HaveDrawn (scene : Scene) (first end : ℕ) (players : List Player) : Type 0 where
  pub count : length players ≡ length scene.streams
  pub each : (client : ℕ) (p : Player) → client < length scene.streams → HasDrawn scene client first end (slice_index_or players client p)

-- each client has drawn them that had memory for it
pub record AreDrawn (scene : Scene) (first end : ℕ) (players : List Player) : Type 0 where
  pub count : length players ≡ length scene.streams
  pub each : (client : ℕ) (p : Player) → client < length scene.streams → (slice_index_or players client p).whole ≡ true
      → HasDrawn scene client first end (slice_index_or players client p)

-- ---- layers that are put together

-- the layers of each client are those of its frames from one to below another
pub record HoldEach (scene : Scene) (first end : ℕ) (layers : List ClientLayers) : Type 0 where
  pub count : length layers ≡ length scene.streams
  pub each : (client : ℕ) (l : ClientLayers) → client < length scene.streams → HoldLayers scene client first end (slice_index_or layers client l).layers.items

-- those of the batch
abbrev pub HaveLayers : Batch → List ClientLayers → Type 0
HaveLayers b layers = HoldEach b.scene.now b.first b.end layers

-- a batch of the same scene begins where another one ends
pub record Follows (b next : Batch) : Type 0 where
  pub scene : next.scene.now ≡ b.scene.now
  pub first : next.first ≡ b.end

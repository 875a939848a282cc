-- What the frames of the examples show.
use Rattle.std.specs.Prelude.{ℕ, List, [], ◌∷◌, length, pos}
use Rattle.rc_base.specs.Contexts.Issue.{stream_of}
use Rattle.rc_base.specs.Drawing.Images.{frame_image}
use Rattle.rc_base.specs.Drawing.Serial.{frame_pixel}
use Rattle.rc_base.specs.Orders.Order.{names_from}
use Rattle.rc_base.specs.declared.scene.Scene.{Scene}
use Rattle.rc_base.specs.declared.sync.Name.{Name}
use Rattle.rc_base.specs.declared.window.Pixel.{Pixel}

-- the pixel in column x and row y, from the bottom, of frame k of an order
abbrev pub shown : Scene → List Name → ℕ → ℕ → ℕ → Pixel
shown scene order k x y = frame_pixel scene order k (pos x) (pos y)

-- the order of a scene's client 0 alone: all its commands, in their sequence
abbrev pub alone : Scene → List Name
alone scene = names_from 0 0 (length (stream_of scene 0))

-- that pixel of frame k, where client 0 draws alone
abbrev pub frame : Scene → ℕ → ℕ → ℕ → Pixel
frame scene k x y = shown scene (alone scene) k x y

-- the bytes of that frame, three a pixel, with the top row first
abbrev pub frame_bytes : Scene → ℕ → List ℕ
frame_bytes scene k = (frame_image scene (alone scene) k).rgb

-- the bytes of a pixel
abbrev pub red : List ℕ
red = 255 ∷ 0 ∷ 0 ∷ []

abbrev pub green : List ℕ
green = 0 ∷ 255 ∷ 0 ∷ []

abbrev pub black : List ℕ
black = 0 ∷ 0 ∷ 0 ∷ []

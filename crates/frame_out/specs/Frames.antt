-- The parts of each frame, and the images of what they show.
use Rattle.std.specs.Prelude.{ℕ, ◌+◌, ◌*◌, ◌/◌, ◌<◌, List, length, map, take, drop}
use Rattle.std.specs.List.{range_with_len}
use Rattle.rc_base.specs.Cluster.Tiles.{tile_count}
use Rattle.rc_base.specs.Drawing.Images.{Pixels, rgb_bytes}
use Rattle.rc_base.specs.declared.cluster.TilePart.{TilePart}
use Rattle.rc_base.specs.declared.image.Image.{Image}
use Rattle.rc_base.specs.declared.window.Layout.{Layout}
use Rattle.assembler.specs.Parts.{AreParts, ShowPixels}

-- how many frames have parts
abbrev pub frame_total : Layout → List TilePart → ℕ
frame_total l parts = length parts / tile_count l

-- the parts of a frame, counted from 0: one for each tile
abbrev pub frame_parts : Layout → List TilePart → ℕ → List TilePart
frame_parts l parts frame = take (tile_count l) (drop (frame * tile_count l) parts)

-- each frame has its parts
abbrev pub AreFrames : Layout → List TilePart → Type 0
AreFrames l parts = (frame : ℕ) → frame < frame_total l parts → AreParts l (frame_parts l parts frame)

-- they show these pixels of the window, the frames numbered from 1
abbrev pub ShowFrames : Layout → List TilePart → (ℕ → Pixels) → Type 0
ShowFrames l parts pixels = (frame : ℕ) → frame < frame_total l parts → ShowPixels l (frame_parts l parts frame) (pixels (frame + 1))

-- the image of these pixels of the window
abbrev pub window_image : Layout → Pixels → Image
window_image l pixels = record { width = l.width; height = l.height; rgb = rgb_bytes pixels l.width l.height }

-- the images of the first frames
abbrev pub window_images : Layout → (ℕ → Pixels) → ℕ → List Image
window_images l pixels n = map (λ k. window_image l (pixels k)) (range_with_len 1 n)

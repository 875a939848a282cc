-- What a call of an assembler makes of its image: the parts and their places are those of its frames.
use Rattle.std.specs.Prelude.{◌≡◌, ℕ, Bool, false, List}
use Rattle.rc_base.specs.declared.cluster.TilePart.{TilePart}
use Rattle.rc_base.specs.declared.image.Image.{Image}
use Rattle.rc_base.specs.declared.window.Layout.{Layout}
use Rattle.assembler.specs.Assembled as assembled
use Rattle.assembler.specs.Assembled.{shows, AreNewParts, IsAssembled}
use Rattle.assembler.specs.Parts.{black_image}
use Rattle.assembler.specs.declared.places.Assembler.{Assembler}

abbrev pub layout_of : Assembler → Layout
layout_of a = assembled.layout_of a.frames

-- a part that doesn't fit its tile was taken
abbrev pub short_of : Assembler → Bool
short_of a = assembled.short_of a.frames

-- its image
abbrev pub image_in : Assembler → Image
image_in a = a.image

-- no part was taken, and its image is black
pub record IsNewAssembler (l : Layout) (a : Assembler) : Type 0 where
  pub parts : AreNewParts l a.frames
  pub image : image_in a ≡ black_image l

module _ {I : Type 0} (gave : I → TilePart → I → Type 0) (same : I → I → Type 0) (empty_seen : I → ℕ) (bare : I → Type 0) where
  -- whether an advance completed a frame, whose image it shows then; else its image stays
  pub record Advances (before : Assembler) (lanes later : List I) (completed : Bool) (after : Assembler) : Type 0 where
    pub step : IsAssembled gave same empty_seen bare before.frames lanes (shows completed (image_in after)) after.frames later
    pub kept : completed ≡ false → image_in after ≡ image_in before

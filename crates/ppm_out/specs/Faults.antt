-- Why no image was read.
use Rattle.std.specs.Prelude.{ℕ, List, take}
use Rattle.rc_base.specs.Formats.Netpbm.{IsNoImage, SpellsImage}
use Rattle.rc_base.specs.declared.image.Image.{Image}
use Rattle.ppm_out.specs.declared.reading.PpmFault.{PpmFault}
use Rattle.ppm_out.specs.declared.reading.PpmFault.TheVariants.{NotPpm, OutOfMemory}

-- no front of the bytes is an image, and this is the place; or memory was wanting for one that stands there
abbrev pub TellsWhy : List ℕ → PpmFault → Type 0
TellsWhy bytes (NotPpm at) = IsNoImage bytes at
TellsWhy bytes OutOfMemory = (n : ℕ) × (image : Image) × SpellsImage (take n bytes) image

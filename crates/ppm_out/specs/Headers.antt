-- Headers of images.
use Rattle.std.specs.Prelude.{ℕ, ◌≤◌, ◌↔◌, List, ◌++◌, length, take}
use Rattle.rc_base.specs.Formats.Netpbm.{SpellsImage}
use Rattle.rc_base.specs.declared.image.Image.{Image}
use Rattle.ppm_out.specs.Rest.{IsSide, KnownSides, Pixels}
use Rattle.ppm_out.specs.declared.header.Header.{Header}

-- A front of the bytes is a header: it is an image exactly with the pixels of one of these sides behind it, and no shorter front is one.
pub record IsHeader (bytes : List ℕ) (h : Header) : Type 0 where
  pub width : IsSide h.width
  pub height : IsSide h.height
  pub most : h.len ≤ length bytes
  pub goes_on : (xs : List ℕ) (m : Image) → SpellsImage (take h.len bytes ++ xs) m ↔ KnownSides h.width h.height Pixels xs m
  pub none : (n : ℕ) (m : Image) → n ≤ h.len → SpellsImage (take n bytes) m → ⊥

-- What the image of parts shows.
use Rattle.std.specs.Prelude.{◌≡◌, ◌<◌, List}
use Rattle.rc_base.specs.Drawing.Images.{Pixels}
use Rattle.rc_base.specs.declared.cluster.TilePart.{TilePart}
use Rattle.rc_base.specs.declared.window.Layout.{Layout}
use Rattle.assembler.specs.Parts.{ArePartsOf, ShowPixels, window_image, picture, shown}

-- parts that show some pixels of the window have the image of these
abbrev pub PartsShowTheirPixels : Type 0
PartsShowTheirPixels =
    (l : Layout) (parts : List TilePart) (pixels : Pixels) → 0 < l.columns → 0 < l.rows → ArePartsOf l parts
    → ShowPixels l parts pixels → picture l parts ≡ window_image l pixels

-- parts show the pixels that their image has
abbrev pub PartsShowTheirImage : Type 0
PartsShowTheirImage =
    (l : Layout) (parts : List TilePart) → 0 < l.columns → 0 < l.rows → ArePartsOf l parts → ShowPixels l parts (shown l parts)

-- The image of parts is that of the pixels that they show.
use Rattle.std.proofs.Common.{◌≡◌, ◌<◌, List, ap}
use Rattle.rc_base.specs.Drawing.Images.{Pixels}
use Rattle.rc_base.specs.declared.cluster.TilePart.{TilePart}
use Rattle.rc_base.specs.declared.window.Layout.{Layout}
use Rattle.assembler.specs.Parts.{AreParts, ArePartsOf, ShowPixels, image_with, window_image, picture}
use Rattle.assembler.proofs.Whole.{one_picture}

pub shows_pixels : (l : Layout) (parts : List TilePart) (pixels : Pixels) → 0 < l.columns → 0 < l.rows → ArePartsOf l parts → ShowPixels l parts pixels → picture l parts ≡ window_image l pixels
shows_pixels l parts pixels columns rows are show = ap (image_with l) (one_picture l parts columns rows are pixels show)

pub are_parts_of : (l : Layout) (parts : List TilePart) → AreParts l parts → ArePartsOf l parts
are_parts_of l parts are = record { count = are.count; size = λ tile p is. (are.each tile p is).2 }

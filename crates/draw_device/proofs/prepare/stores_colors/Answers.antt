use Rattle.std.proofs.Common.{◌∙◌, sym}
use Rattle.draw_device.proofs.ColumnsToPixels.{no_picture}
use Rattle.draw_device.proofs.prepare.stores_colors.Goals as goal

pub returns : goal.returns
returns c done = record {
  alone = c.requires.stores c.if-not-plan.false;
  none = no_picture c.args.texture.now (sym c.has_image.ensures ∙ c.if-has_image.false);
  ranged = c.has_depths.ensures.fragments done;
}

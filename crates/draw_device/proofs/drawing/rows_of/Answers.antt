use Rattle.std.proofs.Common.{◌∙◌, ap, sym}
use Rattle.rc_base.specs.declared.window.Rect.{Rect}
use Rattle.draw_device.proofs.drawing.rows_of.Goals as goal

pub returns : goal.returns
returns c =
    let e = c.spans.ensures in
    record {
      triangle = e.triangle;
      rect = e.rect;
      first = e.row ∙ sym (ap (λ (r : Rect). r.y0) e.rect);
    }

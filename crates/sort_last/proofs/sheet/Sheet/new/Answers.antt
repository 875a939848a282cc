use Rattle.std.proofs.Common.{ap, sym, ◌∙◌}
use Rattle.rc_base.specs.Cluster.Tiles.{is_in_rect}
use Rattle.rc_base.specs.declared.window.Rect.{Rect}
use Rattle.sort_last.proofs.sheet.Sheet.new.Goals as goal

pub returns : goal.returns
returns c =
    let d = c.in_ok-device.ensures in
    let over = c.window.ensures.sides in
    record {
      over = d.rect ∙ over;
      blank = λ x y inside. d.blank x y (ap (λ (r : Rect). is_in_rect r x y) over ∙ inside);
    }

use Rattle.std.proofs.Common.{◌≡◌, ◌-◌, ap, sym, ◌∙◌}
use Rattle.rc_base.specs.Cluster.Tiles.{is_in_rect}
use Rattle.rc_base.specs.declared.window.Rect.{Rect}
use Rattle.sort_last.specs.Players.{scene_window}
use Rattle.sort_last.proofs.DrawnFrames.{drawn_on_blank, layer_blank, layer_same}
use Rattle.sort_last.proofs.sheet.Sheet.draw.Goals as goal

pub blank-requires-clause-beside : goal.blank-requires-clause-beside
blank-requires-clause-beside c x y inside beside =
    let s = c.args.batch.now.scene.now in
    let n = c.args.names in
    let over = c.in_ok-play.ensures.rect ∙ c.requires.sheet.over in
    layer_blank s c.args.batch.now.ready.composable n.client n.from (n.to - n.from) x y _
    (drawn_on_blank s n.client n.from (n.to - n.from) (scene_window s) _ _ c.requires.sheet.over c.requires.sheet.blank c.in_ok-play.ensures.drawn x y
    (ap (λ (r : Rect). is_in_rect r x y) (sym over) ∙ inside))
    (c.drawn-run.ensures.beside x y inside beside)

pub returns-clause-sheet : goal.returns-clause-sheet
returns-clause-sheet c =
    let over = c.in_ok-play.ensures.rect ∙ c.requires.sheet.over in
    record { over = c.blank.ensures.rect ∙ over; blank = λ x y inside. c.blank.ensures.blank x y (ap (λ (r : Rect). is_in_rect r x y) over ∙ inside) }

pub returns-clause-layer : goal.returns-clause-layer
returns-clause-layer c =
    let s = c.args.batch.now.scene.now in
    let n = c.args.names in
    let over = c.in_ok-play.ensures.rect ∙ c.requires.sheet.over in
    layer_same _ (scene_window s) _ _ c.copy_active.new.layer over
    (λ x y inside. drawn_on_blank s n.client n.from (n.to - n.from) (scene_window s) _ _ c.requires.sheet.over c.requires.sheet.blank c.in_ok-play.ensures.drawn x y
    (ap (λ (r : Rect). is_in_rect r x y) (sym over) ∙ inside))
    c.in_ok-copy_active.ensures

use Rattle.std.proofs.Common.{subst, rules}
use Rattle.rc_base.specs.Drawing.Cover.{is_in_scissor}
use Rattle.rc_base.specs.declared.window.Rect.{Rect}
use Rattle.raster.specs.Clips.{IsPartWhere}
use Rattle.race_check.specs.Touches.{part_has, clear_has}
use Rattle.race_check.proofs.TouchesInTurn.{touch_as}
use Rattle.race_check.proofs.TrianglesBeside.{clear_part, part_of_window}
use Rattle.race_check.proofs.touch.touch_clear.Goals as goal

pub touch_part-requires : goal.touch_part-requires
touch_part-requires c =
    let s = c.args.state.now in
    let v = c.args.visit.now in
    let part = part_of_window (is_in_scissor s) v.width v.height c.scissored.result (subst (λ (r : Rect). IsPartWhere r c.scissored.result (is_in_scissor s)) c.window_rect.ensures c.scissored.ensures) in
    record { visit = c.requires; part = part }

pub returns : goal.returns
returns c = record {
  size = search rules;
  touched =
      let s = c.args.state.now in
      let v = c.args.visit.now in
      let part = subst (λ (r : Rect). IsPartWhere r c.scissored.result (is_in_scissor s)) c.window_rect.ensures c.scissored.ensures in
      touch_as (part_has c.scissored.result) (clear_has s) v c.args.pixels.now.cells.items c.touch_part.new.pixels.cells.items c.args.seen c.touch_part.result
      c.touch_part.ensures.touched (clear_part s v.width v.height c.scissored.result part);
}

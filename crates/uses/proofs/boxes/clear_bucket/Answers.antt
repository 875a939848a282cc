use Rattle.std.proofs.Common.{◌||◌, not, Bool, sym, ap, pos}
use Rattle.rc_base.specs.Drawing.Cover.{is_in_area}
use Rattle.rc_base.specs.Drawing.Touch.{touches}
use Rattle.rc_base.specs.declared.state.Effect.TheVariants as eff
use Rattle.uses.proofs.Buckets.{are_sent}
use Rattle.uses.proofs.boxes.clear_bucket.Goals as goal

pub returns : goal.returns
unfolding touches
returns c off tile x y low here =
    let s = c.args.state.now in
    are_sent c.args.layout.now s (eff.Clear 0) c.window_rect-window.result c.clear_box.result c.met.result
    c.requires c.touched_pixels_lie_in_the_box.ensures.tiles (sym c.window_rect-window.ensures) (c.clear_box.ensures.tiles 0) c.met.ensures
    tile x y low here (ap (λ (on : Bool). not on || is_in_area s.scissor (pos x) (pos y)) off)

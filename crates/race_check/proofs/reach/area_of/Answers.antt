use Rattle.std.proofs.Common.{Option, pos, subst}
use Rattle.rc_base.specs.declared.window.Rect.{Rect}
use Rattle.bounds_bucket.specs.Boxes.{HoldsTouched}
use Rattle.rc_base.specs.Cluster.Tiles.{window_rect}
use Rattle.scene_lemmas.proofs.Rectangles.{in_window}
use Rattle.race_check.proofs.reach.area_of.Goals as goal

pub returns-in-Some-clause-all : goal.returns-in-Some-clause-all
returns-in-Some-clause-all c x y lx ly t =
    let s = c.args.state.now in
    let e = c.args.effect.now in
    let w = c.args.width in
    let h = c.args.height in
    let held = subst (λ (r : Rect). HoldsTouched s e r c.box_of.result) c.window_rect.ensures c.box_of.ensures in
    let some = subst (λ (o : Option Rect). HoldsTouched s e (window_rect w h) o) c.in-Some.is held in
    c.area_in.ensures.all x y lx ly (some (pos x) (pos y) (in_window w h x y lx ly) t)

pub returns-in-None-clause-all : goal.returns-in-None-clause-all
returns-in-None-clause-all c x y lx ly t =
    let s = c.args.state.now in
    let e = c.args.effect.now in
    let w = c.args.width in
    let h = c.args.height in
    let held = subst (λ (r : Rect). HoldsTouched s e r c.box_of.result) c.window_rect.ensures c.box_of.ensures in
    let none = subst (λ (o : Option Rect). HoldsTouched s e (window_rect w h) o) c.in-None.is held in
    absurd (none (pos x) (pos y) (in_window w h x y lx ly) t)

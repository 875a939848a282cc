use Rattle.std.proofs.Common.{ℕ, ◌+◌, ◌∙◌, List, Option, pos, arith, sym, subst, length-set, to_z-of_z, FitsSigned, w32}
use Rattle.rc_base.specs.Pictures.{Picture}
use Rattle.rc_base.specs.declared.state.State.{State}
use Rattle.rc_base.specs.declared.window.WindowVertex.{WindowVertex}
use Rattle.draw_device.specs.Shapes.{fragment_pixel}
use Rattle.draw_device.specs.Loops.{run_fragment}
use Rattle.draw_device.proofs.Runs.{reached, run_pixel, run_end}
use Rattle.draw_device.specs.Shades.{AreShades, AreNextShades}
use Rattle.draw_device.specs.declared.run.Run.{Run}
use Rattle.draw_device.specs.declared.shades.Shades.{Shades}
use Rattle.draw_device.specs.declared.shades.Shades.TheVariants as shades
use Rattle.draw_device.proofs.Steps.{color_moved, value_moved, through_passes}
use Rattle.draw_device.proofs.short_rows.draw_short.Goals as goal

pub returns : goal.returns
returns c =
    let order = c.args.run.order in
    let e = c.loop-x.auto.x-end order in
    record {
      colors = c.loop-x.invariant.colors;
      depths = c.loop-x.invariant.depths;
      drawn = run_end (fragment_pixel c.args.setup.now.state.now c.args.setup.now.texture.now c.args.setup.now.tri.now.v) c.args.run.left c.args.run.row c.args.run.from _ _ _ _ (omega arith) c.loop-x.invariant.drawn;
    }

pub shade_by-shade-requires-clause-place : goal.shade_by-shade-requires-clause-place
shade_by-shade-requires-clause-place c = reached c.args.setup.now.tri.now.v c.args.run c.loop-x.x c.requires.row.covered (omega arith) (omega arith)

pub test_step-requires : goal.test_step-requires
test_step-requires c =
    let r = c.args.run in
    let x = c.loop-x.x in
    let inside = c.requires.row.covered x (omega arith) (omega arith) in
    rw (to_z-of_z (record { sfits = c.value_by-depth.type_inv }), c.value_by-depth.ensures.depth c.loop-x.invariant.ramp) (c.requires.ranged (pos (r.left + x)) (pos r.row) inside)

next_shades : (s : State) (p : Option Picture) (v : List WindowVertex) (r : Run) (k : ℕ) (old new : Shades) → AreShades s p v r k old → AreNextShades old new → AreShades s p v r (k + 1) new
next_shades s p v r k (shades.One color) new h n = subst (λ (z : Shades). AreShades s p v r (k + 1) z) (sym n) h
next_shades s p v r k (shades.Ramp ramp) (shades.One color) h n = absurd n
next_shades s p v r k (shades.Ramp ramp) (shades.Ramp next) h n =
    (h.0, color_moved _ r.left k r.row r.up _ (n v (pos (r.left + k)) (pos r.row) (1 + k + r.up) h.1))

pub loop-x-preserved : goal.loop-x-preserved
loop-x-preserved c =
    let a = c.args in
    let r = a.run in
    let s = a.setup.now.state.now in
    let p = a.setup.now.texture.now in
    let v = a.setup.now.tri.now.v in
    let x = c.loop-x.x in
    let i = c.loop-x.invariant in
    let order = c.args.run.order in
    let alike = i.depths ∙ c.requires.row.alike ∙ sym i.colors in
    let f = run_fragment v r x in
    let fit : FitsSigned w32 c.value_by-depth.result = record { sfits = c.value_by-depth.type_inv } in
    let color = rw c.shade_by-shade.ensures at c.laid-color.ensures in
    let e = c.test_step.ensures s p f a.setup.now.planned.depth (through_passes s _ c.requires.through) color (to_z-of_z fit ∙ c.value_by-depth.ensures.depth c.loop-x.invariant.ramp) in
    record {
      colors = length-set _ _ _ ∙ i.colors;
      depths = length-set _ _ _ ∙ i.depths;
      drawn = run_pixel (fragment_pixel s p v) r.left r.row r.from x _ c.loop-x.colors c.loop-x.depths _ _ alike i.drawn (omega arith) (omega (arith, i.colors, c.requires.row.inside)) e;
      ramp = value_moved _ (λ (c : WindowVertex). c.z) r.left x r.row r.up _ (c.advance.ensures v (pos (r.left + x)) (pos r.row) _ (1 + x + r.up) i.ramp);
      shades = next_shades s p v r x c.loop-x.shades c.advance-in-loop-x.new.shades i.shades c.advance-in-loop-x.ensures;
    }

pub value_by-depth-requires : goal.value_by-depth-requires
value_by-depth-requires c = reached c.args.setup.now.tri.now.v c.args.run c.loop-x.x c.requires.row.covered (omega arith) (omega arith)

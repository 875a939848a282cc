use Rattle.std.proofs.Common.{◌≡◌, ◌+◌, ◌∙◌, ℕ, pos, arith, subst, sym, to_z-of_z, FitsSigned, w32, Option}
use Rattle.std.proofs.lemmas.Int.{ints, by_lt_z}
use Rattle.rc_base.specs.Pictures.{Picture}
use Rattle.rc_base.specs.declared.command.Rgba.{Rgba}
use Rattle.rc_base.specs.declared.window.WindowVertex.{WindowVertex}
use Rattle.fragment_ops.specs.DepthTests.{pixel}
use Rattle.draw_device.specs.Pixels.{depth_at}
use Rattle.draw_device.specs.Shapes.{fragment_pixel}
use Rattle.draw_device.specs.Loops.{run_fragment, IsDepthAt}
use Rattle.draw_device.proofs.Runs.{reached}
use Rattle.draw_device.proofs.Steps.{value_moved}
use Rattle.draw_device.proofs.hidden.first_passing.Goals as goal

pub loop-x-preserved : goal.loop-x-preserved
loop-x-preserved c =
    let r = c.args.run in
    let v = c.args.setup.now.tri.now.v in
    let x = c.loop-x.x in
    let s = c.args.setup.now.state.now in
    let depths = c.args.depths.now in
    let order = c.args.run.order in
    let fit : FitsSigned w32 c.value_by-depth.result = record { sfits = c.value_by-depth.type_inv } in
    let here = λ (p : Option Picture) (color : Rgba). c.passes_step.ensures c.if-passes_step.false s p (run_fragment v r x) color c.args.setup.now.planned.depth (to_z-of_z fit ∙ c.value_by-depth.ensures.depth c.loop-x.invariant.ramp) in
    record {
      hidden = λ p color k m n. by_lt_z (pos k) (pos x)
          (λ o. c.loop-x.invariant.hidden p color k m (omega (arith, ints, o)))
          (λ o. let same : k ≡ x = omega (arith, ints, o, n) in
          subst (λ (z : ℕ). fragment_pixel s p v (pos (r.left + z)) (pos r.row) (pixel color (depth_at depths z)) ≡ pixel color (depth_at depths z)) (sym same) (here p color));
      ramp = value_moved _ (λ (c : WindowVertex). c.z) r.left x r.row r.up _ (c.advance.ensures v (pos (r.left + x)) (pos r.row) _ (1 + x + r.up) c.loop-x.invariant.ramp);
    }

pub passes_step-requires : goal.passes_step-requires
passes_step-requires c =
    let r = c.args.run in
    let x = c.loop-x.x in
    let inside = c.requires.covered x (omega arith) (omega arith) in
    rw (to_z-of_z (record { sfits = c.value_by-depth.type_inv }), c.value_by-depth.ensures.depth c.loop-x.invariant.ramp) (c.requires.depths.ranged (pos (r.left + x)) (pos r.row) inside)

pub returns-then-passes_step-clause-visible : goal.returns-then-passes_step-clause-visible
returns-then-passes_step-clause-visible c =
    record {
      low = omega arith;
      high = omega arith;
      hidden = c.loop-x.invariant.hidden;
    }

pub returns-clause-visible : goal.returns-clause-visible
returns-clause-visible c =
    let order = c.args.run.order in
    let e = c.loop-x.auto.x-end order in
    record {
      low = order;
      high = omega arith;
      hidden = λ p color k m n. c.loop-x.invariant.hidden p color k m (omega arith);
    }

pub returns-clause-depths : goal.returns-clause-depths
returns-clause-depths c =
    let order = c.args.run.order in
    let e = c.loop-x.auto.x-end order in
    let same : c.loop-x.x ≡ c.args.run.to = omega arith in
    subst (λ (k : ℕ). IsDepthAt c.args.setup.now.tri.now.v c.args.run k c.loop-x.ramp) same c.loop-x.invariant.ramp

pub value_by-depth-requires : goal.value_by-depth-requires
value_by-depth-requires c = reached c.args.setup.now.tri.now.v c.args.run c.loop-x.x c.requires.covered (omega arith) (omega arith)

use Rattle.std.proofs.Common.{ℕ, ◌+◌, ◌∙◌, pos, arith, to_z-of_z, FitsSigned, w32}
use Rattle.rc_base.specs.declared.command.Rgba.{Rgba}
use Rattle.rc_base.specs.declared.window.WindowVertex.{WindowVertex}
use Rattle.draw_device.specs.Loops.{run_fragment, texel_for}
use Rattle.draw_device.proofs.Runs.{reached}
use Rattle.draw_device.proofs.Steps.{color_more, color_end, color_none, value_moved}
use Rattle.draw_device.proofs.colors.repeat_colors.Goals as goal

pub loop-x-preserved : goal.loop-x-preserved
loop-x-preserved c =
    let r = c.args.run in
    let d = c.loop-x.invariant.done in
    let s = d.size in
    let order = c.args.run.order in
    record {
      done = color_more (λ (k : ℕ) (old : Rgba). texel_for c.args.setup.now.state.now c.args.setup.now.texture.now (run_fragment c.args.setup.now.tri.now.v c.args.run k)) r.from c.loop-x.x _ _ _ d (omega arith) (omega arith) (c.repeated_texel.ensures);
      ss = value_moved _ (λ (c : WindowVertex). c.s) r.left c.loop-x.x r.row r.up _ (c.advance.ensures c.args.setup.now.tri.now.v (pos (r.left + c.loop-x.x)) (pos r.row) _ (1 + c.loop-x.x + r.up) c.loop-x.invariant.ss);
      ts = value_moved _ (λ (c : WindowVertex). c.t) r.left c.loop-x.x r.row r.up _ (c.advance-in-loop-x.ensures c.args.setup.now.tri.now.v (pos (r.left + c.loop-x.x)) (pos r.row) _ (1 + c.loop-x.x + r.up) c.loop-x.invariant.ts);
    }

pub returns : goal.returns
returns c =
    let order = c.args.run.order in
    let e = c.loop-x.auto.x-end order in
    color_end (λ (k : ℕ) (old : Rgba). texel_for c.args.setup.now.state.now c.args.setup.now.texture.now (run_fragment c.args.setup.now.tri.now.v c.args.run k)) c.args.run.from _ c.args.run.to _ _ (omega arith) c.loop-x.invariant.done

pub value_by-s-requires : goal.value_by-s-requires
value_by-s-requires c = reached c.args.setup.now.tri.now.v c.args.run c.loop-x.x c.requires.along.covered (omega arith) (omega arith)

pub value_by-t-requires : goal.value_by-t-requires
value_by-t-requires c = reached c.args.setup.now.tri.now.v c.args.run c.loop-x.x c.requires.along.covered (omega arith) (omega arith)

pub repeated_texel-requires-clause-place : goal.repeated_texel-requires-clause-place
repeated_texel-requires-clause-place c =
    let i = c.loop-x.invariant in
    let fs : FitsSigned w32 c.value_by-s.result = record { sfits = c.value_by-s.type_inv } in
    let ft : FitsSigned w32 c.value_by-t.result = record { sfits = c.value_by-t.type_inv } in
    record { image = c.requires.along.texels.sampler; across = to_z-of_z fs ∙ c.value_by-s.ensures.s i.ss; up = to_z-of_z ft ∙ c.value_by-t.ensures.t i.ts }

pub loop-x-init : goal.loop-x-init
loop-x-init c =
    let s = c.args.setup.now in
    record {
      done = color_none _ _ _;
      ss = c.value_ramp-ss.ensures s.tri.now.v (λ (c : WindowVertex). c.s) c.requires.along.texels.across;
      ts = c.value_ramp-ts.ensures s.tri.now.v (λ (c : WindowVertex). c.t) c.requires.along.texels.up;
    }

use Rattle.std.proofs.Common.{ℕ, arith, refl}
use Rattle.rc_base.specs.declared.command.Rgba.{Rgba}
use Rattle.draw_device.specs.Loops.{run_fragment}
use Rattle.draw_device.proofs.Steps.{own_are, replaced_are, tinted_are}
use Rattle.draw_device.proofs.fragments.color_row.Goals as goal

pub returns-in-Flat-clause-done : goal.returns-in-Flat-clause-done
returns-in-Flat-clause-done c =
    let s = c.args.setup.now in
    let h = rw c.in-Flat.is at c.requires.source in
    own_are s.state.now s.texture.now s.tri.now.v c.args.run (λ (k : ℕ) (o : Rgba). c.in-Flat.color) _ _ h.0 (λ k m n o. h.1 _ _ (c.requires.covered k m n)) c.fill_colors.ensures

pub step_colors-requires : goal.step_colors-requires
step_colors-requires c =
    let h = rw c.in-Smooth.is at c.requires.source in
    record { room = c.requires.room; covered = c.requires.covered; ramp = c.color_ramp.ensures c.args.setup.now.tri.now.v h.1 }

pub returns-in-Smooth-clause-done : goal.returns-in-Smooth-clause-done
returns-in-Smooth-clause-done c =
    let s = c.args.setup.now in
    let h = rw c.in-Smooth.is at c.requires.source in
    own_are s.state.now s.texture.now s.tri.now.v c.args.run (λ (k : ℕ) (o : Rgba). (run_fragment s.tri.now.v c.args.run k).color) _ _ h.0 (λ k m n o. refl) c.step_colors.ensures

pub texel_row-requires : goal.texel_row-requires
texel_row-requires c = record { room = c.requires.room; covered = c.requires.covered; texels = (rw c.in-Texels.is at c.requires.source).0 }

pub returns-in-Texels-clause-done : goal.returns-in-Texels-clause-done
returns-in-Texels-clause-done c =
    let s = c.args.setup.now in
    let h = rw c.in-Texels.is at c.requires.source in
    replaced_are s.state.now s.texture.now s.tri.now.v c.args.run _ _ h.0.texel h.1 c.texel_row.ensures

pub texel_row-requires-in-Tinted : goal.texel_row-requires-in-Tinted
texel_row-requires-in-Tinted c = record { room = c.requires.room; covered = c.requires.covered; texels = (rw c.in-Tinted.is at c.requires.source).0 }

pub tint_colors-requires-clause-kind : goal.tint_colors-requires-clause-kind
tint_colors-requires-clause-kind c = (rw c.in-Tinted.is at c.requires.source).1

pub tint_colors-requires-clause-along : goal.tint_colors-requires-clause-along
tint_colors-requires-clause-along c =
    let h = rw c.in-Tinted.is at c.requires.source in
    let room = c.requires.room in
    let size = c.texel_row-in-Tinted.ensures.size in
    record { room = omega arith; covered = c.requires.covered; ramp = c.color_ramp-in-Tinted.ensures c.args.setup.now.tri.now.v h.2 }

pub returns-in-Tinted-clause-done : goal.returns-in-Tinted-clause-done
returns-in-Tinted-clause-done c =
    let s = c.args.setup.now in
    let h = rw c.in-Tinted.is at c.requires.source in
    tinted_are s.state.now s.texture.now s.tri.now.v c.args.run _ _ _ h.0.texel c.texel_row-in-Tinted.ensures c.tint_colors.ensures

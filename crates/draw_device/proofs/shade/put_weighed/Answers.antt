use Rattle.std.proofs.Common.{◌≡◌, ◌∙◌, sym, refl, false, to_z-of_z, FitsSigned, w32}
use Rattle.rc_base.specs.Drawing.Fragment.{fragment_of}
use Rattle.rc_base.specs.Drawing.PixelStep.{fragment_color}
use Rattle.raster.specs.Colors.{is_depth}
use Rattle.draw_device.proofs.Steps.{through_passes}
use Rattle.draw_device.proofs.shade.put_weighed.Goals as goal

pub returns-then-not-is_depth : goal.returns-then-not-is_depth
returns-then-not-is_depth c =
    let s = c.args.setup.now in
    let v = s.tri.now.v in
    let x = c.args.x in
    let y = c.args.y in
    let f : FitsSigned w32 c.depth_at-depth.result = record { sfits = c.depth_at-depth.type_inv } in
    let depth : c.depth_at-depth.result ≡ (fragment_of v x y).depth = rw (to_z-of_z c.ranges.x, to_z-of_z c.ranges.y) at c.depth_at-depth.ensures in
    let e : is_depth (fragment_of v x y).depth ≡ false = rw (to_z-of_z f, depth) at (sym c.is_depth.ensures ∙ c.if-not-is_depth.true) in
    sym (rw e refl)

pub passes_step-requires : goal.passes_step-requires
passes_step-requires c = sym c.is_depth.ensures ∙ c.if-not-is_depth.false

pub returns-then-not-passes_step : goal.returns-then-not-passes_step
returns-then-not-passes_step c =
    let s = c.args.setup.now in
    let v = s.tri.now.v in
    let x = c.args.x in
    let y = c.args.y in
    let f : FitsSigned w32 c.depth_at-depth.result = record { sfits = c.depth_at-depth.type_inv } in
    let depth : c.depth_at-depth.result ≡ (fragment_of v x y).depth = rw (to_z-of_z c.ranges.x, to_z-of_z c.ranges.y) at c.depth_at-depth.ensures in
    sym (c.passes_step.ensures c.if-not-passes_step.true s.state.now s.texture.now (fragment_of v x y) _ s.planned.depth (to_z-of_z f ∙ depth))

pub laid-written-requires : goal.laid-written-requires
laid-written-requires c = (rw c.in-Some.is at c.requires.shading.over).laid

pub test_step-requires : goal.test_step-requires
test_step-requires c = sym c.is_depth.ensures ∙ c.if-not-is_depth.false

pub returns-in-Some : goal.returns-in-Some
returns-in-Some c =
    let s = c.args.setup.now in
    let v = s.tri.now.v in
    let x = c.args.x in
    let y = c.args.y in
    let f : FitsSigned w32 c.depth_at-depth.result = record { sfits = c.depth_at-depth.type_inv } in
    let depth : c.depth_at-depth.result ≡ (fragment_of v x y).depth = rw (to_z-of_z c.ranges.x, to_z-of_z c.ranges.y) at c.depth_at-depth.ensures in
    let color : c.color_at-color.result ≡ fragment_color s.state.now s.texture.now (fragment_of v x y) = rw (to_z-of_z c.ranges.x, to_z-of_z c.ranges.y) at c.color_at-color.ensures in
    let over = rw c.in-Some.is at c.requires.shading.over in
    c.test_step.ensures s.state.now s.texture.now (fragment_of v x y) s.planned.depth (through_passes s.state.now _ over.through)
    (rw color at c.laid-written.ensures) (to_z-of_z f ∙ depth)

pub returns-in-None : goal.returns-in-None
returns-in-None c =
    let s = c.args.setup.now in
    let v = s.tri.now.v in
    let x = c.args.x in
    let y = c.args.y in
    let f : FitsSigned w32 c.depth_at-depth.result = record { sfits = c.depth_at-depth.type_inv } in
    let depth : c.depth_at-depth.result ≡ (fragment_of v x y).depth = rw (to_z-of_z c.ranges.x, to_z-of_z c.ranges.y) at c.depth_at-depth.ensures in
    let color : c.color_at-color.result ≡ fragment_color s.state.now s.texture.now (fragment_of v x y) = rw (to_z-of_z c.ranges.x, to_z-of_z c.ranges.y) at c.color_at-color.ensures in
    c.put_any.ensures s.texture.now (fragment_of v x y) color (to_z-of_z f ∙ depth)

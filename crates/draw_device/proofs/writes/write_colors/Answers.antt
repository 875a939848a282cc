use Rattle.draw_device.proofs.Steps.{plain_are, blended_are, full_are, masked_are, mixed_are}
use Rattle.draw_device.proofs.writes.write_colors.Goals as goal

pub returns-in-Plain-clause-written : goal.returns-in-Plain-clause-written
returns-in-Plain-clause-written c =
    let s = c.args.setup.now in
    plain_are s.state.now s.texture.now s.tri.now.v c.args.run c.args.stored.now _ (rw c.in-Plain.is at s.planned.write) c.requires.colored

pub over_colors-requires-clause-kind : goal.over_colors-requires-clause-kind
over_colors-requires-clause-kind c = rw c.in-Over.is at c.args.setup.now.planned.write

pub returns-in-Over-clause-written : goal.returns-in-Over-clause-written
returns-in-Over-clause-written c =
    let s = c.args.setup.now in
    blended_are s.state.now s.texture.now s.tri.now.v c.args.run c.args.stored.now _ _ c.requires.colored c.over_colors.ensures

pub sum_colors-requires-clause-kind : goal.sum_colors-requires-clause-kind
sum_colors-requires-clause-kind c = rw c.in-Sum.is at c.args.setup.now.planned.write

pub returns-in-Sum-clause-written : goal.returns-in-Sum-clause-written
returns-in-Sum-clause-written c =
    let s = c.args.setup.now in
    blended_are s.state.now s.texture.now s.tri.now.v c.args.run c.args.stored.now _ _ c.requires.colored c.sum_colors.ensures

pub returns-in-Masked-clause-written : goal.returns-in-Masked-clause-written
returns-in-Masked-clause-written c =
    let s = c.args.setup.now in
    masked_are s.state.now s.texture.now s.tri.now.v c.args.run c.args.stored.now _ _ (rw c.in-Masked.is at s.planned.write) c.requires.colored c.mask_colors.ensures

pub invariant_of-blending : goal.invariant_of-blending
invariant_of-blending c = record { kind = (rw c.in-Blended.is at c.args.setup.now.planned.write).0 }

pub returns-in-Blended-clause-written : goal.returns-in-Blended-clause-written
returns-in-Blended-clause-written c =
    let s = c.args.setup.now in
    full_are s.state.now s.texture.now s.tri.now.v c.args.run c.args.stored.now _ _ (rw c.in-Blended.is at s.planned.write).1 c.requires.colored c.blend_colors.ensures

pub invariant_of-blending-in-Both : goal.invariant_of-blending-in-Both
invariant_of-blending-in-Both c = record { kind = rw c.in-Both.is at c.args.setup.now.planned.write }

pub returns-in-Both-clause-written : goal.returns-in-Both-clause-written
returns-in-Both-clause-written c =
    let s = c.args.setup.now in
    mixed_are s.state.now s.texture.now s.tri.now.v c.args.run c.args.stored.now _ _ _ c.requires.colored c.blend_colors-in-Both.ensures c.mask_colors-in-Both.ensures

pub over_colors-requires-clause-columns : goal.over_colors-requires-clause-columns
over_colors-requires-clause-columns c = record { order = c.args.run.order; room = c.requires.room; beside = c.requires.stored }

pub sum_colors-requires-clause-columns : goal.sum_colors-requires-clause-columns
sum_colors-requires-clause-columns c = record { order = c.args.run.order; room = c.requires.room; beside = c.requires.stored }

pub blend_colors-requires : goal.blend_colors-requires
blend_colors-requires c = record { order = c.args.run.order; room = c.requires.room; beside = c.requires.stored }

pub mask_colors-requires : goal.mask_colors-requires
mask_colors-requires c = record { order = c.args.run.order; room = c.requires.room; beside = c.requires.stored }

pub blend_colors-requires-in-Both : goal.blend_colors-requires-in-Both
blend_colors-requires-in-Both c = record { order = c.args.run.order; room = c.requires.room; beside = c.requires.stored }

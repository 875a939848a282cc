use Rattle.std.proofs.Common.{◌≡◌, ℕ, ◌*◌, ◌∙◌, [], ◌∷◌, ap}
use Rattle.rc_base.specs.Formats.Limits.{first_outside, held_limit, least_swaps}
use Rattle.rc_base.proofs.WithinLimits.{width_within, height_within, few_frames}
use Rattle.scene_file.proofs.LimitsByParts.{held_is}
use Rattle.scene_file.proofs.limits.check_held.Goals as goal

pub frame_pixels-requires-clause-window : goal.frame_pixels-requires-clause-window
frame_pixels-requires-clause-window c = record { width = (width_within c.args.scene.now c.requires).1; height = (height_within c.args.scene.now c.requires).1 }

pub frame_pixels-requires-clause-frames : goal.frame_pixels-requires-clause-frames
frame_pixels-requires-clause-frames c =
    rw (c.count_frames-frames.ensures, c.as_slice.ensures) (few_frames c.args.scene.now c.requires)

pub returns : goal.returns
unfolding held_limit
returns c =
    let d = c.args.scene.now.decl in
    let frames : c.count_frames-frames.result ≡ least_swaps c.args.scene.now.streams = c.count_frames-frames.ensures ∙ ap least_swaps c.as_slice.ensures in
    let pixels : c.frame_pixels.result ≡ least_swaps c.args.scene.now.streams * (d.width * d.height) =
    c.frame_pixels.ensures ∙ ap (λ (n : ℕ). n * (d.width * d.height)) frames in
    held_is c.args.scene.now c.judge.result
    (c.judge.ensures ∙ ap (λ (n : ℕ). first_outside (record { what = 19; value = n; least = 0; most = 33554432 } ∷ [])) pixels)

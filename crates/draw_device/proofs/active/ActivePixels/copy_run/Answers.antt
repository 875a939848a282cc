use Rattle.std.proofs.Common.{◌-◌, ap, refl, take, drop, ◌∙◌}
use Rattle.draw_device.proofs.CopiedRuns.{copied}
use Rattle.draw_device.proofs.active.ActivePixels.copy_run.Goals as goal

pub returns : goal.returns
returns c =
    let run = c.args.run in
    copied c.args.grid.now run _ c.requires.order c.requires.room refl
    (c.in_ok-copy_part.ensures ∙ ap (λ xs. take (run.to - run.from) (drop run.from xs)) c.as_slice.ensures.value)
    (c.in_ok-copy_part-2.ensures ∙ ap (λ xs. take (run.to - run.from) (drop run.from xs)) c.as_slice-2.ensures.value)

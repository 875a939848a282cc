use Rattle.std.proofs.Common.{◌≡◌, ◌+◌, ◌++◌, [], ◌∷◌, List, length, ◌∙◌, ap, sym, arith, length-append}
use Rattle.rc_base.specs.Drawing.Images.{image_from}
use Rattle.rc_base.specs.declared.image.Image.{Image}
use Rattle.serial_render.specs.Shown.{images_of}
use Rattle.serial_render.proofs.PixelIndex.{holds_shows}
use Rattle.stream_replay.proofs.ListsGoOn.{map_more}
use Rattle.serial_render.proofs.drawing.show_up_to.Goals as goal

pub loop-preserved : goal.loop-preserved
loop-preserved c =
    let d = c.args.decl.now in
    let n = c.loop.counter in
    let frames = c.loop.frames in
    let count : length c.push.new.self ≡ n + 1 = omega (arith, ap length c.in_ok-push.ensures.items, length-append frames (c.in_ok-image.image ∷ []), c.loop.invariant.count) in
    record {
      count = count;
      most = omega (arith, c.loop-test.true);
      images = λ pictures first due.
          let shows = holds_shows c.args.device.now c.colors.result.now d.width d.height (pictures (n + 1)) c.requires c.colors.ensures.each
          (due (n + 1) (omega (arith, c.loop.auto.counter, c.len-counter.ensures)) (omega (arith, c.loop-test.true))) in
          c.in_ok-push.ensures.items
          ∙ ap (λ (l : List Image). l ++ c.in_ok-image.image ∷ []) (c.loop.invariant.images pictures first due ∙ ap (images_of d pictures) c.loop.invariant.count)
          ∙ ap (λ (v : Image). images_of d pictures n ++ v ∷ []) (c.in_ok-image.ensures (pictures (n + 1)) shows)
          ∙ sym (map_more (λ k. image_from d (pictures k)) 1 n (n + 1) (omega arith))
          ∙ ap (images_of d pictures) (sym count);
    }

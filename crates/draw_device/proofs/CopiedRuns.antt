-- A part of a grid's pixels that was copied.
use Rattle.std.proofs.Common.{◌≡◌, ℕ, ◌+◌, ◌-◌, ◌<◌, ◌≤◌, List, length, take, drop, ap, sym, ◌∙◌, arith}
use Rattle.std.specs.Prelude.{slice_index_or}
use Rattle.std.proofs.lemmas.List.{get_or-take, get_or-drop, length-take-le, length-drop}
use Rattle.rc_base.specs.Colors.{rgba}
use Rattle.fragment_ops.specs.DepthTests.{pixel}
use Rattle.draw_device.specs.Active.{AreCopied}
use Rattle.draw_device.specs.declared.active.ActivePixels.{ActivePixels}
use Rattle.draw_device.specs.declared.grid.Grid.{Grid}
use Rattle.draw_device.specs.declared.pixel_run.PixelRun.{PixelRun}
use Rattle.draw_device.proofs.Lists.{pixel_in}

module _ {X : Type 0} (all part : List X) (from to : ℕ) (order : from ≤ to) (room : to ≤ length all) (is : part ≡ take (to - from) (drop from all)) where
  part_count : from + length part ≡ to
  part_count =
      let left = length-drop from all in
      let count = length-take-le (to - from) (drop from all) (omega (arith, left)) in
      omega (arith, ap length is, count)

  part_item : (start k : ℕ) (d : X) → start ≡ from → from ≤ k → k < to → slice_index_or part (k - start) d ≡ slice_index_or all k d
  part_item start k d e low high =
      let place : k - start ≡ k - from = omega (arith, e) in
      let back : from + (k - from) ≡ k = omega (arith, low) in
      ap (λ j. slice_index_or part j d) place
      ∙ ap (λ xs. slice_index_or xs (k - from) d) is
      ∙ get_or-take (to - from) (drop from all) (k - from) d (omega (arith, low, high))
      ∙ get_or-drop from all (k - from) d
      ∙ ap (λ j. slice_index_or all j d) back

pub copied : (g : Grid) (run : PixelRun) (a : ActivePixels) → run.from ≤ run.to → run.to ≤ length g.colors.items → a.from ≡ run.from
    → a.colors.items ≡ take (run.to - run.from) (drop run.from g.colors.items) → a.depths.items ≡ take (run.to - run.from) (drop run.from g.depths.items) → AreCopied g run a
copied g run a order room begins colors depths =
    let deep : run.to ≤ length g.depths.items = omega (arith, room, g.deep) in
    let wide = part_count g.colors.items a.colors.items run.from run.to order room colors in
    let tall = part_count g.depths.items a.depths.items run.from run.to order deep depths in
    record {
      fit = record { deep = omega (arith, wide, tall); room = omega (arith, wide, begins, room) };
      from_is = begins;
      to_is = omega (arith, wide, begins);
      each = λ k low high.
          (λ i. pixel (part_item g.colors.items a.colors.items run.from run.to order room colors a.from k (rgba 0 0 0 0) begins low high i)
          (part_item g.depths.items a.depths.items run.from run.to order deep depths a.from k 0 begins low high i))
          ∙ sym (pixel_in g.colors.items g.depths.items k g.deep);
    }

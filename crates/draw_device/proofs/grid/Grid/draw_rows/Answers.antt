use Rattle.std.proofs.Common.{◌≡◌, ◌∙◌, ℤ, arith, ap, refl, sym, subst}
use Rattle.std.proofs.lemmas.Int.{ints}
use Rattle.draw_device.specs.Pixels.{pixels_of}
use Rattle.draw_device.specs.Shapes.{covered_step, fragment_pixel, span_step, IsSpanIn, IsStepped, IsSteppedBelow}
use Rattle.draw_device.specs.declared.grid.Extent.{Extent}
use Rattle.draw_device.proofs.SpansToPixels.{stepped_none, stepped_more, stepped_all, triangle_row, below_part, rest_empty, span_in, span_covered}
use Rattle.draw_device.proofs.grid.Grid.draw_rows.Goals as goal

pub rows-init : goal.rows-init
rows-init c =
    let g = c.args.self.now.extent in
    let step = covered_step c.args.triangle.now.state.now c.args.triangle.now.texture.now c.args.triangle.now.tri.now.v in
    let same = c.into_iter-span-iterator.ensures.into_iter_gives in
    let row : c.into_iter-span-iterator.result.y ≡ c.args.rows.rect.y0 = ap (λ t. t.y) same ∙ c.requires.rows.first in
    record {
      triangle = ap (λ t. t.tri.now) same ∙ c.requires.rows.triangle;
      part = ap (λ t. t.rect) same;
      from = omega (arith, ints);
      extent = refl;
      drawn = subst (λ (y : ℤ). IsSteppedBelow step g (pixels_of c.args.self.now.colors.items c.args.self.now.depths.items) (pixels_of c.args.self.now.colors.items c.args.self.now.depths.items) y) (sym row)
          (stepped_none step g (pixels_of c.args.self.now.colors.items c.args.self.now.depths.items) c.args.rows.rect.y0
          (below_part c.args.triangle.now.state.now c.args.triangle.now.texture.now c.args.triangle.now.tri.now.v g c.args.rows.rect c.requires.part.within));
    }

pub draw_span-requires-clause-triangle : goal.draw_span-requires-clause-triangle
draw_span-requires-clause-triangle c =
    let t = c.requires.part.painted in
    record { grid = t.grid ∙ sym c.rows.invariant.extent; paint = t.paint }

pub draw_span-requires-clause-inside : goal.draw_span-requires-clause-inside
draw_span-requires-clause-inside c =
    let i = c.rows.invariant in
    let e = c.in-Some.ensures.steps in
    let n = rw (i.triangle, i.part) at e.0.0 in
    subst (λ (g : Extent). IsSpanIn g c.in-Some.span) (sym i.extent)
    (span_in c.args.triangle.now.tri.now.v c.args.self.now.extent c.args.rows.rect _ _ c.in-Some.span n i.from c.requires.part.within)

pub draw_span-requires-clause-covered : goal.draw_span-requires-clause-covered
draw_span-requires-clause-covered c =
    let i = c.rows.invariant in
    let e = c.in-Some.ensures.steps in
    let n = rw i.triangle at e.0.0 in
    span_covered _ _ _ _ n

pub rows-preserved : goal.rows-preserved
rows-preserved c =
    let i = c.rows.invariant in
    let e = c.in-Some.ensures.steps in
    let n = rw (i.triangle, i.part) at e.0.0 in
    let s = c.args.triangle.now.state.now in
    let p = c.args.triangle.now.texture.now in
    let v = c.args.triangle.now.tri.now.v in
    let g = c.args.self.now.extent in
    let from = n.from in
    let drawn = subst (λ (g : Extent). IsStepped (span_step (fragment_pixel s p v) c.in-Some.span) g (pixels_of c.rows.self.colors.items c.rows.self.depths.items) (pixels_of c.draw_span.new.self.colors.items c.draw_span.new.self.depths.items))
    i.extent c.draw_span.ensures.drawn in
    record {
      triangle = ap (λ t. t.now) e.1 ∙ i.triangle;
      part = e.2 ∙ i.part;
      from = omega (arith, ints, e.0.1);
      extent = c.draw_span.ensures.extent ∙ i.extent;
      drawn = stepped_more (covered_step s p v) (fragment_pixel s p v) g (pixels_of c.args.self.now.colors.items c.args.self.now.depths.items) (pixels_of c.rows.self.colors.items c.rows.self.depths.items) (pixels_of c.draw_span.new.self.colors.items c.draw_span.new.self.depths.items)
          _ _ c.in-Some.span i.drawn (triangle_row s p v g c.args.rows.rect c.requires.part.within _ c.in-Some.span n i.from) drawn e.0.1;
    }

pub returns : goal.returns
returns c =
    let i = c.rows.invariant in
    let e = c.in-None.ensures.steps in
    let n = rw (i.triangle, i.part) at e.0.0 in
    let s = c.args.triangle.now.state.now in
    let p = c.args.triangle.now.texture.now in
    let v = c.args.triangle.now.tri.now.v in
    let g = c.args.self.now.extent in
    record {
      extent = i.extent;
      drawn = stepped_all (covered_step s p v) g (pixels_of c.args.self.now.colors.items c.args.self.now.depths.items) (pixels_of c.rows.self.colors.items c.rows.self.depths.items) _ i.drawn
          (rest_empty s p v g c.args.rows.rect c.requires.part.within _ n);
    }

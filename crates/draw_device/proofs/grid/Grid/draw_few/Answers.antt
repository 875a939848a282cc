use Rattle.std.proofs.Common.{rules, ◌≡◌, ◌+◌, pos, arith, ap, refl, subst, ◌∙◌, to_z-of_z, FitsSigned, w32}
use Rattle.std.proofs.lemmas.Int.{ints, int_max_is}
use Rattle.raster.specs.Clips.{IsPartWhere, is_let_through}
use Rattle.draw_device.specs.Pixels.{pixels_of}
use Rattle.draw_device.specs.Shapes.{covered_step, grid_rect, grid_span, span_step, tried_pixel, IsStepped}
use Rattle.draw_device.specs.declared.grid.Extent.{Extent}
use Rattle.draw_device.proofs.SpansToPixels.{tried_below, tried_above, tried_row, stepped_none, stepped_more, stepped_all}
use Rattle.draw_device.proofs.grid.Grid.draw_few.Goals as goal

pub offset-from-requires-clause-low : goal.offset-from-requires-clause-low
offset-from-requires-clause-low c =
    let b = c.args.block.now in
    let g = c.args.self.now.extent in
    let h = c.requires.part in
    let p : IsPartWhere (grid_rect g) b.part (is_let_through b.state.now) = subst (λ (e : Extent). IsPartWhere (grid_rect e) b.part (is_let_through b.state.now)) c.requires.grid b.within in
    let left = h.cover.left in
    let bl = p.bounds.left in
    omega (arith, ints)

pub offset-from-requires-clause-high : goal.offset-from-requires-clause-high
offset-from-requires-clause-high c =
    let b = c.args.block.now in
    let g = c.args.self.now.extent in
    let h = c.requires.part in
    let p : IsPartWhere (grid_rect g) b.part (is_let_through b.state.now) = subst (λ (e : Extent). IsPartWhere (grid_rect e) b.part (is_let_through b.state.now)) c.requires.grid b.within in
    let right = h.cover.right in
    let columns = h.columns in
    let br = p.bounds.right in
    let gr = c.args.self.now.right in
    omega (arith, ints)

pub offset-to-requires-clause-low : goal.offset-to-requires-clause-low
offset-to-requires-clause-low c =
    let b = c.args.block.now in
    let g = c.args.self.now.extent in
    let h = c.requires.part in
    let p : IsPartWhere (grid_rect g) b.part (is_let_through b.state.now) = subst (λ (e : Extent). IsPartWhere (grid_rect e) b.part (is_let_through b.state.now)) c.requires.grid b.within in
    let left = h.cover.left in
    let columns = h.columns in
    let bl = p.bounds.left in
    omega (arith, ints)

pub offset-to-requires-clause-high : goal.offset-to-requires-clause-high
offset-to-requires-clause-high c =
    let b = c.args.block.now in
    let g = c.args.self.now.extent in
    let h = c.requires.part in
    let p : IsPartWhere (grid_rect g) b.part (is_let_through b.state.now) = subst (λ (e : Extent). IsPartWhere (grid_rect e) b.part (is_let_through b.state.now)) c.requires.grid b.within in
    let right = h.cover.right in
    let br = p.bounds.right in
    let gr = c.args.self.now.right in
    omega (arith, ints)

pub offset-first-requires-clause-low : goal.offset-first-requires-clause-low
offset-first-requires-clause-low c =
    let b = c.args.block.now in
    let g = c.args.self.now.extent in
    let few = c.args.part in
    let p : IsPartWhere (grid_rect g) b.part (is_let_through b.state.now) = subst (λ (e : Extent). IsPartWhere (grid_rect e) b.part (is_let_through b.state.now)) c.requires.grid b.within in
    let f0 : FitsSigned w32 few.y0 = search rules in
    let f1 : FitsSigned w32 b.part.y0 = search rules in
    let most = simp (to_z-of_z f0, to_z-of_z f1) at c.max-low.ensures.value in
    let is = int_max_is few.y0 b.part.y0 in
    let bb = p.bounds.bottom in
    omega (arith, ints, most, is)

pub offset-first-requires-clause-high : goal.offset-first-requires-clause-high
offset-first-requires-clause-high c =
    let b = c.args.block.now in
    let g = c.args.self.now.extent in
    let few = c.args.part in
    let h = c.requires.part in
    let p : IsPartWhere (grid_rect g) b.part (is_let_through b.state.now) = subst (λ (e : Extent). IsPartWhere (grid_rect e) b.part (is_let_through b.state.now)) c.requires.grid b.within in
    let f0 : FitsSigned w32 few.y0 = search rules in
    let f1 : FitsSigned w32 b.part.y0 = search rules in
    let most = simp (to_z-of_z f0, to_z-of_z f1) at c.max-low.ensures.value in
    let is = int_max_is few.y0 b.part.y0 in
    let top = h.cover.top in
    let rows = h.rows in
    let above = h.above in
    let bt = p.bounds.top in
    let gt = c.args.self.now.top in
    omega (arith, ints, most, is)

pub offset-last-requires-clause-low : goal.offset-last-requires-clause-low
offset-last-requires-clause-low c =
    let b = c.args.block.now in
    let g = c.args.self.now.extent in
    let h = c.requires.part in
    let p : IsPartWhere (grid_rect g) b.part (is_let_through b.state.now) = subst (λ (e : Extent). IsPartWhere (grid_rect e) b.part (is_let_through b.state.now)) c.requires.grid b.within in
    let above = h.above in
    let bb = p.bounds.bottom in
    omega (arith, ints)

pub offset-last-requires-clause-high : goal.offset-last-requires-clause-high
offset-last-requires-clause-high c =
    let b = c.args.block.now in
    let g = c.args.self.now.extent in
    let h = c.requires.part in
    let p : IsPartWhere (grid_rect g) b.part (is_let_through b.state.now) = subst (λ (e : Extent). IsPartWhere (grid_rect e) b.part (is_let_through b.state.now)) c.requires.grid b.within in
    let top = h.cover.top in
    let bt = p.bounds.top in
    let gt = c.args.self.now.top in
    omega (arith, ints)

pub loop-up-init : goal.loop-up-init
loop-up-init c =
    let b = c.args.block.now in
    let g = c.args.self.now.extent in
    let few = c.args.part in
    let h = c.requires.part in
    let p : IsPartWhere (grid_rect g) b.part (is_let_through b.state.now) = subst (λ (e : Extent). IsPartWhere (grid_rect e) b.part (is_let_through b.state.now)) c.requires.grid b.within in
    let f0 : FitsSigned w32 few.y0 = search rules in
    let f1 : FitsSigned w32 b.part.y0 = search rules in
    let most = simp (to_z-of_z f0, to_z-of_z f1) at c.max-low.ensures.value in
    let is = int_max_is few.y0 b.part.y0 in
    record {
      extent = refl;
      drawn = stepped_none (covered_step b.state.now b.texture.now c.args.tri.now.v) g (pixels_of c.args.self.now.colors.items c.args.self.now.depths.items) _
          (λ i j hi hj l o. tried_below b.state.now b.texture.now c.args.tri.now.v g b.part p few h.cover i j hi hj (omega (arith, ints, most, is)) o);
    }

pub try_row-requires-clause-low : goal.try_row-requires-clause-low
try_row-requires-clause-low c =
    let b = c.args.block.now in
    let g = c.args.self.now.extent in
    let h = c.requires.part in
    let p : IsPartWhere (grid_rect g) b.part (is_let_through b.state.now) = subst (λ (e : Extent). IsPartWhere (grid_rect e) b.part (is_let_through b.state.now)) c.requires.grid b.within in
    let top = h.cover.top in
    let bt = p.bounds.top in
    let tall : c.loop-up.self.extent.height ≡ g.height = ap (λ (e : Extent). e.height) c.loop-up.invariant.extent in
    omega (arith, ints, tall)

pub try_row-requires-clause-order : goal.try_row-requires-clause-order
try_row-requires-clause-order c =
    let h = c.requires.part in
    let columns = h.columns in
    omega (arith, ints)

pub try_row-requires-clause-wide : goal.try_row-requires-clause-wide
try_row-requires-clause-wide c =
    let b = c.args.block.now in
    let g = c.args.self.now.extent in
    let h = c.requires.part in
    let p : IsPartWhere (grid_rect g) b.part (is_let_through b.state.now) = subst (λ (e : Extent). IsPartWhere (grid_rect e) b.part (is_let_through b.state.now)) c.requires.grid b.within in
    let right = h.cover.right in
    let br = p.bounds.right in
    let wide : c.loop-up.self.extent.width ≡ g.width = ap (λ (e : Extent). e.width) c.loop-up.invariant.extent in
    omega (arith, ints, wide)

pub loop-up-preserved : goal.loop-up-preserved
loop-up-preserved c =
    let b = c.args.block.now in
    let g = c.args.self.now.extent in
    let few = c.args.part in
    let h = c.requires.part in
    let p : IsPartWhere (grid_rect g) b.part (is_let_through b.state.now) = subst (λ (e : Extent). IsPartWhere (grid_rect e) b.part (is_let_through b.state.now)) c.requires.grid b.within in
    let f0 : FitsSigned w32 few.y0 = search rules in
    let f1 : FitsSigned w32 b.part.y0 = search rules in
    let most = simp (to_z-of_z f0, to_z-of_z f1) at c.max-low.ensures.value in
    let is = int_max_is few.y0 b.part.y0 in
    let top = h.cover.top in
    let s = b.state.now in
    let q = b.texture.now in
    let v = c.args.tri.now.v in
    let r = c.loop-up.up in
    let i = c.loop-up.invariant in
    let f = tried_pixel s q v in
    let from = c.offset-from.result in
    let to = c.offset-to.result in
    let span = grid_span g r from to in
    let drawn = subst (λ (e : Extent). IsStepped (span_step f (grid_span e r from to)) e (pixels_of c.loop-up.self.colors.items c.loop-up.self.depths.items) (pixels_of c.try_row.new.self.colors.items c.try_row.new.self.depths.items))
    i.extent c.try_row.ensures.drawn in
    record {
      extent = c.try_row.ensures.extent ∙ i.extent;
      drawn = stepped_more (covered_step s q v) f g _ _ _ (pos (g.bottom + r)) _ span i.drawn
          (tried_row s q v g b.part p few span h.cover (omega (arith, ints)) (omega (arith, ints)) (omega (arith, ints, most, is)) (omega (arith, ints)))
          drawn (omega (arith, ints));
    }

pub returns : goal.returns
returns c =
    let b = c.args.block.now in
    let g = c.args.self.now.extent in
    let few = c.args.part in
    let h = c.requires.part in
    let p : IsPartWhere (grid_rect g) b.part (is_let_through b.state.now) = subst (λ (e : Extent). IsPartWhere (grid_rect e) b.part (is_let_through b.state.now)) c.requires.grid b.within in
    let f0 : FitsSigned w32 few.y0 = search rules in
    let f1 : FitsSigned w32 b.part.y0 = search rules in
    let most = simp (to_z-of_z f0, to_z-of_z f1) at c.max-low.ensures.value in
    let is = int_max_is few.y0 b.part.y0 in
    let rows = h.rows in
    let above = h.above in
    let i = c.loop-up.invariant in
    record {
      extent = i.extent;
      drawn = stepped_all (covered_step b.state.now b.texture.now c.args.tri.now.v) g (pixels_of c.args.self.now.colors.items c.args.self.now.depths.items) (pixels_of c.loop-up.self.colors.items c.loop-up.self.depths.items) _ i.drawn
          (λ k j hi hj l o. tried_above b.state.now b.texture.now c.args.tri.now.v g b.part p few h.cover k j hi hj (omega (arith, ints, most, is)) o);
    }

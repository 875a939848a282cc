-- A block's triangles one after the other.
use Rattle.std.proofs.Common.{◌≡◌, ℕ, ◌+◌, ◌*◌, Some, refl, ◌∙◌, List, [], ◌∷◌, ◌++◌, sym, ap}
use Rattle.std.specs.Prelude.{fold}
use Rattle.std.specs.List.{flat_map}
use Rattle.std.specs.declared.option.Option.{Option}
use Rattle.std.proofs.lemmas.List.Sums.{fold-append}
use Rattle.rc_base.specs.Pictures.{Picture}
use Rattle.rc_base.specs.Drawing.Kept.{kept_whole}
use Rattle.rc_base.specs.declared.state.Block.{Block}
use Rattle.rc_base.specs.declared.state.Effect.TheVariants as eff
use Rattle.rc_base.specs.declared.state.State.{State}
use Rattle.rc_base.specs.declared.state.Vertex.{Vertex}
use Rattle.rc_base.specs.declared.window.Pixel.{Pixel}
use Rattle.rc_base.specs.declared.window.WindowVertex.{WindowVertex}
use Rattle.rc_base.specs.Drawing.Pieces.{kept_triangles}
use Rattle.textures.specs.Images.{texture_image}
use Rattle.rc_base.specs.Drawing.PixelStep.{triangle_step, effect_step, block_step}
use Rattle.draw_device.specs.Pixels.{pixel_at}
use Rattle.draw_device.specs.Conditions.{sampled_of, shared_of}
use Rattle.draw_device.specs.Shapes.{column_at, row_at, covered_step, corners_step, triangles_step, IsStepped}
use Rattle.draw_device.specs.declared.grid.Extent.{Extent}

-- the kept triangles of one more triple of vertices are drawn
pub draws_more : (f : Pixel → List WindowVertex → Pixel) (kept : List ℕ → List (List WindowVertex)) (now new start : Pixel) (t : List ℕ) (rest more all : List (List ℕ))
    → rest ≡ t ∷ more → new ≡ fold f now (kept t) → fold f now (flat_map kept rest) ≡ fold f start (flat_map kept all) → fold f new (flat_map kept more) ≡ fold f start (flat_map kept all)
draws_more f kept now new start t rest more all e step before =
    ap (λ (o : Pixel). fold f o (flat_map kept more)) step ∙ sym (fold-append f now (kept t) (flat_map kept more))
    ∙ sym (ap (λ (l : List (List ℕ)). fold f now (flat_map kept l)) e) ∙ before

-- no triple of vertices is left
pub draws_done : (f : Pixel → List WindowVertex → Pixel) (kept : List ℕ → List (List WindowVertex)) (now start : Pixel) (rest all : List (List ℕ))
    → rest ≡ [] → fold f now (flat_map kept rest) ≡ fold f start (flat_map kept all) → now ≡ fold f start (flat_map kept all)
draws_done f kept now start rest all e h = sym (ap (λ (l : List (List ℕ)). fold f now (flat_map kept l)) e) ∙ h

-- all kept triangles of a block, with the picture that the state samples, are the step of the block
pub block_steps : (s : State) (privates shareds : List (Option Picture)) (picture : Option Picture) (block : Block) (g : Extent) (old new : List Pixel)
    → picture ≡ sampled_of s privates shareds → IsStepped (triangles_step s picture (kept_triangles s block)) g old new
    → IsStepped (effect_step s (texture_image privates) (shared_of shareds) (eff.Block block)) g old new
unfolding block_step
block_steps s privates shareds picture block g old new e d = record {
  each = λ i j hi hj. d.each i j hi hj
      ∙ ap (λ (p : Option Picture). triangles_step s p (kept_triangles s block) (column_at g i) (row_at g j) (pixel_at old (j * g.width + i))) e;
}

-- three vertices whose triangle is kept take its step
pub kept_steps : (s : State) (picture : Option Picture) (v : List WindowVertex) (vs : List Vertex) (t : List ℕ) (g : Extent) (old new : List Pixel)
    → kept_whole s vs t ≡ Some v → IsStepped (covered_step s picture v) g old new → IsStepped (corners_step s picture vs t) g old new
unfolding covered_step
kept_steps s picture v vs t g old new e d = record { each = λ i j hi hj. d.each i j hi hj ∙ sym (rw e refl) }

-- one triangle
pub one_step : (s : State) (picture : Option Picture) (v : List WindowVertex) (g : Extent) (old new : List Pixel)
    → IsStepped (covered_step s picture v) g old new → IsStepped (triangles_step s picture (v ∷ [])) g old new
unfolding covered_step
one_step s picture v g old new d = record { each = d.each }

-- no triangle
pub no_step : (s : State) (picture : Option Picture) (g : Extent) (old : List Pixel) → IsStepped (triangles_step s picture []) g old old
no_step s picture g old = record { each = λ i j hi hj. refl }

-- some triangles and then others
pub both_steps : (s : State) (picture : Option Picture) (us ws : List (List WindowVertex)) (g : Extent) (old mid new : List Pixel)
    → IsStepped (triangles_step s picture us) g old mid → IsStepped (triangles_step s picture ws) g mid new → IsStepped (triangles_step s picture (us ++ ws)) g old new
both_steps s picture us ws g old mid new d e = record {
  each = λ i j hi hj. e.each i j hi hj
      ∙ ap (λ (o : Pixel). fold (triangle_step s picture (column_at g i) (row_at g j)) o ws) (d.each i j hi hj)
      ∙ sym (fold-append (triangle_step s picture (column_at g i) (row_at g j)) (pixel_at old (j * g.width + i)) us ws);
}

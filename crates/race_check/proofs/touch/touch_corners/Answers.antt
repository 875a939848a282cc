use Rattle.std.proofs.Common.{◌≡◌, ◌++◌, ◌∙◌, ℕ, length, List, Some, None, Option, slice_index, ap, sym, subst, rules}
use Rattle.std.specs.Prelude.{option_to_list, MatchOption}
use Rattle.rc_base.specs.Drawing.Kept.{kept_whole, vertex_at}
use Rattle.rc_base.specs.Drawing.Pieces.{kept_corners_of, kept_pieces}
use Rattle.rc_base.specs.declared.state.Vertex.{Vertex}
use Rattle.rc_base.specs.declared.triangle.WindowTriangle.{WindowTriangle}
use Rattle.rc_base.specs.declared.window.WindowVertex.{WindowVertex}
use Rattle.geometry.specs.Beside.{IsBesideIfKept}
use Rattle.geometry.specs.Pieces.{found}
use Rattle.geometry.specs.Placed.{AllStandInFront}
use Rattle.geometry.specs.declared.near.Surrounds.{Surrounds}
use Rattle.geometry.proofs.PiecesKept.{front_kept}
use Rattle.rc_base.specs.declared.state.State.{State}
use Rattle.rc_base.specs.declared.state.Block.{Block}
use Rattle.rc_base.specs.declared.window.Rect.{Rect}
use Rattle.raster.specs.Between.{CoverLiesInBounds}
use Rattle.geometry.specs.Beside.{AreSurrounds}
use Rattle.geometry.specs.Items.{AreBelow}
use Rattle.race_check.specs.Touches.{triangles_have}
use Rattle.race_check.proofs.TouchesInTurn.{touch_as, touch_then}
use Rattle.race_check.proofs.TrianglesBeside.{beside_has, have_then}
use Rattle.race_check.proofs.touch.touch_corners.Goals as goal

-- a triangle that isn't cut, where the cache tells it
whole_has : CoverLiesInBounds → (s : State) (block : Block) (t : List ℕ) (part : Rect) (near : Surrounds) (r : Option WindowTriangle) → AreSurrounds part near → AllStandInFront s block.vertices t
    → MatchOption r (IsBesideIfKept s block.vertices t near) (λ tri. kept_whole s block.vertices t ≡ Some tri.v)
    → (x y : ℕ) → triangles_have (kept_corners_of s block t) part x y ≡ triangles_have (found r) part x y
whole_has bounds s block t part near r n front h x y =
    ap (λ us. triangles_have us part x y)
    (front_kept s block.mode (vertex_at block.vertices (slice_index t 0)) (vertex_at block.vertices (slice_index t 1)) (vertex_at block.vertices (slice_index t 2)) front.0 front.1 front.2)
    ∙ by r h
  where
    by : (r : Option WindowTriangle) → MatchOption r (IsBesideIfKept s block.vertices t near) (λ tri. kept_whole s block.vertices t ≡ Some tri.v)
        → triangles_have (option_to_list (kept_whole s block.vertices t)) part x y ≡ triangles_have (found r) part x y
    by (Some tri) e = ap (λ o. triangles_have (option_to_list o) part x y) e
    by None e = beside_has bounds s block.vertices t part near n e x y

-- the pieces of three vertices that were looked up
pieces_kept : (s now : State) (block : Block) (t : List ℕ) (given vs : List Vertex) (kept : List (List WindowVertex)) → now ≡ s → vs ≡ block.vertices → vertex_at given 0 ≡ vertex_at vs (slice_index t 0)
    → vertex_at given 1 ≡ vertex_at vs (slice_index t 1) → vertex_at given 2 ≡ vertex_at vs (slice_index t 2)
    → kept_pieces now block.mode (vertex_at given 0) (vertex_at given 1) (vertex_at given 2) ≡ kept → kept_corners_of s block t ≡ kept
pieces_kept s now block t given vs kept es ev a b c h =
    ap (λ (us : List Vertex). kept_pieces s block.mode (vertex_at us (slice_index t 0)) (vertex_at us (slice_index t 1)) (vertex_at us (slice_index t 2))) (sym ev)
    ∙ ap (λ (u : Vertex). kept_pieces s block.mode u (vertex_at vs (slice_index t 1)) (vertex_at vs (slice_index t 2))) (sym a)
    ∙ ap (λ (u : Vertex). kept_pieces s block.mode (vertex_at given 0) u (vertex_at vs (slice_index t 2))) (sym b)
    ∙ ap (λ (u : Vertex). kept_pieces s block.mode (vertex_at given 0) (vertex_at given 1) u) (sym c)
    ∙ ap (λ (q : State). kept_pieces q block.mode (vertex_at given 0) (vertex_at given 1) (vertex_at given 2)) (sym es) ∙ h

pub returns-in-No-clause-touches : goal.returns-in-No-clause-touches
returns-in-No-clause-touches c = record {
  size = search rules;
  touched =
      let s = c.args.cache.now.state.now in
      let block = c.args.block.now in
      let t = c.args.corners in
      let part = c.args.part in
      let g = c.pieces-given.result in
      let e = c.vertices_at-vertices.ensures in
      let kept = pieces_kept s c.uncut_near.new.self.state.now block t c.vertices_at-vertices.result c.as_slice.result.now (found g.first ++ found g.second) c.uncut_near.ensures.cache.state c.as_slice.ensures
      e.first e.second e.third c.pieces-given.ensures.all in
      touch_then (triangles_have (found g.first) part) (triangles_have (found g.second) part) (triangles_have (kept_corners_of s block t) part) c.args.visit.now c.args.pixels.now.cells.items
      c.touch_found-first.new.pixels.cells.items c.touch_found-in-No.new.pixels.cells.items c.args.seen c.touch_found-first.result c.touch_found-in-No.result c.touch_found-first.ensures.touched
      c.touch_found-in-No.ensures.touched (λ x y lx ly. ap (λ us. triangles_have us part x y) kept ∙ have_then (found g.first) (found g.second) part x y);
}

pub vertices_at-vertices-requires : goal.vertices_at-vertices-requires
vertices_at-vertices-requires c = subst (λ (vs : List Vertex). AreBelow (length vs) c.args.corners) (sym c.as_slice.ensures) c.requires.corners

pub uncut_near-requires-clause-corners : goal.uncut_near-requires-clause-corners
uncut_near-requires-clause-corners c = subst (λ (vs : List Vertex). AreBelow (length vs) c.args.corners) (sym c.requires.vertices) c.requires.corners

pub returns-in-Whole-clause-touches : goal.returns-in-Whole-clause-touches
returns-in-Whole-clause-touches c = record {
  size = search rules;
  touched =
      let s = c.args.cache.now.state.now in
      let block = c.args.block.now in
      let t = c.args.corners in
      let tri = c.in-Whole.ensures.triangle in
      let front = subst (λ (vs : List Vertex). AllStandInFront s vs t) c.requires.vertices tri.0 in
      let whole = subst (λ (vs : List Vertex). MatchOption c.in-Whole.tri (IsBesideIfKept s vs t c.args.near.now) (λ tri. kept_whole s vs t ≡ Some tri.v)) c.requires.vertices tri.1 in
      touch_as (triangles_have (found c.in-Whole.tri) c.args.part) (triangles_have (kept_corners_of s block t) c.args.part) c.args.visit.now c.args.pixels.now.cells.items
      c.touch_found.new.pixels.cells.items c.args.seen c.touch_found.result c.touch_found.ensures.touched
      (λ x y lx ly. whole_has c.cover_lies_in_bounds.ensures s block t c.args.part c.args.near.now c.in-Whole.tri c.requires.near front whole x y);
}

pub touch_found-requires-in-No : goal.touch_found-requires-in-No
touch_found-requires-in-No c =
    let v = c.requires.part.visit in
    record {
      visit = record { client = v.client; place = v.place; size = c.touch_found-first.ensures.size ∙ v.size };
      part = c.requires.part.part;
    }
